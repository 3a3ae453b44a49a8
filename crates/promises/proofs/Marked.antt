-- M1 to M10, "one table proved by one statement about the definitions". Assumes nothing.
use mathlib.Core.Path.{◌≡◌, refl}
use mathlib.Core.List.{map}
use Rattle.wire.specs.Number.{num, be}
use Rattle.wire.specs.Field.{field_len, whole, field_value, field_bytes}
use Rattle.wire.specs.Gap.{more, gap, gap_in, score}
use Rattle.block.specs.Summary.{is_sum, sum_of, right_sum, sum_bytes}
use Rattle.block.specs.Body.{is_strip, edge, gapped, posting, posts, body_posts, right_body, read_to, body_run, later_bytes, front_bytes, back_bytes, body_bytes}
use Rattle.shelf.specs.Walk.{head_term, head_count, right_head, one_sum, sums, one_body, bodies_of, bodies, blocks_of, list, lists, walk}
use Rattle.shelf.specs.Check.{checked}
use Rattle.list.specs.Write.{packed, sums_bytes, bodies_bytes, blocks_bytes, list_bytes}
use Rattle.change.specs.Bytes.{changed, there, within, settled, edited}
use Rattle.query.specs.Query.{is_field, terms_in, term_count, field_count, judge, asked}
use Rattle.rank.specs.Rank.{ahead, beats}
use Rattle.prune.specs.Search.{opens}
use Rattle.pruned.specs.Pruned.{searched}
use Rattle.lines.specs.Split.{of_query, size_in, query_size}
use Rattle.lines.specs.Text.{digits, decimal, numbers, line, hit_lines, interval_lines}
use Rattle.report.specs.Report.{search_shown, reported}
use Rattle.promises.specs.Marked.{Row, table}

pub marked : map (λ (r : Row). r.does) table ≡ map (λ (r : Row). r.says) table
unfolding searched reported search_shown asked judge field_count term_count terms_in is_field whole field_len field_value field_bytes num be checked walk lists list head_term head_count right_head one_sum sums one_body bodies_of bodies blocks_of is_sum sum_of right_sum is_strip edge gapped posting posts body_posts right_body read_to body_run more gap score ahead beats opens edited settled within there changed list_bytes blocks_bytes packed sums_bytes bodies_bytes sum_bytes body_bytes front_bytes back_bytes later_bytes gap_in query_size size_in of_query digits decimal numbers line hit_lines interval_lines
marked = refl
