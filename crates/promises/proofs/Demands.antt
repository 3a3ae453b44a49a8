-- The three demands hold. Assumes nothing.
use Prim.Native.Nat.{ℕ}
use mathlib.Core.Path.{◌≡◌, refl, ap, ◌∙◌}
use mathlib.Core.List.{List, [], ◌∷◌, map}
use Rattle.model.specs.Outcome.{Outcome, refused}
use Rattle.model.specs.Post.{docs}
use Rattle.model.specs.Runs.{All, has}
use Rattle.list.specs.Answer.{after}
use Rattle.list.specs.Read.{docids_of, scores_of, read_list}
use Rattle.list.specs.Write.{write_list}
use Rattle.list.proofs.ReadsBack.{written_reads_back}
use Rattle.change.specs.Bytes.{edited}
use Rattle.rank.specs.Rank.{Hit}
use Rattle.rank.specs.Match.{Term, score_of, any_list, matches, hit_at}
use Rattle.rank.proofs.Matches.{any_matches}
use Rattle.exhaustive.specs.Lists.{term_on}
use Rattle.convert.specs.Convert.{converted}
use Rattle.promises.specs.Demands.{Demand1, Demand2, Demand3}
use Rattle.promises.proofs.Refusals.{exactly-first, none-exactly, query_refuses, check_refuses, show_refuses, block_refuses, shows_the_block, read_refuses, write_refuses, edit_refuses, convert_refuses, rank_refuses, search_refuses}
use Rattle.promises.proofs.Programs.{program_refuses, program_answers, checker_refuses, checker_accepts}
use Rattle.promises.proofs.Stops.{untouched, stopped-book, ended-book, book-past}
use Rattle.promises.proofs.Rows.{rank-leaves, search-leaves, rank-fills, search-fills}
use Rattle.promises.proofs.Ranks.{ranking-best}
use Rattle.promises.proofs.Ranking.{ranks-all, gets_the_ranking, lists-once}
use Rattle.promises.proofs.RoundTrips.{read-and-written}
use Rattle.promises.proofs.Book.{room_enough, booked, cut_by}
use Rattle.promises.proofs.Edits.{any_edits, adds-up, one-edit, one_conversion, ranks_what_was_set, books_what_was_set}
use Rattle.promises.proofs.Alike.{answers-alike}
use Rattle.promises.proofs.Raised.{raised_is-shown}

-- what a refusal leaves of a lent run
kept : (o : Outcome (List ℕ)) (run : List ℕ) (n at : ℕ) → o ≡ refused n at → after o run ≡ run
kept o run n at e = rw e

pub demand_1 : Demand1
demand_1 = record {
  query = query_refuses;
  check = check_refuses;
  show = show_refuses;
  show-block = block_refuses;
  shown = shows_the_block;
  read = read_refuses;
  write = write_refuses;
  edit = edit_refuses;
  convert = convert_refuses;
  rank = rank_refuses;
  search = search_refuses;
  program_refuses = program_refuses;
  program_answers = program_answers;
  checker_refuses = checker_refuses;
  checker_accepts = checker_accepts;
  exactly = exactly-first;
  never-without = none-exactly;
  read_keeps = λ t s ds ss n at e. (kept (docids_of (read_list t s _ _)) ds n at (rw e), kept (scores_of (read_list t s _ _)) ss n at (rw e));
  write_keeps = λ strip t ds ss out n at e. kept (write_list strip t ds ss _) out n at e;
  edit-keeps = λ x s out n at e. kept (edited x s _) out n at e;
  convert-keeps = λ t s out n at e. kept (converted t s _) out n at e;
  search-keeps = untouched;
  rank-keeps = rank-leaves;
  search-rows = search-leaves;
  rank-fills = rank-fills;
  search-fills = search-fills;
  book-past = book-past;
  search_stops = stopped-book;
  search-ends = ended-book;
}

docs-hits : (ts : List Term) (ds : List ℕ) → docs (map (hit_at ts) ds) ≡ ds
docs-hits ts [] = refl
docs-hits ts (d ∷ ds) = ap {B = List ℕ} (λ t. d ∷ t) (docs-hits ts ds)

scored-hits : (ts : List Term) (ds : List ℕ) → All (λ (h : Hit). h.score ≡ score_of ts h.doc) (map (hit_at ts) ds)
scored-hits ts [] = tt
scored-hits ts (d ∷ ds) = (refl, scored-hits ts ds)

pub demand_2 : Demand2
demand_2 = record {
  prunes = gets_the_ranking;
  ranks = ranks-all;
  room = room_enough;
  matching = λ x ls d. ap (has d) (docs-hits (map (term_on ls) x.terms) (matches any_list (map (term_on ls) x.terms))) ∙ any_matches (map (term_on ls) x.terms) d;
  scoring = λ x ls. scored-hits (map (term_on ls) x.terms) (matches any_list (map (term_on ls) x.terms));
  once = lists-once;
  best = ranking-best;
  reads_back = written_reads_back;
  writes_back = read-and-written;
}

pub demand_3 : Demand3
demand_3 = record {
  history = any_edits;
  adds-up = adds-up;
  books = books_what_was_set;
  answers = ranks_what_was_set;
  books_any = λ q s x ls a rows fs cs ms r. (booked q s x ls a rows fs cs ms r, cut_by q s x ls a rows fs cs ms r);
  changes = one-edit;
  converts = one_conversion;
  alike = answers-alike;
  shows = raised_is-shown;
}
