-- `lines::split::query_field` meets its contract: one tag, or else the other. Assumes nothing.
use Rattle.std.proofs.Common.{rules, ◌≡◌, sym, ◌∙◌}
use Rattle.std.specs.Option.{option_or}
use Rattle.wire.specs.Field.{field_at}
use Rattle.lines.proofs.Splits.{field-either}
use Rattle.lines.proofs.split.query_field.Goals as goal

pub returns : goal.returns
returns c =
    let s = c.args.s.now in
    let at = c.args.at in
    let e : c.or_else.result ≡ option_or (field_at 0x20 s at) (field_at 0x21 s at) = search rules in
    e ∙ sym (field-either s at)
