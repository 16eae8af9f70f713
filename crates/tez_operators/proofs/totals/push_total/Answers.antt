use Rattle.std.proofs.Common.{◌≡◌, ◌∙◌, sym, subst, ap}
use Rattle.std.specs.Fmt.{signed_decimal}
use Rattle.std.proofs.lemmas.Int.{to_z-of_z}
use mir.Syntax.{w128}
use Rattle.tez_record.specs.Line.{IsRecord}
use Rattle.tez_operators.proofs.RowLemmas.{signed_is_record}
use Rattle.tez_operators.proofs.totals.push_total.Goals as goal

pub push_joined-requires-clause-right : goal.push_joined-requires-clause-right
push_joined-requires-clause-right c =
    let is : c.as_bytes.result.now ≡ signed_decimal c.args.total = c.as_bytes.ensures.value ∙ c.in_ok-text.ensures.ok ∙ ap signed_decimal (to_z-of_z w128 c.args.total c.ranges.total) in
    subst IsRecord (sym is) (signed_is_record c.args.total c.ranges.total)
