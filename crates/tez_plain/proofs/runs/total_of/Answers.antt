use Rattle.std.proofs.Common.{◌≡◌, ◌∙◌, ◌<◌, ◌^◌, ◌+◌, ◌*◌, ◌+ℤ◌, length, sym, subst, arith, rules}
use Rattle.std.proofs.lemmas.Int.{to_z-of_z}
use mir.Val.{SFits, to_z, of_z}
use mir.Syntax.{w64, w128}
use Rattle.tez_plain.proofs.NumberLemmas.{IsWithin, add_within, sum_fits}
use Rattle.tez_plain.proofs.RowLemmas.{summed}
use Rattle.tez_plain.proofs.runs.total_of.Goals as goal

pub loop-entry-preserved : goal.loop-entry-preserved
loop-entry-preserved c =
    let n = c.amount_of.result in
    let i = c.loop-entry.entry-index in
    let was = to_z w128 c.loop-entry.total-bits in
    let fits : SFits w64 n = search rules in
    let wide : to_z w128 (of_z w128 c.from-total.result) ≡ n = to_z-of_z w128 c.from-total.result record { sfits = c.from-total.type_inv } ∙ c.from-total.ensures ∙ to_z-of_z w64 n fits in
    let few : length c.args.run.now < 2 ^ 64 = search rules in
    let sum : to_z w128 (of_z w128 (was +ℤ to_z w128 (of_z w128 c.from-total.result))) ≡ was +ℤ n =
    (λ j. to_z w128 (of_z w128 (was +ℤ wide j))) ∙ to_z-of_z w128 (was +ℤ n) (sum_fits i was n (omega (arith, c.loop-entry-test.true, few)) c.loop-entry.invariant.small fits) in
    record {
      made = summed c.args.value c.args.run.now i c.entry-item.result was _ n c.loop-entry-test.true c.entry-item.is c.loop-entry.invariant.made c.amount_of.ensures sum;
      small = subst (IsWithin (2 ^ 63 * (i + 1))) (sym sum) (add_within i was n c.loop-entry.invariant.small fits);
    }
