use Rattle.std.proofs.Common.{◌≡◌, ◌+◌, ◌++◌, ◌∙◌, suc, Bool, false, ap, arith, take, drop, map, slice_set}
use Rattle.tez_core.proofs.Firsts.{cleared_more}
use Rattle.tez_core.proofs.flags.clear_all.Goals as goal

pub loop-flag-preserved : goal.loop-flag-preserved
loop-flag-preserved c =
    let i = c.loop-flag.flag-index in
    let old = c.args.flags.now in
    let next : suc i ≡ i + 1 = omega arith in
    ap (λ xs. slice_set xs i false) c.loop-flag.invariant ∙ cleared_more old i c.loop-flag-test.true ∙ ap (λ n. map (λ (b : Bool). false) (take n old) ++ drop n old) next
