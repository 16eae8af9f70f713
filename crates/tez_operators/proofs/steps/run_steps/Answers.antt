use Rattle.std.proofs.Common.{◌∙◌, ap, sym, subst, take, drop, length, length-drop, arith}
use Rattle.std.proofs.lemmas.List.{take_rest}
use Rattle.tez_plan.specs.declared.parts.Step.{Step}
use Rattle.tez_values.specs.Steps.{run, bad_in_steps}
use Rattle.tez_values.specs.Program.{least_of}
use Rattle.tez_operators.specs.Process.{IsBadAnswer}
use Rattle.tez_operators.proofs.FuseLemmas.{pass_run, pass_good, pass_fault}
use Rattle.tez_operators.proofs.steps.run_steps.Goals as goal

pub returns-in-Err-clause-bad : goal.returns-in-Err-clause-bad
returns-in-Err-clause-bad c =
    let steps = c.args.steps.now in
    let done = c.loop-done.done in
    let n = c.pass_len-count.result in
    pass_fault steps c.args.rows done n c.loop-done.made c.in-Err.fault (subst (λ xs. IsBadAnswer c.in-Err.fault (least_of (bad_in_steps (take n xs) c.loop-done.made))) (take_rest steps done) c.in-Err.ensures.bad) c.loop-done.invariant.bad

pub loop-done-preserved : goal.loop-done-preserved
loop-done-preserved c =
    let steps = c.args.steps.now in
    let done = c.loop-done.done in
    let n = c.pass_len-count.result in
    let made = c.loop-done.made in
    let cut = take_rest steps done in
    let now = c.in-Ok.ensures.rows ∙ ap (λ (xs : _). run (take n xs) made) cut in
    record {
      few = omega (arith, c.pass_len-count.ensures.few, ap length cut, length-drop done steps, c.loop-done.invariant.few);
      made = pass_run steps c.args.rows done n made c.in-Ok.next now c.loop-done.invariant.made;
      bad = pass_good steps c.args.rows done n made c.in-Ok.next now (ap (λ (xs : _). least_of (bad_in_steps (take n xs) made)) (sym cut) ∙ c.in-Ok.ensures.no_bad) c.loop-done.invariant.bad;
    }
