use Rattle.std.proofs.Common.{◌≡◌, ◌∙◌, ℕ, sym, subst}
use Rattle.tez_plan.specs.Faults.{IsFirstFault, IsNowhere, duplicate_edge}
use Rattle.tez_plan.specs.Graph.{ends_again}
use Rattle.tez_plan.proofs.CheckLemmas.{pairs_pass, pairs_fault}
use Rattle.tez_plan.proofs.NameLemmas.{pairs_are}
use Rattle.tez_plan.proofs.Results.{if_err, on_ok}
use Rattle.tez_plan_checks.proofs.faults.check_pairs.Goals as goal

pub returns-clause-passes : goal.returns-clause-passes
returns-clause-passes c = on_ok c.check_repeats.result (λ h. pairs_pass c.args.graph.now c.requires (λ n. sym (pairs_are c.args.graph.now c.ends.result.now c.ends.ensures.same n) ∙ h n)) c.check_repeats.ensures.none

pub returns-clause-fault : goal.returns-clause-fault
returns-clause-fault c = let p = c.args.graph.now in
    if_err _ _ c.check_repeats.result
    (λ f h other. let first = h other in
    subst (IsFirstFault p) (sym first.2)
    (pairs_fault p first.0 c.requires (record {
      there = sym (pairs_are p c.ends.result.now c.ends.ensures.same first.0) ∙ first.1.there;
      before = λ m below. sym (pairs_are p c.ends.result.now c.ends.ensures.same m) ∙ first.1.before m below;
    })))
    c.check_repeats.ensures.fault
