use Rattle.std.proofs.Common.{◌≡◌, sym, subst}
use Rattle.tez_plan.specs.Faults.{IsFirstFault}
use Rattle.tez_plan.proofs.CheckLemmas.{sinks_pass, sinks_fault}
use Rattle.tez_plan.proofs.Results.{if_err, on_ok}
use Rattle.tez_plan_checks.proofs.faults.check_sinks.Goals as goal

pub returns-clause-passes : goal.returns-clause-passes
returns-clause-passes c = let own = rw c.vertices.ensures.same at c.add_sinks.ensures.own in on_ok c.add_sinks.result (λ h. sinks_pass c.args.graph.now c.requires h) own

pub returns-clause-fault : goal.returns-clause-fault
returns-clause-fault c = let p = c.args.graph.now in
    let found = rw c.vertices.ensures.same at c.add_sinks.ensures.fault in
    if_err _ _ c.add_sinks.result (λ f h other. let first = h other in subst (IsFirstFault p) (sym first.2) (sinks_fault p first.0 c.requires first.1)) found
