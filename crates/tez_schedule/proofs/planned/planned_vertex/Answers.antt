use Rattle.std.proofs.Common.{sym, subst, List}
use Rattle.tez_vman.specs.Rules.{Rule}
use Rattle.tez_schedule.specs.declared.input.Input.{Input}
use Rattle.tez_schedule.specs.Kept.{HasInput}
use Rattle.tez_history.specs.Shape.{rule}
use Rattle.tez_schedule.proofs.PlanLemmas.{has_input}
use Rattle.tez_schedule.proofs.planned.planned_vertex.Goals as goal

pub new-requires-clause-input : goal.new-requires-clause-input
new-requires-clause-input c =
    let g = c.args.p.now in
    let v = c.args.v.0 in
    subst (λ (r : Rule). HasInput r c.in_ok-inputs.inputs.items) (sym c.manager_of-manager.ensures.rule)
    (subst (λ (xs : List Input). HasInput (rule g c.args.c.now v) xs) (sym c.in_ok-inputs.ensures.inputs) (has_input g c.args.c.now v c.vertices-valid.ensures.valid c.requires))
