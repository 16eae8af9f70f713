use Rattle.std.proofs.Common.{◌≡◌, true, arith, subst, sym}
use Rattle.std.proofs.lemmas.Grind.{common_steps}
use Rattle.std.proofs.lemmas.List.Edits.{map_over_more}
use Rattle.tez_router.specs.State.{EdgeInputs}
use Rattle.tez_router.specs.Table.{restart_over, can_restart}
use Rattle.tez_router.proofs.Ranges.{all_at, not_reached}
use Rattle.tez_router.proofs.admitted.restart_each.Goals as goal

pub restart-requires : goal.restart-requires
restart-requires c =
    subst (λ (y : EdgeInputs). can_restart c.args.edge.0 c.args.inputs_now y ≡ true)
    (sym (not_reached (restart_over c.args.edge.0 c.args.inputs_now) c.args.edges.now c.loop-inputs.edges c.loop-inputs.inputs-index c.inputs-item.result c.loop-inputs-test.true c.loop-inputs.invariant))
    (all_at (can_restart c.args.edge.0 c.args.inputs_now) c.args.edges.now c.loop-inputs.inputs-index c.inputs-item.result c.requires c.loop-inputs-test.true)

pub loop-inputs-preserved : goal.loop-inputs-preserved
loop-inputs-preserved c = grind (arith, common_steps, map_over_more (restart_over c.args.edge.0 c.args.inputs_now))
