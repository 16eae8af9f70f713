use Rattle.std.proofs.Common.{◌≡◌, true, arith, subst, sym}
use Rattle.std.proofs.lemmas.Grind.{common_steps}
use Rattle.std.proofs.lemmas.List.Edits.{map_over_more}
use Rattle.tez_router.specs.State.{AdmittedState, routing_of}
use Rattle.tez_router.specs.Table.{restart_by, can_restart_by}
use Rattle.tez_router.proofs.Ranges.{all_at, not_reached}
use Rattle.tez_router.proofs.router.restart_all.Goals as goal

pub restart-requires : goal.restart-requires
restart-requires c =
    subst (λ (x : AdmittedState). can_restart_by c.args.edge.0 (routing_of c.args.manager) x ≡ true)
    (sym (not_reached (restart_by c.args.edge.0 (routing_of c.args.manager)) c.args.admitted.now c.loop-x.admitted c.loop-x.x-index c.x-item.result c.loop-x-test.true c.loop-x.invariant))
    (all_at (can_restart_by c.args.edge.0 (routing_of c.args.manager)) c.args.admitted.now c.loop-x.x-index c.x-item.result c.requires c.loop-x-test.true)

pub loop-x-preserved : goal.loop-x-preserved
loop-x-preserved c = grind (arith, common_steps, map_over_more (restart_by c.args.edge.0 (routing_of c.args.manager)))
