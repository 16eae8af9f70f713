use Rattle.std.proofs.Common.{◌≡◌, ◌++◌, take, drop, map}
use Rattle.tez_router.specs.State.{routing_of}
use Rattle.tez_router.specs.Table.{restart_by}
use Rattle.tez_router.proofs.router.restart_all.Given as goal

abbrev pub invariant-loop-x : goal.invariant-loop-x
invariant-loop-x l = l.admitted ≡ map (restart_by l.edge.0 (routing_of l.manager)) (take l.x-index l.fn.admitted) ++ drop l.x-index l.fn.admitted
