use Rattle.std.proofs.Common.{◌≡◌, ◌++◌, take, drop, map}
use Rattle.tez_router.specs.Table.{restart_over}
use Rattle.tez_router.proofs.admitted.restart_each.Given as goal

abbrev pub invariant-loop-inputs : goal.invariant-loop-inputs
invariant-loop-inputs l = l.edges ≡ map (restart_over l.edge.0 l.inputs_now) (take l.inputs-index l.fn.edges) ++ drop l.inputs-index l.fn.edges
