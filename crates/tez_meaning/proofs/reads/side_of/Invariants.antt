use Rattle.std.proofs.Common.{◌≡◌, filter, flat_map, take}
use Rattle.tez_plan.specs.Dag.{from}
use Rattle.tez_meaning.specs.Known.{known_in, is_beside}
use Rattle.tez_meaning.proofs.reads.side_of.Given as goal

abbrev pub invariant-loop-e : goal.invariant-loop-e
invariant-loop-e l = l.side ≡ flat_map (λ e. known_in l.values (from l.plan e)) (filter (is_beside l.plan l.v.0) (take l.e l.plan.edges))
