use Rattle.std.proofs.Common.{◌≡◌, ◌++◌, filter, flat_map, take}
use Rattle.tez_plan.specs.Dag.{from}
use Rattle.tez_meaning.specs.Known.{known_in, is_ahead}
use Rattle.tez_meaning.proofs.reads.push_ahead.Given as goal

abbrev pub invariant-loop-e : goal.invariant-loop-e
invariant-loop-e l = l.records ≡ l.initial.records ++ flat_map (λ e. known_in l.values (from l.plan e)) (filter (is_ahead l.plan l.v.0 l.head l.left) (take l.e l.plan.edges))
