use Rattle.std.proofs.Common.{◌≡◌, ◌++◌, filter, map, take}
use Rattle.tez_meaning.specs.Known.{is_ahead}
use Rattle.tez_assembly.specs.Order.{key_at}
use Rattle.tez_assembly.proofs.edges.push_keys.Given as goal

abbrev pub invariant-loop-e : goal.invariant-loop-e
invariant-loop-e l = l.keys.items ≡ l.initial.keys.items ++ map (key_at l.plan) (filter (is_ahead l.plan l.v.0 l.head l.left) (take l.e l.plan.edges))
