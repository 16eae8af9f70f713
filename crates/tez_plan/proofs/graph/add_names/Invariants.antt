use Rattle.std.proofs.Common.{◌≡◌, ◌<◌, ℕ, false, [], map, take}
use Rattle.tez_plan.specs.Dag.{dag_of}
use Rattle.tez_plan.specs.Faults.{duplicate_name}
use Rattle.tez_plan.proofs.graph.add_names.Given as goal

abbrev pub invariant-loop-v : goal.invariant-loop-v
invariant-loop-v l = record {
  names : map (λ k. k.now) l.names.keys ≡ map (λ s. s.name) (take l.v l.vertices);
  own : (m : ℕ) → m < l.v → duplicate_name (dag_of [] l.vertices []) m ≡ false;
}
