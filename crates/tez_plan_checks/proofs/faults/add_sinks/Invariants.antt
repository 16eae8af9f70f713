use Rattle.std.proofs.Common.{◌≡◌, ◌<◌, ℕ, false, [], ◌∷◌, map, take, flat_map}
use Rattle.std.specs.Option.{option_map_or}
use Rattle.tez_plan.specs.Dag.{dag_of}
use Rattle.tez_plan.specs.Faults.{duplicate_sink}
use Rattle.tez_plan_checks.proofs.faults.add_sinks.Given as goal

abbrev pub invariant-loop-v : goal.invariant-loop-v
invariant-loop-v l = record {
  sinks : map (λ k. k.now) l.sinks.keys ≡ flat_map (λ s. option_map_or (λ name. name ∷ []) s.sink []) (take l.v l.vertices);
  own : (m : ℕ) → m < l.v → duplicate_sink (dag_of [] l.vertices []) m ≡ false;
}
