use Rattle.std.proofs.Common.{◌≡◌, ◌<◌, ℕ, false, [], map, take}
use Rattle.tez_plan.specs.Graph.{ends_among, unknown_among}
use Rattle.tez_plan.proofs.graph.connect.Given as goal

abbrev pub invariant-loop-e : goal.invariant-loop-e
invariant-loop-e l = record {
  ends : l.ends.items ≡ map (ends_among (map (λ k. k.now) l.names.keys)) (take l.e l.edges);
  known : (m : ℕ) → m < l.e → unknown_among (map (λ k. k.now) l.names.keys) l.edges m ≡ false;
}
