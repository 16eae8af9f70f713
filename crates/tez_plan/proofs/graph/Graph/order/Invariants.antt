use Rattle.std.proofs.Common.{◌≡◌, ℕ, ◌+◌, ◌-◌, ◌<◌, ◌++◌, false, length, map, get_or}
use Rattle.tez_plan.specs.Order.{among, after, topo}
use Rattle.tez_plan.proofs.graph.Graph.order.Given as goal

abbrev pub invariant-loop : goal.invariant-loop
invariant-loop l = record {
  so_far : topo l.self ≡ map (λ v. v.0) l.order.items ++ after (length l.self.vertices - l.counter) l.self (map (λ v. v.0) l.order.items);
  marks : (u : ℕ) → u < length l.self.vertices → get_or l.out.items u false ≡ among (map (λ v. v.0) l.order.items) u;
  out : length l.out.items ≡ length l.self.vertices;
  waits : length l.waits.items ≡ length l.self.vertices;
}
