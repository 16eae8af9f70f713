use Rattle.std.proofs.Common.{◌≡◌, ℕ, ◌<◌, length, get_or}
use Rattle.tez_plan.specs.Order.{by_sources, one_longer}
use Rattle.tez_plan.proofs.graph.Graph.depths.Given as goal

abbrev pub invariant-loop : goal.invariant-loop
invariant-loop l = record {
  paths : (v : ℕ) → v < length l.self.vertices → get_or l.known.items v 0 ≡ by_sources 0 (one_longer l.self) l.counter v;
  known : length l.known.items ≡ length l.self.vertices;
  longer : length l.longer.items ≡ length l.self.vertices;
}
