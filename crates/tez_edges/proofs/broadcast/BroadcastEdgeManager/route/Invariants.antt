use Rattle.std.proofs.Common.{◌≡◌, ℕ, map}
use Rattle.std.specs.List.{range_with_len}
use Rattle.tez_edges.proofs.broadcast.BroadcastEdgeManager.route.Given as goal

abbrev pub invariant-loop-consumer : goal.invariant-loop-consumer
invariant-loop-consumer l = l.found.items ≡ map {B = ℕ × ℕ} (λ c. (c, l.source)) (range_with_len 0 l.consumer)
