use Rattle.std.proofs.Common.{◌≡◌, ℕ, ◌+◌, ◌/◌, ◌<◌, ◌≢◌, length, drop}
use Rattle.tez_tournament.specs.Tree.{IsMatch}
use Rattle.tez_tournament.proofs.tree.replay.Given as goal

abbrev pub invariant-loop-node : goal.invariant-loop-node
invariant-loop-node l = record {
  sized : length l.nodes ≡ l.count + l.count;
  inside : (0 < l.node) × (l.node < l.count + l.count);
  others : (k : ℕ) → 0 < k → k < l.count → k ≢ l.node / 2 → IsMatch l.nodes k;
  leaves : drop l.count l.nodes ≡ drop l.count l.fn.nodes;
}

abbrev pub decreases-loop-node : goal.decreases-loop-node
decreases-loop-node l = l.node
