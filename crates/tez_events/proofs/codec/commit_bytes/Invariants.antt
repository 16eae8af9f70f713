use Rattle.std.proofs.Common.{◌≡◌, ◌∷◌, ◌++◌, ◌<◌, ℕ, get_or, take}
use Rattle.std.specs.List.{flat_map}
use Rattle.std.specs.Int.{w16, to_le_bytes}
use Rattle.tez_events.specs.Body.{pair_bytes, FitsPair}
use Rattle.tez_events.proofs.codec.commit_bytes.Given as goal

abbrev pub invariant-loop-pair : goal.invariant-loop-pair
invariant-loop-pair l = record {
  bytes : l.bytes.items ≡ (6 ∷ to_le_bytes w16 l.count) ++ flat_map pair_bytes (take l.pair-index l.sums);
  fits : (k : ℕ) → (d : ℕ × ℕ) → k < l.pair-index → FitsPair (get_or l.sums k d);
}
