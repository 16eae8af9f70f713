use Rattle.std.proofs.Common.{◌≡◌, ℕ, ◌<◌, ◌≤◌, length, Some}
use Rattle.std.specs.HashMap.{get, hash_map_len}
use Rattle.tez_ids.specs.declared.AttemptId.{AttemptId}
use Rattle.tez_pool.specs.Index.{equal, capacity, held_at}
use Rattle.tez_pool.proofs.index.rebuild.Given as goal

abbrev pub invariant-loop-at : goal.invariant-loop-at
invariant-loop-at l = record {
  finds : (p : ℕ) (a : AttemptId) → p < l.at → held_at l.places p ≡ Some a → get equal l.index a ≡ Some p;
  few : hash_map_len l.index ≤ l.at;
  room : length l.places < capacity l.index;
}
