-- What the type of a pool keeps.
use Rattle.std.specs.Prelude.{◌≡◌, ℕ, ◌*◌, ◌<◌, ◌^◌, List, length}
use Rattle.std.specs.HashMap.{HashMap}
use Rattle.tez_ids.specs.declared.AttemptId.{AttemptId}
use Rattle.tez_pool.specs.declared.place.Place.{Place}
use Rattle.tez_pool.specs.Index.{IsIndex}

-- each node has its places, and the index finds who holds one
pub record IsKept {S : Type 0} (places : List Place) (lives : List ℕ) (per_node : ℕ) (index : HashMap AttemptId ℕ S) : Type 0 where
  pub sized : length places ≡ length lives * per_node
  pub slots : length lives < 2 ^ 16
  pub finder : IsIndex places index
