-- What a pool is to its callers.
--     places      the places, by number
--     lives       the life of the node of each slot
--     next        the number that the next container gets
use Rattle.std.specs.Prelude.{ℕ, Bool, List}
use Rattle.tez_pool.specs.declared.place.Place.{Place}

pub record PoolState : Type 0 where
  pub places : List Place
  pub lives : List ℕ
  pub next : ℕ
  pub per_node : ℕ
  pub reuse : Bool
