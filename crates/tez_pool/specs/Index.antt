-- An index from attempts to the places that they hold.
use Rattle.std.specs.Prelude.{◌≡◌, ℕ, ◌+◌, ◌<◌, Bool, List, length, slice_get, Option, Some, None, cond, false, option_and_then}
use Rattle.std.specs.Option.{option_map_or}
use Rattle.std.specs.HashMap.{HashMap, get, hash_map_len, spare}
use Rattle.tez_ids.specs.declared.AttemptId.{AttemptId}
use Rattle.tez_ids.specs.contracts.AttemptIdPartialEq.TheImpl as attempt_eq
use Rattle.tez_pool.specs.declared.place.Place.{Place}
use Rattle.tez_pool.specs.Table.{who, holds}

-- the equality by which a map finds an attempt
abbrev pub equal : AttemptId → AttemptId → Bool
equal = (attempt_eq.ghosts).eq

abbrev pub held_at : List Place → ℕ → Option AttemptId
held_at places p = option_and_then who (slice_get places p)

abbrev pub is_held_at : List Place → ℕ → AttemptId → Bool
is_held_at places p a = option_map_or (holds a) (slice_get places p) false

-- what an index has for q once the holder of place p is entered, where there is one
abbrev pub entry : Option AttemptId → ℕ → AttemptId → Option ℕ → Option ℕ
entry None p q before = before
entry (Some a) p q before = cond (equal a q) (Some p) before

module _ {S : Type 0} where
  abbrev pub capacity : HashMap AttemptId ℕ S → ℕ
  capacity m = hash_map_len m + spare m

  -- each attempt that holds a place is found at it, and there is room for more entries than places; entries of attempts
  -- that hold no place any more may be left over
  pub record IsIndex (places : List Place) (m : HashMap AttemptId ℕ S) : Type 0 where
    pub finds : (p : ℕ) (a : AttemptId) → held_at places p ≡ Some a → get equal m a ≡ Some p
    pub room : length places < capacity m
