-- Shelves as slots, and an index that names the slot of each attempt.
--     shelved slots entries      for each attempt of the index what its slot holds
--     AreHeld slots entries      the slot of each attempt of the index holds something of this attempt [own], and
--                                each slot that holds something is named by the index [named]
--     marked wanted s            the same, marked as wanted or not
use Rattle.std.specs.Prelude.{◌≡◌, ℕ, Bool, List, [], map, Option, Some, None, IfSome, IsSomeAnd}
use Rattle.std.specs.Map.{lookup}
use Rattle.slab.specs.Slab.{Slab, get}
use Rattle.tez_ids.specs.declared.AttemptId.{AttemptId}
use Rattle.tez_ids.specs.declared.EdgeId.{EdgeId}
use Rattle.tez_ids.specs.declared.NodeId.{NodeId}
use Rattle.tez_ids.specs.Same.{same_attempt}
use Rattle.tez_shelves.specs.declared.slots.Shelved.{Shelved}

-- an empty slot stands for no pieces on the first node
abbrev pub held : Option Shelved → NodeId × List (EdgeId × ℕ × List (List ℕ))
held None = (record { slot = 0; life = 0 }, [])
held (Some s) = (s.node, s.pieces)

abbrev pub shelved : Slab Shelved → List (AttemptId × ℕ) → List (AttemptId × (NodeId × List (EdgeId × ℕ × List (List ℕ))))
shelved slots entries = map (λ e. (e.0, held (get slots e.1))) entries

pub record AreHeld (slots : Slab Shelved) (entries : List (AttemptId × ℕ)) : Type 0 where
  pub own : (a : AttemptId) → IfSome (lookup (same_attempt a) entries) (λ k. IsSomeAnd (get slots k) (λ s. s.attempt ≡ a))
  pub named : (k : ℕ) → IfSome (get slots k) (λ s. lookup (same_attempt s.attempt) entries ≡ Some k)

abbrev pub marked : Bool → Shelved → Shelved
marked wanted s = record s { wanted = wanted }
