-- Shelves: for each attempt that has pieces on one, the node and the pieces.
--     shelf a s             the node and the pieces of attempt a, if there are any
--     piece_of s a e o      the records of a's first piece of output o on edge e, if there is one
--     bytes_of s a e        the bytes of a's pieces on edge e, if there are any
use Rattle.std.specs.Prelude.{ℕ, Bool, ◌&&◌, ◌==◌, if◌then◌else◌, List, Option, Some, None}
use Rattle.std.specs.Map.{lookup}
use Rattle.std.specs.Option.{option_map_or}
use Rattle.tez_ids.specs.declared.AttemptId.{AttemptId}
use Rattle.tez_ids.specs.declared.EdgeId.{EdgeId}
use Rattle.tez_ids.specs.declared.NodeId.{NodeId}
use Rattle.tez_ids.specs.Same.{same_attempt}
use Rattle.tez_shelves.specs.Piece.{piece_at, bytes_on}

-- the value, where it passes the test
abbrev pub kept_if : {X : Type 0} → (X → Bool) → Option X → Option X
kept_if p None = None
kept_if p (Some x) = if p x then Some x else None

abbrev pub same_node : NodeId → NodeId → Bool
same_node m n = (m.slot == n.slot) && (m.life == n.life)

abbrev pub shelf : AttemptId → List (AttemptId × (NodeId × List (EdgeId × ℕ × List (List ℕ)))) → Option (NodeId × List (EdgeId × ℕ × List (List ℕ)))
shelf a s = lookup (same_attempt a) s

abbrev pub piece_of : List (AttemptId × (NodeId × List (EdgeId × ℕ × List (List ℕ)))) → AttemptId → EdgeId → ℕ → Option (List (List ℕ))
piece_of s a e o = option_map_or (λ at. piece_at e o at.1) (shelf a s) None

abbrev pub bytes_of : List (AttemptId × (NodeId × List (EdgeId × ℕ × List (List ℕ)))) → AttemptId → EdgeId → Option ℕ
bytes_of s a e = option_map_or (λ at. bytes_on e at.1) (shelf a s) None
