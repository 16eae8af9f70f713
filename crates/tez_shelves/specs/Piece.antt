-- The pieces that an attempt made: for each its edge, its output number and its records.
--     size p                 the bytes of a piece's text
--     piece_at e o ps        the records of the first piece of output o on edge e, if there is one
--     bytes_on e ps          the bytes of the pieces on edge e, if there are any
use Rattle.std.specs.Prelude.{ℕ, Bool, ◌==◌, ◌&&◌, List, [], ◌∷◌, length, if◌then◌else◌, Option, Some, None, sum_by}
use Rattle.std.specs.List.{filter, list_any}
use Rattle.tez_ids.specs.declared.EdgeId.{EdgeId}
use Rattle.tez_record.specs.Bag.{text}

abbrev pub size : EdgeId × ℕ × List (List ℕ) → ℕ
size p = length (text p.2)

abbrev pub is_on : EdgeId → EdgeId × ℕ × List (List ℕ) → Bool
is_on e p = p.0.0 == e.0

abbrev pub piece_at : EdgeId → ℕ → List (EdgeId × ℕ × List (List ℕ)) → Option (List (List ℕ))
piece_at e o [] = None
piece_at e o (p ∷ ps) = if is_on e p && (p.1 == o) then Some p.2 else piece_at e o ps

abbrev pub bytes_on : EdgeId → List (EdgeId × ℕ × List (List ℕ)) → Option ℕ
bytes_on e ps = if list_any (is_on e) ps then Some (sum_by size (filter (is_on e) ps)) else None
