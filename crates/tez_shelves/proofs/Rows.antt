-- A worked example, by computing: the pieces of a task with three records, on edge 0 in two parts.
use Rattle.std.proofs.Common.{◌≡◌, [], ◌∷◌, Some, refl, codes}
use Rattle.tez_shelves.specs.Piece.{bytes_on}
use Rattle.tez_shelves.specs.Cut.{cut_from}

two_parts :
    cut_from 0 (codes "a\t1\na\t1\nb\t1\n") (record { edge = record { 0 = 0 }; output = 0; end = 8 } ∷ record { edge = record { 0 = 0 }; output = 1; end = 12 } ∷ [])
    ≡ (record { 0 = 0 }, 0, codes "a\t1" ∷ codes "a\t1" ∷ []) ∷ (record { 0 = 0 }, 1, codes "b\t1" ∷ []) ∷ []
two_parts = refl

their_bytes : bytes_on record { 0 = 0 } ((record { 0 = 0 }, 0, codes "a\t1" ∷ codes "a\t1" ∷ []) ∷ (record { 0 = 0 }, 1, codes "b\t1" ∷ []) ∷ []) ≡ Some 12
their_bytes = refl
