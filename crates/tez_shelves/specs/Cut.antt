-- Pieces that stand in one block, one after another.
--     cut_from start block table      the pieces that a table cuts out of a block, the first from start on
--     AreCuts start block table       each cut ends at its own end or after it, holds whole lines, and the last ends with the block
--     starts start table k            where cut k starts
--     IsBefore m e o                  a cut comes before output o of edge e, by edge and then by output
--     IsInOrder table                 each comes before the next
--     IsCut block table in_order      the cuts of a block, in order where that is noted
use Rattle.std.specs.Prelude.{◌≡◌, ◌⊎◌, ◌≤◌, ◌<◌, ⊤, ℕ, zero, suc, Bool, true, List, [], ◌∷◌, length, slice_range}
use Rattle.tez_ids.specs.declared.EdgeId.{EdgeId}
use Rattle.tez_record.specs.Line.{lines}
use Rattle.tez_record.specs.Block.{IsText}
use Rattle.tez_shelves.specs.declared.marks.Mark.{Mark}

abbrev pub cut_from : ℕ → List ℕ → List Mark → List (EdgeId × ℕ × List (List ℕ))
cut_from start block [] = []
cut_from start block (m ∷ table) = (m.edge, m.output, lines (slice_range block start m.end)) ∷ cut_from m.end block table

abbrev pub AreCuts : ℕ → List ℕ → List Mark → Type 0
AreCuts start block [] = start ≡ length block
AreCuts start block (m ∷ table) = (start ≤ m.end) × (m.end ≤ length block) × IsText (slice_range block start m.end) × AreCuts m.end block table

abbrev pub starts : ℕ → List Mark → ℕ → ℕ
starts start table zero = start
starts start [] (suc k) = start
starts start (m ∷ table) (suc k) = starts m.end table k

abbrev pub IsBefore : Mark → EdgeId → ℕ → Type 0
IsBefore m e o = (m.edge.0 < e.0) ⊎ ((m.edge.0 ≡ e.0) × (m.output < o))

abbrev pub IsInOrder : List Mark → Type 0
IsInOrder [] = ⊤
IsInOrder (m ∷ []) = ⊤
IsInOrder (m ∷ n ∷ table) = IsBefore m n.edge n.output × IsInOrder (n ∷ table)

pub record IsCut (block : List ℕ) (table : List Mark) (in_order : Bool) : Type 0 where
  pub cuts : AreCuts 0 block table
  pub order : in_order ≡ true → IsInOrder table
