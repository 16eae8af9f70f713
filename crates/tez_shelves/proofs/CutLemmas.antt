-- Pieces that stand in one block.
--     cuts_added, cut_added      a piece more at the block's end
--     total_bytes                the pieces have together the bytes of the block
--     counted                    the bytes on an edge, summed from the front
use Rattle.std.proofs.Common.{◌≡◌, ◌≤◌, ℕ, ◌+◌, ◌-◌, cond, List, [], ◌∷◌, ◌++◌, length, take, drop, slice_range, refl, sym, ap, ◌∙◌, subst, arith, sum_by, Option, Some, None, length-append, length-drop}
use Rattle.std.specs.List.{AllByRecursion, filter}
use Rattle.std.specs.Option.{unwrap_or}
use Rattle.std.proofs.lemmas.List.{drop-append-le, take-append-le, length-take-le, take_all}
use Rattle.std.proofs.lemmas.List.Sums.{sum_by-cons}
use Rattle.std.proofs.Math.Seq.{drop-append_seam}
use Rattle.tez_lists.proofs.Cases.{cases}
use Rattle.tez_ids.specs.declared.EdgeId.{EdgeId}
use Rattle.tez_record.specs.Line.{lines, IsRecord}
use Rattle.tez_record.specs.Bag.{text}
use Rattle.tez_record.specs.Block.{IsText}
use Rattle.tez_record.proofs.LineLemmas.{lines-text}
use Rattle.tez_record.proofs.BlockLemmas.{lines_are_records}
use Rattle.tez_shelves.specs.declared.marks.Mark.{Mark}
use Rattle.tez_shelves.specs.Piece.{size, is_on, bytes_on}
use Rattle.tez_shelves.specs.Cut.{cut_from, AreCuts}

pub lines_of_text : (bytes : List ℕ) (rs : List (List ℕ)) → lines bytes ≡ rs → lines (text rs) ≡ rs
lines_of_text bytes rs e = lines-text rs (subst (AllByRecursion IsRecord) e (lines_are_records bytes))

slice_in : (block more : List ℕ) (start end : ℕ) → start ≤ end → end ≤ length block → slice_range (block ++ more) start end ≡ slice_range block start end
slice_in block more start end low high =
    ap (take (end - start)) (drop-append-le start block more (omega arith))
    ∙ take-append-le (end - start) (drop start block) more (omega (arith, length-drop start block))

slice_end : (block more : List ℕ) (start : ℕ) → start ≡ length block → slice_range (block ++ more) start (length (block ++ more)) ≡ more
slice_end block more start e =
    let long : length (block ++ more) - start ≡ length more = omega (arith, length-append block more) in
    ap (λ n. take (length (block ++ more) - start) (drop n (block ++ more))) e
    ∙ ap (take (length (block ++ more) - start)) (drop-append_seam block more)
    ∙ take_all (length (block ++ more) - start) more (omega arith)

pub cuts_added : (start : ℕ) (block more : List ℕ) (table : List Mark) (m : Mark) (rs : List (List ℕ)) → AreCuts start block table → m.end ≡ length (block ++ more) → more ≡ text rs → lines more ≡ rs → AreCuts start (block ++ more) (table ++ m ∷ [])
cuts_added start block more [] m rs h last is whole =
    let at : slice_range (block ++ more) start m.end ≡ more = ap (slice_range (block ++ more) start) last ∙ slice_end block more start h in
    let long = length-append block more in
    (omega arith, omega arith, subst IsText (sym at) (ap text whole ∙ sym is), last)
cuts_added start block more (n ∷ table) m rs h last is whole =
    let long = length-append block more in
    (h.0, omega (arith, h.1), subst IsText (sym (slice_in block more start n.end h.0 h.1)) h.2, cuts_added n.end block more table m rs h.3 last is whole)

pub cut_added : (start : ℕ) (block more : List ℕ) (table : List Mark) (m : Mark) (rs : List (List ℕ)) → AreCuts start block table → m.end ≡ length (block ++ more) → lines more ≡ rs → cut_from start (block ++ more) (table ++ m ∷ []) ≡ cut_from start block table ++ (m.edge, m.output, rs) ∷ []
cut_added start block more [] m rs h last whole =
    let at : slice_range (block ++ more) start m.end ≡ more = ap (slice_range (block ++ more) start) last ∙ slice_end block more start h in
    ap (λ (xs : List (List ℕ)). (m.edge, m.output, xs) ∷ []) (ap lines at ∙ whole)
cut_added start block more (n ∷ table) m rs h last whole =
    ap (λ (xs : List ℕ). (n.edge, n.output, lines xs) ∷ cut_from n.end (block ++ more) (table ++ m ∷ [])) (slice_in block more start n.end h.0 h.1)
    ∙ ap (λ (ps : List (EdgeId × ℕ × List (List ℕ))). (n.edge, n.output, lines (slice_range block start n.end)) ∷ ps) (cut_added n.end block more table m rs h.3 last whole)

-- the bytes of a cut
cut_size : (block : List ℕ) (start end : ℕ) → start ≤ end → end ≤ length block → IsText (slice_range block start end) → length (text (lines (slice_range block start end))) + start ≡ end
cut_size block start end low high whole =
    let same : length (text (lines (slice_range block start end))) ≡ length (slice_range block start end) = ap length whole in
    let long : length (slice_range block start end) ≡ end - start = length-take-le (end - start) (drop start block) (omega (arith, length-drop start block)) in
    omega arith

pub total_bytes : (start : ℕ) (block : List ℕ) (table : List Mark) → AreCuts start block table → start + sum_by size (cut_from start block table) ≡ length block
total_bytes start block [] h = omega (arith, h)
total_bytes start block (m ∷ table) h =
    let here = cut_size block start m.end h.0 h.1 h.2 in
    let rest = total_bytes m.end block table h.3 in
    let parts = sum_by-cons size (m.edge, m.output, lines (slice_range block start m.end)) (cut_from m.end block table) in
    omega arith

-- a sum over the pieces on an edge, from the front
abbrev pub counted : Option ℕ → EdgeId → List (EdgeId × ℕ × List (List ℕ)) → Option ℕ
counted sum e [] = sum
counted sum e (p ∷ ps) = counted (cond (is_on e p) (Some (unwrap_or sum 0 + size p)) sum) e ps

counted_some : (n : ℕ) (e : EdgeId) (ps : List (EdgeId × ℕ × List (List ℕ))) → counted (Some n) e ps ≡ Some (n + sum_by size (filter (is_on e) ps))
counted_some n e [] = ap Some (let same : n ≡ n + 0 = omega arith in same)
counted_some n e (p ∷ ps) =
    let parts = sum_by-cons size p (filter (is_on e) ps) in
    cases (is_on e p)
    (λ on. rw on (counted_some (n + size p) e ps ∙ ap Some (let same : n + size p + sum_by size (filter (is_on e) ps) ≡ n + sum_by size (p ∷ filter (is_on e) ps) = omega arith in same)))
    (λ off. rw off (counted_some n e ps))

pub counted_all : (e : EdgeId) (ps : List (EdgeId × ℕ × List (List ℕ))) → counted None e ps ≡ bytes_on e ps
counted_all e [] = refl
counted_all e (p ∷ ps) =
    let parts = sum_by-cons size p (filter (is_on e) ps) in
    cases (is_on e p)
    (λ on. rw on (counted_some (0 + size p) e ps ∙ ap Some (let same : 0 + size p + sum_by size (filter (is_on e) ps) ≡ sum_by size (p ∷ filter (is_on e) ps) = omega arith in same)))
    (λ off. rw off (counted_all e ps))
