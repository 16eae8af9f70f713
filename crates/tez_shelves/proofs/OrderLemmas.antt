-- Cuts in order, by edge and then by output.
--     got               the cut at a place of the table
--     order_added       one more at the end
--     starts_after, start_is     where the next one starts, and where one does
--     cut_inside        it is a part of the block
--     found_first       the cut at a place is the first of its edge and output
use Rattle.std.specs.Prelude.{◌≡◌, ◌≤◌, ◌<◌, ◌==◌, ◌&&◌, ℕ, zero, suc, Bool, true, false, List, [], ◌∷◌, ◌++◌, length, slice_range, slice_get, slice_index_or, ◌-◌, if◌then◌else◌, Some, refl}
use Rattle.std.proofs.Common.{sym, ◌∙◌, ap, subst, arith, inl, inr, ne_eqb, eq-eqb}
use Rattle.tez_ids.specs.declared.EdgeId.{EdgeId}
use Rattle.tez_record.specs.Line.{lines}
use Rattle.tez_record.specs.Block.{IsText}
use Rattle.tez_shelves.specs.declared.marks.Mark.{Mark}
use Rattle.tez_shelves.specs.Piece.{piece_at}
use Rattle.tez_shelves.specs.Cut.{cut_from, starts, AreCuts, IsBefore, IsInOrder}

pub got : (table : List Mark) (k : ℕ) (d : Mark) → k < length table → slice_get table k ≡ Some (slice_index_or table k d)
got [] k d low = absurd (omega (arith, low))
got (n ∷ table) zero d low = refl
got (n ∷ table) (suc k) d low = got table k d (omega (arith, low))

order_more : (m : Mark) (table : List Mark) (next d : Mark) → IsInOrder (m ∷ table) → IsBefore (slice_index_or (m ∷ table) (length table) d) next.edge next.output → IsInOrder ((m ∷ table) ++ next ∷ [])
order_more m [] next d o b = (b, tt)
order_more m (n ∷ table) next d o b = (o.0, order_more n table next d o.1 b)

pub order_added : (table : List Mark) (next d : Mark) → (length table ≡ 0 → ⊥) → IsInOrder table → IsBefore (slice_index_or table (length table - 1) d) next.edge next.output → IsInOrder (table ++ next ∷ [])
order_added [] next d some o b = absurd (some refl)
order_added (m ∷ table) next d some o b =
    let last : length (m ∷ table) - 1 ≡ length table = omega arith in
    order_more m table next d o (subst (λ i. IsBefore (slice_index_or (m ∷ table) i d) next.edge next.output) last b)

-- ---- the cut at a place

pub starts_after : (start : ℕ) (table : List Mark) (k : ℕ) (m : Mark) → slice_get table k ≡ Some m → starts start table (suc k) ≡ m.end
starts_after start [] k m is = cc
starts_after start (n ∷ table) zero m is = let same : n ≡ m = cc in ap (λ (x : Mark). x.end) same
starts_after start (n ∷ table) (suc k) m is = starts_after n.end table k m is

pub start_is : (table : List Mark) (place : ℕ) (d : Mark) → (place ≡ 0 → ⊥) → place < length table → (slice_index_or table (place - 1) d).end ≡ starts 0 table place
start_is table zero d some low = absurd (some refl)
start_is table (suc k) d some low =
    let before : suc k - 1 ≡ k = omega arith in
    ap (λ i. (slice_index_or table i d).end) before ∙ sym (starts_after 0 table k (slice_index_or table k d) (got table k d (omega (arith, low))))

pub record IsInside (block : List ℕ) (start end : ℕ) : Type 0 where
  pub low : start ≤ end
  pub high : end ≤ length block
  pub whole : IsText (slice_range block start end)

pub cut_inside : (start : ℕ) (block : List ℕ) (table : List Mark) (k : ℕ) (m : Mark) → AreCuts start block table → slice_get table k ≡ Some m → IsInside block (starts start table k) m.end
cut_inside start block [] k m h is = cc
cut_inside start block (n ∷ table) zero m h is = let same : n ≡ m = cc in subst (λ (x : Mark). IsInside block start x.end) same (record { low = h.0; high = h.1; whole = h.2 })
cut_inside start block (n ∷ table) (suc k) m h is = cut_inside n.end block table k m h.3 is

-- ---- the first

pub same_edge : (a b : EdgeId) → a.0 ≡ b.0 → a ≡ b
same_edge a b h = ap {B = EdgeId} (λ (n : ℕ). record { 0 = n }) h

later_too : (m n : Mark) (e : EdgeId) (o : ℕ) → IsBefore m n.edge n.output → IsBefore n e o → IsBefore m e o
later_too m n e o (inl a) (inl b) = inl (omega (arith, a, b))
later_too m n e o (inl a) (inr b) = inl (let same = b.0 in omega (arith, a, same))
later_too m n e o (inr a) (inl b) = inl (let same = a.0 in omega (arith, same, b))
later_too m n e o (inr a) (inr b) = inr (a.0 ∙ b.0, let low = a.1 in let high = b.1 in omega (arith, low, high))

before_all : (n : Mark) (table : List Mark) (k : ℕ) (m : Mark) → IsInOrder (n ∷ table) → slice_get table k ≡ Some m → IsBefore n m.edge m.output
before_all n [] k m o is = cc
before_all n (t ∷ table) zero m o is = let same : t ≡ m = cc in subst (λ (x : Mark). IsBefore n x.edge x.output) same o.0
before_all n (t ∷ table) (suc k) m o is = later_too n t m.edge m.output o.0 (before_all t table k m o.1 is)

rest_in_order : (n : Mark) (table : List Mark) → IsInOrder (n ∷ table) → IsInOrder table
rest_in_order n [] o = tt
rest_in_order n (t ∷ table) o = o.1

-- who comes before is another
differs : (n : Mark) (e : EdgeId) (o : ℕ) → IsBefore n e o → ((n.edge.0 == e.0) && (n.output == o)) ≡ false
differs n e o (inl a) = ap (λ b. b && (n.output == o)) (ne_eqb n.edge.0 e.0 (λ same. absurd (omega (arith, a, same))))
differs n e o (inr a) = by (n.edge.0 == e.0) where
  other : (n.output == o) ≡ false
  other = ne_eqb n.output o (λ same. let low = a.1 in absurd (omega (arith, low, same)))

  by : (b : Bool) → (b && (n.output == o)) ≡ false
  by true = other
  by false = refl

pub found_first : (start : ℕ) (block : List ℕ) (table : List Mark) (k : ℕ) (m : Mark) → IsInOrder table → slice_get table k ≡ Some m
    → piece_at m.edge m.output (cut_from start block table) ≡ Some (lines (slice_range block (starts start table k) m.end))
found_first start block [] k m o is = cc
found_first start block (n ∷ table) zero m o is = subst (λ (x : Mark). piece_at x.edge x.output (cut_from start block (n ∷ table)) ≡ Some (lines (slice_range block start x.end))) same here where
  same : n ≡ m
  same = cc

  here : piece_at n.edge n.output (cut_from start block (n ∷ table)) ≡ Some (lines (slice_range block start n.end))
  here =
      let edge : (n.edge.0 == n.edge.0) ≡ true = eq-eqb n.edge.0 n.edge.0 refl in
      let output : (n.output == n.output) ≡ true = eq-eqb n.output n.output refl in
      rw edge (rw output refl)
found_first start block (n ∷ table) (suc k) m o is =
    let other = differs n m.edge m.output (before_all n table k m o is) in
    ap (λ b. if b then Some (lines (slice_range block start n.end)) else piece_at m.edge m.output (cut_from n.end block table)) other
    ∙ found_first n.end block table k m (rest_in_order n table o) is
