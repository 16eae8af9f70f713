-- Lists of pairs as bytes.
use Rattle.std.proofs.Common.{◌≡◌, ℕ, zero, suc, ◌+◌, ◌-◌, ◌*◌, ◌<◌, ◌≤◌, List, [], ◌∷◌, ◌++◌, length, take, drop, get_or, refl, sym, ap, ◌∙◌, arith, append_assoc, length-append, subst, inl, inr, ◌⊎◌}
use Rattle.std.specs.Prelude.{All}
use Rattle.std.specs.List.{flat_map, slice_range}
use Rattle.std.specs.Int.{w64, to_le_bytes, from_le_bytes}
use Rattle.std.proofs.lemmas.List.{take_more, get_or_default}
use Rattle.std.proofs.lemmas.Bool.{cases_lt}
use Rattle.std.proofs.lemmas.Grind.{flat_map-append}
use Rattle.std.proofs.lemmas.Nat.{from_le_bytes-to_le_bytes_8}
use Rattle.std.proofs.Math.Seq.{take-add}
use Rattle.std.proofs.lemmas.List.{drop-drop}
use Rattle.tez_events.specs.Body.{pair_bytes, FitsPair}

flat_one : (xs : List (ℕ × ℕ)) (x : ℕ × ℕ) → flat_map pair_bytes (xs ++ x ∷ []) ≡ flat_map pair_bytes xs ++ pair_bytes x
flat_one xs x = flat_map-append pair_bytes xs (x ∷ [])

-- a loop that writes one pair after the other
pub pairs_more : (sums : List (ℕ × ℕ)) (start was now : List ℕ) (i : ℕ) (x d : ℕ × ℕ) → i < length sums → was ≡ start ++ flat_map pair_bytes (take i sums)
    → x ≡ get_or sums i d → now ≡ was ++ pair_bytes x → now ≡ start ++ flat_map pair_bytes (take (i + 1) sums)
pairs_more sums start was now i x d inside before is wrote =
    let last : flat_map pair_bytes (take (i + 1) sums) ≡ flat_map pair_bytes (take i sums) ++ pair_bytes x =
    ap (flat_map pair_bytes) (take_more sums i d inside ∙ ap (λ y. take i sums ++ y ∷ []) (sym is)) ∙ flat_one (take i sums) x in
    wrote ∙ ap (λ w. w ++ pair_bytes x) before ∙ append_assoc start (flat_map pair_bytes (take i sums)) (pair_bytes x) ∙ ap (λ w. start ++ w) (sym last)

-- two numbers, one after the other
pub two_words : (bytes : List ℕ) (at a b : ℕ) → to_le_bytes w64 a ≡ slice_range bytes at (at + 8) → to_le_bytes w64 b ≡ slice_range bytes (at + 8) (at + 8 + 8)
    → pair_bytes (a, b) ≡ take 16 (drop at bytes)
two_words bytes at a b is_a is_b =
    let front : at + 8 - at ≡ 8 = omega arith in
    let back : at + 8 + 8 - (at + 8) ≡ 8 = omega arith in
    let first : to_le_bytes w64 a ≡ take 8 (drop at bytes) = is_a ∙ ap (λ m. take m (drop at bytes)) front in
    let second : to_le_bytes w64 b ≡ take 8 (drop (at + 8) bytes) = is_b ∙ ap (λ m. take m (drop (at + 8) bytes)) back in
    let both : take (8 + 8) (drop at bytes) ≡ take 8 (drop at bytes) ++ take 8 (drop (at + 8) bytes) =
    take-add 8 8 (drop at bytes) ∙ ap (λ w. take 8 (drop at bytes) ++ take 8 w) (drop-drop 8 at bytes) in
    (λ k. first k ++ second k) ∙ sym both

-- a loop that reads one pair after the other
pub read_more : (bytes : List ℕ) (pairs : List (ℕ × ℕ)) (i : ℕ) (x : ℕ × ℕ) → flat_map pair_bytes pairs ≡ take (16 * i) bytes
    → pair_bytes x ≡ take 16 (drop (16 * i) bytes) → flat_map pair_bytes (pairs ++ x ∷ []) ≡ take (16 * (i + 1)) bytes
read_more bytes pairs i x before is =
    let n = 16 * i in
    let more : n + 16 ≡ 16 * (i + 1) = omega arith in
    flat_one pairs x ∙ (λ k. before k ++ is k) ∙ sym (take-add n 16 bytes) ∙ ap (λ m. take m bytes) more

pub all_one : {X : Type 0} (P : X → Type 0) (x : X) → P x → All P (x ∷ [])
all_one {X} P x h = one where
  one : (k : ℕ) (d : X) → k < length (x ∷ []) → P (get_or (x ∷ []) k d)
  one zero d l = h
  one (suc k) d l = absurd (omega arith)

pub fits_more : (sums : List (ℕ × ℕ)) (i : ℕ) (x : ℕ × ℕ) → i < length sums → ((k : ℕ) (d : ℕ × ℕ) → k < i → FitsPair (get_or sums k d)) → FitsPair (get_or sums i x)
    → (k : ℕ) (d : ℕ × ℕ) → k < i + 1 → FitsPair (get_or sums k d)
fits_more sums i x inside before here k d below = by (cases_lt k i) where
  by : (k < i) ⊎ (i ≤ k) → FitsPair (get_or sums k d)
  by (inl l) = before k d l
  by (inr l) = let same : i ≡ k = omega arith in subst (λ n. FitsPair (get_or sums n d)) same (subst (λ p. FitsPair p) (get_or_default sums i x d inside) here)

pub length-pairs : (pairs : List (ℕ × ℕ)) → length (flat_map pair_bytes pairs) ≡ 16 * length pairs
length-pairs [] = refl
length-pairs (p ∷ ps) = omega (arith, length-append (pair_bytes p) (flat_map pair_bytes ps), length-pairs ps)

pub pair_bytes-injective : (p q : ℕ × ℕ) → FitsPair p → FitsPair q → pair_bytes p ≡ pair_bytes q → p ≡ q
pair_bytes-injective p q fits_p fits_q same =
    let first : p.0 ≡ q.0 = sym (from_le_bytes-to_le_bytes_8 p.0 fits_p.0) ∙ ap (λ w. from_le_bytes w64 (take 8 w)) same ∙ from_le_bytes-to_le_bytes_8 q.0 fits_q.0 in
    let second : p.1 ≡ q.1 = sym (from_le_bytes-to_le_bytes_8 p.1 fits_p.1) ∙ ap (λ w. from_le_bytes w64 (drop 8 w)) same ∙ from_le_bytes-to_le_bytes_8 q.1 fits_q.1 in
    λ i. (first i, second i)

pub pairs-injective : (ps qs : List (ℕ × ℕ)) → All FitsPair ps → All FitsPair qs → flat_map pair_bytes ps ≡ flat_map pair_bytes qs → ps ≡ qs
pairs-injective [] [] a b same = refl
pairs-injective [] (q ∷ qs) a b same = cc
pairs-injective (p ∷ ps) [] a b same = cc
pairs-injective (p ∷ ps) (q ∷ qs) a b same =
    let head : p ≡ q = pair_bytes-injective p q (a 0 p (omega arith)) (b 0 q (omega arith)) (ap (λ w. take 16 w) same) in
    let rest : ps ≡ qs = pairs-injective ps qs (λ k d l. a (suc k) d (omega arith)) (λ k d l. b (suc k) d (omega arith)) (ap (λ w. drop 16 w) same) in
    λ i. head i ∷ rest i
