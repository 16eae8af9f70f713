-- Lists by number, and tables of which one cell is set.
use Rattle.std.specs.Prelude.{◌≡◌, ℕ, zero, suc, ◌+◌, ◌<◌, ◌≤◌, ◌==◌, ◌&&◌, Bool, true, false, if◌then◌else◌, List, [], ◌∷◌, ◌++◌, length, map, slice_get, slice_set, Option, Some, None, unwrap_or, refl}
use Rattle.std.specs.List.{filter, flat_map, filter_map, cons_option}
use Rattle.std.proofs.Common.{ap, sym, ◌∙◌, arith, inl, inr, ◌⊎◌, add-zero}
use Rattle.std.proofs.lemmas.Bool.Decides.{eqb_tells, nat_tests}
use Rattle.std.proofs.lemmas.Bool.{cases_lt}
use Rattle.std.proofs.lemmas.List.{set_past}
use Rattle.std.proofs.lemmas.Option.{same_Some}
use Rattle.std.proofs.Common.{eqb}
use Rattle.tez_lists.specs.Numbers.{numbers_from, In}
use Rattle.tez_lists.specs.Tables.{table, set_in}
use Rattle.tez_lists.proofs.Tables.{set_table, map_below}

pub tells : (a b : ℕ) → (a ≡ b) ⊎ (a ≡ b → ⊥)
tells a b = by (eqb_tells a b) where
  by : ((eqb a b ≡ true) × (a ≡ b)) ⊎ ((eqb a b ≡ false) × (a ≡ b → ⊥)) → (a ≡ b) ⊎ (a ≡ b → ⊥)
  by (inl e) = inl e.1
  by (inr e) = inr e.1

pub set_here : {X : Type 0} (xs : List X) (i : ℕ) (x y : X) → slice_get xs i ≡ Some x → slice_get (slice_set xs i y) i ≡ Some y
set_here [] i x y e = cc
set_here (z ∷ zs) zero x y e = refl
set_here (z ∷ zs) (suc i) x y e = set_here zs i x y e

pub set_elsewhere : {X : Type 0} (xs : List X) (i j : ℕ) (y : X) → (i ≡ j → ⊥) → slice_get (slice_set xs i y) j ≡ slice_get xs j
set_elsewhere [] i j y e = refl
set_elsewhere (z ∷ zs) zero zero y e = absurd (e refl)
set_elsewhere (z ∷ zs) zero (suc j) y e = refl
set_elsewhere (z ∷ zs) (suc i) zero y e = refl
set_elsewhere (z ∷ zs) (suc i) (suc j) y e = set_elsewhere zs i j y (λ q. e (ap suc q))

pub long_map : {Y : Type 0} (f : ℕ → Y) (a n : ℕ) → length (map f (numbers_from a n)) ≡ n
long_map f a zero = refl
long_map f a (suc n) = ap suc (long_map f (suc a) n)

-- ---- a table with one cell set

different : (v w n : ℕ) → n ≤ v → w < 0 + n → (v == w) ≡ false
different v w n h l = grind (arith, nat_tests)

pub set_any : {X : Type 0} (f h : ℕ → ℕ → X) (size : ℕ → ℕ) (n v i : ℕ) (x : X)
    → ((w j : ℕ) → (if (v == w) && (i == j) then x else f w j) ≡ h w j) → set_in (table f size n) v i x ≡ table h size n
set_any f h size n v i x is = by (cases_lt v n) where
  by : (v < n) ⊎ (n ≤ v) → set_in (table f size n) v i x ≡ table h size n
  by (inl l) = set_table f h size n v i x l is
  by (inr l) =
      let long : length (table f size n) ≡ n = long_map (λ w. map (f w) (numbers_from 0 (size w))) 0 n in
      set_past (table f size n) v (slice_set (unwrap_or (slice_get (table f size n) v) []) i x) (omega arith)
      ∙ map_below (λ w. map (f w) (numbers_from 0 (size w))) (λ w. map (h w) (numbers_from 0 (size w))) 0 n
      (λ w _ low. map_below (f w) (h w) 0 (size w) (λ j _ _. ap (λ b. if b && (i == j) then x else f w j) (sym (different v w n l low)) ∙ is w j))

pub no_row : {X : Type 0} (xs : List X) (i : ℕ) (y : X) → slice_get xs i ≡ None → slice_set xs i y ≡ xs
no_row [] i y e = refl
no_row (x ∷ xs) zero y e = cc
no_row (x ∷ xs) (suc i) y e = ap (λ zs. x ∷ zs) (no_row xs i y e)

pub row_elsewhere : {X : Type 0} (rows : List (List X)) (v i w j : ℕ) (x : X) → ((v == w) && (i == j)) ≡ false
    → slice_get (unwrap_or (slice_get (set_in rows v i x) w) []) j ≡ slice_get (unwrap_or (slice_get rows w) []) j
row_elsewhere {X} rows v i w j x ne = by (tells v w) where
  row : List X
  row = slice_set (unwrap_or (slice_get rows v) []) i x

  not_both : v ≡ w → i ≡ j → ⊥
  not_both q r = grind (arith, nat_tests)

  at : v ≡ w → (o : Option (List X)) → slice_get rows w ≡ o → slice_get (unwrap_or (slice_get (slice_set rows v row) w) []) j ≡ slice_get (unwrap_or (slice_get rows w) []) j
  at q (Some old) h =
      let here : slice_get rows v ≡ Some old = ap (slice_get rows) q ∙ h in
      ap (λ k. slice_get (unwrap_or (slice_get (slice_set rows v row) k) []) j) (sym q)
      ∙ ap (λ o. slice_get (unwrap_or o []) j) (set_here rows v old row here)
      ∙ ap (λ o. slice_get (slice_set (unwrap_or o []) i x) j) here
      ∙ set_elsewhere old i j x (not_both q)
      ∙ ap (λ o. slice_get (unwrap_or o []) j) (sym h)
  at q None h = ap (λ rs. slice_get (unwrap_or (slice_get rs w) []) j) (no_row rows v row (ap (slice_get rows) q ∙ h))

  by : (v ≡ w) ⊎ (v ≡ w → ⊥) → slice_get (unwrap_or (slice_get (slice_set rows v row) w) []) j ≡ slice_get (unwrap_or (slice_get rows w) []) j
  by (inl q) = at q (slice_get rows w) refl
  by (inr n) = ap (λ o. slice_get (unwrap_or o []) j) (set_elsewhere rows v w row n)

-- ---- what a list gives, by number

pub by_number : {X Y : Type 0} (f : X → List Y) (h : ℕ → List Y) (xs : List X) (a : ℕ) → ((k : ℕ) (x : X) → slice_get xs k ≡ Some x → h (a + k) ≡ f x) → flat_map h (numbers_from a (length xs)) ≡ flat_map f xs
by_number f h [] a is = refl
by_number f h (x ∷ xs) a is =
    let here : h a ≡ f x = ap h (sym (add-zero a)) ∙ is 0 x refl in
    let rest = by_number f h xs (suc a) (λ k y e. let next : suc a + k ≡ a + suc k = omega arith in ap h next ∙ is (suc k) y e) in
    ap (λ r. r ++ flat_map h (numbers_from (suc a) (length xs))) here ∙ ap (λ r. f x ++ r) rest

pub cut_off : {Y : Type 0} (h : ℕ → List Y) (a k n : ℕ) → k ≤ n → ((i : ℕ) → a + k ≤ i → h i ≡ []) → flat_map h (numbers_from a n) ≡ flat_map h (numbers_from a k)
cut_off h a zero zero l none = refl
cut_off h a zero (suc n) l none = ap (λ r. r ++ flat_map h (numbers_from (suc a) n)) (none a (omega arith)) ∙ cut_off h (suc a) zero n (omega arith) (λ i g. none i (omega arith))
cut_off h a (suc k) zero l none = absurd (omega arith)
cut_off h a (suc k) (suc n) l none = ap (λ r. h a ++ r) (cut_off h (suc a) k n (omega arith) (λ i g. none i (omega arith)))

pub picked : {Y : Type 0} (f : ℕ → Y) (p : ℕ → Bool) (ns : List ℕ) → flat_map (λ i. if p i then f i ∷ [] else []) ns ≡ map f (filter p ns)
picked f p [] = refl
picked f p (n ∷ ns) = by (picked f p ns) (p n) where
  by : flat_map (λ i. if p i then f i ∷ [] else []) ns ≡ map f (filter p ns) → (b : Bool) → (if b then f n ∷ [] else []) ++ flat_map (λ i. if p i then f i ∷ [] else []) ns ≡ map f (if b then n ∷ filter p ns else filter p ns)
  by rest true = ap (λ r. f n ∷ r) rest
  by rest false = rest

pub filter_below : (p q : ℕ → Bool) (a n : ℕ) → ((i : ℕ) → a ≤ i → i < a + n → p i ≡ q i) → filter p (numbers_from a n) ≡ filter q (numbers_from a n)
filter_below p q a zero same = refl
filter_below p q a (suc n) same =
    ap (λ b. if b then a ∷ filter p (numbers_from (suc a) n) else filter p (numbers_from (suc a) n)) (same a (omega arith) (omega arith))
    ∙ ap (λ r. if q a then a ∷ r else r) (filter_below p q (suc a) n (λ i l h. same i (omega arith) (omega arith)))

pub in_first : {X : Type 0} (x : X) (xs : List X) → slice_get xs 0 ≡ Some x → In x xs
in_first x [] e = cc
in_first x (y ∷ ys) e = inl (same_Some x y (sym e))

pub in_at : {X : Type 0} (x : X) (xs : List X) → In x xs → (i : ℕ) × (slice_get xs i ≡ Some x)
in_at x [] h = absurd h
in_at x (y ∷ ys) (inl e) = (0, ap Some (sym e))
in_at x (y ∷ ys) (inr h) = let r = in_at x ys h in (suc r.0, r.1)

pub empty_first : {X : Type 0} (xs : List X) → slice_get xs 0 ≡ None → xs ≡ []
empty_first [] e = refl
empty_first (x ∷ xs) e = cc

pub filter_map-same : {X Y : Type 0} (f h : X → Option Y) (xs : List X) → ((x : X) → In x xs → f x ≡ h x) → filter_map f xs ≡ filter_map h xs
filter_map-same f h [] same = refl
filter_map-same f h (x ∷ xs) same = ap (λ o. cons_option o (filter_map f xs)) (same x (inl refl)) ∙ ap (cons_option (h x)) (filter_map-same f h xs (λ y i. same y (inr i)))
