-- The first of numbers that passes a test, and tests of some element.
use Rattle.std.specs.Prelude.{◌≡◌, ℕ, zero, suc, ◌+◌, ◌<◌, ◌≤◌, ◌==◌, ◌&&◌, ◌||◌, ◌++◌, Bool, true, false, not, if◌then◌else◌, List, [], ◌∷◌, map, take, drop, length, slice_get, slice_set, Option, Some, None, is_none, is_some, refl}
use Rattle.std.specs.List.{find, filter, list_any, list_all}
use Rattle.std.specs.Option.{option_map, option_map_or}
use Rattle.std.proofs.Common.{ap, sym, ◌∙◌, arith, get_or, add-zero, zero-add}
use Rattle.tez_lists.specs.Numbers.{numbers_from}
use Rattle.tez_ids.specs.declared.VertexId.{VertexId}
use Rattle.tez_history.specs.Steps.{is_first_without}

-- ---- the first number

none_from : (p : ℕ → Bool) (a i : ℕ) → find p (numbers_from a i) ≡ None → p (a + i) ≡ false → find p (numbers_from a (suc i)) ≡ None
none_from p a zero none fails = ap (λ b. if b then Some a else None) (ap p (sym (add-zero a)) ∙ fails)
none_from p a (suc i) none fails = by (p a) none (λ n. none_from p (suc a) i n (ap p (omega arith) ∙ fails)) where
  by : (b : Bool) → (if b then Some a else find p (numbers_from (suc a) i)) ≡ None → (find p (numbers_from (suc a) i) ≡ None → find p (numbers_from (suc a) (suc i)) ≡ None)
      → (if b then Some a else find p (numbers_from (suc a) (suc i))) ≡ None
  by true n rest = cc
  by false n rest = rest n

pub none_more : (p : ℕ → Bool) (i : ℕ) → find p (numbers_from 0 i) ≡ None → p i ≡ false → find p (numbers_from 0 (i + 1)) ≡ None
none_more p i none fails = let e : i + 1 ≡ suc i = omega arith in ap (λ k. find p (numbers_from 0 k)) e ∙ none_from p 0 i none (ap p (zero-add i) ∙ fails)

found_from : (p : ℕ → Bool) (a i n : ℕ) → i < n → find p (numbers_from a i) ≡ None → p (a + i) ≡ true → find p (numbers_from a n) ≡ Some (a + i)
found_from p a i zero l none passes = absurd (omega arith)
found_from p a zero (suc n) l none passes = ap (λ b. if b then Some a else find p (numbers_from (suc a) n)) (ap p (sym (add-zero a)) ∙ passes) ∙ ap Some (sym (add-zero a))
found_from p a (suc i) (suc n) l none passes = by (p a) none (λ e. found_from p (suc a) i n (omega arith) e (ap p (omega arith) ∙ passes)) where
  by : (b : Bool) → (if b then Some a else find p (numbers_from (suc a) i)) ≡ None → (find p (numbers_from (suc a) i) ≡ None → find p (numbers_from (suc a) n) ≡ Some (suc a + i))
      → (if b then Some a else find p (numbers_from (suc a) n)) ≡ Some (a + suc i)
  by true e rest = cc
  by false e rest = rest e ∙ ap Some (omega arith)

pub found_first : (p : ℕ → Bool) (i n : ℕ) → i < n → find p (numbers_from 0 i) ≡ None → p i ≡ true → find p (numbers_from 0 n) ≡ Some i
found_first p i n l none passes = found_from p 0 i n l none (ap p (zero-add i) ∙ passes) ∙ ap Some (zero-add i)

-- the first of those that pass another test
pub find_among : {X : Type 0} (p q : X → Bool) (xs : List X) → find p (filter q xs) ≡ find (λ x. q x && p x) xs
find_among p q [] = refl
find_among p q (x ∷ xs) = by (q x) (find_among p q xs) where
  by : (b : Bool) → find p (filter q xs) ≡ find (λ x. q x && p x) xs → find p (if b then x ∷ filter q xs else filter q xs) ≡ (if b && p x then Some x else find (λ x. q x && p x) xs)
  by true rest = ap (λ o. if p x then Some x else o) rest
  by false rest = rest

-- ---- the first that is not in a list

pub first_by : (has : ℕ → Bool) (ws : List ℕ) (v : ℕ) → is_first_without has ws v ≡ option_map_or (λ w. w == v) (find (λ w. not (has w)) ws) false
first_by has [] v = refl
first_by has (w ∷ ws) v = by (has w) (first_by has ws v) where
  by : (b : Bool) → is_first_without has ws v ≡ option_map_or (λ u. u == v) (find (λ u. not (has u)) ws) false
      → (if b then is_first_without has ws v else (w == v)) ≡ option_map_or (λ u. u == v) (if not b then Some w else find (λ u. not (has u)) ws) false
  by true rest = rest
  by false rest = refl

pub all_by : (has : ℕ → Bool) (ws : List ℕ) → list_all has ws ≡ is_none (find (λ w. not (has w)) ws)
all_by has [] = refl
all_by has (w ∷ ws) = by (has w) (all_by has ws) where
  by : (b : Bool) → list_all has ws ≡ is_none (find (λ u. not (has u)) ws) → (b && list_all has ws) ≡ is_none (if not b then Some w else find (λ u. not (has u)) ws)
  by true rest = rest
  by false rest = refl

-- a number is there exactly where its vertex is
pub none_mapped : (o : Option VertexId) (r : Bool) → not r ≡ is_some o → r ≡ is_none (option_map (λ v. v.0) o)
none_mapped None true e = refl
none_mapped None false e = cc
none_mapped (Some v) true e = cc
none_mapped (Some v) false e = refl

-- ---- some element has a number

pub any_more : {X : Type 0} (f : X → ℕ) (v : ℕ) (xs : List X) (i : ℕ) → i < length xs → list_any (λ x. f x == v) (take i xs) ≡ false
    → (option_map_or f (slice_get xs i) 0 == v) ≡ false → list_any (λ x. f x == v) (take (suc i) xs) ≡ false
any_more f v [] i l none fails = absurd (omega arith)
any_more f v (x ∷ xs) zero l none fails = ap (λ b. b || false) fails
any_more f v (x ∷ xs) (suc i) l none fails = by (f x == v) none (λ n. any_more f v xs i (omega arith) n fails) where
  by : (b : Bool) → (b || list_any (λ y. f y == v) (take i xs)) ≡ false → (list_any (λ y. f y == v) (take i xs) ≡ false → list_any (λ y. f y == v) (take (suc i) xs) ≡ false)
      → (b || list_any (λ y. f y == v) (take (suc i) xs)) ≡ false
  by true n rest = n
  by false n rest = rest n

pub any_at : {X : Type 0} (f : X → ℕ) (v : ℕ) (xs : List X) (i : ℕ) → i < length xs → (option_map_or f (slice_get xs i) 0 == v) ≡ true → list_any (λ x. f x == v) xs ≡ true
any_at f v [] i l passes = absurd (omega arith)
any_at f v (x ∷ xs) zero l passes = ap (λ b. b || list_any (λ y. f y == v) xs) passes
any_at f v (x ∷ xs) (suc i) l passes = by (f x == v) (any_at f v xs i (omega arith) passes) where
  by : (b : Bool) → list_any (λ y. f y == v) xs ≡ true → (b || list_any (λ y. f y == v) xs) ≡ true
  by true rest = refl
  by false rest = rest

-- ---- steps of loops

pub cleared_more : (xs : List Bool) (i : ℕ) → i < length xs → slice_set (map (λ b. false) (take i xs) ++ drop i xs) i false ≡ map (λ b. false) (take (suc i) xs) ++ drop (suc i) xs
cleared_more [] i l = absurd (omega arith)
cleared_more (x ∷ xs) zero l = refl
cleared_more (x ∷ xs) (suc i) l = ap (λ ys. false ∷ ys) (cleared_more xs i (omega arith))

more_from : {X : Type 0} (f : ℕ → X) (a n : ℕ) → map f (numbers_from a (suc n)) ≡ map f (numbers_from a n) ++ f (a + n) ∷ []
more_from f a zero = ap (λ k. f k ∷ []) (sym (add-zero a))
more_from f a (suc n) = let e : suc a + n ≡ a + suc n = omega arith in ap (λ ys. f a ∷ ys) (more_from f (suc a) n ∙ ap (λ k. map f (numbers_from (suc a) n) ++ f k ∷ []) e)

pub one_more : {X : Type 0} (f : ℕ → X) (n : ℕ) → map f (numbers_from 0 (n + 1)) ≡ map f (numbers_from 0 n) ++ f n ∷ []
one_more f n = let e : n + 1 ≡ suc n = omega arith in ap (λ k. map f (numbers_from 0 k)) e ∙ more_from f 0 n ∙ ap (λ k. map f (numbers_from 0 n) ++ f k ∷ []) (zero-add n)

pub all_taken : {X : Type 0} (xs : List X) (i : ℕ) → length xs ≤ i → take i xs ≡ xs
all_taken [] zero l = refl
all_taken [] (suc i) l = refl
all_taken (x ∷ xs) zero l = absurd (omega arith)
all_taken (x ∷ xs) (suc i) l = ap (λ ys. x ∷ ys) (all_taken xs i (omega arith))

mapped_at : {X : Type 0} (f : X → X) (xs : List X) (i : ℕ) (d : X) → i < length xs
    → slice_set (map f (take i xs) ++ drop i xs) i (f (get_or (map f (take i xs) ++ drop i xs) i d)) ≡ map f (take (suc i) xs) ++ drop (suc i) xs
mapped_at f [] i d l = absurd (omega arith)
mapped_at f (y ∷ ys) zero d l = refl
mapped_at f (y ∷ ys) (suc i) d l = ap (λ zs. f y ∷ zs) (mapped_at f ys i d (omega arith))

-- one more element is mapped in place
pub mapped_more : {X : Type 0} (f : X → X) (xs now : List X) (i : ℕ) (d r : X) → i < length xs → now ≡ map f (take i xs) ++ drop i xs → r ≡ f (get_or now i d)
    → slice_set now i r ≡ map f (take (i + 1) xs) ++ drop (i + 1) xs
mapped_more f xs now i d r l so_far e =
    let next : suc i ≡ i + 1 = omega arith in
    ap (slice_set now i) e ∙ ap (λ ys. slice_set ys i (f (get_or ys i d))) so_far ∙ mapped_at f xs i d l ∙ ap (λ n. map f (take n xs) ++ drop n xs) next
