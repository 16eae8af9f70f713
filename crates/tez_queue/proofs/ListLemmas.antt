-- Numbers, filters and lists of lists.
use Rattle.std.specs.Prelude.{◌≡◌, ℕ, zero, suc, ◌+◌, ◌*◌, ◌<◌, ◌≤◌, Bool, true, false, not, cond, List, [], ◌∷◌, ◌++◌, length, map, slice_get, refl}
use Rattle.std.specs.List.{filter, flat_map, range_with_len, position_or_len}
use Rattle.std.specs.Option.{option_map}
use Rattle.std.proofs.Common.{ap, sym, ◌∙◌, arith, append_assoc, add-one, inl, inr, zero-add, length-append}
use Rattle.tez_lists.specs.Numbers.{numbers_from, In}
use Rattle.tez_lists.proofs.Flat.{append-nil, flat-append, filter-append, map-append'}

pub numbers-range : (a n : ℕ) → numbers_from a n ≡ range_with_len a n
numbers-range a zero = refl
numbers-range a (suc n) = ap (λ (xs : List ℕ). a ∷ xs) (numbers-range (suc a) n ∙ ap (λ k. range_with_len k n) (sym (add-one a)))

numbers_step : (a n : ℕ) → numbers_from a (suc n) ≡ numbers_from a n ++ (a + n) ∷ []
numbers_step a zero = let e : a + 0 ≡ a = omega arith in rw e refl
numbers_step a (suc n) = let e : suc a + n ≡ a + suc n = omega arith in ap (λ xs. a ∷ xs) (numbers_step (suc a) n ∙ ap (λ k. numbers_from (suc a) n ++ k ∷ []) e)

pub numbers_more : (n : ℕ) → numbers_from 0 (n + 1) ≡ numbers_from 0 n ++ n ∷ []
numbers_more n = ap (numbers_from 0) (add-one n) ∙ numbers_step 0 n ∙ ap (λ k. numbers_from 0 n ++ k ∷ []) (zero-add n)

pub length_numbers : (a n : ℕ) → length (numbers_from a n) ≡ n
length_numbers a zero = refl
length_numbers a (suc n) = ap suc (length_numbers (suc a) n)

pub in_numbers : (a n v : ℕ) → In v (numbers_from a n) → v < a + n
in_numbers a zero v h = absurd h
in_numbers a (suc n) v (inl e) = omega arith
in_numbers a (suc n) v (inr h) = let l = in_numbers (suc a) n v h in omega arith

pub map_more : {Y : Type 0} (f : ℕ → Y) (n : ℕ) (start was now : List Y) (y : Y) → was ≡ start ++ map f (numbers_from 0 n) → y ≡ f n → now ≡ was ++ y ∷ [] → now ≡ start ++ map f (numbers_from 0 (n + 1))
map_more f n start was now y w is e =
    let last : map f (numbers_from 0 (n + 1)) ≡ map f (numbers_from 0 n) ++ f n ∷ [] = ap (map f) (numbers_more n) ∙ map-append' f (numbers_from 0 n) (n ∷ []) in
    e ∙ ap (λ ys. ys ++ y ∷ []) w ∙ append_assoc start (map f (numbers_from 0 n)) (y ∷ []) ∙ ap (λ z. start ++ (map f (numbers_from 0 n) ++ z ∷ [])) is ∙ ap (λ ys. start ++ ys) (sym last)

filter_more : (p : ℕ → Bool) (n : ℕ) (start was : List ℕ) → was ≡ start ++ filter p (numbers_from 0 n) → was ++ cond (p n) (n ∷ []) [] ≡ start ++ filter p (numbers_from 0 (n + 1))
filter_more p n start was w =
    let last : filter p (numbers_from 0 (n + 1)) ≡ filter p (numbers_from 0 n) ++ cond (p n) (n ∷ []) [] = ap (filter p) (numbers_more n) ∙ filter-append p (numbers_from 0 n) (n ∷ []) in
    ap (λ ys. ys ++ cond (p n) (n ∷ []) []) w ∙ append_assoc start (filter p (numbers_from 0 n)) (cond (p n) (n ∷ []) []) ∙ ap (λ ys. start ++ ys) (sym last)

pub filter_kept : (p : ℕ → Bool) (n : ℕ) (start was now : List ℕ) → was ≡ start ++ filter p (numbers_from 0 n) → p n ≡ true → now ≡ was ++ n ∷ [] → now ≡ start ++ filter p (numbers_from 0 (n + 1))
filter_kept p n start was now w t e = e ∙ ap (λ b. was ++ cond b (n ∷ []) []) (sym t) ∙ filter_more p n start was w

pub filter_dropped : (p : ℕ → Bool) (n : ℕ) (start was : List ℕ) → was ≡ start ++ filter p (numbers_from 0 n) → p n ≡ false → was ≡ start ++ filter p (numbers_from 0 (n + 1))
filter_dropped p n start was w t = sym (append-nil was) ∙ ap (λ b. was ++ cond b (n ∷ []) []) (sym t) ∙ filter_more p n start was w

pub flat_numbers_more : {Y : Type 0} (f : ℕ → List Y) (n : ℕ) (start was now : List Y) → was ≡ start ++ flat_map f (numbers_from 0 n) → now ≡ was ++ f n → now ≡ start ++ flat_map f (numbers_from 0 (n + 1))
flat_numbers_more f n start was now w e =
    let last : flat_map f (numbers_from 0 (n + 1)) ≡ flat_map f (numbers_from 0 n) ++ f n =
    ap (flat_map f) (numbers_more n) ∙ flat-append f (numbers_from 0 n) (n ∷ []) ∙ ap (λ ys. flat_map f (numbers_from 0 n) ++ ys) (append-nil (f n)) in
    e ∙ ap (λ ys. ys ++ f n) w ∙ append_assoc start (flat_map f (numbers_from 0 n)) (f n) ∙ ap (λ ys. start ++ ys) (sym last)

pub flat-flat : {X Y Z : Type 0} (f : Y → List Z) (h : X → List Y) (xs : List X) → flat_map f (flat_map h xs) ≡ flat_map (λ x. flat_map f (h x)) xs
flat-flat f h [] = refl
flat-flat f h (x ∷ xs) = flat-append f (h x) (flat_map h xs) ∙ ap (λ zs. flat_map f (h x) ++ zs) (flat-flat f h xs)

pub map-flat : {X Y Z : Type 0} (f : Y → Z) (h : X → List Y) (xs : List X) → map f (flat_map h xs) ≡ flat_map (λ x. map f (h x)) xs
map-flat f h [] = refl
map-flat f h (x ∷ xs) = map-append' f (h x) (flat_map h xs) ∙ ap (λ zs. map f (h x) ++ zs) (map-flat f h xs)

pub filter-flat : {X Y : Type 0} (p : Y → Bool) (h : X → List Y) (xs : List X) → filter p (flat_map h xs) ≡ flat_map (λ x. filter p (h x)) xs
filter-flat p h [] = refl
filter-flat p h (x ∷ xs) = filter-append p (h x) (flat_map h xs) ∙ ap (λ zs. filter p (h x) ++ zs) (filter-flat p h xs)

pub filter-map : {X Y : Type 0} (p : Y → Bool) (f : X → Y) (xs : List X) → filter p (map f xs) ≡ map f (filter (λ x. p (f x)) xs)
filter-map p f [] = refl
filter-map p f (x ∷ xs) = by (p (f x)) (filter-map p f xs) where
  by : (b : Bool) → filter p (map f xs) ≡ map f (filter (λ x. p (f x)) xs) → cond b (f x ∷ filter p (map f xs)) (filter p (map f xs)) ≡ map f (cond b (x ∷ filter (λ x. p (f x)) xs) (filter (λ x. p (f x)) xs))
  by true e = ap (λ zs. f x ∷ zs) e
  by false e = e

-- a filter that keeps or drops each part whole
pub filter_parts : {X Y : Type 0} (p : Y → Bool) (q : X → Bool) (h : X → List Y) (xs : List X) → ((x : X) → In x xs → filter p (h x) ≡ cond (q x) (h x) []) → filter p (flat_map h xs) ≡ flat_map h (filter q xs)
filter_parts p q h [] s = refl
filter_parts p q h (x ∷ xs) s =
    filter-append p (h x) (flat_map h xs) ∙ ap (λ zs. zs ++ filter p (flat_map h xs)) (s x (inl refl)) ∙ ap (λ zs. cond (q x) (h x) [] ++ zs) (filter_parts p q h xs (λ y i. s y (inr i))) ∙ by (q x)
  where
    by : (b : Bool) → cond b (h x) [] ++ flat_map h (filter q xs) ≡ flat_map h (cond b (x ∷ filter q xs) (filter q xs))
    by true = refl
    by false = refl

pub filter_short : {X : Type 0} (p : X → Bool) (xs : List X) → length (filter p xs) ≤ length xs
filter_short p [] = omega arith
filter_short p (x ∷ xs) = by (p x) (filter_short p xs) where
  by : (b : Bool) → length (filter p xs) ≤ length xs → length (cond b (x ∷ filter p xs) (filter p xs)) ≤ suc (length xs)
  by true e = omega arith
  by false e = omega arith

pub flat_short : {X Y : Type 0} (n : ℕ) (f : X → List Y) (xs : List X) → ((x : X) → length (f x) ≤ n) → length (flat_map f xs) ≤ length xs * n
flat_short n f [] low = omega arith
flat_short n f (x ∷ xs) low =
    let here = low x in
    let rest = flat_short n f xs low in
    let long = length-append (f x) (flat_map f xs) in
    more (length (f x)) (length (flat_map f xs)) (length (f x ++ flat_map f xs)) (length xs) n here rest long
  where
    more : (a b c k n : ℕ) → a ≤ n → b ≤ k * n → c ≡ a + b → c ≤ suc k * n
    more a b c k n x y z = omega arith

-- the first that passes
pub first_passes : {X : Type 0} (p : X → Bool) (xs : List X) → slice_get xs (position_or_len p xs) ≡ slice_get (filter p xs) 0
first_passes p [] = refl
first_passes p (x ∷ xs) = by (p x) (first_passes p xs) where
  by : (b : Bool) → slice_get xs (position_or_len p xs) ≡ slice_get (filter p xs) 0 → slice_get (x ∷ xs) (cond (not b) (1 + position_or_len p xs) 0) ≡ slice_get (cond b (x ∷ filter p xs) (filter p xs)) 0
  by true e = refl
  by false e = let one : 1 + position_or_len p xs ≡ suc (position_or_len p xs) = omega arith in ap (slice_get (x ∷ xs)) one ∙ e

pub first-map : {X Y : Type 0} (f : X → Y) (xs : List X) → option_map f (slice_get xs 0) ≡ slice_get (map f xs) 0
first-map f [] = refl
first-map f (x ∷ xs) = refl
