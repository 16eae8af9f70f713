-- Lemmas on lists: maps, filters and searches put together.
use Rattle.std.specs.Prelude.{◌≡◌, ℕ, zero, suc, ◌+◌, Bool, true, false, ◌&&◌, if◌then◌else◌, cond, List, [], ◌∷◌, ◌++◌, map, length, replicate, slice_get, Option, Some, None, refl}
use Rattle.std.specs.List.{filter, filter_map, cons_option, flat_map, find, list_all, range_with_len, enumerate_from}
use Rattle.std.specs.Option.{option_map}
use Rattle.std.proofs.Common.{ap, sym, ◌∙◌, arith, subst, inl, inr, add-zero, add-one}
use Rattle.tez_lists.specs.Numbers.{numbers_from, In}

-- ---- maps

pub map-map : {X Y Z : Type 0} (f : Y → Z) (h : X → Y) (xs : List X) → map f (map h xs) ≡ map (λ x. f (h x)) xs
map-map f h [] = refl
map-map f h (x ∷ xs) = ap (λ zs. f (h x) ∷ zs) (map-map f h xs)

pub map-same : {X Y : Type 0} (f h : X → Y) (xs : List X) → ((x : X) → In x xs → f x ≡ h x) → map f xs ≡ map h xs
map-same f h [] s = refl
map-same f h (x ∷ xs) s = let here = s x (inl refl) in let rest = map-same f h xs (λ y i. s y (inr i)) in cc

pub map-flat : {X Y Z : Type 0} (f : Y → Z) (h : X → List Y) (xs : List X) → map f (flat_map h xs) ≡ flat_map (λ x. map f (h x)) xs
map-flat f h [] = refl
map-flat f h (x ∷ xs) = joined (h x) ∙ ap (λ zs. map f (h x) ++ zs) (map-flat f h xs) where
  joined : (ys : List _) → map f (ys ++ flat_map h xs) ≡ map f ys ++ map f (flat_map h xs)
  joined [] = refl
  joined (y ∷ ys) = ap (λ zs. f y ∷ zs) (joined ys)

pub numbers-range : (a n : ℕ) → range_with_len a n ≡ numbers_from a n
numbers-range a zero = refl
numbers-range a (suc n) = ap (λ xs. a ∷ xs) (ap (λ b. range_with_len b n) (add-one a) ∙ numbers-range (suc a) n)

pub length-numbers : {X : Type 0} (f : ℕ → X) (a n : ℕ) → length (map f (numbers_from a n)) ≡ n
length-numbers f a zero = refl
length-numbers f a (suc n) = ap suc (length-numbers f (suc a) n)

pub all-false : (f : ℕ → Bool) (a n : ℕ) → ((i : ℕ) → f i ≡ false) → map f (numbers_from a n) ≡ replicate n false
all-false f a zero h = refl
all-false f a (suc n) h = let here = h a in let rest = all-false f (suc a) n h in cc

-- ---- filters

pub filter-map : {X Y : Type 0} (p : Y → Bool) (f : X → Y) (xs : List X) → filter p (map f xs) ≡ map f (filter (λ x. p (f x)) xs)
filter-map p f [] = refl
filter-map p f (x ∷ xs) = by (p (f x)) (filter-map p f xs) where
  by : (b : Bool) → filter p (map f xs) ≡ map f (filter (λ y. p (f y)) xs) → (if b then f x ∷ filter p (map f xs) else filter p (map f xs)) ≡ map f (if b then x ∷ filter (λ y. p (f y)) xs else filter (λ y. p (f y)) xs)
  by true e = ap (λ zs. f x ∷ zs) e
  by false e = e

pub filter-same : {X : Type 0} (p q : X → Bool) (xs : List X) → ((x : X) → In x xs → p x ≡ q x) → filter p xs ≡ filter q xs
filter-same p q [] s = refl
filter-same p q (x ∷ xs) s =
    ap (λ b. if b then x ∷ filter p xs else filter p xs) (s x (inl refl)) ∙ ap (λ zs. if q x then x ∷ zs else zs) (filter-same p q xs (λ y i. s y (inr i)))

pub filter-all : {X : Type 0} (p : X → Bool) (xs : List X) → ((x : X) → p x ≡ true) → filter p xs ≡ xs
filter-all p [] h = refl
filter-all p (x ∷ xs) h = ap (λ b. if b then x ∷ filter p xs else filter p xs) (h x) ∙ ap (λ zs. x ∷ zs) (filter-all p xs h)

pub filter-filter : {X : Type 0} (p q : X → Bool) (xs : List X) → filter p (filter q xs) ≡ filter (λ x. q x && p x) xs
filter-filter p q [] = refl
filter-filter p q (x ∷ xs) = by (q x) (filter-filter p q xs) where
  by : (b : Bool) → filter p (filter q xs) ≡ filter (λ y. q y && p y) xs → filter p (if b then x ∷ filter q xs else filter q xs) ≡ (if b && p x then x ∷ filter (λ y. q y && p y) xs else filter (λ y. q y && p y) xs)
  by true e = ap (λ zs. if p x then x ∷ zs else zs) e
  by false e = e

-- singles, where a test passes
pub flat-if : {X Y : Type 0} (p : X → Bool) (f : X → Y) (xs : List X) → flat_map (λ x. if p x then f x ∷ [] else []) xs ≡ map f (filter p xs)
flat-if p f [] = refl
flat-if p f (x ∷ xs) = by (p x) (flat-if p f xs) where
  by : (b : Bool) → flat_map (λ y. if p y then f y ∷ [] else []) xs ≡ map f (filter p xs) → (if b then f x ∷ [] else []) ++ flat_map (λ y. if p y then f y ∷ [] else []) xs ≡ map f (if b then x ∷ filter p xs else filter p xs)
  by true e = ap (λ zs. f x ∷ zs) e
  by false e = e

filter-join : {X : Type 0} (p : X → Bool) (xs ys : List X) → filter p (xs ++ ys) ≡ filter p xs ++ filter p ys
filter-join p [] ys = refl
filter-join p (x ∷ xs) ys = by (p x) (filter-join p xs ys) where
  by : (b : Bool) → filter p (xs ++ ys) ≡ filter p xs ++ filter p ys → (if b then x ∷ filter p (xs ++ ys) else filter p (xs ++ ys)) ≡ (if b then x ∷ filter p xs else filter p xs) ++ filter p ys
  by true e = ap (λ zs. x ∷ zs) e
  by false e = e

pub filter-flat : {X Y : Type 0} (p : Y → Bool) (f : X → List Y) (xs : List X) → filter p (flat_map f xs) ≡ flat_map (λ x. filter p (f x)) xs
filter-flat p f [] = refl
filter-flat p f (x ∷ xs) = filter-join p (f x) (flat_map f xs) ∙ ap (λ zs. filter p (f x) ++ zs) (filter-flat p f xs)

pub in-filter-holds : {X : Type 0} (p : X → Bool) (x : X) (xs : List X) → In x (filter p xs) → p x ≡ true
in-filter-holds p x [] h = absurd h
in-filter-holds p x (y ∷ ys) h = by (p y) refl h (in-filter-holds p x ys) where
  by : (b : Bool) → p y ≡ b → In x (if b then y ∷ filter p ys else filter p ys) → (In x (filter p ys) → p x ≡ true) → p x ≡ true
  by true e (inl s) ih = subst (λ z. p z ≡ true) (sym s) e
  by true e (inr k) ih = ih k
  by false e k ih = ih k

-- ---- what there is of options

pub filter_map-same : {X Y : Type 0} (f h : X → Option Y) (xs : List X) → ((x : X) → In x xs → f x ≡ h x) → filter_map f xs ≡ filter_map h xs
filter_map-same f h [] s = refl
filter_map-same f h (x ∷ xs) s =
    ap (λ o. cons_option o (filter_map f xs)) (s x (inl refl)) ∙ ap (cons_option (h x)) (filter_map-same f h xs (λ y i. s y (inr i)))

pub filter_map-none : {X Y : Type 0} (f : X → Option Y) (xs : List X) → ((x : X) → f x ≡ None) → filter_map f xs ≡ []
filter_map-none f [] s = refl
filter_map-none f (x ∷ xs) s = ap (λ o. cons_option o (filter_map f xs)) (s x) ∙ filter_map-none f xs s

-- ---- searches

pub find-map : {X Y : Type 0} (p : Y → Bool) (f : X → Y) (xs : List X) → find p (map f xs) ≡ option_map f (find (λ x. p (f x)) xs)
find-map p f [] = refl
find-map p f (x ∷ xs) = by (p (f x)) (find-map p f xs) where
  by : (b : Bool) → find p (map f xs) ≡ option_map f (find (λ y. p (f y)) xs) → cond b (Some (f x)) (find p (map f xs)) ≡ option_map f (cond b (Some x) (find (λ y. p (f y)) xs))
  by true e = refl
  by false e = e

pub find-same : {X : Type 0} (p q : X → Bool) (xs : List X) → ((x : X) → In x xs → p x ≡ q x) → find p xs ≡ find q xs
find-same p q [] s = refl
find-same p q (x ∷ xs) s = ap (λ b. cond b (Some x) (find p xs)) (s x (inl refl)) ∙ ap (cond (q x) (Some x)) (find-same p q xs (λ y i. s y (inr i)))

-- the first that passes is the first of those that do
pub first-filter : {X : Type 0} (p : X → Bool) (xs : List X) → slice_get (filter p xs) 0 ≡ find p xs
first-filter p [] = refl
first-filter p (x ∷ xs) = by (p x) (first-filter p xs) where
  by : (b : Bool) → slice_get (filter p xs) 0 ≡ find p xs → slice_get (if b then x ∷ filter p xs else filter p xs) 0 ≡ cond b (Some x) (find p xs)
  by true e = refl
  by false e = e

pub first-map : {X Y : Type 0} (f : X → Y) (xs : List X) → slice_get (map f xs) 0 ≡ option_map f (slice_get xs 0)
first-map f [] = refl
first-map f (x ∷ xs) = refl

pub all-pass : {X : Type 0} (p : X → Bool) (xs : List X) → ((x : X) → In x xs → p x ≡ true) → list_all p xs ≡ true
all-pass p [] h = refl
all-pass p (x ∷ xs) h = rw (h x (inl refl), all-pass p xs (λ y m. h y (inr m))) refl

-- ---- numbered elements

-- an element is where its number says
pub got_from : {X Y : Type 0} (f : ℕ × X → Y) (n : ℕ) (xs : List X) (e : ℕ × X) → In e (enumerate_from n xs) → (k : ℕ) × (e.0 ≡ n + k) × (slice_get (map f (enumerate_from n xs)) k ≡ Some (f e))
got_from f n [] e h = absurd h
got_from f n (x ∷ xs) e (inl h) = (0, ap (λ y. y.0) h ∙ sym (add-zero n), ap (λ y. Some (f y)) (sym h))
got_from f n (x ∷ xs) e (inr h) = let r = got_from f (n + 1) xs e h in (suc r.0, r.1 ∙ omega arith, r.2)

-- a map over numbered elements, as one over their numbers
pub numbered-map : {X Y : Type 0} (f : ℕ × X → Y) (h : ℕ → Y) (n : ℕ) (xs : List X) → ((k : ℕ) (x : X) → slice_get xs k ≡ Some x → f (n + k, x) ≡ h (n + k))
    → map f (enumerate_from n xs) ≡ map h (range_with_len n (length xs))
numbered-map f h n [] s = refl
numbered-map f h n (x ∷ xs) s =
    ap (λ y. y ∷ map f (enumerate_from (n + 1) xs)) (subst (λ m. f (m, x) ≡ h m) (add-zero n) (s 0 x refl))
    ∙ ap (λ ys. h n ∷ ys) (numbered-map f h (n + 1) xs (λ k y g. subst (λ m. f (m, y) ≡ h m) (omega arith) (s (suc k) y g)))
