-- Lists whose elements are in order pairwise.
use Rattle.std.specs.Prelude.{◌≡◌, ◌⊎◌, ℕ, zero, suc, ◌+◌, ◌<◌, ◌≤◌, ⊤, List, [], ◌∷◌, ◌++◌, map, Option, refl}
use Rattle.std.specs.List.{filter_map, cons_option, flat_map}
use Rattle.std.proofs.Common.{ap, sym, ◌∙◌, subst, arith, inl, inr}
use Rattle.tez_lists.specs.Numbers.{numbers_from, In}

pub in-append-out : {X : Type 0} (x : X) (xs ys : List X) → In x (xs ++ ys) → In x xs ⊎ In x ys
in-append-out x [] ys h = inr h
in-append-out x (y ∷ ys) zs (inl e) = inl (inl e)
in-append-out x (y ∷ ys) zs (inr h) = by (in-append-out x ys zs h) where
  by : In x ys ⊎ In x zs → In x (y ∷ ys) ⊎ In x zs
  by (inl k) = inl (inr k)
  by (inr k) = inr k

pub in-flat-out : {X Y : Type 0} (f : X → List Y) (y : Y) (xs : List X) → In y (flat_map f xs) → (x : X) × In x xs × In y (f x)
in-flat-out f y [] h = absurd h
in-flat-out {X} {Y} f y (x ∷ xs) h = by (λ m. in-flat-out f y xs m) (in-append-out y (f x) (flat_map f xs) h) where
  by : (In y (flat_map f xs) → (z : X) × In z xs × In y (f z)) → In y (f x) ⊎ In y (flat_map f xs) → (z : X) × In z (x ∷ xs) × In y (f z)
  by ih (inl k) = (x, inl refl, k)
  by ih (inr k) = let r = ih k in (r.0, inr r.1, r.2)

pub in-map-out : {X Y : Type 0} (f : X → Y) (y : Y) (xs : List X) → In y (map f xs) → (x : X) × In x xs × (y ≡ f x)
in-map-out f y [] h = absurd h
in-map-out f y (x ∷ xs) (inl e) = (x, inl refl, e)
in-map-out f y (x ∷ xs) (inr h) = let r = in-map-out f y xs h in (r.0, inr r.1, r.2)

pub in-numbers-out : (a n i : ℕ) → In i (numbers_from a n) → (a ≤ i) × (i < a + n)
in-numbers-out a zero i h = absurd h
in-numbers-out a (suc n) i (inl e) = (omega (arith, e), omega (arith, e))
in-numbers-out a (suc n) i (inr h) = let r = in-numbers-out (suc a) n i h in (omega (arith, r.0), omega (arith, r.1))

abbrev pub Pairwise : {X : Type 0} → (X → X → Type 0) → List X → Type 0
Pairwise R [] = ⊤
Pairwise {X} R (x ∷ xs) = ((y : X) → In y xs → R x y) × Pairwise R xs

pub pairwise-append : {X : Type 0} (R : X → X → Type 0) (xs ys : List X) → Pairwise R xs → Pairwise R ys → ((x y : X) → In x xs → In y ys → R x y) → Pairwise R (xs ++ ys)
pairwise-append R [] ys h k c = k
pairwise-append {X} R (x ∷ xs) ys h k c = (λ y m. by y (in-append-out y xs ys m), pairwise-append R xs ys h.1 k (λ z y m n. c z y (inr m) n)) where
  by : (y : X) → In y xs ⊎ In y ys → R x y
  by y (inl m) = h.0 y m
  by y (inr m) = c x y (inl refl) m

pub pairwise-flat : {Y : Type 0} (R : Y → Y → Type 0) (f : ℕ → List Y) → ((v : ℕ) → Pairwise R (f v)) → ((u v : ℕ) (y z : Y) → u < v → In y (f u) → In z (f v) → R y z) → (a n : ℕ) → Pairwise R (flat_map f (numbers_from a n))
pairwise-flat R f each cross a zero = tt
pairwise-flat {Y} R f each cross a (suc n) =
    pairwise-append R (f a) (flat_map f (numbers_from (suc a) n)) (each a) (pairwise-flat R f each cross (suc a) n)
    (λ y z m k. let r = in-flat-out f z (numbers_from (suc a) n) k in let b = in-numbers-out (suc a) n r.0 r.1 in cross a r.0 y z (omega (arith, b.0)) m r.2)

pub pairwise-numbers : {Y : Type 0} (R : Y → Y → Type 0) (h : ℕ → Y) → ((i j : ℕ) → i < j → R (h i) (h j)) → (a n : ℕ) → Pairwise R (map h (numbers_from a n))
pairwise-numbers R h less a zero = tt
pairwise-numbers R h less a (suc n) =
    (λ y m. (let r = in-map-out h y (numbers_from (suc a) n) m in let b = in-numbers-out (suc a) n r.0 r.1 in subst (R (h a)) (sym r.2) (less a r.0 (omega (arith, b.0)))), pairwise-numbers R h less (suc a) n)

pub filter_map-same : {X Y : Type 0} (f h : X → Option Y) (xs : List X) → ((x : X) → In x xs → f x ≡ h x) → filter_map f xs ≡ filter_map h xs
filter_map-same f h [] e = refl
filter_map-same f h (x ∷ xs) e = ap (λ o. cons_option o (filter_map f xs)) (e x (inl refl)) ∙ ap (cons_option (h x)) (filter_map-same f h xs (λ y m. e y (inr m)))
