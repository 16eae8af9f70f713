-- Lists of lists, and lists that grow at their end.
use Rattle.std.specs.Prelude.{◌≡◌, ℕ, suc, ◌+◌, ◌<◌, Bool, true, false, if◌then◌else◌, List, [], ◌∷◌, ◌++◌, map, length, slice_get, Some, refl}
use Rattle.std.specs.List.{filter, flat_map, enumerate_from}
use Rattle.std.proofs.Common.{ap, sym, ◌∙◌, arith, subst, append_assoc, take, get_or, add-zero, add-one, inl, inr, ◌⊎◌}
use Rattle.std.proofs.lemmas.List.{take_more}
use Rattle.tez_lists.specs.Numbers.{In}

pub append-nil : {X : Type 0} (xs : List X) → xs ++ [] ≡ xs
append-nil [] = refl
append-nil (x ∷ xs) = ap (λ ys. x ∷ ys) (append-nil xs)

pub flat-append : {X Y : Type 0} (f : X → List Y) (xs ys : List X) → flat_map f (xs ++ ys) ≡ flat_map f xs ++ flat_map f ys
flat-append f [] ys = refl
flat-append f (x ∷ xs) ys = ap (λ zs. f x ++ zs) (flat-append f xs ys) ∙ sym (append_assoc (f x) (flat_map f xs) (flat_map f ys))

-- a loop that adds f of each element
pub flat_more : {X Y : Type 0} (f : X → List Y) (xs : List X) (start was now : List Y) (i : ℕ) (x : X) → i < length xs → was ≡ start ++ flat_map f (take i xs)
    → x ≡ get_or xs i x → now ≡ was ++ f x → now ≡ start ++ flat_map f (take (i + 1) xs)
flat_more f xs start was now i x b w is n =
    let last : flat_map f (take (i + 1) xs) ≡ flat_map f (take i xs) ++ f x =
    ap (flat_map f) (take_more xs i x b ∙ ap (λ y. take i xs ++ y ∷ []) (sym is)) ∙ flat-append f (take i xs) (x ∷ []) ∙ ap (λ ys. flat_map f (take i xs) ++ ys) (append-nil (f x)) in
    n ∙ ap (λ ys. ys ++ f x) w ∙ append_assoc start (flat_map f (take i xs)) (f x) ∙ ap (λ ys. start ++ ys) (sym last)

pub flat_same : {X Y : Type 0} (f h : X → List Y) (xs : List X) → ((x : X) → In x xs → f x ≡ h x) → flat_map f xs ≡ flat_map h xs
flat_same f h [] s = refl
flat_same f h (x ∷ xs) s = let here = s x (inl refl) in let rest = flat_same f h xs (λ y i. s y (inr i)) in cc

pub flat_map-map : {X Y Z : Type 0} (f : Y → List Z) (h : X → Y) (xs : List X) → flat_map f (map h xs) ≡ flat_map (λ x. f (h x)) xs
flat_map-map f h [] = refl
flat_map-map f h (x ∷ xs) = ap (λ zs. f (h x) ++ zs) (flat_map-map f h xs)

pub filter-append : {X : Type 0} (p : X → Bool) (xs ys : List X) → filter p (xs ++ ys) ≡ filter p xs ++ filter p ys
filter-append p [] ys = refl
filter-append p (x ∷ xs) ys = by (p x) (filter-append p xs ys) where
  by : (b : Bool) → filter p (xs ++ ys) ≡ filter p xs ++ filter p ys → (if b then x ∷ filter p (xs ++ ys) else filter p (xs ++ ys)) ≡ (if b then x ∷ filter p xs else filter p xs) ++ filter p ys
  by true e = ap (λ zs. x ∷ zs) e
  by false e = e

pub map-append' : {X Y : Type 0} (f : X → Y) (xs ys : List X) → map f (xs ++ ys) ≡ map f xs ++ map f ys
map-append' f [] ys = refl
map-append' f (x ∷ xs) ys = ap (λ zs. f x ∷ zs) (map-append' f xs ys)

-- what is left of lists put together, part by part
pub map-filter-flat : {X Y Z : Type 0} (f : Y → Z) (p : Y → Bool) (h : X → List Y) (xs : List X) → map f (filter p (flat_map h xs)) ≡ flat_map (λ x. map f (filter p (h x))) xs
map-filter-flat f p h [] = refl
map-filter-flat f p h (x ∷ xs) =
    ap (map f) (filter-append p (h x) (flat_map h xs)) ∙ map-append' f (filter p (h x)) (filter p (flat_map h xs)) ∙ ap (λ zs. map f (filter p (h x)) ++ zs) (map-filter-flat f p h xs)

pub in-filter-out : {X : Type 0} (p : X → Bool) (x : X) (xs : List X) → In x (filter p xs) → In x xs
in-filter-out p x [] h = h
in-filter-out p x (y ∷ ys) h = by (p y) h (in-filter-out p x ys) where
  by : (b : Bool) → In x (if b then y ∷ filter p ys else filter p ys) → (In x (filter p ys) → In x ys) → (x ≡ y) ⊎ In x ys
  by true (inl e) ih = inl e
  by true (inr e) ih = inr (ih e)
  by false e ih = inr (ih e)

pub numbered : {X Y : Type 0} (f : X → Y) (n : ℕ) (xs : List X) (e : ℕ × X) → In e (enumerate_from n xs) → (k : ℕ) × (e.0 ≡ n + k) × (slice_get (map f xs) k ≡ Some (f e.1))
numbered f n [] e h = absurd h
numbered f n (x ∷ xs) e (inl h) = (0, ap (λ y. y.0) h ∙ sym (add-zero n), ap (λ y. Some (f y.1)) (sym h))
numbered f n (x ∷ xs) e (inr h) = let r = numbered f (suc n) xs e (subst (λ m. In e (enumerate_from m xs)) (add-one n) h) in (suc r.0, r.1 ∙ omega arith, r.2)
