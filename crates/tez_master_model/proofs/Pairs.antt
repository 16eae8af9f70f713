-- Lists whose elements are in order pairwise, and the last of them that passes a test.
use Rattle.std.specs.Prelude.{◌≡◌, ◌⊎◌, ◌||◌, ℕ, zero, suc, ◌+◌, ◌<◌, ◌≤◌, ⊤, Bool, true, false, if◌then◌else◌, List, [], ◌∷◌, ◌++◌, map, reverse, Option, Some, None, is_some, refl}
use Rattle.std.specs.List.{filter, filter_map, cons_option, flat_map, find, list_any}
use Rattle.std.specs.Option.{option_map}
use Rattle.std.proofs.Common.{ap, sym, ◌∙◌, subst, arith, inl, inr}
use Rattle.std.proofs.lemmas.List.{reverse-append}
use Rattle.std.proofs.lemmas.Option.{same_Some}
use Rattle.tez_lists.specs.Numbers.{numbers_from, In}
use Rattle.tez_lists.proofs.Flat.{in-filter-out}
use Rattle.std.proofs.lemmas.Bool.{cases_lt}

-- ---- members

pub in-append-out : {X : Type 0} (x : X) (xs ys : List X) → In x (xs ++ ys) → In x xs ⊎ In x ys
in-append-out x [] ys h = inr h
in-append-out x (y ∷ ys) zs (inl e) = inl (inl e)
in-append-out x (y ∷ ys) zs (inr h) = by (in-append-out x ys zs h) where
  by : In x ys ⊎ In x zs → In x (y ∷ ys) ⊎ In x zs
  by (inl k) = inl (inr k)
  by (inr k) = inr k

pub in-flat-out : {X Y : Type 0} (f : X → List Y) (y : Y) (xs : List X) → In y (flat_map f xs) → (x : X) × In x xs × In y (f x)
in-flat-out f y [] h = absurd h
in-flat-out {X} {Y} f y (x ∷ xs) h = by (λ m. in-flat-out f y xs m) (in-append-out y (f x) (flat_map f xs) h) where
  by : (In y (flat_map f xs) → (z : X) × In z xs × In y (f z)) → In y (f x) ⊎ In y (flat_map f xs) → (z : X) × In z (x ∷ xs) × In y (f z)
  by ih (inl k) = (x, inl refl, k)
  by ih (inr k) = let r = ih k in (r.0, inr r.1, r.2)

pub in-map-out : {X Y : Type 0} (f : X → Y) (y : Y) (xs : List X) → In y (map f xs) → (x : X) × In x xs × (y ≡ f x)
in-map-out f y [] h = absurd h
in-map-out f y (x ∷ xs) (inl e) = (x, inl refl, e)
in-map-out f y (x ∷ xs) (inr h) = let r = in-map-out f y xs h in (r.0, inr r.1, r.2)

pub in-filter-passes : {X : Type 0} (p : X → Bool) (x : X) (xs : List X) → In x (filter p xs) → p x ≡ true
in-filter-passes p x [] h = absurd h
in-filter-passes {X} p x (y ∷ ys) h = by (λ k. in-filter-passes p x ys k) (p y) refl h where
  by : (In x (filter p ys) → p x ≡ true) → (b : Bool) → p y ≡ b → In x (if b then y ∷ filter p ys else filter p ys) → p x ≡ true
  by ih true e (inl s) = ap p s ∙ e
  by ih true e (inr k) = ih k
  by ih false e k = ih k

pub in-filter_map-out : {X Y : Type 0} (h : X → Option Y) (y : Y) (xs : List X) → In y (filter_map h xs) → (x : X) × In x xs × (h x ≡ Some y)
in-filter_map-out h y [] k = absurd k
in-filter_map-out {X} {Y} h y (x ∷ xs) k = by (λ m. in-filter_map-out h y xs m) (h x) refl k where
  by : (In y (filter_map h xs) → (z : X) × In z xs × (h z ≡ Some y)) → (o : Option Y) → h x ≡ o → In y (cons_option o (filter_map h xs)) → (z : X) × In z (x ∷ xs) × (h z ≡ Some y)
  by ih None e m = let r = ih m in (r.0, inr r.1, r.2)
  by ih (Some z) e (inl s) = (x, inl refl, e ∙ ap Some (sym s))
  by ih (Some z) e (inr m) = let r = ih m in (r.0, inr r.1, r.2)

in-cons_option : {Y : Type 0} (y : Y) (o : Option Y) (ys : List Y) → In y ys → In y (cons_option o ys)
in-cons_option y None ys h = h
in-cons_option y (Some z) ys h = inr h

pub in_filter_map : {X Y : Type 0} (h : X → Option Y) (x : X) (y : Y) (xs : List X) → In x xs → h x ≡ Some y → In y (filter_map h xs)
in_filter_map h x y [] k e = absurd k
in_filter_map h x y (z ∷ zs) (inl s) e = subst (λ o. In y (cons_option o (filter_map h zs))) (sym (ap h (sym s) ∙ e)) (inl refl)
in_filter_map h x y (z ∷ zs) (inr k) e = in-cons_option y (h z) (filter_map h zs) (in_filter_map h x y zs k e)

pub in_numbers : (a n i : ℕ) → a ≤ i → i < a + n → In i (numbers_from a n)
in_numbers a zero i l b = absurd (omega arith)
in_numbers a (suc n) i l b = by (λ u w. in_numbers (suc a) n i u w) (cases_lt a i) where
  by : (suc a ≤ i → i < suc a + n → In i (numbers_from (suc a) n)) → (a < i) ⊎ (i ≤ a) → In i (a ∷ numbers_from (suc a) n)
  by rest (inl k) = inr (rest (omega arith) (omega arith))
  by rest (inr k) = let e : i ≡ a = omega arith in inl e

pub in-numbers-out : (a n i : ℕ) → In i (numbers_from a n) → (a ≤ i) × (i < a + n)
in-numbers-out a zero i h = absurd h
in-numbers-out a (suc n) i (inl e) = (omega (arith, e), omega (arith, e))
in-numbers-out a (suc n) i (inr h) = let r = in-numbers-out (suc a) n i h in (omega (arith, r.0), omega (arith, r.1))

pub in_reverse : {X : Type 0} (x : X) (xs : List X) → In x (reverse xs) → In x xs
in_reverse x [] h = h
in_reverse x (y ∷ ys) h = by (λ k. in_reverse x ys k) (in-append-out x (reverse ys) (y ∷ []) (subst (In x) (reverse-append (y ∷ []) ys) h)) where
  by : (In x (reverse ys) → In x ys) → In x (reverse ys) ⊎ In x (y ∷ []) → In x (y ∷ ys)
  by ih (inl k) = inr (ih k)
  by ih (inr (inl e)) = inl e
  by ih (inr (inr k)) = absurd k

-- ---- pairs

abbrev pub Pairwise : {X : Type 0} → (X → X → Type 0) → List X → Type 0
Pairwise R [] = ⊤
Pairwise {X} R (x ∷ xs) = ((y : X) → In y xs → R x y) × Pairwise R xs

pub pairwise-append : {X : Type 0} (R : X → X → Type 0) (xs ys : List X) → Pairwise R xs → Pairwise R ys → ((x y : X) → In x xs → In y ys → R x y) → Pairwise R (xs ++ ys)
pairwise-append R [] ys h k c = k
pairwise-append {X} R (x ∷ xs) ys h k c = (λ y m. by y (in-append-out y xs ys m), pairwise-append R xs ys h.1 k (λ z y m n. c z y (inr m) n)) where
  by : (y : X) → In y xs ⊎ In y ys → R x y
  by y (inl m) = h.0 y m
  by y (inr m) = c x y (inl refl) m

pub pairwise-flat : {Y : Type 0} (R : Y → Y → Type 0) (f : ℕ → List Y) → ((v : ℕ) → Pairwise R (f v)) → ((u v : ℕ) (y z : Y) → u < v → In y (f u) → In z (f v) → R y z) → (a n : ℕ) → Pairwise R (flat_map f (numbers_from a n))
pairwise-flat R f each cross a zero = tt
pairwise-flat {Y} R f each cross a (suc n) =
    pairwise-append R (f a) (flat_map f (numbers_from (suc a) n)) (each a) (pairwise-flat R f each cross (suc a) n)
    (λ y z m k. let r = in-flat-out f z (numbers_from (suc a) n) k in let b = in-numbers-out (suc a) n r.0 r.1 in cross a r.0 y z (omega (arith, b.0)) m r.2)

pub pairwise-numbers : {Y : Type 0} (R : Y → Y → Type 0) (h : ℕ → Y) → ((i j : ℕ) → i < j → R (h i) (h j)) → (a n : ℕ) → Pairwise R (map h (numbers_from a n))
pairwise-numbers R h less a zero = tt
pairwise-numbers R h less a (suc n) =
    (λ y m. (let r = in-map-out h y (numbers_from (suc a) n) m in let b = in-numbers-out (suc a) n r.0 r.1 in subst (R (h a)) (sym r.2) (less a r.0 (omega (arith, b.0)))), pairwise-numbers R h less (suc a) n)

pub pairwise-filter : {X : Type 0} (R : X → X → Type 0) (p : X → Bool) (xs : List X) → Pairwise R xs → Pairwise R (filter p xs)
pairwise-filter R p [] h = tt
pairwise-filter R p (x ∷ xs) h = by (pairwise-filter R p xs h.1) (p x) where
  by : Pairwise R (filter p xs) → (b : Bool) → Pairwise R (if b then x ∷ filter p xs else filter p xs)
  by rest true = (λ y m. h.0 y (in-filter-out p y xs m), rest)
  by rest false = rest

pub pairwise-filter_map : {X Y : Type 0} (R : X → X → Type 0) (S : Y → Y → Type 0) (h : X → Option Y) → ((x z : X) (y w : Y) → R x z → h x ≡ Some y → h z ≡ Some w → S y w) → (xs : List X) → Pairwise R xs → Pairwise S (filter_map h xs)
pairwise-filter_map R S h moves [] p = tt
pairwise-filter_map {X} {Y} R S h moves (x ∷ xs) p = by (pairwise-filter_map R S h moves xs p.1) (h x) refl where
  by : Pairwise S (filter_map h xs) → (o : Option Y) → h x ≡ o → Pairwise S (cons_option o (filter_map h xs))
  by rest None e = rest
  by rest (Some y) e = (λ w m. (let r = in-filter_map-out h w xs m in moves x r.0 y w (p.0 r.0 r.1) e r.2), rest)

pub pairwise-refine : {X : Type 0} (R S : X → X → Type 0) (xs : List X) → ((x y : X) → In x xs → In y xs → R x y → S x y) → Pairwise R xs → Pairwise S xs
pairwise-refine R S [] f h = tt
pairwise-refine R S (x ∷ xs) f h = (λ y m. f x y (inl refl) (inr m) (h.0 y m), pairwise-refine R S xs (λ z y m n. f z y (inr m) (inr n)) h.1)

-- ---- searches

abbrev pub either_of : {X : Type 0} → Option X → Option X → Option X
either_of None o = o
either_of (Some x) o = Some x

pub find-append : {X : Type 0} (p : X → Bool) (xs ys : List X) → find p (xs ++ ys) ≡ either_of (find p xs) (find p ys)
find-append p [] ys = refl
find-append p (x ∷ xs) ys = by (find-append p xs ys) (p x) where
  by : find p (xs ++ ys) ≡ either_of (find p xs) (find p ys) → (b : Bool) → (if b then Some x else find p (xs ++ ys)) ≡ either_of (if b then Some x else find p xs) (find p ys)
  by ih true = refl
  by ih false = ih

-- the last that passes
abbrev pub last_of : {X : Type 0} → (X → Bool) → List X → Option X
last_of p [] = None
last_of p (x ∷ xs) = either_of (last_of p xs) (if p x then Some x else None)

pub find-reverse : {X : Type 0} (p : X → Bool) (xs : List X) → find p (reverse xs) ≡ last_of p xs
find-reverse p [] = refl
find-reverse p (x ∷ xs) =
    ap (find p) (reverse-append (x ∷ []) xs) ∙ find-append p (reverse xs) (x ∷ []) ∙ ap (λ o. either_of o (if p x then Some x else None)) (find-reverse p xs)

pub last_none : {X : Type 0} (p : X → Bool) (xs : List X) → last_of p xs ≡ None → (a : X) → In a xs → p a ≡ false
last_none p [] h a m = absurd m
last_none {X} p (x ∷ xs) h a m = by (λ e k. last_none p xs e a k) (last_of p xs) refl h m where
  by : (last_of p xs ≡ None → In a xs → p a ≡ false) → (o : Option X) → last_of p xs ≡ o → either_of o (if p x then Some x else None) ≡ None → In a (x ∷ xs) → p a ≡ false
  by ih (Some u) e k n = cc
  by ih None e k (inr n) = ih e n
  by ih None e k (inl s) = at (p x) refl k where
    at : (b : Bool) → p x ≡ b → (if b then Some x else None) ≡ None → p a ≡ false
    at true t q = cc
    at false t q = ap p s ∙ t

pub record IsLast {X : Type 0} (R : X → X → Type 0) (p : X → Bool) (xs : List X) (v : X) : Type 0 where
  pub among : In v xs
  pub passes : p v ≡ true
  pub latest : (a : X) → In a xs → p a ≡ true → (a ≡ v) ⊎ R a v

pub last_some : {X : Type 0} (R : X → X → Type 0) (p : X → Bool) (xs : List X) (v : X) → Pairwise R xs → last_of p xs ≡ Some v → IsLast R p xs v
last_some R p [] v h e = cc
last_some {X} R p (x ∷ xs) v h e = by (λ k. last_some R p xs v h.1 k) (λ n a m. last_none p xs n a m) (last_of p xs) refl e where
  by : (last_of p xs ≡ Some v → IsLast R p xs v) → (last_of p xs ≡ None → (a : X) → In a xs → p a ≡ false) → (o : Option X) → last_of p xs ≡ o → either_of o (if p x then Some x else None) ≡ Some v → IsLast R p (x ∷ xs) v
  by ih nowhere (Some u) k f =
      let r = ih (k ∙ f) in
      record { among = inr r.among; passes = r.passes; latest = λ a m t. at r a m t } where
        at : IsLast R p xs v → (a : X) → In a (x ∷ xs) → p a ≡ true → (a ≡ v) ⊎ R a v
        at r a (inl s) t = inr (subst (λ y. R y v) (sym s) (h.0 v r.among))
        at r a (inr m) t = r.latest a m t
  by ih nowhere None k f = here (p x) refl f where
    here : (b : Bool) → p x ≡ b → (if b then Some x else None) ≡ Some v → IsLast R p (x ∷ xs) v
    here false t q = cc
    here true t q =
        let s : x ≡ v = same_Some x v q in
        record { among = inl (sym s); passes = ap p (sym s) ∙ t; latest = λ a m u. at a m u } where
          at : (a : X) → In a (x ∷ xs) → p a ≡ true → (a ≡ v) ⊎ R a v
          at a (inl e) u = inl (e ∙ same_Some x v q)
          at a (inr m) u = let never_so : true ≡ false = sym u ∙ nowhere k a m in cc

pub find-map : {X Y : Type 0} (p : Y → Bool) (f : X → Y) (xs : List X) → find p (map f xs) ≡ option_map f (find (λ x. p (f x)) xs)
find-map p f [] = refl
find-map p f (x ∷ xs) = by (find-map p f xs) (p (f x)) where
  by : find p (map f xs) ≡ option_map f (find (λ x. p (f x)) xs) → (b : Bool) → (if b then Some (f x) else find p (map f xs)) ≡ option_map f (if b then Some x else find (λ x. p (f x)) xs)
  by ih true = refl
  by ih false = ih

pub find-same : {X : Type 0} (p q : X → Bool) (xs : List X) → ((x : X) → In x xs → p x ≡ q x) → find p xs ≡ find q xs
find-same p q [] h = refl
find-same p q (x ∷ xs) h =
    ap (λ b. if b then Some x else find p xs) (h x (inl refl)) ∙ ap (λ o. if q x then Some x else o) (find-same p q xs (λ y m. h y (inr m)))

pub find-nowhere : {X : Type 0} (p : X → Bool) (xs : List X) → ((x : X) → p x ≡ false) → find p xs ≡ None
find-nowhere p [] h = refl
find-nowhere p (x ∷ xs) h = ap (λ b. if b then Some x else find p xs) (h x) ∙ find-nowhere p xs h

pub any_in : {X : Type 0} (t : X → Bool) (x : X) (xs : List X) → In x xs → t x ≡ true → list_any t xs ≡ true
any_in t x [] m e = absurd m
any_in t x (y ∷ ys) (inl s) e = let here : t y ≡ true = ap t (sym s) ∙ e in ap (λ b. b || list_any t ys) here
any_in t x (y ∷ ys) (inr m) e = by (t y) (any_in t x ys m e) where
  by : (b : Bool) → list_any t ys ≡ true → (b || list_any t ys) ≡ true
  by true k = refl
  by false k = k

pub any_none : {X : Type 0} (t : X → Bool) (xs : List X) → ((x : X) → In x xs → t x ≡ false) → list_any t xs ≡ false
any_none t [] h = refl
any_none t (y ∷ ys) h = ap (λ b. b || list_any t ys) (h y (inl refl)) ∙ any_none t ys (λ x m. h x (inr m))

pub any_found : {X : Type 0} (t : X → Bool) (xs : List X) → list_any t xs ≡ is_some (find t xs)
any_found t [] = refl
any_found t (x ∷ xs) = by (any_found t xs) (t x) where
  by : list_any t xs ≡ is_some (find t xs) → (b : Bool) → (b || list_any t xs) ≡ is_some (if b then Some x else find t xs)
  by ih true = refl
  by ih false = ih
