-- Numbers that rise, the sinks among them: the first without a property, the one at a place, and how many come before it.
use Rattle.std.specs.Prelude.{◌≡◌, ◌⊎◌, ℕ, zero, suc, ◌<◌, ◌==◌, ◌&&◌, nat_lt, Bool, true, false, ⊤, if◌then◌else◌, List, [], ◌∷◌, length, slice_get, Option, Some, None, option_and_then, refl}
use Rattle.std.specs.List.{filter, find, list_any, list_all}
use Rattle.std.specs.Option.{option_map_or}
use Rattle.std.proofs.Common.{inl, inr, ap, sym, ◌∙◌, arith, subst}
use Rattle.std.proofs.lemmas.Bool.{eqb-true}
use Rattle.std.proofs.lemmas.Bool.Decides.{nat_tests}
use Rattle.std.proofs.lemmas.Option.{same_Some}
use Rattle.tez_lists.specs.Numbers.{numbers_from, In}
use Rattle.tez_lists.proofs.Flat.{in-filter-out}
use Rattle.tez_plan.specs.Dag.{Dag}
use Rattle.tez_history.specs.Shape.{vertices, is_vertex, has_sink, sinks}
use Rattle.tez_history.specs.Steps.{is_first_without}
use Rattle.tez_laws.proofs.Opening.{all_hold}
use Rattle.tez_laws.proofs.Feeding.{from-below}

-- ---- numbers that rise

abbrev pub AllAbove : ℕ → List ℕ → Type 0
AllAbove n [] = ⊤
AllAbove n (x ∷ xs) = (n < x) × AllAbove n xs

abbrev pub Rises : List ℕ → Type 0
Rises [] = ⊤
Rises (x ∷ xs) = AllAbove x xs × Rises xs

above_numbers : (n a k : ℕ) → n < a → AllAbove n (numbers_from a k)
above_numbers n a zero h = tt
above_numbers n a (suc k) h = (h, above_numbers n (suc a) k (omega arith))

pub numbers_rise : (a k : ℕ) → Rises (numbers_from a k)
numbers_rise a zero = tt
numbers_rise a (suc k) = (above_numbers a (suc a) k (omega arith), numbers_rise (suc a) k)

above_filter : (n : ℕ) (p : ℕ → Bool) (xs : List ℕ) → AllAbove n xs → AllAbove n (filter p xs)
above_filter n p [] h = tt
above_filter n p (x ∷ xs) h = by (p x) (above_filter n p xs h.1) where
  by : (b : Bool) → AllAbove n (filter p xs) → AllAbove n (if b then x ∷ filter p xs else filter p xs)
  by true ih = (h.0, ih)
  by false ih = ih

rises_filter : (p : ℕ → Bool) (xs : List ℕ) → Rises xs → Rises (filter p xs)
rises_filter p [] h = tt
rises_filter p (x ∷ xs) h = by (p x) (rises_filter p xs h.1) where
  by : (b : Bool) → Rises (filter p xs) → Rises (if b then x ∷ filter p xs else filter p xs)
  by true ih = (above_filter x p xs h.0, ih)
  by false ih = ih

above_in : (n u : ℕ) (xs : List ℕ) → AllAbove n xs → In u xs → n < u
above_in n u [] h i = absurd i
above_in n u (x ∷ xs) h (inl e) = subst (λ y. n < y) (sym e) h.0
above_in n u (x ∷ xs) h (inr i) = above_in n u xs h.1 i

-- ---- the first one without

-- it is one of them, and does not have it; those before it have it
pub first_in : (has : ℕ → Bool) (xs : List ℕ) (v : ℕ) → is_first_without has xs v ≡ true → In v xs × (has v ≡ false)
first_in has [] v h = cc
first_in has (x ∷ xs) v h = by (has x) refl h (first_in has xs v) where
  by : (b : Bool) → has x ≡ b → (if b then is_first_without has xs v else x == v) ≡ true → (is_first_without has xs v ≡ true → In v xs × (has v ≡ false)) → In v (x ∷ xs) × (has v ≡ false)
  by true e k ih = (inr (ih k).0, (ih k).1)
  by false e k ih = let same : x ≡ v = eqb-true x v k in (inl (sym same), subst (λ y. has y ≡ false) same e)

pub had_before : (has : ℕ → Bool) (xs : List ℕ) (v u : ℕ) → Rises xs → is_first_without has xs v ≡ true → In u xs → u < v → has u ≡ true
had_before has [] v u r h i low = absurd i
had_before has (x ∷ xs) v u r h i low = by (has x) refl h i (had_before has xs v u r.1) where
  by : (b : Bool) → has x ≡ b → (if b then is_first_without has xs v else x == v) ≡ true → (u ≡ x) ⊎ In u xs
      → (is_first_without has xs v ≡ true → In u xs → u < v → has u ≡ true) → has u ≡ true
  by true e k (inl s) ih = ap has s ∙ e
  by true e k (inr j) ih = ih k j low
  by false e k (inl s) ih = let same : x ≡ v = eqb-true x v k in absurd (omega (arith, low, s, same))
  by false e k (inr j) ih = let same : x ≡ v = eqb-true x v k in let over : x < u = above_in x u xs r.0 j in absurd (omega (arith, low, same, over))

-- ---- the one at a place

above_at : (n : ℕ) (xs : List ℕ) (k v : ℕ) → AllAbove n xs → slice_get xs k ≡ Some v → n < v
above_at n [] k v a h = cc
above_at n (x ∷ xs) zero v a h = let same : x ≡ v = same_Some x v h in subst (λ y. n < y) same a.0
above_at n (x ∷ xs) (suc k) v a h = above_at n xs k v a.1 h

none_before : (n : ℕ) (xs : List ℕ) → AllAbove n xs → length (filter (λ w. nat_lt w n) xs) ≡ 0
none_before n [] a = refl
none_before n (x ∷ xs) a = let low : nat_lt x n ≡ false = (let over : n < x = a.0 in grind (arith, nat_tests)) in ap (λ b. length (if b then x ∷ filter (λ w. nat_lt w n) xs else filter (λ w. nat_lt w n) xs)) low ∙ none_before n xs a.1

pub before_at : (xs : List ℕ) (k v : ℕ) → Rises xs → slice_get xs k ≡ Some v → length (filter (λ w. nat_lt w v) xs) ≡ k
before_at [] k v r h = cc
before_at (x ∷ xs) zero v r h =
    let same : x ≡ v = same_Some x v h in
    let here : nat_lt x x ≡ false = grind (arith, nat_tests) in
    subst (λ y. length (filter (λ w. nat_lt w y) (x ∷ xs)) ≡ 0) same
    (ap (λ b. length (if b then x ∷ filter (λ w. nat_lt w x) xs else filter (λ w. nat_lt w x) xs)) here ∙ none_before x xs r.0)
before_at (x ∷ xs) (suc k) v r h =
    let over : x < v = above_at x xs k v r.0 h in
    let low : nat_lt x v ≡ true = grind (arith, nat_tests) in
    ap (λ b. length (if b then x ∷ filter (λ w. nat_lt w v) xs else filter (λ w. nat_lt w v) xs)) low ∙ ap suc (before_at xs k v r.1 h)

-- ---- the first that is at a place and passes a test

abbrev is_at : Option ℕ → ℕ → Bool
is_at o v = option_map_or (λ w. w == v) o false

abbrev passing : (ℕ → Bool) → Option ℕ → Option ℕ
passing t o = option_and_then (λ v. if t v then Some v else None) o

nowhere : (t : ℕ → Bool) (x : ℕ) (xs : List ℕ) → AllAbove x xs → find (λ v. (x == v) && t v) xs ≡ None
nowhere t x [] a = refl
nowhere t x (y ∷ ys) a =
    let other : (x == y) ≡ false = (let over : x < y = a.0 in grind (arith, nat_tests)) in
    ap (λ b. if b && t y then Some y else find (λ v. (x == v) && t v) ys) other ∙ nowhere t x ys a.1

pub find_at : (t : ℕ → Bool) (xs : List ℕ) (k : ℕ) → Rises xs → find (λ v. is_at (slice_get xs k) v && t v) xs ≡ passing t (slice_get xs k)
find_at t [] k r = refl
find_at t (x ∷ xs) zero r =
    let itself : (x == x) ≡ true = grind (arith, nat_tests) in
    ap (λ b. if b && t x then Some x else find (λ v. (x == v) && t v) xs) itself ∙ by (t x) where
      by : (b : Bool) → (if b then Some x else find (λ v. (x == v) && t v) xs) ≡ (if b then Some x else None)
      by true = refl
      by false = nowhere t x xs r.0
find_at t (x ∷ xs) (suc k) r = ap (λ b. if b && t x then Some x else find (λ v. is_at (slice_get xs k) v && t v) xs) (by (slice_get xs k) refl) ∙ find_at t xs k r.1 where
  by : (o : Option ℕ) → slice_get xs k ≡ o → is_at o x ≡ false
  by None e = refl
  by (Some w) e = let over : x < w = above_at x xs k w r.0 e in grind (arith, nat_tests)

-- ---- sinks

pub passes-filter : (p : ℕ → Bool) (x : ℕ) (xs : List ℕ) → In x (filter p xs) → p x ≡ true
passes-filter p x [] h = absurd h
passes-filter p x (y ∷ ys) h = by (p y) refl h (passes-filter p x ys) where
  by : (b : Bool) → p y ≡ b → In x (if b then y ∷ filter p ys else filter p ys) → (In x (filter p ys) → p x ≡ true) → p x ≡ true
  by true e (inl s) ih = ap p s ∙ e
  by true e (inr i) ih = ih i
  by false e i ih = ih i

pub sinks_rise : (g : Dag) → Rises (sinks g)
sinks_rise g = rises_filter (has_sink g) (vertices g) (numbers_rise 0 (length g.vertices))

pub sink_is_vertex : (g : Dag) (v : ℕ) → In v (sinks g) → is_vertex g v ≡ true
sink_is_vertex g v h = let below : v < length g.vertices = from-below (length g.vertices) v (in-filter-out (has_sink g) v (vertices g) h) in grind (arith, nat_tests)

pub none_pass : {X : Type 0} (p : X → Bool) (xs : List X) → ((x : X) → In x xs → p x ≡ false) → list_any p xs ≡ false
none_pass p [] h = refl
none_pass p (x ∷ xs) h = rw (h x (inl refl), none_pass p xs (λ y i. h y (inr i))) refl

-- ---- a test that all pass where a stronger one does

pub all_less : {X : Type 0} (p q : X → Bool) (xs : List X) → ((x : X) → p x ≡ true → q x ≡ true) → list_all p xs ≡ true → list_all q xs ≡ true
all_less p q [] f h = refl
all_less p q (x ∷ xs) f h = by (p x) refl h (all_less p q xs f) where
  by : (b : Bool) → p x ≡ b → (b && list_all p xs) ≡ true → (list_all p xs ≡ true → list_all q xs ≡ true) → (q x && list_all q xs) ≡ true
  by true e k ih = all_hold (q x) (list_all q xs) (f x e) (ih k)
  by false e k ih = cc
