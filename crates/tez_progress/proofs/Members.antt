-- Members of lists, and what searches, tests and counts over lists tell.
use Rattle.std.specs.Prelude.{◌≡◌, ◌≢◌, ◌⊎◌, ℕ, zero, suc, ◌+◌, ◌<◌, ◌≤◌, ◌==◌, Bool, true, false, ◌&&◌, ◌||◌, if◌then◌else◌, List, [], ◌∷◌, length, reverse, Option, Some, None, is_some, refl}
use Rattle.std.specs.List.{filter, find, filter_map, cons_option, list_all, list_any, count_by, AllByRecursion}
use Rattle.std.proofs.Common.{inl, inr, ap, sym, ◌∙◌, arith, subst, cond}
use Rattle.std.proofs.lemmas.Bool.{eq-eqb, eqb-true}
use Rattle.std.proofs.lemmas.Bool.Decides.{eqb_tells}
use Rattle.std.proofs.lemmas.List.Sums.{sum_by-cons}
use mathlib.Core.List.{reverse-cons}
use Rattle.tez_lists.specs.Numbers.{numbers_from, In}
use Rattle.tez_lists.proofs.Cases.{cases}
use Rattle.tez_lists.proofs.Members.{in_append_left, in_append_right}
use Rattle.tez_history.specs.Steps.{is_first_without}

pub clash : {P : Type 0} {b : Bool} → b ≡ true → b ≡ false → P
clash h k = cc

pub true_and : {x y : Bool} → x ≡ true → y ≡ true → (x && y) ≡ true
true_and {x} {y} h k = rw (h, k) refl

-- ---- members

pub filter_in : {X : Type 0} (p : X → Bool) (x : X) (xs : List X) → In x (filter p xs) → In x xs × (p x ≡ true)
filter_in p x [] h = absurd h
filter_in p x (y ∷ xs) h = by (filter_in p x xs) (p y) refl h where
  by : (In x (filter p xs) → In x xs × (p x ≡ true)) → (b : Bool) → p y ≡ b → In x (if b then y ∷ filter p xs else filter p xs) → In x (y ∷ xs) × (p x ≡ true)
  by ih true e (inl s) = (inl s, subst (λ z. p z ≡ true) (sym s) e)
  by ih true e (inr m) = let k = ih m in (inr k.0, k.1)
  by ih false e m = let k = ih m in (inr k.0, k.1)

pub in_filter_map : {X Y : Type 0} (f : X → Option Y) (x : X) (y : Y) (xs : List X) → In x xs → f x ≡ Some y → In y (filter_map f xs)
in_filter_map f x y [] h k = absurd h
in_filter_map {X} {Y} f x y (z ∷ xs) h k = by (λ m. in_filter_map f x y xs m k) (f z) refl h where
  by : (In x xs → In y (filter_map f xs)) → (o : Option Y) → f z ≡ o → In x (z ∷ xs) → In y (cons_option o (filter_map f xs))
  by ih None e (inl s) = let t : f z ≡ Some y = subst (λ w. f w ≡ Some y) s k in cc
  by ih None e (inr m) = ih m
  by ih (Some w) e (inl s) = let t : f z ≡ Some y = subst (λ v. f v ≡ Some y) s k in inl (let u : Some y ≡ Some w = sym t ∙ e in cc)
  by ih (Some w) e (inr m) = inr (ih m)

pub in_numbers : (first n k : ℕ) → first ≤ k → k < first + n → In k (numbers_from first n)
in_numbers first zero k h l = absurd (omega arith)
in_numbers first (suc n) k h l = by (λ m. in_numbers (suc first) n k m (omega arith)) (eqb_tells k first) where
  by : (suc first ≤ k → In k (numbers_from (suc first) n)) → (((k == first) ≡ true) × (k ≡ first)) ⊎ (((k == first) ≡ false) × (k ≢ first)) → In k (numbers_from first (suc n))
  by ih (inl e) = inl e.1
  by ih (inr e) = inr (ih (omega (arith, e.1)))

pub numbers_in : (first n k : ℕ) → In k (numbers_from first n) → k < first + n
numbers_in first zero k h = absurd h
numbers_in first (suc n) k (inl e) = omega (arith, e)
numbers_in first (suc n) k (inr m) = let h : k < suc first + n = numbers_in (suc first) n k m in omega arith

pub in_reverse : {X : Type 0} (x : X) (xs : List X) → In x xs → In x (reverse xs)
in_reverse x [] h = absurd h
in_reverse x (y ∷ xs) (inl e) = subst (λ zs. In x zs) (sym (reverse-cons y xs)) (in_append_right x (reverse xs) (y ∷ []) (inl e))
in_reverse x (y ∷ xs) (inr h) = subst (λ zs. In x zs) (sym (reverse-cons y xs)) (in_append_left x (reverse xs) (y ∷ []) (in_reverse x xs h))

pub at_each : {X : Type 0} (P : X → Type 0) (x : X) (xs : List X) → AllByRecursion P xs → In x xs → P x
at_each P x [] all h = absurd h
at_each P x (y ∷ xs) all (inl e) = subst P (sym e) all.0
at_each P x (y ∷ xs) all (inr h) = at_each P x xs all.1 h

-- ---- tests

pub find_none : {X : Type 0} (p : X → Bool) (xs : List X) (x : X) → find p xs ≡ None → In x xs → p x ≡ false
find_none p [] x h m = absurd m
find_none p (y ∷ xs) x h m = by (find_none p xs x) (p y) refl h m where
  by : (find p xs ≡ None → In x xs → p x ≡ false) → (b : Bool) → p y ≡ b → (if b then Some y else find p xs) ≡ None → In x (y ∷ xs) → p x ≡ false
  by ih true e k i = cc
  by ih false e k (inl s) = subst (λ z. p z ≡ false) (sym s) e
  by ih false e k (inr i) = ih k i

pub find_some : {X : Type 0} (p : X → Bool) (xs : List X) (x : X) → find p xs ≡ Some x → In x xs × (p x ≡ true)
find_some p [] x h = cc
find_some p (y ∷ xs) x h = by (find_some p xs x) (p y) refl h where
  by : (find p xs ≡ Some x → In x xs × (p x ≡ true)) → (b : Bool) → p y ≡ b → (if b then Some y else find p xs) ≡ Some x → In x (y ∷ xs) × (p x ≡ true)
  by ih true e k = let s : x ≡ y = cc in (inl s, subst (λ z. p z ≡ true) (sym s) e)
  by ih false e k = let r = ih k in (inr r.0, r.1)

pub all_or : {X : Type 0} (p : X → Bool) (xs : List X) → (list_all p xs ≡ true) ⊎ ((x : X) × In x xs × (p x ≡ false))
all_or p [] = inl refl
all_or {X} p (y ∷ xs) = by (p y) refl (all_or p xs) where
  by : (b : Bool) → p y ≡ b → (list_all p xs ≡ true) ⊎ ((x : X) × In x xs × (p x ≡ false)) → ((b && list_all p xs) ≡ true) ⊎ ((x : X) × In x (y ∷ xs) × (p x ≡ false))
  by true e (inl h) = inl h
  by true e (inr h) = inr (h.0, inr h.1, h.2)
  by false e r = inr (y, inl refl, e)

pub any_or : {X : Type 0} (p : X → Bool) (xs : List X) → ((x : X) × In x xs × (p x ≡ true)) ⊎ (list_any p xs ≡ false)
any_or p [] = inr refl
any_or {X} p (y ∷ xs) = by (p y) refl (any_or p xs) where
  by : (b : Bool) → p y ≡ b → ((x : X) × In x xs × (p x ≡ true)) ⊎ (list_any p xs ≡ false) → ((x : X) × In x (y ∷ xs) × (p x ≡ true)) ⊎ ((b || list_any p xs) ≡ false)
  by true e r = inl (y, inl refl, e)
  by false e (inl r) = inl (r.0, inr r.1, r.2)
  by false e (inr n) = inr n

pub any_true : {X : Type 0} (p : X → Bool) (x : X) (xs : List X) → In x xs → p x ≡ true → list_any p xs ≡ true
any_true p x [] m h = absurd m
any_true p x (y ∷ xs) (inl e) h = ap (λ b. b || list_any p xs) (subst (λ z. p z ≡ true) e h)
any_true p x (y ∷ xs) (inr m) h = or_right (p y) (list_any p xs) (any_true p x xs m h) where
  or_right : (a b : Bool) → b ≡ true → (a || b) ≡ true
  or_right true b h = refl
  or_right false b h = h

pub any_some : {X : Type 0} (p : X → Bool) (xs : List X) → list_any p xs ≡ true → (x : X) × In x xs × (p x ≡ true)
any_some {X} p xs h = by (any_or p xs) where
  by : ((x : X) × In x xs × (p x ≡ true)) ⊎ (list_any p xs ≡ false) → (x : X) × In x xs × (p x ≡ true)
  by (inl r) = r
  by (inr n) = clash h n

pub any_false : {X : Type 0} (p : X → Bool) (x : X) (xs : List X) → list_any p xs ≡ false → In x xs → p x ≡ false
any_false p x xs h m = cases (p x) (λ e. clash (any_true p x xs m e) h) (λ e. e)

pub all_at : {X : Type 0} (p : X → Bool) (x : X) (xs : List X) → list_all p xs ≡ true → In x xs → p x ≡ true
all_at p x xs h m = cases (p x) (λ e. e) (λ e. clash h (fails p x xs m e)) where
  fails : {X : Type 0} (p : X → Bool) (x : X) (xs : List X) → In x xs → p x ≡ false → list_all p xs ≡ false
  fails p x [] m e = absurd m
  fails p x (y ∷ xs) (inl s) e = ap (λ b. b && list_all p xs) (subst (λ z. p z ≡ false) s e)
  fails p x (y ∷ xs) (inr m) e = cases (p y) (λ t. rw t (fails p x xs m e)) (λ t. rw t refl)

pub all_from : {X : Type 0} (p : X → Bool) (xs : List X) → ((x : X) → In x xs → p x ≡ true) → list_all p xs ≡ true
all_from p [] h = refl
all_from p (y ∷ xs) h = true_and (h y (inl refl)) (all_from p xs (λ x m. h x (inr m)))

-- ---- the first that fails a test

pub first_or : (has : ℕ → Bool) (vs : List ℕ) → (list_all has vs ≡ true) ⊎ ((v : ℕ) × In v vs × (is_first_without has vs v ≡ true))
first_or has [] = inl refl
first_or has (w ∷ ws) = by (has w) (first_or has ws) where
  by : (b : Bool) → (list_all has ws ≡ true) ⊎ ((v : ℕ) × In v ws × (is_first_without has ws v ≡ true))
      → ((b && list_all has ws) ≡ true) ⊎ ((v : ℕ) × In v (w ∷ ws) × ((if b then is_first_without has ws v else w == v) ≡ true))
  by true (inl h) = inl h
  by true (inr r) = inr (r.0, inr r.1, r.2)
  by false r = inr (w, inl refl, eq-eqb w w refl)

pub first_fails : (has : ℕ → Bool) (vs : List ℕ) (v : ℕ) → is_first_without has vs v ≡ true → has v ≡ false
first_fails has [] v h = cc
first_fails has (w ∷ ws) v h = by (first_fails has ws v) (has w) refl h where
  by : (is_first_without has ws v ≡ true → has v ≡ false) → (b : Bool) → has w ≡ b → (if b then is_first_without has ws v else w == v) ≡ true → has v ≡ false
  by ih true e k = ih k
  by ih false e k = subst (λ x. has x ≡ false) (eqb-true w v k) e

-- ---- counts over numbers

-- one that fails makes the count less
count-le : (p : ℕ → Bool) (first n : ℕ) → count_by p (numbers_from first n) ≤ n
count-le p first zero = omega arith
count-le p first (suc n) =
    let k = sum_by-cons (λ i. cond (p i) 1 0) first (numbers_from (suc first) n) in
    let rest : count_by p (numbers_from (suc first) n) ≤ n = count-le p (suc first) n in
    cases (p first) (λ e. rw (k, e) (omega arith)) (λ e. rw (k, e) (omega arith))

pub count-lt : (p : ℕ → Bool) (first n i : ℕ) → first ≤ i → i < first + n → p i ≡ false → count_by p (numbers_from first n) < n
count-lt p first zero i h l f = absurd (omega arith)
count-lt p first (suc n) i h l f = by (λ above below. count-lt p (suc first) n i above below f) (eqb_tells i first) where
  k : count_by p (first ∷ numbers_from (suc first) n) ≡ cond (p first) 1 0 + count_by p (numbers_from (suc first) n)
  k = sum_by-cons (λ i. cond (p i) 1 0) first (numbers_from (suc first) n)

  by : (suc first ≤ i → i < suc first + n → count_by p (numbers_from (suc first) n) < n) → (((i == first) ≡ true) × (i ≡ first)) ⊎ (((i == first) ≡ false) × (i ≢ first)) → count_by p (numbers_from first (suc n)) < suc n
  by ih (inl e) =
      let none : p first ≡ false = subst (λ x. p x ≡ false) e.1 f in
      let rest : count_by p (numbers_from (suc first) n) ≤ n = count-le p (suc first) n in
      rw (k, none) (omega arith)
  by ih (inr e) =
      let rest : count_by p (numbers_from (suc first) n) < n = ih (omega (arith, e.1)) (omega arith) in
      cases (p first) (λ b. rw (k, b) (omega arith)) (λ b. rw (k, b) (omega arith))

-- what is found at each number, or not at one
pub full_or : {X : Type 0} (f : ℕ → Option X) (first n : ℕ) → (length (filter_map f (numbers_from first n)) ≡ n) ⊎ ((i : ℕ) × (first ≤ i) × (i < first + n) × (f i ≡ None))
full_or f first zero = inl refl
full_or {X} f first (suc n) = by (f first) refl (full_or f (suc first) n) where
  by : (o : Option X) → f first ≡ o → (length (filter_map f (numbers_from (suc first) n)) ≡ n) ⊎ ((i : ℕ) × (suc first ≤ i) × (i < suc first + n) × (f i ≡ None))
      → (length (cons_option o (filter_map f (numbers_from (suc first) n))) ≡ suc n) ⊎ ((i : ℕ) × (first ≤ i) × (i < first + suc n) × (f i ≡ None))
  by (Some x) e (inl h) = inl (ap suc h)
  by (Some x) e (inr r) = inr (r.0, omega (arith, r.1), omega (arith, r.2), r.3)
  by None e r = inr (first, omega arith, omega arith, e)

found-le : {X : Type 0} (f : ℕ → Option X) (first n : ℕ) → length (filter_map f (numbers_from first n)) ≤ n
found-le f first zero = omega arith
found-le {X} f first (suc n) = by (f first) (found-le f (suc first) n) where
  by : (o : Option X) → length (filter_map f (numbers_from (suc first) n)) ≤ n → length (cons_option o (filter_map f (numbers_from (suc first) n))) ≤ suc n
  by (Some x) h = omega arith
  by None h = omega arith

pub found_each : {X : Type 0} (f : ℕ → Option X) (first n i : ℕ) → length (filter_map f (numbers_from first n)) ≡ n → first ≤ i → i < first + n → is_some (f i) ≡ true
found_each f first zero i full h l = absurd (omega arith)
found_each {X} f first (suc n) i full h l = by (λ rest above below. found_each f (suc first) n i rest above below) (f first) refl (eqb_tells i first) full where
  by : (length (filter_map f (numbers_from (suc first) n)) ≡ n → suc first ≤ i → i < suc first + n → is_some (f i) ≡ true) → (o : Option X) → f first ≡ o
      → (((i == first) ≡ true) × (i ≡ first)) ⊎ (((i == first) ≡ false) × (i ≢ first)) → length (cons_option o (filter_map f (numbers_from (suc first) n))) ≡ suc n → is_some (f i) ≡ true
  by ih (Some x) e (inl same) k = subst (λ x. is_some (f x) ≡ true) (sym same.1) (ap is_some e)
  by ih (Some x) e (inr other) k = ih (omega (arith, k)) (omega (arith, other.1)) (omega arith)
  by ih None e at k = let few = found-le f (suc first) n in absurd (omega (arith, k))
