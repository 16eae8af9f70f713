-- Lists of places: reading, writing, and the place that an attempt holds.
use Rattle.std.specs.Prelude.{◌≡◌, ℕ, zero, suc, ◌+◌, ◌<◌, ◌≤◌, ◌≢◌, Bool, true, false, List, [], ◌∷◌, ◌++◌, length, map, replicate, position, slice_get, Option, Some, None, refl}
use Rattle.std.specs.List.{list_any, position_or_len}
use Rattle.std.specs.Option.{option_map}
use Rattle.std.proofs.Common.{ap, sym, ◌∙◌, subst, arith, set, get_or, true≢false}
use Rattle.std.proofs.lemmas.List.Quantifiers.{position-Some}
use Rattle.std.proofs.lemmas.List.Sums.{fails_before_first}
use Rattle.std.proofs.lemmas.Option.{same_Some}
use Rattle.tez_lists.specs.Numbers.{numbers_from}
use Rattle.tez_ids.specs.declared.AttemptId.{AttemptId}
use Rattle.tez_ids.specs.Same.{same_attempt}
use Rattle.tez_ids.proofs.Sameness.{same_attempt-true, same_attempt-refl}
use Rattle.tez_pool.specs.declared.place.Held.{Held}
use Rattle.tez_pool.specs.declared.place.Place.{Place}
use Rattle.tez_pool.specs.Table.{free, is_by, holds, is_free, who}
use Rattle.tez_pool.specs.Index.{held_at}
use Rattle.tez_tournament.proofs.TreeLemmas.{position_at, position_nowhere}

-- ---- reading and writing

pub got : {X : Type 0} (xs : List X) (i : ℕ) (d : X) → i < length xs → slice_get xs i ≡ Some (get_or xs i d)
got [] i d l = absurd (omega arith)
got (x ∷ xs) zero d l = refl
got (x ∷ xs) (suc i) d l = got xs i d (omega arith)

pub read : {X : Type 0} (xs : List X) (i : ℕ) (x : X) → i < length xs → x ≡ get_or xs i x → slice_get xs i ≡ Some x
read xs i x l is = got xs i x l ∙ ap Some (sym is)

pub inside : {X : Type 0} (xs : List X) (i : ℕ) (x : X) → slice_get xs i ≡ Some x → i < length xs
inside [] i x e = cc
inside (y ∷ ys) zero x e = omega arith
inside (y ∷ ys) (suc i) x e = let l = inside ys i x e in omega arith

pub get_set_same : {X : Type 0} (xs : List X) (i : ℕ) (y : X) → i < length xs → slice_get (set xs i y) i ≡ Some y
get_set_same [] i y l = absurd (omega arith)
get_set_same (x ∷ xs) zero y l = refl
get_set_same (x ∷ xs) (suc i) y l = get_set_same xs i y (omega arith)

pub get_set_other : {X : Type 0} (xs : List X) (i j : ℕ) (y : X) → j ≢ i → slice_get (set xs i y) j ≡ slice_get xs j
get_set_other [] i j y ne = refl
get_set_other (x ∷ xs) zero zero y ne = absurd (ne refl)
get_set_other (x ∷ xs) zero (suc j) y ne = refl
get_set_other (x ∷ xs) (suc i) zero y ne = refl
get_set_other (x ∷ xs) (suc i) (suc j) y ne = get_set_other xs i j y (λ e. ne (ap suc e))

pub get_map : {X Y : Type 0} (f : X → Y) (xs : List X) (i : ℕ) → slice_get (map f xs) i ≡ option_map f (slice_get xs i)
get_map f [] i = refl
get_map f (x ∷ xs) zero = refl
get_map f (x ∷ xs) (suc i) = get_map f xs i

-- a function that changes no element
pub map_nowhere : {X : Type 0} (f : X → X) (xs : List X) → ((q : ℕ) (y : X) → slice_get xs q ≡ Some y → f y ≡ y) → xs ≡ map f xs
map_nowhere f [] same = refl
map_nowhere f (x ∷ xs) same = let here : f x ≡ x = same 0 x refl in let rest = map_nowhere f xs (λ q y e. same (suc q) y e) in cc

-- a function that changes one element at most
pub map_at : {X : Type 0} (f : X → X) (xs : List X) (p : ℕ) (x : X) → slice_get xs p ≡ Some x → ((q : ℕ) (y : X) → slice_get xs q ≡ Some y → q ≢ p → f y ≡ y) → set xs p (f x) ≡ map f xs
map_at f [] p x e same = refl
map_at f (y ∷ ys) zero x e same =
    let here : y ≡ x = same_Some y x e in
    let rest = map_nowhere f ys (λ q z g. same (suc q) z g (λ h. absurd (omega arith))) in
    cc
map_at f (y ∷ ys) (suc p) x e same =
    let here : f y ≡ y = same 0 y refl (λ h. absurd (omega arith)) in
    let rest = map_at f ys p x e (λ q z g ne. same (suc q) z g (λ h. ne (omega arith))) in
    cc

pub any_at : {X : Type 0} (test : X → Bool) (xs : List X) (p : ℕ) (x : X) → slice_get xs p ≡ Some x → test x ≡ true → list_any test xs ≡ true
any_at test [] p x e h = cc
any_at test (y ∷ ys) zero x e h = let here : y ≡ x = same_Some y x e in let at : test y ≡ true = ap test here ∙ h in grind arith
any_at test (y ∷ ys) (suc p) x e h = let rest = any_at test ys p x e h in grind arith

pub any_nowhere : {X : Type 0} (test : X → Bool) (xs : List X) → ((q : ℕ) (y : X) → slice_get xs q ≡ Some y → test y ≡ false) → list_any test xs ≡ false
any_nowhere test [] none = refl
any_nowhere test (y ∷ ys) none =
    let here : test y ≡ false = none 0 y refl in let rest = any_nowhere test ys (λ q z e. none (suc q) z e) in grind arith

-- ---- making the places

pub numbers_more : (a n : ℕ) → numbers_from a (suc n) ≡ numbers_from a n ++ (a + n) ∷ []
numbers_more a zero = let e : a + 0 ≡ a = omega arith in rw e refl
numbers_more a (suc n) = let e : suc a + n ≡ a + suc n = omega arith in ap (λ xs. a ∷ xs) (numbers_more (suc a) n ∙ ap (λ k. numbers_from (suc a) n ++ k ∷ []) e)

map-append_one : {X Y : Type 0} (f : X → Y) (xs : List X) (x : X) → map f (xs ++ x ∷ []) ≡ map f xs ++ f x ∷ []
map-append_one f [] x = refl
map-append_one f (y ∷ ys) x = ap (λ zs. f y ∷ zs) (map-append_one f ys x)

pub one_more : {Y : Type 0} (f : ℕ → Y) (n : ℕ) → map f (numbers_from 0 (n + 1)) ≡ map f (numbers_from 0 n) ++ f n ∷ []
one_more f n = let e : n + 1 ≡ suc n = omega arith in ap (λ k. map f (numbers_from 0 k)) e ∙ ap (map f) (numbers_more 0 n) ∙ map-append_one f (numbers_from 0 n) (0 + n) ∙ ap (λ k. map f (numbers_from 0 n) ++ f k ∷ []) (omega arith)

pub copies_more : {X : Type 0} (n : ℕ) (x : X) → replicate (n + 1) x ≡ replicate n x ++ x ∷ []
copies_more zero x = refl
copies_more (suc n) x = let e : suc n + 1 ≡ suc (n + 1) = omega arith in ap (λ k. replicate k x) e ∙ ap (λ xs. x ∷ xs) (copies_more n x)

pub all_free : (a n : ℕ) → replicate n true ≡ map is_free (map free (numbers_from a n))
all_free a zero = refl
all_free a (suc n) = ap (λ xs. true ∷ xs) (all_free (suc a) n)

pub length_numbers : {Y : Type 0} (f : ℕ → Y) (a n : ℕ) → length (map f (numbers_from a n)) ≡ n
length_numbers f a zero = refl
length_numbers f a (suc n) = ap suc (length_numbers f (suc a) n)

-- ---- the first place that passes a test

default : Place
default = free 0

pub position_got : (test : Place → Bool) (xs : List Place) (p : ℕ) (x : Place) → slice_get xs p ≡ Some x → test x ≡ true → ((q : ℕ) (y : Place) → slice_get xs q ≡ Some y → q ≢ p → test y ≡ false) → position test xs ≡ Some p
position_got test xs p x e h others =
    let l : p < length xs = inside xs p x e in
    let here : get_or xs p default ≡ x = same_Some (get_or xs p default) x (sym (got xs p default l) ∙ e) in
    position_at test xs p default l (ap test here ∙ h) (λ k b. others k (get_or xs k default) (got xs k default (omega arith)) (λ q. omega arith))

pub position_not_got : (test : Place → Bool) (xs : List Place) → ((q : ℕ) (y : Place) → slice_get xs q ≡ Some y → test y ≡ false) → position test xs ≡ None
position_not_got test xs none = position_nowhere test xs default (λ k l. none k (get_or xs k default) (got xs k default l))

pub position_found : (test : Place → Bool) (xs : List Place) (p : ℕ) → position test xs ≡ Some p → (x : Place) × (slice_get xs p ≡ Some x) × (test x ≡ true)
position_found test xs p e = let h = position-Some test xs p default e in (get_or xs p default, got xs p default h.0, h.1)

pub position_missed : (test : Place → Bool) (xs : List Place) → position test xs ≡ None → (q : ℕ) (y : Place) → slice_get xs q ≡ Some y → test y ≡ false
position_missed test xs none q y e =
    let l : q < length xs = inside xs q y e in
    let past : length xs ≤ position_or_len test xs = grind arith in
    let here : get_or xs q default ≡ y = same_Some (get_or xs q default) y (sym (got xs q default l) ∙ e) in
    ap test (sym here) ∙ fails_before_first test xs q default (omega arith)

-- the first that passes, of tests' answers
pub position_of_map : {X : Type 0} (f : X → Bool) (xs : List X) → position (λ b. b) (map f xs) ≡ position f xs
position_of_map f xs = grind (arith, prefix_of_map, length_of_map) where
  prefix_of_map : {X : Type 0} (f : X → Bool) (xs : List X) → position_or_len (λ b. b) (map f xs) ≡ position_or_len f xs
  prefix_of_map f [] = refl
  prefix_of_map f (x ∷ xs) = let rest = prefix_of_map f xs in grind arith

  length_of_map : {X Y : Type 0} (f : X → Y) (xs : List X) → length (map f xs) ≡ length xs
  length_of_map f [] = refl
  length_of_map f (x ∷ xs) = ap suc (length_of_map f xs)

-- ---- who holds a place

by_holder : (a : AttemptId) (o : Option Held) → is_by a o ≡ true → option_map (λ h. h.attempt) o ≡ Some a
by_holder a None h = absurd (true≢false (sym h))
by_holder a (Some x) h = ap Some (sym (same_attempt-true a x.attempt h))

holder_by : (a : AttemptId) (o : Option Held) → option_map (λ h. h.attempt) o ≡ Some a → is_by a o ≡ true
holder_by a None h = cc
holder_by a (Some x) h = subst (λ b. same_attempt a b ≡ true) (sym (same_Some x.attempt a h)) (same_attempt-refl a)

pub held_from : (places : List Place) (p : ℕ) (x : Place) (a : AttemptId) → slice_get places p ≡ Some x → holds a x ≡ true → held_at places p ≡ Some a
held_from places p x a e h = let w : who x ≡ Some a = by_holder a x.holder h in cc

pub holder_from : (places : List Place) (p : ℕ) (x : Place) (a : AttemptId) → slice_get places p ≡ Some x → held_at places p ≡ Some a → holds a x ≡ true
holder_from places p x a e h = let w : who x ≡ Some a = cc in holder_by a x.holder w

pub place_from : (places : List Place) (p : ℕ) (a : AttemptId) → held_at places p ≡ Some a → (x : Place) × (slice_get places p ≡ Some x)
place_from places p a h = by (slice_get places p) refl where
  by : (o : Option Place) → slice_get places p ≡ o → (x : Place) × (slice_get places p ≡ Some x)
  by None e = let none : held_at places p ≡ None = cc in absurd cc
  by (Some x) e = (x, e)
