-- Lemmas on lists: numbered values, changes at a number, sums, counts and searches.
use Rattle.std.specs.Prelude.{◌≡◌, ◌⊎◌, ℕ, zero, suc, ◌+◌, ◌<◌, ◌≤◌, Bool, true, false, ◌&&◌, ◌==◌, if◌then◌else◌, cond, nat_lt, List, [], ◌∷◌, ◌++◌, map, length, replicate, slice_get, slice_set, count_by, Option, Some, None, is_some, option_and_then, refl}
use Rattle.std.specs.List.{find, filter_map, cons_option, list_all, flat_map, sum_by, enumerate_from}
use Rattle.std.specs.Option.{option_map, option_map_or}
use Rattle.std.proofs.Common.{ap, sym, ◌∙◌, arith, subst, inl, inr, add-zero, zero-add}
use Rattle.std.proofs.lemmas.Bool.{cases_lt}
use Rattle.std.proofs.lemmas.Bool.Decides.{nat_tests}
use Rattle.std.proofs.lemmas.List.Sums.{sum_by-cons}
use Rattle.tez_ids.specs.declared.TaskId.{TaskId}
use Rattle.tez_ids.specs.Same.{task, same_task}
use Rattle.tez_lists.specs.Numbers.{numbers_from, In}
use Rattle.tez_schedule.specs.Table.{is_number}
use Rattle.tez_lists.proofs.Tables.{map_below, get_each, set_each, if_other}

-- ---- numbered values

pub each-same : {X : Type 0} (f : ℕ → X) (x : X) (a n : ℕ) → ((i : ℕ) → f i ≡ x) → map f (numbers_from a n) ≡ replicate n x
each-same f x a zero h = refl
each-same f x a (suc n) h = let here = h a in let rest = each-same f x (suc a) n h in cc

pub length-each : {X : Type 0} (f : ℕ → X) (a n : ℕ) → length (map f (numbers_from a n)) ≡ n
length-each f a zero = refl
length-each f a (suc n) = ap suc (length-each f (suc a) n)

pub map-map : {X Y Z : Type 0} (f : Y → Z) (h : X → Y) (xs : List X) → map f (map h xs) ≡ map (λ x. f (h x)) xs
map-map f h [] = refl
map-map f h (x ∷ xs) = ap (λ zs. f (h x) ∷ zs) (map-map f h xs)

pub get-past : {X : Type 0} (xs : List X) (k : ℕ) → length xs ≤ k → slice_get xs k ≡ None
get-past [] k h = refl
get-past (x ∷ xs) zero h = absurd (omega (arith, h))
get-past (x ∷ xs) (suc k) h = get-past xs k (omega (arith, h))

pub get-here : {X : Type 0} (f : ℕ → X) (n p : ℕ) → p < n → slice_get (map f (numbers_from 0 n)) p ≡ Some (f p)
get-here f n p h = get_each f 0 n p h ∙ ap (λ q. Some (f q)) (zero-add p)

pub get-beyond : {X : Type 0} (f : ℕ → X) (n p : ℕ) → n ≤ p → slice_get (map f (numbers_from 0 n)) p ≡ None
get-beyond f n p h = let l = length-each f 0 n in get-past (map f (numbers_from 0 n)) p (omega (arith, h, l))

pub set-here : {X : Type 0} (f : ℕ → X) (x : X) (n p : ℕ) → slice_set (map f (numbers_from 0 n)) p x ≡ map (λ q. if p == q then x else f q) (numbers_from 0 n)
set-here f x n p = set_each f x 0 n p ∙ ap (λ k. map (λ q. if k == q then x else f q) (numbers_from 0 n)) (zero-add p)

same-if : {X : Type 0} (f : ℕ → X) (y : X) (p q : ℕ) → (if p == q then f p else y) ≡ (if p == q then f q else y)
same-if {X} f y p q = by (p == q) refl where
  tells : (p == q) ≡ true → p ≡ q
  tells e = grind (arith, nat_tests)

  by : (b : Bool) → (p == q) ≡ b → (if b then f p else y) ≡ (if b then f q else y)
  by true e = ap f (tells e)
  by false e = refl

-- the value at a number, if it is there, with another in its place
pub changed-each : {X : Type 0} (f : ℕ → X) (change : X → X) (n p : ℕ)
    → option_map_or (λ x. slice_set (map f (numbers_from 0 n)) p (change x)) (slice_get (map f (numbers_from 0 n)) p) (map f (numbers_from 0 n)) ≡ map (λ q. if p == q then change (f q) else f q) (numbers_from 0 n)
changed-each {X} f change n p = by (cases_lt p n) where
  by : (p < n) ⊎ (n ≤ p)
      → option_map_or (λ x. slice_set (map f (numbers_from 0 n)) p (change x)) (slice_get (map f (numbers_from 0 n)) p) (map f (numbers_from 0 n)) ≡ map (λ q. if p == q then change (f q) else f q) (numbers_from 0 n)
  by (inl low) =
      ap (λ o. option_map_or (λ x. slice_set (map f (numbers_from 0 n)) p (change x)) o (map f (numbers_from 0 n))) (get-here f n p low) ∙ set-here f (change (f p)) n p
      ∙ map_below (λ q. if p == q then change (f p) else f q) (λ q. if p == q then change (f q) else f q) 0 n (λ q _ _. same-if (λ k. change (f k)) (f q) p q)
  by (inr high) =
      ap (λ o. option_map_or (λ x. slice_set (map f (numbers_from 0 n)) p (change x)) o (map f (numbers_from 0 n))) (get-beyond f n p high)
      ∙ map_below f (λ q. if p == q then change (f q) else f q) 0 n (λ q _ below. sym (if_other p q (change (f q)) (f q) (λ e. absurd (omega (arith, below, high, e)))))

-- a row of tasks in which one task may have got another value
pub row-set : {X : Type 0} (f h : ℕ → X) (x : X) (t : TaskId) (v n : ℕ) → ((i : ℕ) → h i ≡ (if same_task t (task v i) then x else f i)) → (b : Bool) → (t.vertex.0 == v) ≡ b
    → (if b then slice_set (map f (numbers_from 0 n)) t.index x else map f (numbers_from 0 n)) ≡ map h (numbers_from 0 n)
row-set f h x t v n is true e =
    set-here f x n t.index ∙ map_below (λ i. if t.index == i then x else f i) h 0 n (λ i _ _. ap (λ b. if b && (t.index == i) then x else f i) (sym e) ∙ sym (is i))
row-set f h x t v n is false e = map_below f h 0 n (λ i _ _. ap (λ b. if b && (t.index == i) then x else f i) (sym e) ∙ sym (is i))

-- ---- sums and counts

pub sum-map : {X Y : Type 0} (f : Y → ℕ) (h : X → Y) (k : X → ℕ) (xs : List X) → ((x : X) → In x xs → f (h x) ≡ k x) → sum_by f (map h xs) ≡ sum_by k xs
sum-map f h k [] s = refl
sum-map f h k (x ∷ xs) s =
    let here = s x (inl refl) in
    let rest = sum-map f h k xs (λ y i. s y (inr i)) in
    sum_by-cons f (h x) (map h xs) ∙ ap (λ n. n + sum_by f (map h xs)) here ∙ ap (λ n. k x + n) rest ∙ sym (sum_by-cons k x xs)

pub all-map : {X Y : Type 0} (f : Y → Bool) (h : X → Y) (k : X → Bool) (xs : List X) → ((x : X) → In x xs → f (h x) ≡ k x) → list_all f (map h xs) ≡ list_all k xs
all-map f h k [] s = refl
all-map f h k (x ∷ xs) s = ap (λ b. b && list_all f (map h xs)) (s x (inl refl)) ∙ ap (λ b. k x && b) (all-map f h k xs (λ y i. s y (inr i)))

-- what there is of n options, of which those from m on are none
pub count-options : {X : Type 0} (f : ℕ → Option X) (a m n : ℕ) → m ≤ n → ((i : ℕ) → a + m ≤ i → f i ≡ None) → count_by (λ b. b) (map (λ i. is_some (f i)) (numbers_from a n)) ≡ length (filter_map f (numbers_from a m))
count-options f a zero zero h none = refl
count-options f a (suc m) zero h none = absurd (omega (arith, h))
count-options f a zero (suc n) h none =
    sum_by-cons (λ (b : Bool). cond b 1 0) (is_some (f a)) (map (λ i. is_some (f i)) (numbers_from (suc a) n))
    ∙ ap (λ o. cond (is_some o) 1 0 + count_by (λ b. b) (map (λ i. is_some (f i)) (numbers_from (suc a) n))) (none a (omega arith))
    ∙ zero-add (count_by (λ b. b) (map (λ i. is_some (f i)) (numbers_from (suc a) n)))
    ∙ count-options f (suc a) zero n (omega (arith, h)) (λ i l. none i (omega (arith, l)))
count-options {X} f a (suc m) (suc n) h none =
    sum_by-cons (λ (b : Bool). cond b 1 0) (is_some (f a)) (map (λ i. is_some (f i)) (numbers_from (suc a) n))
    ∙ ap (λ k. cond (is_some (f a)) 1 0 + k) (count-options f (suc a) m n (omega (arith, h)) (λ i l. none i (omega (arith, l)))) ∙ by (f a) (filter_map f (numbers_from (suc a) m))
  where
    by : (o : Option X) (xs : List X) → cond (is_some o) 1 0 + length xs ≡ length (cons_option o xs)
    by None xs = zero-add (length xs)
    by (Some x) xs = omega arith

pub sum-options : {X : Type 0} (f : ℕ → Option X) (h : X → ℕ) (a m n : ℕ) → m ≤ n → ((i : ℕ) → a + m ≤ i → f i ≡ None)
    → sum_by (λ k. k) (map (λ i. option_map_or h (f i) 0) (numbers_from a n)) ≡ sum_by h (filter_map f (numbers_from a m))
sum-options f h a zero zero b none = refl
sum-options f h a (suc m) zero b none = absurd (omega (arith, b))
sum-options f h a zero (suc n) b none =
    sum_by-cons (λ (k : ℕ). k) (option_map_or h (f a) 0) (map (λ i. option_map_or h (f i) 0) (numbers_from (suc a) n))
    ∙ ap (λ o. option_map_or h o 0 + sum_by (λ k. k) (map (λ i. option_map_or h (f i) 0) (numbers_from (suc a) n))) (none a (omega arith))
    ∙ zero-add (sum_by (λ k. k) (map (λ i. option_map_or h (f i) 0) (numbers_from (suc a) n)))
    ∙ sum-options f h (suc a) zero n (omega (arith, b)) (λ i l. none i (omega (arith, l)))
sum-options {X} f h a (suc m) (suc n) b none =
    sum_by-cons (λ (k : ℕ). k) (option_map_or h (f a) 0) (map (λ i. option_map_or h (f i) 0) (numbers_from (suc a) n))
    ∙ ap (λ k. option_map_or h (f a) 0 + k) (sum-options f h (suc a) m n (omega (arith, b)) (λ i l. none i (omega (arith, l)))) ∙ by (f a) (filter_map f (numbers_from (suc a) m))
  where
    by : (o : Option X) (xs : List X) → option_map_or h o 0 + sum_by h xs ≡ sum_by h (cons_option o xs)
    by None xs = zero-add (sum_by h xs)
    by (Some x) xs = sym (sum_by-cons h x xs)

-- ---- options

pub filter_map-same : {X Y : Type 0} (f h : X → Option Y) (xs : List X) → ((x : X) → In x xs → f x ≡ h x) → filter_map f xs ≡ filter_map h xs
filter_map-same f h [] e = refl
filter_map-same f h (x ∷ xs) e = ap (λ o. cons_option o (filter_map f xs)) (e x (inl refl)) ∙ ap (cons_option (h x)) (filter_map-same f h xs (λ y m. e y (inr m)))

-- ---- searches

pub find-map : {X Y : Type 0} (p : Y → Bool) (f : X → Y) (xs : List X) → find p (map f xs) ≡ option_map f (find (λ x. p (f x)) xs)
find-map p f [] = refl
find-map p f (x ∷ xs) = by (p (f x)) (find-map p f xs) where
  by : (b : Bool) → find p (map f xs) ≡ option_map f (find (λ y. p (f y)) xs) → cond b (Some (f x)) (find p (map f xs)) ≡ option_map f (cond b (Some x) (find (λ y. p (f y)) xs))
  by true e = refl
  by false e = e

pub find-same : {X : Type 0} (p q : X → Bool) (xs : List X) → ((x : X) → In x xs → p x ≡ q x) → find p xs ≡ find q xs
find-same p q [] s = refl
find-same p q (x ∷ xs) s = ap (λ b. cond b (Some x) (find p xs)) (s x (inl refl)) ∙ ap (cond (q x) (Some x)) (find-same p q xs (λ y i. s y (inr i)))

-- ---- numbered elements

pub got-from : {X Y : Type 0} (f : X → Y) (n : ℕ) (xs : List X) (e : ℕ × X) → In e (enumerate_from n xs) → (k : ℕ) × (e.0 ≡ n + k) × (slice_get xs k ≡ Some e.1) × (k < length xs)
got-from f n [] e h = absurd h
got-from f n (x ∷ xs) e (inl h) = (0, ap (λ y. y.0) h ∙ sym (add-zero n), ap (λ y. Some y.1) (sym h), omega arith)
got-from f n (x ∷ xs) e (inr h) = let r = got-from f (n + 1) xs e h in (suc r.0, r.1 ∙ omega arith, r.2, omega (arith, r.3))

-- ---- searches among numbers

is_less : (m n : ℕ) → m < n → nat_lt m n ≡ true
is_less m n h = grind (arith, nat_tests)

pub not_less : (m n : ℕ) → n ≤ m → nat_lt m n ≡ false
not_less m n h = grind (arith, nat_tests)

pub get-replicate : {X : Type 0} (x : X) (n i : ℕ) → i < n → slice_get (replicate n x) i ≡ Some x
get-replicate x zero i h = absurd (omega (arith, h))
get-replicate x (suc n) zero h = refl
get-replicate x (suc n) (suc i) h = get-replicate x n i (omega (arith, h))

find-none : (p : ℕ → Bool) (a n : ℕ) → ((i : ℕ) → a ≤ i → p i ≡ false) → find p (numbers_from a n) ≡ None
find-none p a zero h = refl
find-none p a (suc n) h = ap (λ b. cond b (Some a) (find p (numbers_from (suc a) n))) (h a (omega arith)) ∙ find-none p (suc a) n (λ i l. h i (omega (arith, l)))

-- none passes from the m-th number on
pub find-fewer : (p : ℕ → Bool) (a m n : ℕ) → m ≤ n → ((i : ℕ) → a + m ≤ i → p i ≡ false) → find p (numbers_from a n) ≡ find p (numbers_from a m)
find-fewer p a zero n h none = find-none p a n (λ i l. none i (omega (arith, l)))
find-fewer p a (suc m) zero h none = absurd (omega (arith, h))
find-fewer p a (suc m) (suc n) h none = ap (cond (p a) (Some a)) (find-fewer p (suc a) m n (omega (arith, h)) (λ i l. none i (omega (arith, l))))

pub count-fewer : (p : ℕ → Bool) (a m n : ℕ) → m ≤ n → ((i : ℕ) → a + m ≤ i → p i ≡ false) → count_by (λ b. b) (map p (numbers_from a n)) ≡ count_by p (numbers_from a m)
count-fewer p a zero zero h none = refl
count-fewer p a (suc m) zero h none = absurd (omega (arith, h))
count-fewer p a zero (suc n) h none =
    sum_by-cons (λ (b : Bool). cond b 1 0) (p a) (map p (numbers_from (suc a) n))
    ∙ ap (λ b. cond b 1 0 + count_by (λ x. x) (map p (numbers_from (suc a) n))) (none a (omega arith)) ∙ zero-add (count_by (λ b. b) (map p (numbers_from (suc a) n)))
    ∙ count-fewer p (suc a) zero n (omega (arith, h)) (λ i l. none i (omega (arith, l)))
count-fewer p a (suc m) (suc n) h none =
    sum_by-cons (λ (b : Bool). cond b 1 0) (p a) (map p (numbers_from (suc a) n))
    ∙ ap (λ k. cond (p a) 1 0 + k) (count-fewer p (suc a) m n (omega (arith, h)) (λ i l. none i (omega (arith, l)))) ∙ sym (sum_by-cons (λ i. cond (p i) 1 0) a (numbers_from (suc a) m))

tells_same : (m n : ℕ) → (m == n) ≡ true → m ≡ n
tells_same m n h = grind (arith, nat_tests)

same_tells : (n : ℕ) → (n == n) ≡ true
same_tells n = grind (arith, nat_tests)

-- what is found passes, and is among them
pub found-passes : (p : ℕ → Bool) (a n i : ℕ) → is_number i (find p (numbers_from a n)) ≡ true → (a ≤ i) × (i < a + n) × (p i ≡ true)
found-passes p a zero i h = cc
found-passes p a (suc n) i h = by (p a) refl h (found-passes p (suc a) n i) where
  by : (b : Bool) → p a ≡ b → is_number i (cond b (Some a) (find p (numbers_from (suc a) n))) ≡ true
      → (is_number i (find p (numbers_from (suc a) n)) ≡ true → (suc a ≤ i) × (i < suc a + n) × (p i ≡ true)) → (a ≤ i) × (i < a + suc n) × (p i ≡ true)
  by true e k ih = let s : a ≡ i = tells_same a i k in (omega (arith, s), omega (arith, s), subst (λ j. p j ≡ true) s e)
  by false e k ih = let r = ih k in let low = r.0 in let high = r.1 in (omega (arith, low), omega (arith, high), r.2)

pub found-again : (p : ℕ → Bool) (a n : ℕ) → find (λ i. is_number i (find p (numbers_from a n))) (numbers_from a n) ≡ find p (numbers_from a n)
found-again p a zero = refl
found-again p a (suc n) = by (p a) (found-again p (suc a) n) where
  not_here : (b : Bool) → is_number a (find p (numbers_from (suc a) n)) ≡ b → is_number a (find p (numbers_from (suc a) n)) ≡ false
  not_here true e = let low = (found-passes p (suc a) n a e).0 in absurd (omega (arith, low))
  not_here false e = e

  by : (b : Bool) → find (λ i. is_number i (find p (numbers_from (suc a) n))) (numbers_from (suc a) n) ≡ find p (numbers_from (suc a) n)
      → find (λ i. is_number i (cond b (Some a) (find p (numbers_from (suc a) n)))) (numbers_from a (suc n)) ≡ cond b (Some a) (find p (numbers_from (suc a) n))
  by true ih = ap (λ b. cond b (Some a) (find (λ i. a == i) (numbers_from (suc a) n))) (same_tells a)
  by false ih = ap (λ b. cond b (Some a) (find (λ i. is_number i (find p (numbers_from (suc a) n))) (numbers_from (suc a) n))) (not_here (is_number a (find p (numbers_from (suc a) n))) refl) ∙ ih

pub find-nothing : {X : Type 0} (xs : List X) → find (λ x. false) xs ≡ None
find-nothing [] = refl
find-nothing (x ∷ xs) = find-nothing xs

-- the first that passes in lists one after another is the first of the first list that has one
pub find-flat : {X Y : Type 0} (p : Y → Bool) (f : X → List Y) (xs : List X) → find p (flat_map f xs) ≡ option_and_then (λ x. find p (f x)) (find (λ x. is_some (find p (f x))) xs)
find-flat p f [] = refl
find-flat {X} {Y} p f (x ∷ xs) = joined (f x) (flat_map f xs) ∙ by (find p (f x)) refl (find-flat p f xs) where
  either : Option Y → Option Y → Option Y
  either None b = b
  either (Some y) b = Some y

  joined : (ys zs : List Y) → find p (ys ++ zs) ≡ either (find p ys) (find p zs)
  joined [] zs = refl
  joined (y ∷ ys) zs = here (p y) (joined ys zs) where
    here : (b : Bool) → find p (ys ++ zs) ≡ either (find p ys) (find p zs) → cond b (Some y) (find p (ys ++ zs)) ≡ either (cond b (Some y) (find p ys)) (find p zs)
    here true e = refl
    here false e = e

  by : (o : Option Y) → find p (f x) ≡ o → find p (flat_map f xs) ≡ option_and_then (λ z. find p (f z)) (find (λ z. is_some (find p (f z))) xs)
      → either o (find p (flat_map f xs)) ≡ option_and_then (λ z. find p (f z)) (cond (is_some o) (Some x) (find (λ z. is_some (find p (f z))) xs))
  by None e ih = ih
  by (Some y) e ih = sym e
