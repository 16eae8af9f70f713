-- Each table leads to each output as it should.
--     one_to_one_law, broadcast_law, scatter_gather_law
use Rattle.std.proofs.Common.{◌≡◌, ℕ, zero, suc, ◌+◌, ◌-◌, ◌*◌, ◌/◌, ◌%◌, ◌<◌, ◌≤◌, ◌==◌, ◌&&◌, Bool, true, false, cond, List, [], ◌∷◌, ◌++◌, length, map, refl, sym, ap, ap₂, ◌∙◌, arith, filter, flat_map, eqb-true, eq-eqb, ne_eqb, ltb, leb, le-leb, lt-ltb, leb-true, ltb-true, mod-lt, div-lt_iff_lt-mul, div-add-mod', mul-zero}
use Rattle.std.specs.List.{range_with_len}
use Rattle.std.proofs.lemmas.Bool.{eqb-false, and_parts, and_from, and_right, ltb-false}
use Rattle.std.proofs.lemmas.List.Elements.{filter-append}
use Rattle.std.proofs.lemmas.List.{map-append}
use Rattle.std.proofs.lemmas.List.Concat.{flat_map_single, length-flat_map}
use Rattle.std.proofs.Math.Arith.{digits_lt, digits_div, digits_mod}
use Rattle.tez_lists.proofs.Cases.{cases, both}
use Rattle.tez_lists.proofs.Sums.{sum_by-ext}
use Rattle.tez_lists.proofs.Ranges.{one_in_range}
use Rattle.tez_shrink.specs.Formulas.{tasks_of, first_of, end_of}
use Rattle.tez_shrink.proofs.RangeLemmas.{range_is_quotient, tasks_enough}
use Rattle.tez_tables.specs.Table.{Table, route, StaysInside, HasOneConsumer, ReachesEachConsumer, IsCovered, one_to_one, broadcast, scatter_gather}

-- the numbers below n that are v
none_left : (v a n : ℕ) → v < a → filter (λ p. p == v) (range_with_len a n) ≡ []
none_left v a zero h = refl
none_left v a (suc n) h = ap (λ b. cond b (a ∷ filter (λ p. p == v) (range_with_len (a + 1) n)) (filter (λ p. p == v) (range_with_len (a + 1) n))) (ne_eqb a v (λ e. omega arith)) ∙ none_left v (a + 1) n (omega arith)

pub one_left : (v a n : ℕ) → a ≤ v → v < a + n → filter (λ p. p == v) (range_with_len a n) ≡ v ∷ []
one_left v a zero low high = absurd (omega arith)
one_left v a (suc n) low high = cases (a == v)
    (λ e. rw e (ap₂ (λ (x : ℕ) (rest : List ℕ). x ∷ rest) (eqb-true a v e) (none_left v (a + 1) n (omega (arith, eqb-true a v e)))))
    (λ e. rw e (one_left v (a + 1) n (let ne : a ≡ v → ⊥ = eqb-false a v e in omega arith) (omega arith)))

filter-map : {X Y : Type 0} (f : X → Y) (q : Y → Bool) (xs : List X) → filter q (map f xs) ≡ map f (filter (λ x. q (f x)) xs)
filter-map f q [] = refl
filter-map {Y = Y} f q (x ∷ xs) = cases (q (f x)) (λ e. rw e (ap (λ (ys : List Y). f x ∷ ys) (filter-map f q xs))) (λ e. rw e (filter-map f q xs))

filter-flat_map : {X A : Type 0} (q : A → Bool) (g : X → List A) (xs : List X) → filter q (flat_map g xs) ≡ flat_map (λ x. filter q (g x)) xs
filter-flat_map q g [] = refl
filter-flat_map {A = A} q g (x ∷ xs) = filter-append q (g x) (flat_map g xs) ∙ ap (λ (rest : List A). filter q (g x) ++ rest) (filter-flat_map q g xs)

filter-ext : {X : Type 0} (f g : X → Bool) → ((x : X) → f x ≡ g x) → (xs : List X) → filter f xs ≡ filter g xs
filter-ext f g e xs = ap (λ h. filter h xs) (λ i x. e x i)

map-flat_map : {X A B : Type 0} (h : A → B) (g : X → List A) (xs : List X) → map h (flat_map g xs) ≡ flat_map (λ x. map h (g x)) xs
map-flat_map h g [] = refl
map-flat_map {B = B} h g (x ∷ xs) = map-append h (g x) (flat_map g xs) ∙ ap (λ (rest : List B). map h (g x) ++ rest) (map-flat_map h g xs)

singles : (xs : List ℕ) → flat_map (λ x. x ∷ []) xs ≡ xs
singles [] = refl
singles (x ∷ xs) = ap (λ (rest : List ℕ). x ∷ rest) (singles xs)

-- what leads to an output, consumer by consumer
pub route_is : (t : Table) (s o : ℕ) → route t s o ≡ flat_map (λ c. map {B = ℕ × ℕ} (λ i. (c, i)) (filter (λ i. (t.leads c i).0 == s && (t.leads c i).1 == o) (range_with_len 0 (t.inputs_of c)))) (range_with_len 0 t.consumers)
route_is t s o =
    filter-flat_map (λ slot. (t.leads slot.0 slot.1).0 == s && (t.leads slot.0 slot.1).1 == o) (λ c. map {B = ℕ × ℕ} (λ i. (c, i)) (range_with_len 0 (t.inputs_of c))) (range_with_len 0 t.consumers)
    ∙ ap (λ f. flat_map f (range_with_len 0 t.consumers)) (λ i c. filter-map {Y = ℕ × ℕ} (λ k. (c, k)) (λ slot. (t.leads slot.0 slot.1).0 == s && (t.leads slot.0 slot.1).1 == o) (range_with_len 0 (t.inputs_of c)) i)

only : (o : ℕ) → o < 1 → 0 == o ≡ true
only o h = eq-eqb 0 o (omega arith)

pub one_to_one_law : (tasks : ℕ) → HasOneConsumer (one_to_one tasks)
one_to_one_law tasks s o below none =
    let test : (c : ℕ) → (c == s && 0 == o) ≡ (c == s) = λ c. ap (λ b. c == s && b) (only o none) ∙ and_true (c == s) in
    ap (λ (xs : List (ℕ × ℕ)). length (filter (λ (slot : ℕ × ℕ). slot.0 == s && 0 == o) xs)) (flat_map_single {A = ℕ × ℕ} (λ c. (c, 0)) (range_with_len 0 tasks))
    ∙ ap length (filter-map {Y = ℕ × ℕ} (λ c. (c, 0)) (λ slot. slot.0 == s && 0 == o) (range_with_len 0 tasks))
    ∙ ap (λ (q : ℕ → Bool). length (map {B = ℕ × ℕ} (λ c. (c, 0)) (filter q (range_with_len 0 tasks)))) (λ i c. test c i)
    ∙ ap (λ (xs : List ℕ). length (map {B = ℕ × ℕ} (λ c. (c, 0)) xs)) (one_left s 0 tasks (omega arith) (omega arith))
  where
    and_true : (b : Bool) → (b && true) ≡ b
    and_true true = refl
    and_true false = refl

pub broadcast_law : (sources consumers : ℕ) → ReachesEachConsumer (broadcast sources consumers)
broadcast_law sources consumers s o below none =
    let test : (i : ℕ) → (i == s && 0 == o) ≡ (i == s) = λ i. ap (λ b. i == s && b) (only o none) ∙ and_true (i == s) in
    ap (map (λ slot. slot.0)) (route_is (broadcast sources consumers) s o)
    ∙ map-flat_map (λ slot. slot.0) (λ c. map {B = ℕ × ℕ} (λ i. (c, i)) (filter (λ i. i == s && 0 == o) (range_with_len 0 sources))) (range_with_len 0 consumers)
    ∙ ap (λ (q : ℕ → Bool). flat_map (λ c. map (λ slot. slot.0) (map {B = ℕ × ℕ} (λ i. (c, i)) (filter q (range_with_len 0 sources)))) (range_with_len 0 consumers)) (λ j i. test i j)
    ∙ ap (λ (xs : List ℕ). flat_map (λ c. map (λ slot. slot.0) (map {B = ℕ × ℕ} (λ i. (c, i)) xs)) (range_with_len 0 consumers)) (one_left s 0 sources (omega arith) (omega arith))
    ∙ singles (range_with_len 0 consumers)
  where
    and_true : (b : Bool) → (b && true) ≡ b
    and_true true = refl
    and_true false = refl

-- ---- scatter-gather

length-map : {X Y : Type 0} (f : X → Y) (xs : List X) → length (map f xs) ≡ length xs
length-map f [] = refl
length-map f (x ∷ xs) = ap suc (length-map f xs)

-- of w inputs a source, the input of source s with place k is s * w + k
input_is : (i w s k : ℕ) → k < w → (i / w == s && i % w == k) ≡ (i == s * w + k)
input_is i w s k h =
    let whole : i / w * w + i % w ≡ i = div-add-mod' i w in
    cases (i == s * w + k)
    (λ e.
    let is : i ≡ s * w + k = eqb-true i (s * w + k) e in
    and_from _ _ (eq-eqb (i / w) s (ap (λ x. x / w) is ∙ digits_div s h)) (eq-eqb (i % w) k (ap (λ x. x % w) is ∙ digits_mod s h)) ∙ sym e)
    (λ e. cases (i / w == s && i % w == k)
    (λ b.
    let parts = and_parts _ _ b in
    let is : i ≡ s * w + k = sym whole ∙ ap₂ (λ x y. x * w + y) (eqb-true (i / w) s parts.0) (eqb-true (i % w) k parts.1) in
    absurd (eqb-false i (s * w + k) e is))
    (λ b. b ∙ sym e))

none_pass : (q : ℕ → Bool) (xs : List ℕ) → ((x : ℕ) → q x ≡ false) → filter q xs ≡ []
none_pass q [] h = refl
none_pass q (x ∷ xs) h = rw (h x) (none_pass q xs h)

-- the inputs of one consumer that lead to output o of source s: one, where o is in the consumer's range
inputs_count : (sources first end s o : ℕ) → s < sources
    → length (filter (λ i. i / (end - first) == s && first + i % (end - first) == o) (range_with_len 0 (sources * (end - first)))) ≡ cond (leb first o && ltb o end) 1 0
inputs_count sources first end s o below = cases (leb first o && ltb o end)
    (λ e.
    let parts = and_parts _ _ e in
    let low = leb-true first o parts.0 in
    let high = ltb-true o end parts.1 in
    let k : o - first < end - first = omega arith in
    let test : (i : ℕ) → (i / (end - first) == s && first + i % (end - first) == o) ≡ (i == s * (end - first) + (o - first)) = λ i.
    ap (λ b. i / (end - first) == s && b) (shift first (i % (end - first)) o low) ∙ input_is i (end - first) s (o - first) k in
    ap (λ (q : ℕ → Bool). length (filter q (range_with_len 0 (sources * (end - first))))) (λ j i. test i j)
    ∙ ap length (one_left (s * (end - first) + (o - first)) 0 (sources * (end - first)) (omega arith) (let fits = digits_lt below k in omega arith))
    ∙ ap (λ b. cond b 1 0) (sym e))
    (λ e. cases (ltb 0 (end - first))
    (λ some.
    let wide = ltb-true 0 (end - first) some in
    ap length (none_pass (λ i. i / (end - first) == s && first + i % (end - first) == o) (range_with_len 0 (sources * (end - first)))
    (λ i. and_right _ _ (ne_eqb (first + i % (end - first)) o (λ is.
    let inside = mod-lt i wide in
    both (and_from _ _ (le-leb first o (omega arith)) (lt-ltb o end (omega arith))) e))))
    ∙ ap (λ b. cond b 1 0) (sym e))
    (λ narrow.
    let none : end - first ≡ 0 = omega (arith, ltb-false 0 (end - first) narrow) in
    ap (λ n. length (filter (λ i. i / (end - first) == s && first + i % (end - first) == o) (range_with_len 0 n))) (ap (λ w. sources * w) none ∙ mul-zero sources)
    ∙ ap (λ b. cond b 1 0) (sym e)))
  where
    shift : (first x o : ℕ) → first ≤ o → (first + x == o) ≡ (x == o - first)
    shift first x o low = cases (x == o - first)
        (λ e. eq-eqb (first + x) o (omega (arith, eqb-true x (o - first) e)) ∙ sym e)
        (λ e. ne_eqb (first + x) o (λ is. eqb-false x (o - first) e (omega arith)) ∙ sym e)

pub scatter_gather_law : (sources parts base : ℕ) → 0 < base → HasOneConsumer (scatter_gather sources parts base)
scatter_gather_law sources parts base some s o below inside =
    let t = scatter_gather sources parts base in
    let width = λ (c : ℕ). end_of parts base c - first_of base c in
    let those = λ (c : ℕ). filter (λ i. i / width c == s && first_of base c + i % width c == o) (range_with_len 0 (sources * width c)) in
    ap length (route_is t s o)
    ∙ length-flat_map (λ c. map {B = ℕ × ℕ} (λ i. (c, i)) (those c)) (range_with_len 0 (tasks_of parts base))
    ∙ sum_by-ext (λ c. length (map {B = ℕ × ℕ} (λ i. (c, i)) (those c))) (λ c. cond (o / base == c) 1 0) (range_with_len 0 (tasks_of parts base))
    (λ c. length-map (λ i. (c, i)) (those c) ∙ inputs_count sources (first_of base c) (end_of parts base c) s o below ∙ ap (λ b. cond b 1 0) (range_is_quotient parts base o c some inside))
    ∙ one_in_range (o / base) (tasks_of parts base) (tasks_enough parts base o some inside)

-- ---- each slot leads to an output that is there

pub one_to_one_inside : (tasks : ℕ) → StaysInside (one_to_one tasks)
one_to_one_inside tasks = record { source = λ c i a b. a; output = λ c i a b. omega arith }

pub broadcast_inside : (sources consumers : ℕ) → StaysInside (broadcast sources consumers)
broadcast_inside sources consumers = record { source = λ c i a b. b; output = λ c i a b. omega arith }

wide_enough : (sources w i : ℕ) → i < sources * w → 0 < w
wide_enough sources w i h = cases (ltb 0 w)
    (λ e. ltb-true 0 w e)
    (λ e. let none : w ≡ 0 = omega (arith, ltb-false 0 w e) in let nothing : sources * w ≡ 0 = ap (λ x. sources * x) none ∙ mul-zero sources in absurd (omega arith))

pub scatter_gather_inside : (sources parts base : ℕ) → StaysInside (scatter_gather sources parts base)
scatter_gather_inside sources parts base = record {
  source = λ c i a b. (div-lt_iff_lt-mul {x = i} {y = sources} (wide_enough sources (end_of parts base c - first_of base c) i b)).1 b;
  output = λ c i a b. let inside = mod-lt i (wide_enough sources (end_of parts base c - first_of base c) i b) in omega arith;
}

-- ---- each output is covered

some_of_one : (t : Table) → HasOneConsumer t → IsCovered t
some_of_one t one = record {
  some = λ s o a b. omega (arith, one s o a b);
  once = λ s o c a b. let few = filter_few (λ slot. slot.0 == c) (route t s o) in let long = one s o a b in omega arith;
}
  where
    filter_few : {X : Type 0} (q : X → Bool) (xs : List X) → length (filter q xs) ≤ length xs
    filter_few q [] = omega arith
    filter_few q (x ∷ xs) = cases (q x)
        (λ e. rw e (let few = filter_few q xs in omega arith))
        (λ e. rw e (let few = filter_few q xs in omega arith))

-- a number stands in a range at most once
once_in_range : (c a n : ℕ) → length (filter (λ p. p == c) (range_with_len a n)) ≤ 1
once_in_range c a zero = omega arith
once_in_range c a (suc n) = cases (a == c)
    (λ e. rw e (let none = ap length (none_left c (a + 1) n (omega (arith, eqb-true a c e))) in omega arith))
    (λ e. rw e (once_in_range c (a + 1) n))

some_of_each : (t : Table) → 0 < t.consumers → ReachesEachConsumer t → IsCovered t
some_of_each t there each = record {
  some = λ s o a b.
      let long = sym (length-map (λ (slot : ℕ × ℕ). slot.0) (route t s o)) ∙ ap length (each s o a b) ∙ range_long 0 t.consumers in omega arith;
  once = λ s o c a b.
      let same = sym (length-map (λ (slot : ℕ × ℕ). slot.0) (filter (λ slot. slot.0 == c) (route t s o)))
      ∙ ap length (sym (filter-map (λ (slot : ℕ × ℕ). slot.0) (λ p. p == c) (route t s o)))
      ∙ ap (λ xs. length (filter (λ p. p == c) xs)) (each s o a b) in
      let once = once_in_range c 0 t.consumers in omega arith;
}
  where
    range_long : (a n : ℕ) → length (range_with_len a n) ≡ n
    range_long a zero = refl
    range_long a (suc n) = ap suc (range_long (a + 1) n)

pub one_to_one_covered : (tasks : ℕ) → IsCovered (one_to_one tasks)
one_to_one_covered tasks = some_of_one (one_to_one tasks) (one_to_one_law tasks)

pub broadcast_covered : (sources consumers : ℕ) → 0 < consumers → IsCovered (broadcast sources consumers)
broadcast_covered sources consumers there = some_of_each (broadcast sources consumers) there (broadcast_law sources consumers)

pub scatter_gather_covered : (sources parts base : ℕ) → 0 < base → IsCovered (scatter_gather sources parts base)
scatter_gather_covered sources parts base some = some_of_one (scatter_gather sources parts base) (scatter_gather_law sources parts base some)
