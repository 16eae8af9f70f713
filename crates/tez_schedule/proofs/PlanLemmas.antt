-- The vertices of a plan, and the edges over which they are fed.
use Rattle.std.specs.Prelude.{◌≡◌, ◌≢◌, ℕ, zero, suc, ◌+◌, ◌*◌, ◌<◌, ◌≤◌, ◌⊎◌, min, Bool, true, false, not, ◌&&◌, ◌||◌, ◌==◌, nat_lt, if◌then◌else◌, List, [], ◌∷◌, ◌++◌, map, length, slice_get, take, Option, Some, None, is_some, IfSome, refl}
use Rattle.std.specs.List.{filter, enumerate_from, sum_by}
use Rattle.std.specs.Option.{option_map_or}
use Rattle.std.proofs.Common.{zero-mul, ap, sym, ◌∙◌, arith, subst, inl, inr, true≢false, zero-add}
use Rattle.std.proofs.lemmas.Bool.{ltb-false, cases_lt}
use Rattle.std.proofs.lemmas.Bool.Decides.{nat_tests}
use Rattle.std.proofs.lemmas.List.{take_all}
use Rattle.std.proofs.lemmas.List.FromFn.{length-enumerate_from}
use Rattle.std.proofs.lemmas.List.Sums.{sum_by-cons}
use Rattle.tez_lists.specs.Numbers.{numbers_from}
use Rattle.tez_lists.proofs.Cases.{cases}
use Rattle.tez_lists.proofs.Flat.{map-append'}
use Rattle.tez_lists.proofs.Tables.{get_each, map_each}
use Rattle.tez_plan.specs.Dag.{Dag, from, to, source_of, tasks_of, vertex, edge, is_one_to_one, is_broadcast, is_scatter_gather, goes_one_to_one, goes_to_all, goes_by_key}
use Rattle.tez_plan.specs.declared.parts.EdgeSpec.{EdgeSpec}
use Rattle.tez_plan.specs.declared.parts.VertexSpec.{VertexSpec}
use Rattle.tez_plan.specs.declared.parts.Movement.{Movement}
use Rattle.tez_plan.specs.declared.parts.Movement.TheVariants.{OneToOne, Broadcast, ScatterGather}
use Rattle.tez_plan.specs.Faults.{IsValid, incoming, primaries}
use Rattle.tez_plan.proofs.CheckLemmas.{valid_parts}
use Rattle.tez_conf.specs.declared.values.ConfValues.{ConfValues}
use Rattle.tez_history.specs.Shape.{Edge, feed_by, rule_by, rule, has_source, edges_to, primary_edges, first_source}
use Rattle.tez_schedule.specs.declared.input.Input.{Input}
use Rattle.tez_schedule.specs.State.{VertexState, EdgeState}
use Rattle.tez_schedule.specs.Kept.{HasInput, Layout, layout, planned_at, IsLaidOut, AreLaidOut, GivesFew, IsKept, planned_sources}
use Rattle.tez_schedule.specs.Planned.{input_of, one_to_one_source, planned_vertex, planned_edge}
use Rattle.tez_schedule.proofs.VertexLemmas.{length_each}
use Rattle.tez_schedule.proofs.ScheduleLemmas.{past}

-- ---- loops over numbers

numbers_more : (a n : ℕ) → numbers_from a (suc n) ≡ numbers_from a n ++ (a + n) ∷ []
numbers_more a zero = let e : a + 0 ≡ a = omega arith in rw e refl
numbers_more a (suc n) = let e : suc a + n ≡ a + suc n = omega arith in ap (λ xs. a ∷ xs) (numbers_more (suc a) n ∙ ap (λ k. numbers_from (suc a) n ++ k ∷ []) e)

pub one_more : {Y : Type 0} (f : ℕ → Y) (n : ℕ) (was now : List Y) (y : Y) → was ≡ map f (numbers_from 0 n) → y ≡ f n → now ≡ was ++ y ∷ [] → now ≡ map f (numbers_from 0 (n + 1))
one_more f n was now y w is e =
    let next : n + 1 ≡ suc n = omega arith in
    let last : map f (numbers_from 0 (n + 1)) ≡ map f (numbers_from 0 n) ++ f n ∷ [] =
    ap (λ k. map f (numbers_from 0 k)) next ∙ ap (map f) (numbers_more 0 n ∙ ap (λ k. numbers_from 0 n ++ k ∷ []) (zero-add n)) ∙ map-append' f (numbers_from 0 n) (n ∷ []) in
    e ∙ ap (λ ys. ys ++ y ∷ []) w ∙ ap (λ z. map f (numbers_from 0 n) ++ z ∷ []) is ∙ sym last

-- ---- lists that are filtered

filter_both : {X : Type 0} (p q : X → Bool) (xs : List X) → filter q (filter p xs) ≡ filter (λ x. p x && q x) xs
filter_both p q [] = refl
filter_both {X} p q (x ∷ xs) = by (p x) (filter_both p q xs) where
  by : (b : Bool) → filter q (filter p xs) ≡ filter (λ y. p y && q y) xs → filter q (if b then x ∷ filter p xs else filter p xs) ≡ (if b && q x then x ∷ filter (λ y. p y && q y) xs else filter (λ y. p y && q y) xs)
  by true rest = ap (λ ys. if q x then x ∷ ys else ys) rest
  by false rest = rest

-- the numbered elements that pass a test, up to a number
abbrev pub passing : (EdgeSpec → Bool) → ℕ → ℕ → List EdgeSpec → List Edge
passing test n i edges = filter (λ e. test e.1) (take i (enumerate_from n edges))

there : (edges : List EdgeSpec) (i : ℕ) → i < length edges → (s : EdgeSpec) × (slice_get edges i ≡ Some s)
there [] i l = absurd (omega arith)
there (x ∷ xs) zero l = (x, refl)
there (x ∷ xs) (suc i) l = there xs i (omega arith)

passing_more : (test : EdgeSpec → Bool) (edges : List EdgeSpec) (n i : ℕ) (s : EdgeSpec) → slice_get edges i ≡ Some s → passing test n (suc i) edges ≡ passing test n i edges ++ (if test s then (n + i, s) ∷ [] else [])
passing_more test [] n i s e = cc
passing_more test (x ∷ xs) n zero s e =
    let same : x ≡ s = cc in
    let number : n + 0 ≡ n = omega arith in
    rw (sym same, number) refl
passing_more test (x ∷ xs) n (suc i) s e = by (test x) (passing_more test xs (n + 1) i s e) where
  by : (b : Bool) → passing test (n + 1) (suc i) xs ≡ passing test (n + 1) i xs ++ (if test s then (n + 1 + i, s) ∷ [] else [])
      → (if b then (n, x) ∷ passing test (n + 1) (suc i) xs else passing test (n + 1) (suc i) xs) ≡ (if b then (n, x) ∷ passing test (n + 1) i xs else passing test (n + 1) i xs) ++ (if test s then (n + suc i, s) ∷ [] else [])
  by true rest = let number : n + 1 + i ≡ n + suc i = omega arith in ap (λ es. (n, x) ∷ es) (rest ∙ ap (λ k. passing test (n + 1) i xs ++ (if test s then (k, s) ∷ [] else [])) number)
  by false rest = let number : n + 1 + i ≡ n + suc i = omega arith in rest ∙ ap (λ k. passing test (n + 1) i xs ++ (if test s then (k, s) ∷ [] else [])) number

pub passing_yes : (test : EdgeSpec → Bool) (edges : List EdgeSpec) (i : ℕ) → i < length edges → option_map_or test (slice_get edges i) false ≡ true
    → (s : EdgeSpec) × (slice_get edges i ≡ Some s) × (passing test 0 (i + 1) edges ≡ passing test 0 i edges ++ (i, s) ∷ [])
passing_yes test edges i l passes =
    let s = there edges i l in
    let yes : test s.0 ≡ true = ap (λ o. option_map_or test o false) (sym s.1) ∙ passes in
    let next : i + 1 ≡ suc i = omega arith in
    (s.0, s.1, ap (λ k. passing test 0 k edges) next ∙ passing_more test edges 0 i s.0 s.1 ∙ ap (λ b. passing test 0 i edges ++ (if b then (0 + i, s.0) ∷ [] else [])) yes ∙ ap (λ k. passing test 0 i edges ++ (k, s.0) ∷ []) (zero-add i))

append_nil : {X : Type 0} (xs : List X) → xs ++ [] ≡ xs
append_nil [] = refl
append_nil (x ∷ xs) = ap (λ ys. x ∷ ys) (append_nil xs)

pub passing_no : (test : EdgeSpec → Bool) (edges : List EdgeSpec) (i : ℕ) → i < length edges → option_map_or test (slice_get edges i) false ≡ false → passing test 0 (i + 1) edges ≡ passing test 0 i edges
passing_no test edges i l fails =
    let s = there edges i l in
    let no : test s.0 ≡ false = ap (λ o. option_map_or test o false) (sym s.1) ∙ fails in
    let next : i + 1 ≡ suc i = omega arith in
    ap (λ k. passing test 0 k edges) next ∙ passing_more test edges 0 i s.0 s.1 ∙ ap (λ b. passing test 0 i edges ++ (if b then (0 + i, s.0) ∷ [] else [])) no ∙ append_nil (passing test 0 i edges)

passing_all : (test : EdgeSpec → Bool) (edges : List EdgeSpec) (i : ℕ) → i ≡ length edges → passing test 0 i edges ≡ filter (λ e. test e.1) (enumerate_from 0 edges)
passing_all test edges i e = ap (filter (λ k. test k.1)) (take_all i (enumerate_from 0 edges) (omega (arith, length-enumerate_from 0 edges)))

-- ---- the edges over which a vertex is fed

abbrev pub feeds : Dag → ℕ → EdgeSpec → Bool
feeds g v s = (to g s == v) && not (is_broadcast s)

abbrev pub feeds_one : Dag → ℕ → EdgeSpec → Bool
feeds_one g v s = (to g s == v) && is_one_to_one s

abbrev pub feeds_all : Dag → ℕ → EdgeSpec → Bool
feeds_all g v s = (to g s == v) && is_scatter_gather s

pub input_more : (g : Dag) (v i : ℕ) (was now : List Input) (x : Input) → i < length g.edges → was ≡ map (input_of g) (passing (feeds g v) 0 i g.edges) → option_map_or (feeds g v) (slice_get g.edges i) false ≡ true
    → x.edge.0 ≡ i → x.source.0 ≡ source_of g i → now ≡ was ++ x ∷ [] → now ≡ map (input_of g) (passing (feeds g v) 0 (i + 1) g.edges)
input_more g v i was now x l w passes number source e =
    let s = passing_yes (feeds g v) g.edges i l passes in
    let leads : x.source.0 ≡ from g s.0 = source ∙ ap (λ o. option_map_or (from g) o 0) s.1 in
    let is : x ≡ input_of g (i, s.0) = made x i (from g s.0) number leads in
    e ∙ ap (λ xs. xs ++ x ∷ []) w ∙ ap (λ y. map (input_of g) (passing (feeds g v) 0 i g.edges) ++ y ∷ []) is ∙ sym (ap (map (input_of g)) s.2 ∙ map-append' (input_of g) (passing (feeds g v) 0 i g.edges) ((i, s.0) ∷ []))
  where
    made : (x : Input) (i u : ℕ) → x.edge.0 ≡ i → x.source.0 ≡ u → x ≡ record { edge = edge i; source = vertex u }
    made x i u a b = rw (sym a, sym b) refl

pub inputs_are : (g : Dag) (v i : ℕ) (inputs : List Input) → i ≡ length g.edges → inputs ≡ map (input_of g) (passing (feeds g v) 0 i g.edges) → inputs ≡ map (input_of g) (primary_edges g v)
inputs_are g v i inputs all e = e ∙ ap (map (input_of g)) (passing_all (feeds g v) g.edges i all ∙ sym (filter_both (λ (k : Edge). to g k.1 == v) (λ (k : Edge). not (is_broadcast k.1)) (enumerate_from 0 g.edges)))

first_of : (g : Dag) (test : EdgeSpec → Bool) (edges : List EdgeSpec) (n i : ℕ) (s : EdgeSpec) → slice_get edges i ≡ Some s → passing test n i edges ≡ [] → test s ≡ true
    → first_source g (filter (λ e. test e.1) (enumerate_from n edges)) ≡ Some (from g s)
first_of g test [] n i s e none passes = cc
first_of g test (x ∷ xs) n zero s e none passes =
    let same : x ≡ s = cc in
    ap (λ b. first_source g (if b then (n, x) ∷ filter (λ k. test k.1) (enumerate_from (n + 1) xs) else filter (λ k. test k.1) (enumerate_from (n + 1) xs))) (ap test same ∙ passes) ∙ ap (λ y. Some (from g y)) same
first_of g test (x ∷ xs) n (suc i) s e none passes = by (test x) none (λ m. first_of g test xs (n + 1) i s e m passes) where
  by : (b : Bool) → (if b then (n, x) ∷ passing test (n + 1) i xs else passing test (n + 1) i xs) ≡ [] → (passing test (n + 1) i xs ≡ [] → first_source g (filter (λ k. test k.1) (enumerate_from (n + 1) xs)) ≡ Some (from g s))
      → first_source g (if b then (n, x) ∷ filter (λ k. test k.1) (enumerate_from (n + 1) xs) else filter (λ k. test k.1) (enumerate_from (n + 1) xs)) ≡ Some (from g s)
  by true m rest = cc
  by false m rest = rest m

one_sources : (g : Dag) (v : ℕ) → one_to_one_source g v ≡ first_source g (filter (λ e. feeds_one g v e.1) (enumerate_from 0 g.edges))
one_sources g v = ap (first_source g) (filter_both (λ (k : Edge). to g k.1 == v) (λ (k : Edge). is_one_to_one k.1) (enumerate_from 0 g.edges))

pub feeder_found : (g : Dag) (v i : ℕ) → i < length g.edges → passing (feeds_one g v) 0 i g.edges ≡ [] → option_map_or (feeds_one g v) (slice_get g.edges i) false ≡ true → one_to_one_source g v ≡ Some (source_of g i)
feeder_found g v i l none passes =
    let s = there g.edges i l in
    let yes : feeds_one g v s.0 ≡ true = ap (λ o. option_map_or (feeds_one g v) o false) (sym s.1) ∙ passes in
    one_sources g v ∙ first_of g (feeds_one g v) g.edges 0 i s.0 s.1 none yes ∙ sym (ap (λ o. Some (option_map_or (from g) o 0)) s.1)

pub feeder_none : (g : Dag) (v i : ℕ) → i ≡ length g.edges → passing (feeds_one g v) 0 i g.edges ≡ [] → one_to_one_source g v ≡ None
feeder_none g v i all none = one_sources g v ∙ ap (first_source g) (sym (passing_all (feeds_one g v) g.edges i all) ∙ none)

-- ---- what a valid plan says of them

not_true : (b : Bool) → (b ≡ true → ⊥) → b ≡ false
not_true true h = absurd (h refl)
not_true false h = refl

pub few_edges : (g : Dag) → IsValid g → length g.edges ≤ 256
few_edges g valid = cases (nat_lt 256 (length g.edges)) (λ e. absurd ((valid_parts g valid).few_parts 256 (subst (λ b. (false || b) ≡ true) (sym e) refl))) (λ e. ltb-false 256 (length g.edges) e)

-- as many edges feed a vertex one to one as there are, and the others gather
count_numbered : (test : EdgeSpec → Bool) (xs : List EdgeSpec) (n : ℕ) → length (filter (λ e. test e.1) (enumerate_from n xs)) ≡ length (filter test xs)
count_numbered test [] n = refl
count_numbered test (x ∷ xs) n = by (test x) (count_numbered test xs (n + 1)) where
  by : (b : Bool) → length (filter (λ (e : Edge). test e.1) (enumerate_from (n + 1) xs)) ≡ length (filter test xs)
      → length (if b then (n, x) ∷ filter (λ (e : Edge). test e.1) (enumerate_from (n + 1) xs) else filter (λ (e : Edge). test e.1) (enumerate_from (n + 1) xs)) ≡ length (if b then x ∷ filter test xs else filter test xs)
  by true rest = ap suc rest
  by false rest = rest

two_kinds : (g : Dag) (v : ℕ) (xs : List EdgeSpec) → length (filter (feeds g v) xs) ≡ length (filter (feeds_one g v) xs) + length (filter (feeds_all g v) xs)
two_kinds g v [] = refl
two_kinds g v (x ∷ xs) = by (to g x == v) x.movement (two_kinds g v xs) where
  by : (b : Bool) (m : Movement) → length (filter (feeds g v) xs) ≡ length (filter (feeds_one g v) xs) + length (filter (feeds_all g v) xs)
      → length (if b && not (goes_to_all m) then x ∷ filter (feeds g v) xs else filter (feeds g v) xs)
      ≡ length (if b && goes_one_to_one m then x ∷ filter (feeds_one g v) xs else filter (feeds_one g v) xs) + length (if b && goes_by_key m then x ∷ filter (feeds_all g v) xs else filter (feeds_all g v) xs)
  by false m rest = rest
  by true OneToOne rest = omega arith
  by true Broadcast rest = rest
  by true (ScatterGather keys) rest = omega arith

primary_count : (g : Dag) (v : ℕ) → length (primary_edges g v) ≡ length (incoming is_one_to_one g v) + length (incoming is_scatter_gather g v)
primary_count g v =
    ap length (filter_both (λ (k : Edge). to g k.1 == v) (λ (k : Edge). not (is_broadcast k.1)) (enumerate_from 0 g.edges))
    ∙ count_numbered (feeds g v) g.edges 0 ∙ two_kinds g v g.edges
    ∙ ap (λ n. n + length (filter (feeds_all g v) g.edges)) (sym (ap length (filter_both (λ e. to g e == v) is_one_to_one g.edges)))
    ∙ ap (λ n. length (incoming is_one_to_one g v) + n) (sym (ap length (filter_both (λ e. to g e == v) is_scatter_gather g.edges)))

vertex_there : (xs : List VertexSpec) (i : ℕ) → i < length xs → (s : VertexSpec) × (slice_get xs i ≡ Some s)
vertex_there [] i l = absurd (omega arith)
vertex_there (x ∷ xs) zero l = (x, refl)
vertex_there (x ∷ xs) (suc i) l = vertex_there xs i (omega arith)

-- with no source, so many primaries as edges that feed it one to one, and one for those that gather
own_source : (o : Option (List ℕ)) → is_some o ≡ false → ◌≡◌ {A = ℕ} (option_map_or (λ _. 1) o 0) 0
own_source None e = refl
own_source (Some x) e = absurd (true≢false e)

zero_test : (n : ℕ) → (n == 0) ≡ false → 1 ≤ n
zero_test zero e = absurd (true≢false e)
zero_test (suc n) e = omega arith

some_primary : (g : Dag) (v : ℕ) → IsValid g → v < length g.vertices → has_source g v ≡ false → 1 ≤ length (primary_edges g v)
some_primary g v valid l none =
    let s = vertex_there g.vertices v l in
    let fails : (primaries g v s.0 == 0) ≡ false = sym (ap (λ o. option_map_or (λ x. primaries g v x == 0) o false) s.1) ∙ not_true _ ((valid_parts g valid).some_primary v) in
    let no_source : is_some s.0.source ≡ false = sym (ap (λ o. option_map_or (λ (x : VertexSpec). is_some x.source) o false) s.1) ∙ none in
    let some = zero_test (primaries g v s.0) fails in
    let own = own_source s.0.source no_source in
    let count = primary_count g v in
    omega arith

one_primary : (g : Dag) (v : ℕ) → IsValid g → v < length g.vertices → length (incoming is_one_to_one g v) + min 1 (length (incoming is_scatter_gather g v)) ≤ 1
one_primary g v valid l =
    let s = vertex_there g.vertices v l in
    let fails : nat_lt 1 (primaries g v s.0) ≡ false = sym (ap (λ o. option_map_or (λ x. nat_lt 1 (primaries g v x)) o false) s.1) ∙ not_true _ ((valid_parts g valid).one_primary v) in
    let few = ltb-false 1 (primaries g v s.0) fails in
    omega arith

not_empty : {X Y : Type 0} (f : X → Y) (xs : List X) → 1 ≤ length xs → map f xs ≢ []
not_empty f [] l e = absurd (omega arith)
not_empty f (x ∷ xs) l e = cc

pub has_input : (g : Dag) (c : ConfValues) (v : ℕ) → IsValid g → v < length g.vertices → HasInput (rule g c v) (map (input_of g) (primary_edges g v))
has_input g c v valid l = by (has_source g v) (first_source g (filter (λ e. is_one_to_one e.1) (edges_to g v))) (λ none. not_empty (input_of g) (primary_edges g v) (some_primary g v valid l none)) where
  by : (b : Bool) (o : Option ℕ) → (b ≡ false → map (input_of g) (primary_edges g v) ≢ []) → HasInput (rule_by g c v (feed_by b o)) (map (input_of g) (primary_edges g v))
  by true o some = tt
  by false (Some u) some = some refl
  by false None some = some refl

-- ---- the sources of a vertex that is fed one to one

sum_map : {X Y : Type 0} (f : Y → ℕ) (h : X → Y) (xs : List X) → sum_by f (map h xs) ≡ sum_by (λ x. f (h x)) xs
sum_map f h [] = refl
sum_map f h (x ∷ xs) =
    let a = sum_by-cons f (h x) (map h xs) in
    let b = sum_by-cons (λ y. f (h y)) x xs in
    let rest = sum_map f h xs in
    omega arith

one_each : (g : Dag) (v m n : ℕ) (xs : List EdgeSpec) → ((i : ℕ) (s : EdgeSpec) → slice_get xs i ≡ Some s → feeds_one g v s ≡ true → tasks_of g (from g s) ≡ m) → length (filter (feeds_all g v) xs) ≡ 0
    → sum_by (λ (e : Edge). tasks_of g (from g e.1)) (filter (λ (e : Edge). feeds g v e.1) (enumerate_from n xs)) ≡ length (filter (feeds_one g v) xs) * m
one_each g v m n [] same none = sym (zero-mul m)
one_each g v m n (x ∷ xs) same none = by (to g x == v) x.movement (same 0 x refl) none (λ h. one_each g v m (n + 1) xs (λ i s e. same (suc i) s e) h) where
  F : Edge → ℕ
  F e = tasks_of g (from g e.1)

  rest : List Edge
  rest = filter (λ (e : Edge). feeds g v e.1) (enumerate_from (n + 1) xs)

  by : (b : Bool) (k : Movement) → ((b && goes_one_to_one k) ≡ true → tasks_of g (from g x) ≡ m) → length (if b && goes_by_key k then x ∷ filter (feeds_all g v) xs else filter (feeds_all g v) xs) ≡ 0
      → (length (filter (feeds_all g v) xs) ≡ 0 → sum_by F rest ≡ length (filter (feeds_one g v) xs) * m)
      → sum_by F (if b && not (goes_to_all k) then (n, x) ∷ rest else rest) ≡ length (if b && goes_one_to_one k then x ∷ filter (feeds_one g v) xs else filter (feeds_one g v) xs) * m
  by false k h z ih = ih z
  by true OneToOne h z ih =
      let cons = sum_by-cons F (n, x) rest in
      let here : F (n, x) ≡ m = h refl in
      let more : sum_by F rest ≡ length (filter (feeds_one g v) xs) * m = ih z in
      omega arith
  by true Broadcast h z ih = ih z
  by true (ScatterGather keys) h z ih = absurd (omega arith)

tells : (a b : ℕ) → (a == b) ≡ true → a ≡ b
tells a b e = grind (arith, nat_tests)

same_tasks : (g : Dag) → IsValid g → (v i : ℕ) (s : EdgeSpec) → slice_get g.edges i ≡ Some s → feeds_one g v s ≡ true → tasks_of g (from g s) ≡ tasks_of g v
same_tasks g valid v i s e one = by (to g s == v) (is_one_to_one s) (tasks_of g (from g s) == tasks_of g (to g s)) refl refl one fails where
  fails : (is_one_to_one s && not (tasks_of g (from g s) == tasks_of g (to g s))) ≡ false
  fails = sym (ap (λ o. option_map_or (λ x. is_one_to_one x && not (tasks_of g (from g x) == tasks_of g (to g x))) o false) e) ∙ not_true _ ((valid_parts g valid).same_partitions i)

  by : (a b d : Bool) → (to g s == v) ≡ a → (tasks_of g (from g s) == tasks_of g (to g s)) ≡ d → (a && b) ≡ true → (b && not d) ≡ false → tasks_of g (from g s) ≡ tasks_of g v
  by true true true p q r f = tells (tasks_of g (from g s)) (tasks_of g (to g s)) q ∙ ap (tasks_of g) (tells (to g s) v p)
  by true true false p q r f = cc
  by true false d p q r f = cc
  by false b d p q r f = cc

first_some : (g : Dag) (es : List Edge) (u : ℕ) → first_source g es ≡ Some u → 1 ≤ length es
first_some g [] u e = cc
first_some g (x ∷ es) u e = omega arith

pub few_sources : (g : Dag) (v u : ℕ) → IsValid g → v < length g.vertices → one_to_one_source g v ≡ Some u → sum_by (λ (e : Edge). tasks_of g (from g e.1)) (primary_edges g v) ≤ tasks_of g v
few_sources g v u valid l e =
    let ones : length (incoming is_one_to_one g v) ≡ length (filter (feeds_one g v) g.edges) = ap length (filter_both (λ s. to g s == v) is_one_to_one g.edges) in
    let gathers : length (incoming is_scatter_gather g v) ≡ length (filter (feeds_all g v) g.edges) = ap length (filter_both (λ s. to g s == v) is_scatter_gather g.edges) in
    let counted : length (filter (λ (k : Edge). feeds_one g v k.1) (enumerate_from 0 g.edges)) ≡ length (filter (feeds_one g v) g.edges) = count_numbered (feeds_one g v) g.edges 0 in
    let some : 1 ≤ length (filter (λ (k : Edge). feeds_one g v k.1) (enumerate_from 0 g.edges)) = first_some g _ u (sym (one_sources g v) ∙ e) in
    let one = one_primary g v valid l in
    let none : length (filter (feeds_all g v) g.edges) ≡ 0 = omega arith in
    let single : length (filter (feeds_one g v) g.edges) ≡ 1 = omega arith in
    let merged = filter_both (λ (k : Edge). to g k.1 == v) (λ (k : Edge). not (is_broadcast k.1)) (enumerate_from 0 g.edges) in
    let total : sum_by (λ (k : Edge). tasks_of g (from g k.1)) (primary_edges g v) ≡ tasks_of g v =
    ap (sum_by (λ (k : Edge). tasks_of g (from g k.1))) merged ∙ one_each g v (tasks_of g v) 0 g.edges (same_tasks g valid v) none ∙ ap (λ n. n * tasks_of g v) single ∙ omega arith in
    omega arith

-- ---- the layout

abbrev pub layouts : Dag → ConfValues → List Layout
layouts g c = map layout (map (planned_vertex g c) (numbers_from 0 (length g.vertices)))

planned_there : (g : Dag) (c : ConfValues) (u : ℕ) → planned_at (layouts g c) u ≡ tasks_of g u
planned_there g c u = by (cases_lt u (length g.vertices)) where
  flat : layouts g c ≡ map (λ v. layout (planned_vertex g c v)) (numbers_from 0 (length g.vertices))
  flat = map_each layout (planned_vertex g c) 0 (length g.vertices)

  by : (u < length g.vertices) ⊎ (length g.vertices ≤ u) → planned_at (layouts g c) u ≡ tasks_of g u
  by (inl l) =
      ap (λ ls. option_map_or (λ (x : Layout). x.planned) (slice_get ls u) 0) flat
      ∙ ap (λ (o : Option Layout). option_map_or (λ (x : Layout). x.planned) o 0) (get_each (λ v. layout (planned_vertex g c v)) 0 (length g.vertices) u l) ∙ ap (tasks_of g) (zero-add u)
  by (inr l) =
      ap (λ ls. option_map_or (λ (x : Layout). x.planned) (slice_get ls u) 0) flat
      ∙ ap (λ (o : Option Layout). option_map_or (λ (x : Layout). x.planned) o 0)
      (past (map (λ v. layout (planned_vertex g c v)) (numbers_from 0 (length g.vertices))) u (omega (arith, length_each (λ v. layout (planned_vertex g c v)) 0 (length g.vertices))))
      ∙ sym (ap (λ (o : Option VertexSpec). option_map_or (λ (s : VertexSpec). s.tasks) o 0) (past g.vertices u l))

sum_same : {X : Type 0} (f h : X → ℕ) (xs : List X) → ((x : X) → f x ≡ h x) → sum_by f xs ≡ sum_by h xs
sum_same f h xs e = ap (λ k. sum_by k xs) (λ i x. e x i)

sources_there : (g : Dag) (c : ConfValues) (v : ℕ) → planned_sources (layouts g c) (layout (planned_vertex g c v)) ≡ sum_by (λ (e : Edge). tasks_of g (from g e.1)) (primary_edges g v)
sources_there g c v =
    sum_map (λ (f : Input). planned_at (layouts g c) f.source.0) (input_of g) (primary_edges g v)
    ∙ sum_same (λ (e : Edge). planned_at (layouts g c) (from g e.1)) (λ (e : Edge). tasks_of g (from g e.1)) (primary_edges g v) (λ e. planned_there g c (from g e.1))

laid_out_one : (g : Dag) (c : ConfValues) (v : ℕ) → IsValid g → v < length g.vertices → IsLaidOut (layouts g c) (layout (planned_vertex g c v))
laid_out_one g c v valid l = by (has_source g v) (one_to_one_source g v) refl where
  by : (b : Bool) (o : Option ℕ) → one_to_one_source g v ≡ o → GivesFew (rule_by g c v (feed_by b o)) (tasks_of g v) (planned_sources (layouts g c) (layout (planned_vertex g c v)))
  by true o e = refl
  by false (Some u) e = subst (λ n. n ≤ tasks_of g v) (sym (sources_there g c v)) (few_sources g v u valid l e)
  by false None e = refl

laid_out_first : (g : Dag) (c : ConfValues) → IsValid g → AreLaidOut (layouts g c)
laid_out_first g c valid v = by (cases_lt v (length g.vertices)) where
  flat : layouts g c ≡ map (λ w. layout (planned_vertex g c w)) (numbers_from 0 (length g.vertices))
  flat = map_each layout (planned_vertex g c) 0 (length g.vertices)

  by : (v < length g.vertices) ⊎ (length g.vertices ≤ v) → IfSome (slice_get (layouts g c) v) (IsLaidOut (layouts g c))
  by (inl l) =
      subst (λ (o : Option Layout). IfSome o (IsLaidOut (layouts g c)))
      (sym (ap (λ ls. slice_get ls v) flat ∙ get_each (λ w. layout (planned_vertex g c w)) 0 (length g.vertices) v l ∙ ap (λ w. Some (layout (planned_vertex g c w))) (zero-add v)))
      (laid_out_one g c v valid l)
  by (inr l) =
      subst (λ (o : Option Layout). IfSome o (IsLaidOut (layouts g c)))
      (sym (ap (λ ls. slice_get ls v) flat ∙ past (map (λ w. layout (planned_vertex g c w)) (numbers_from 0 (length g.vertices))) v (omega (arith, length_each (λ w. layout (planned_vertex g c w)) 0 (length g.vertices)))))
      tt

pub first_is_kept : (g : Dag) (c : ConfValues) (vs : List VertexState) (es : List EdgeState) (gs : List ℕ) → IsValid g → length g.vertices ≤ 64
    → vs ≡ map (planned_vertex g c) (numbers_from 0 (length g.vertices)) → es ≡ map (planned_edge g) (numbers_from 0 (length g.edges)) → length gs ≡ length g.vertices
    → IsKept (record { vertices = vs; edges = es; greatest = gs })
first_is_kept g c vs es gs valid few a b sized =
    let long_vs = ap length a ∙ length_each (planned_vertex g c) 0 (length g.vertices) in
    let long_es = ap length b ∙ length_each (planned_edge g) 0 (length g.edges) in
    let edges = few_edges g valid in
    record {
      few_vertices = omega arith;
      few_edges = omega arith;
      sized = omega arith;
      laid_out = subst (λ (xs : List VertexState). AreLaidOut (map layout xs)) (sym a) (laid_out_first g c valid);
    }
