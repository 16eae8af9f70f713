-- No vertex has more tasks than the plan gives it: kept by each entry, where the plan is valid.
use Rattle.std.specs.Prelude.{◌≡◌, ◌⊎◌, ℕ, zero, suc, ◌+◌, ◌*◌, ◌<◌, ◌≤◌, min, Bool, true, false, IsTrue, not, ◌&&◌, ◌==◌, nat_lt, if◌then◌else◌, List, [], ◌∷◌, map, length, slice_get, Option, Some, None, unwrap_or, refl}
use Rattle.std.specs.List.{filter, enumerate_from, sum_by}
use Rattle.std.specs.Option.{option_map_or}
use Rattle.std.proofs.Common.{ap, sym, ◌∙◌, arith, subst, inl, inr}
use Rattle.std.proofs.lemmas.Bool.{cases_lt}
use Rattle.std.proofs.lemmas.Bool.Decides.{nat_tests}
use Rattle.std.proofs.lemmas.Option.{same_Some}
use Rattle.std.proofs.lemmas.List.Sums.{sum_by-cons}
use Rattle.tez_lists.specs.Numbers.{In}
use Rattle.tez_lists.proofs.Flat.{in-filter-out}
use Rattle.tez_plan.specs.Dag.{Dag, from, to, tasks_of as planned, is_one_to_one, is_broadcast, is_scatter_gather}
use Rattle.tez_plan.specs.Faults.{IsValid, incoming, primaries, mixed_primary, partitions_differ}
use Rattle.tez_plan.specs.declared.parts.EdgeSpec.{EdgeSpec}
use Rattle.tez_plan.specs.declared.parts.VertexSpec.{VertexSpec}
use Rattle.tez_plan.specs.declared.parts.Movement.{Movement}
use Rattle.tez_plan.specs.declared.parts.Movement.TheVariants.{OneToOne, Broadcast, ScatterGather}
use Rattle.tez_plan.specs.Dag.{goes_one_to_one, goes_to_all, goes_by_key}
use Rattle.tez_plan.proofs.CheckLemmas.{valid_parts}
use Rattle.tez_conf.specs.declared.values.ConfValues.{ConfValues}
use Rattle.tez_shrink.specs.Formulas.{tasks_of, base_of}
use Rattle.tez_shrink.proofs.RangeLemmas.{range_there}
use Rattle.tez_vman.specs.declared.seen.Config.{Config}
use Rattle.tez_vman.specs.Rules.{config as shape, configures as configures_by, shrunk_base, has_enough, shrunk, Shuffling}
use Rattle.tez_history.specs.Shape.{Edge, Feed, ByFile, ByVertex, ByPartitions, feed, rule_by, edges_to, primary_edges, first_source, has_source, feed_by, is_vertex}
use Rattle.tez_history.specs.History.{Past}
use Rattle.tez_history.specs.Derived.{task_count, source_tasks, seen, configures}
use Rattle.tez_router_view.specs.View.{FitsPlan}
use Rattle.tez_router_view.proofs.Lists.{filter-map, filter-same, in-filter-holds}
use Rattle.tez_router_view.proofs.Edges.{edge_in, edge_target}
use Rattle.tez_router_view.proofs.Reading.{edge_at}

-- ---- partitions

grown : (p b : ℕ) → 1 ≤ b → p ≤ p * b
grown p b h = grind arith

pub tasks_few : (parts base : ℕ) → 1 ≤ base → tasks_of parts base ≤ parts
tasks_few parts base h = by (cases_lt parts (tasks_of parts base)) where
  by : (parts < tasks_of parts base) ⊎ (tasks_of parts base ≤ parts) → tasks_of parts base ≤ parts
  by (inr low) = low
  by (inl high) =
      let inside : parts * base < parts = range_there parts base parts (omega (arith, h)) high in
      let more : parts ≤ parts * base = grown parts base h in
      omega (arith, inside, more)

base_some : (p w : ℕ) → 1 ≤ base_of p w
base_some p w = omega arith

-- ---- one source

-- the edges with their numbers, and without
pub plain_edges : (n : ℕ) (xs : List EdgeSpec) → map (λ (e : Edge). e.1) (enumerate_from n xs) ≡ xs
plain_edges n [] = refl
plain_edges n (x ∷ xs) = ap (λ ys. x ∷ ys) (plain_edges (n + 1) xs)

length-map : {X Y : Type 0} (f : X → Y) (xs : List X) → length (map f xs) ≡ length xs
length-map f [] = refl
length-map f (x ∷ xs) = ap suc (length-map f xs)

counted_in : (g : Dag) (v : ℕ) (kind : EdgeSpec → Bool) → length (filter (λ e. kind e.1) (edges_to g v)) ≡ length (incoming kind g v)
counted_in g v kind =
    sym (length-map (λ (e : Edge). e.1) (filter (λ e. kind e.1) (edges_to g v)))
    ∙ ap length
    (sym (filter-map kind (λ (e : Edge). e.1) (edges_to g v)) ∙ ap (filter kind) (sym (filter-map (λ e. to g e == v) (λ (e : Edge). e.1) (enumerate_from 0 g.edges)) ∙ ap (filter (λ e. to g e == v)) (plain_edges 0 g.edges)))

none_of : {X : Type 0} (p : X → Bool) (xs : List X) → length (filter p xs) ≡ 0 → (x : X) → In x xs → p x ≡ false
none_of p [] h x i = absurd i
none_of p (y ∷ ys) h x i = by (p y) refl h i (none_of p ys) where
  by : (b : Bool) → p y ≡ b → length (if b then y ∷ filter p ys else filter p ys) ≡ 0 → In x (y ∷ ys) → (length (filter p ys) ≡ 0 → (z : _) → In z ys → p z ≡ false) → p x ≡ false
  by true e k j ih = absurd (omega (arith, k))
  by false e k (inl s) ih = subst (λ z. p z ≡ false) (sym s) e
  by false e k (inr j) ih = ih k x j

kinds : (m : Movement) → goes_by_key m ≡ false → not (goes_to_all m) ≡ goes_one_to_one m
kinds OneToOne h = refl
kinds Broadcast h = refl
kinds (ScatterGather keys) h = cc

-- one at most, and each is few
few_sum : {X : Type 0} (f : X → ℕ) (n : ℕ) (xs : List X) → length xs ≤ 1 → ((x : X) → In x xs → f x ≤ n) → sum_by f xs ≤ n
few_sum f n [] h s = omega arith
few_sum f n (x ∷ []) h s = let k = s x (inl refl) in let e = sum_by-cons f x [] in omega (arith, k, e)
few_sum f n (x ∷ y ∷ ys) h s = absurd (omega (arith, h))

not_true : (b : Bool) → (IsTrue b → ⊥) → b ≡ false
not_true true h = absurd (h refl)
not_true false h = refl

below_two : (n : ℕ) → nat_lt 1 n ≡ false → n ≤ 1
below_two n h = grind (arith, nat_tests)

-- a vertex of a valid plan has one kind of primary edge, and one of that if it is one to one
one_kind : (g : Dag) (v : ℕ) → IsValid g → is_vertex g v ≡ true → length (incoming is_one_to_one g v) + min 1 (length (incoming is_scatter_gather g v)) ≤ 1
one_kind g v valid there = by (slice_get g.vertices v) refl where
  outside : (xs : List VertexSpec) (k : ℕ) → slice_get xs k ≡ None → nat_lt k (length xs) ≡ true → ⊥
  outside [] k e h = let l : k < 0 = grind (arith, nat_tests) in omega (arith, l)
  outside (x ∷ xs) zero e h = cc
  outside (x ∷ xs) (suc k) e h = outside xs k e (grind (arith, nat_tests))

  by : (o : Option VertexSpec) → slice_get g.vertices v ≡ o → length (incoming is_one_to_one g v) + min 1 (length (incoming is_scatter_gather g v)) ≤ 1
  by None e = absurd (outside g.vertices v e there)
  by (Some s) e =
      let fails : option_map_or (λ x. nat_lt 1 (primaries g v x)) (slice_get g.vertices v) false ≡ false = not_true (mixed_primary g v) ((valid_parts g valid).one_primary v) in
      let few : primaries g v s ≤ 1 = below_two (primaries g v s) (ap (λ o. option_map_or (λ x. nat_lt 1 (primaries g v x)) o false) (sym e) ∙ fails) in
      omega (arith, few)

equal_tasks : (one : Bool) (m n : ℕ) → one ≡ true → (one && not (m == n)) ≡ false → m ≡ n
equal_tasks true m n o h = grind (arith, nat_tests)
equal_tasks false m n o h = cc

same_tasks : (g : Dag) (e : Edge) → IsValid g → In e (enumerate_from 0 g.edges) → is_one_to_one e.1 ≡ true → planned g (from g e.1) ≡ planned g (to g e.1)
same_tasks g e valid there one =
    let fails = not_true (partitions_differ g e.0) ((valid_parts g valid).same_partitions e.0) in
    equal_tasks (is_one_to_one e.1) (planned g (from g e.1)) (planned g (to g e.1)) one
    (ap (λ o. option_map_or (λ s. is_one_to_one s && not (planned g (from g s) == planned g (to g s))) o false) (sym (edge_at g.edges e there)) ∙ fails)

first_there : (g : Dag) (es : List Edge) (u : ℕ) → first_source g es ≡ Some u → 1 ≤ length es
first_there g [] u h = cc
first_there g (e ∷ es) u h = omega arith

sources_few : (g : Dag) (v : ℕ) (past : Past) → IsValid g → FitsPlan g past → is_vertex g v ≡ true → 1 ≤ length (filter (λ e. is_one_to_one e.1) (edges_to g v)) → source_tasks g v past ≤ planned g v
sources_few g v past valid fits there some =
    let kind = one_kind g v valid there in
    let one : length (filter (λ e. is_one_to_one e.1) (edges_to g v)) ≡ length (incoming is_one_to_one g v) = counted_in g v is_one_to_one in
    let by_key : length (filter (λ e. is_scatter_gather e.1) (edges_to g v)) ≡ length (incoming is_scatter_gather g v) = counted_in g v is_scatter_gather in
    let few : length (filter (λ e. is_one_to_one e.1) (edges_to g v)) ≤ 1 = omega (arith, kind, one) in
    let none : length (filter (λ e. is_scatter_gather e.1) (edges_to g v)) ≡ 0 = omega (arith, kind, one, by_key, some) in
    let same : primary_edges g v ≡ filter (λ e. is_one_to_one e.1) (edges_to g v) =
    filter-same (λ (e : Edge). not (is_broadcast e.1)) (λ e. is_one_to_one e.1) (edges_to g v) (λ e i. kinds e.1.movement (none_of (λ d. is_scatter_gather d.1) (edges_to g v) none e i)) in
    subst (λ es. sum_by (λ e. task_count g (from g e.1) past) es ≤ planned g v) (sym same)
    (few_sum (λ e. task_count g (from g e.1) past) (planned g v) (filter (λ e. is_one_to_one e.1) (edges_to g v)) few
    (λ e i.
    let member = in-filter-out (λ d. is_one_to_one d.1) e (edges_to g v) i in
    let tasks = same_tasks g e valid (edge_in g v e member) (in-filter-holds (λ d. is_one_to_one d.1) e (edges_to g v) i) in
    let low = fits (from g e.1) in
    let at : planned g (to g e.1) ≡ planned g v = ap (planned g) (edge_target g v e member) in
    omega (arith, tasks, low, at)))

-- ---- what a manager configures

count_in : Option Config → ℕ
count_in o = (unwrap_or o (shape 0 0)).tasks

same_count : (s t : Config) → Some s ≡ Some t → s.tasks ≡ t.tasks
same_count s t h = ap (λ (x : Config). x.tasks) (same_Some s t h)

by_vertex : (ready : Bool) (n m : ℕ) (s : Config) → n ≤ m → (if ready then Some (shape n 1) else None) ≡ Some s → s.tasks ≤ m
by_vertex true n m s low h = let e : n ≡ s.tasks = same_count (shape n 1) s h in omega (arith, e, low)
by_vertex false n m s low h = cc

by_partitions : (auto enough : Bool) (x : Config) (m : ℕ) (s : Config) → x.tasks ≤ m → (if auto then (if enough then Some x else None) else Some (shape m 1)) ≡ Some s → s.tasks ≤ m
by_partitions true true x m s low h = let e = same_count x s h in omega (arith, e, low)
by_partitions true false x m s low h = cc
by_partitions false enough x m s low h = let e : m ≡ s.tasks = same_count (shape m 1) s h in omega (arith, e)

fed_some : (g : Dag) (v u : ℕ) (b : Bool) (o : Option ℕ) → feed_by b o ≡ ByVertex u → o ≡ Some u
fed_some g v u true o h = cc
fed_some g v u false None h = cc
fed_some g v u false (Some w) h = ap (λ f. source_in f) h where
  source_in : Feed → Option ℕ
  source_in ByFile = None
  source_in (ByVertex x) = Some x
  source_in ByPartitions = None

pub configures_few : (g : Dag) (c : ConfValues) (v : ℕ) (past : Past) (s : Config) → IsValid g → FitsPlan g past → is_vertex g v ≡ true → configures g c v past ≡ Some s → s.tasks ≤ planned g v
configures_few g c v past s valid fits there h = by (feed g v) refl h where
  by : (f : Feed) → feed g v ≡ f → configures_by (rule_by g c v f) (seen g v past) ≡ Some s → s.tasks ≤ planned g v
  by ByFile e k = let n : planned g v ≡ s.tasks = same_count (shape (planned g v) 1) s k in omega (arith, n)
  by (ByVertex u) e k =
      let first = fed_some g v u (has_source g v) (first_source g (filter (λ d. is_one_to_one d.1) (edges_to g v))) e in
      by_vertex (seen g v past).configured (source_tasks g v past) (planned g v) s
      (sources_few g v past valid fits there (first_there g (filter (λ d. is_one_to_one d.1) (edges_to g v)) u first)) k
  by ByPartitions e k =
      let r : Shuffling = record { parts = planned g v; auto_parallel = c.auto_parallel; min_src = c.min_src; max_src = c.max_src; desired_bytes = c.desired_bytes; min_tasks = c.min_tasks } in
      by_partitions c.auto_parallel (has_enough r (seen g v past)) (shrunk r (seen g v past)) (planned g v) s
      (tasks_few (planned g v) (shrunk_base r (seen g v past)) (base_some (planned g v) _)) k
