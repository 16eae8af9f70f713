-- The parts of an order fit together.
--     parts_fit, orders_fit       for a valid plan in its ranges
use Rattle.std.proofs.Common.{◌≡◌, ◌∙◌, ℕ, suc, ◌+◌, ◌<◌, ◌≤◌, ◌==◌, ◌&&◌, Bool, true, false, cond, not, List, [], ◌∷◌, ◌++◌, length, map, filter, Option, None, Some, slice_get, inl, inr, refl, sym, ap, ap₂, subst, arith, bytes_eq, eqb-true, eq-eqb, min}
use Rattle.std.specs.Prelude.{nat_lt, is_none, is_some}
use Rattle.std.specs.List.{AllByRecursion, list_all, list_any, enumerate_from}
use Rattle.std.specs.Option.{option_map_or}
use Rattle.std.proofs.lemmas.Bool.{and_parts, and_from, not-false}
use Rattle.std.proofs.lemmas.Bool.Decides.{nat_tests}
use Rattle.tez_lists.specs.Numbers.{In}
use Rattle.tez_lists.proofs.Cases.{cases}
use Rattle.tez_lists.proofs.Flat.{append-nil, in-filter-out}
use Rattle.tez_lists.proofs.Members.{in_filter, in_append_left, in_append_right, in_map}
use Rattle.tez_ids.specs.declared.VertexId.{VertexId}
use Rattle.tez_ids.specs.declared.EdgeId.{EdgeId}
use Rattle.tez_plan.specs.declared.parts.VertexSpec.{VertexSpec}
use Rattle.tez_plan.specs.declared.parts.EdgeSpec.{EdgeSpec}
use Rattle.tez_plan.specs.declared.parts.Movement.{Movement}
use Rattle.tez_plan.specs.declared.parts.Movement.TheVariants.{OneToOne, Broadcast, ScatterGather}
use Rattle.tez_plan.specs.declared.parts.Head.{Head}
use Rattle.tez_plan.specs.declared.parts.Head.TheVariants.{Each, Sum, Count, Distinct, Join, Lookup, KeepIn, DropIn}
use Rattle.tez_plan.specs.Dag.{Dag, from, to, vertex, edge, edges_into, is_broadcast, is_one_to_one, is_scatter_gather, keys_of, goes_one_to_one, goes_to_all, goes_by_key, tasks_of as planned}
use Rattle.tez_plan.specs.Faults.{IsValid, incoming, primaries, same_keys, keys_fit as fits_keys}
use Rattle.tez_plan.specs.Ranges.{IsInRanges}
use Rattle.tez_plan.specs.Graph.{AreInside}
use Rattle.tez_plan.proofs.CheckLemmas.{valid_parts}
use Rattle.tez_plan.proofs.RankLemmas.{inside_edges}
use Rattle.tez_plan.proofs.OrderLemmas.{all_map}
use Rattle.tez_ids.specs.declared.AttemptId.{AttemptId}
use Rattle.tez_shares.specs.Shares.{HasTasks, share_of_lines}
use Rattle.tez_operators.specs.Process.{Keys, Primary, is_vertex, columns_at}
use Rattle.tez_meaning.specs.Jobs.{Job}
use Rattle.tez_meaning.specs.Value.{is_left, lines_of}
use Rattle.tez_meaning.proofs.EdgeLists.{filter_agree_all, none_of_kind}
use Rattle.tez_meaning.proofs.JoinLemmas.{ahead_of, at_spec, source_none, join_edges, few_primaries}
use Rattle.tez_history.specs.Shape.{Edge, edges_to}
use Rattle.tez_orders.specs.declared.cut.Cut.{Cut}
use Rattle.tez_orders.specs.Orders.{Outs}
use Rattle.tez_orders.specs.Fit.{side_fits, keys_fit, same_columns, two_sides, come_from, edges_differ, has_parts, is_order}
use Rattle.tez_progress.proofs.Fitting.{planned_some}
use Rattle.tez_contents.specs.Contents.{number_of}
use Rattle.tez_assembly.specs.Laws.{IsFitting}
use Rattle.tez_assembly.specs.Order.{Records, order_for, key_at, keys_for, source_part, primary_for, side_for, cut_by, out_for, edges_out, outs_for}
use Rattle.tez_assembly.proofs.EdgeLemmas.{keys_plain, part_at, Agrees, numbers_agree, plain}
use Rattle.tez_assembly.proofs.ReadLemmas.{all_at, all_in, filter_every, filter_none, kept_passes, TwoSides, two_sides as sides_of, the_left, the_right, keys_two, right_apart, left_passes, primary_plain}

-- ---- lists

pub all_true : {X : Type 0} (q : X → Bool) (xs : List X) → ((x : X) → In x xs → q x ≡ true) → list_all q xs ≡ true
all_true q [] h = refl
all_true q (x ∷ xs) h = and_from (q x) (list_all q xs) (h x (inl refl)) (all_true q xs (λ y i. h y (inr i)))

pub true_at : {X : Type 0} (q : X → Bool) (xs : List X) → list_all q xs ≡ true → (x : X) → In x xs → q x ≡ true
true_at q [] h x i = absurd i
true_at q (y ∷ ys) h x (inl e) = ap q e ∙ (and_parts (q y) (list_all q ys) h).0
true_at q (y ∷ ys) h x (inr i) = true_at q ys (and_parts (q y) (list_all q ys) h).1 x i

any_true : {X : Type 0} (q : X → Bool) (x : X) (xs : List X) → In x xs → q x ≡ true → list_any q xs ≡ true
any_true q x [] i t = absurd i
any_true q x (y ∷ ys) (inl e) t = rw (ap q (sym e) ∙ t) refl
any_true q x (y ∷ ys) (inr i) t = cases (q y) (λ k. rw k refl) (λ k. rw k (any_true q x ys i t))

all_mapped : {X Y : Type 0} (q : Y → Bool) (f : X → Y) (xs : List X) → list_all (λ x. q (f x)) xs ≡ true → list_all q (map f xs) ≡ true
all_mapped q f [] h = refl
all_mapped q f (x ∷ xs) h = let parts = and_parts (q (f x)) (list_all (λ y. q (f y)) xs) h in and_from (q (f x)) (list_all q (map f xs)) parts.0 (all_mapped q f xs parts.1)

in_either : {X : Type 0} (q : X → Bool) (x : X) (xs : List X) → In x xs → In x (filter q xs ++ filter (λ y. not (q y)) xs)
in_either q x xs i = cases (q x)
    (λ t. in_append_left x (filter q xs) (filter (λ y. not (q y)) xs) (in_filter q x xs i t))
    (λ t. in_append_right x (filter q xs) (filter (λ y. not (q y)) xs) (in_filter (λ y. not (q y)) x xs i (ap not t)))

-- ---- the keys

-- all that is read comes from vertices of the keys
all_come : (g : Dag) (f : EdgeSpec → Records) (q : EdgeSpec → Bool) (xs : List EdgeSpec) → come_from (map (key_at g) (filter q xs ++ filter (λ e. not (q e)) xs)) (map (part_at g f) xs) ≡ true
all_come g f q xs =
    let keys = map (key_at g) (filter q xs ++ filter (λ e. not (q e)) xs) in
    all_mapped (λ part. list_any (λ k. is_vertex k.0 part.0) keys) (part_at g f) xs
    (all_true (λ e. list_any (λ k. is_vertex k.0 (Some (vertex (from g e)))) keys) xs
    (λ e i. any_true (λ (k : VertexId × List ℕ). is_vertex k.0 (Some (vertex (from g e)))) (key_at g e) keys (in_map (key_at g) e (filter q xs ++ filter (λ d. not (q d)) xs) (in_either q e xs i)) (eq-eqb (from g e) (from g e) refl)))

one_more : (g : Dag) (xs : List EdgeSpec) → 0 < length xs → list_all (λ d. list_all (λ e. bytes_eq (keys_of d) (keys_of e)) xs) xs ≡ true → same_columns (map (key_at g) xs) ≡ true
one_more g [] some h = absurd (omega arith)
one_more g (x ∷ xs) some h = and_from (nat_lt 0 (length (map (key_at g) (x ∷ xs)))) (list_all (λ (k : VertexId × List ℕ). bytes_eq (keys_of x) k.1) (map (key_at g) (x ∷ xs))) (grind (arith, nat_tests))
    (all_mapped (λ (k : VertexId × List ℕ). bytes_eq (keys_of x) k.1) (key_at g) (x ∷ xs) (and_parts (list_all (λ e. bytes_eq (keys_of x) (keys_of e)) (x ∷ xs)) (list_all (λ d. list_all (λ e. bytes_eq (keys_of d) (keys_of e)) (x ∷ xs)) xs) h).0)

the_other : (m : Movement) → goes_one_to_one m ≡ false → not (goes_to_all m) ≡ goes_by_key m
the_other OneToOne k = cc
the_other Broadcast k = refl
the_other (ScatterGather keys) k = refl

-- where no edge is one to one, those past the side are by key
ahead_gathers : (g : Dag) (v : ℕ) → length (incoming is_one_to_one g v) ≡ 0 → ahead_of g v ≡ incoming is_scatter_gather g v
ahead_gathers g v none = filter_agree_all (λ e. not (is_broadcast e)) is_scatter_gather (edges_into g v)
    (all_map (λ e. is_one_to_one e ≡ false) (λ e. not (is_broadcast e) ≡ is_scatter_gather e) (λ e k. the_other e.movement k) (edges_into g v) (none_of_kind is_one_to_one (edges_into g v) none))

pub columns_fit : (g : Dag) (v : ℕ) (s : VertexSpec) → IsValid g → slice_get g.vertices v ≡ Some s → fits_keys s.head (incoming is_scatter_gather g v) (length (incoming is_one_to_one g v) + option_map_or (λ _. 1) s.source 0) ≡ true
columns_fit g v s valid e = not-false _ (at_spec g v s (λ t. not (fits_keys t.head (incoming is_scatter_gather g v) (length (incoming is_one_to_one g v) + option_map_or (λ _. 1) t.source 0))) e ((valid_parts g valid).fit_keys v))

pub some_primary : (g : Dag) (v : ℕ) (s : VertexSpec) → IsValid g → slice_get g.vertices v ≡ Some s → 0 < primaries g v s
some_primary g v s valid e = more (primaries g v s) (at_spec g v s (λ t. primaries g v t == 0) e ((valid_parts g valid).some_primary v))
  where
    more : (n : ℕ) → (n == 0) ≡ false → 0 < n
    more n h = grind (arith, nat_tests)

module _ (g : Dag) (v : ℕ) (s : VertexSpec) (share : List ℕ → Records) (f : EdgeSpec → Records) (some : 0 < primaries g v s) where
  abbrev xs : List EdgeSpec
  xs = ahead_of g v

  abbrev gathers : List EdgeSpec
  gathers = incoming is_scatter_gather g v

  abbrev others : ℕ
  others = length (incoming is_one_to_one g v) + option_map_or (λ _. 1) s.source 0

  abbrev keys_by : Head → Keys
  keys_by head = map (key_at g) (filter (is_left head) xs ++ filter (λ e. not (is_left head e)) xs)

  abbrev parts : Primary
  parts = source_part share s ++ map (part_at g f) xs

  -- all edges on the left, by the same columns
  one_side : same_keys gathers others ≡ true
      → (same_columns (map (key_at g) (filter (λ e. true) xs ++ filter (λ e. false) xs)) && come_from (map (key_at g) (filter (λ e. true) xs ++ filter (λ e. false) xs)) parts) ≡ true
  one_side h =
      let both_facts = and_parts (others == 0) (list_all (λ d. list_all (λ e. bytes_eq (keys_of d) (keys_of e)) gathers) gathers) h in
      let zero : others ≡ 0 = eqb-true others 0 both_facts.0 in
      let no_one : length (incoming is_one_to_one g v) ≡ 0 = omega arith in
      let no_source : option_map_or {U = ℕ} (λ _. 1) s.source 0 ≡ 0 = omega arith in
      let there : 0 < length gathers = omega arith in
      let same : xs ≡ gathers = ahead_gathers g v no_one in
      let all : filter (λ e. true) xs ++ filter (λ e. false) xs ≡ gathers = ap₂ (λ (ys zs : List EdgeSpec). ys ++ zs) (filter_every xs) (filter_none xs) ∙ append-nil xs ∙ same in
      and_from _ _
      (ap (λ ys. same_columns (map (key_at g) ys)) all ∙ one_more g gathers there both_facts.1)
      (ap (λ (source : Option (List ℕ)). come_from (map (key_at g) (filter (λ e. true) xs ++ filter (λ e. false) xs)) (option_map_or (λ name. (None, share name) ∷ []) source [] ++ map (part_at g f) xs)) (source_none s.source no_source)
      ∙ all_come g f (λ e. true) xs)

  two : (head : Head) → s.source ≡ None → AllByRecursion (λ e. is_scatter_gather e ≡ true) xs → TwoSides g head xs → list_all (λ d. list_all (λ e. length (keys_of d) == length (keys_of e)) gathers) gathers ≡ true
      → (two_sides (keys_by head) && come_from (keys_by head) parts) ≡ true
  two head none by_key sides h =
      let l = (the_left g head xs sides).0 in
      let r = (the_right g head xs sides).0 in
      let in_left : In l xs = in-filter-out (is_left head) l xs (subst (λ ys. In l ys) (sym (the_left g head xs sides).1) (inl refl)) in
      let in_right : In r xs = in-filter-out (λ e. not (is_left head e)) r xs (subst (λ ys. In r ys) (sym (the_right g head xs sides).1) (inl refl)) in
      let gather = λ (e : EdgeSpec) (i : In e xs). in_filter is_scatter_gather e (edges_into g v) (in-filter-out (λ d. not (is_broadcast d)) e (edges_into g v) i) (all_at (λ d. is_scatter_gather d ≡ true) e xs by_key i) in
      let columns : (length (keys_of l) == length (keys_of r)) ≡ true =
      true_at (λ e. length (keys_of l) == length (keys_of e)) gathers (true_at (λ d. list_all (λ e. length (keys_of d) == length (keys_of e)) gathers) gathers h l (gather l in_left)) r (gather r in_right) in
      let other : (from g l == from g r) ≡ false = swapped (from g r) (from g l) (right_apart g head xs sides) in
      and_from _ _
      (ap two_sides (keys_two g head xs sides) ∙ and_from (not (from g l == from g r)) (length (keys_of l) == length (keys_of r)) (ap not other) columns)
      (ap (λ (source : Option (List ℕ)). come_from (keys_by head) (option_map_or (λ name. (None, share name) ∷ []) source [] ++ map (part_at g f) xs)) none ∙ all_come g f (is_left head) xs)
    where
      swapped : (a b : ℕ) → (a == b) ≡ false → (b == a) ≡ false
      swapped a b h = grind (arith, nat_tests)

  keys_of_head : (head : Head) → fits_keys head gathers others ≡ true → ((name : List ℕ) → head ≡ Join name → (s.source ≡ None) × AllByRecursion (λ e. is_scatter_gather e ≡ true) xs × TwoSides g head xs)
      → keys_fit head (keys_by head) parts ≡ true
  keys_of_head Each h join = refl
  keys_of_head (Sum value) h join = one_side h
  keys_of_head Count h join = one_side h
  keys_of_head Distinct h join = one_side h
  keys_of_head (Join name) h join = let facts = join name refl in two (Join name) facts.0 facts.1 facts.2 h
  keys_of_head (Lookup key side_key) h join = h
  keys_of_head (KeepIn key side_key) h join = h
  keys_of_head (DropIn key side_key) h join = h

-- ---- the side

pub sides_fit : (g : Dag) (v : ℕ) (head : Head) (copy : ℕ → Records) → side_fits head (side_for g v head copy) ≡ true
sides_fit g v Each copy = refl
sides_fit g v (Sum value) copy = refl
sides_fit g v Count copy = refl
sides_fit g v Distinct copy = refl
sides_fit g v (Join left) copy = refl
sides_fit g v (Lookup key side_key) copy = refl
sides_fit g v (KeepIn key side_key) copy = refl
sides_fit g v (DropIn key side_key) copy = refl

-- ---- the cuts

-- no edge of a later number is this one
later : (g : Dag) (q : Edge → Bool) (m n : ℕ) (xs : List EdgeSpec) → m < n → list_any (λ out. out.0.0 == m) (map (out_for g) (filter q (enumerate_from n xs))) ≡ false
later g q m n [] low = refl
later g q m n (x ∷ xs) low =
    let rest = later g q m (n + 1) xs (omega arith) in
    let off : (n == m) ≡ false = grind (arith, nat_tests) in
    cases (q (n, x)) (λ t. rw (t, off) rest) (λ t. rw t rest)

pub outs_differ : (g : Dag) (q : Edge → Bool) (n : ℕ) (xs : List EdgeSpec) → edges_differ (map (out_for g) (filter q (enumerate_from n xs))) ≡ true
outs_differ g q n [] = refl
outs_differ g q n (x ∷ xs) =
    let rest = outs_differ g q (n + 1) xs in
    cases (q (n, x))
    (λ t. rw t (and_from _ _ (ap not (later g q n (n + 1) xs (omega arith))) rest))
    (λ t. rw t rest)

some_parts : (m : Movement) (parts : ℕ) → 0 < parts → has_parts (cut_by m parts) ≡ true
some_parts OneToOne parts h = refl
some_parts Broadcast parts h = refl
some_parts (ScatterGather keys) parts h = grind (arith, nat_tests)

pub edge_in : (g : Dag) (e : Edge) → In e (enumerate_from 0 g.edges) → In e.1 g.edges
edge_in g e i = subst (λ ys. In e.1 ys) (plain 0 g.edges) (in_map (λ (d : Edge). d.1) e (enumerate_from 0 g.edges) i)

pub cut_has_parts : (g : Dag) (e : Edge) → IsValid g → HasTasks g → In e (enumerate_from 0 g.edges) → has_parts (cut_by e.1.movement (planned g (to g e.1))) ≡ true
cut_has_parts g e valid tasks i =
    let inside : to g e.1 < length g.vertices = (all_at (AreInside g) e.1 g.edges (inside_edges g valid) (edge_in g e i)).1 in
    some_parts e.1.movement (planned g (to g e.1)) (tasks (to g e.1) inside)

pub outs_have_parts : (g : Dag) (v : ℕ) → IsValid g → HasTasks g → list_all (λ out. has_parts out.1) (outs_for g v) ≡ true
outs_have_parts g v valid tasks = all_mapped (λ (out : EdgeId × Cut). has_parts out.1) (out_for g) (edges_out g v)
    (all_true (λ e. has_parts (cut_by e.1.movement (planned g (to g e.1)))) (edges_out g v)
    (λ e i. cut_has_parts g e valid tasks (in-filter-out (λ d. from g d.1 == v) e (enumerate_from 0 g.edges) i)))

-- ---- all parts

pub parts_fit : (g : Dag) (v : ℕ) (s : VertexSpec) (share : List ℕ → Records) (f : EdgeSpec → Records) (copy : ℕ → Records) → IsValid g → HasTasks g → slice_get g.vertices v ≡ Some s → Agrees f copy (edges_to g v)
    → is_order s.head (keys_for g v s.head) (record { primary = primary_for g v s share copy; side = side_for g v s.head copy }) (outs_for g v) ≡ true
parts_fit g v s share f copy valid tasks here agrees =
    let keys = keys_plain g v s.head in
    let primary = primary_plain g v s share f copy agrees in
    let fit : keys_fit s.head (keys_for g v s.head) (primary_for g v s share copy) ≡ true =
    (λ i. keys_fit s.head (keys i) (primary i))
    ∙ keys_of_head g v s share f (some_primary g v s valid here) s.head (columns_fit g v s valid here)
    (λ name is_join. let e = join_edges g v s valid here name is_join in (e.no_source, e.by_key, sides_of g v s valid here name is_join)) in
    λ i. and4 (sides_fit g v s.head copy i) (fit i) (outs_differ g (λ e. from g e.1 == v) 0 g.edges i) (outs_have_parts g v valid tasks i)
  where
    and4 : Bool → Bool → Bool → Bool → Bool
    and4 a b c d = a && b && c && d

pub orders_fit : (job : Job) (tasks : ℕ) (a : AttemptId) (place : ℕ) (copy : ℕ → Records) (s : VertexSpec) → IsInRanges job.plan → IsValid job.plan → slice_get job.plan.vertices a.task.vertex.0 ≡ Some s → IsFitting (order_for job tasks a place copy s)
orders_fit job tasks a place copy s ranges valid here =
    let v = a.task.vertex.0 in
    let has : HasTasks job.plan = λ u inside. let some = planned_some job.plan u ranges inside in omega (arith, some) in
    parts_fit job.plan v s (λ name. share_of_lines (lines_of job name) tasks a.task.index) (λ e. copy (number_of job.plan e)) copy valid has here (numbers_agree job.plan v copy valid)
