-- The first number at which a test passes.
--     find_first, find_nowhere      what a search over the numbers from 0 on says
--     vertices_nowhere              a test of the vertices that passes at none of them passes nowhere
use Rattle.std.proofs.Common.{◌≡◌, ◌⊎◌, ⊎_elim, ℕ, zero, suc, ◌+◌, ◌<◌, ◌≤◌, ◌==◌, ◌&&◌, ◌||◌, Bool, true, false, cond, not, List, [], ◌∷◌, length, map, find, slice_get, Option, Some, None, refl, sym, ap, ◌∙◌, subst, arith, eqb-true}
use Rattle.std.specs.List.{AllByRecursion, list_any, range_with_len}
use Rattle.std.specs.Option.{option_map_or}
use Rattle.std.proofs.lemmas.Bool.{cases_lt, cases_order, and_parts, or_cases, not-true, not-false}
use Rattle.tez_lists.proofs.Cases.{cases, both}
use Rattle.tez_lists.proofs.Ranges.{at_below}
use Rattle.tez_ids.specs.declared.VertexId.{VertexId}
use Rattle.tez_plan.specs.declared.parts.VertexSpec.{VertexSpec}
use Rattle.tez_plan.specs.declared.parts.EdgeSpec.{EdgeSpec}
use Rattle.tez_plan.specs.Dag.{Dag, from, to, IsEdge, vertex}
use Rattle.tez_plan.specs.Order.{among, topo, vertex_numbers}
use Rattle.tez_plan.specs.Faults.{IsNowhere, IsFirstWhere, at_vertex, at_edge, IsBehindCycle, AllKnown, IsFirstFault, Passes, checks}
use Rattle.tez_plan.specs.declared.fault.PlanFault.TheVariants.{Cycle}
use Rattle.tez_plan.specs.Graph.{AreInside}
use Rattle.tez_plan.proofs.GraphLemmas.{list_any-map}
use Rattle.tez_plan.proofs.NameLemmas.{nowhere_past}
use Rattle.tez_plan.proofs.RankLemmas.{find_none, edges_inside}
use Rattle.tez_plan.proofs.TopoLemmas.{stays_out, missing}
use Rattle.tez_plan.proofs.CheckLemmas.{cycles_pass, cycles_fault}

-- the search begins at a
record First (test : ℕ → Bool) (a n v : ℕ) : Type 0 where
  there : test v ≡ true
  low : a ≤ v
  high : v < a + n
  before : (m : ℕ) → a ≤ m → m < v → test m ≡ false

first_from : (test : ℕ → Bool) (a n v : ℕ) → find test (range_with_len a n) ≡ Some v → First test a n v
first_from test a zero v h = cc
first_from test a (suc n) v h = cases (test a)
    (λ e. let same : a ≡ v = here (ap (λ b. cond b (Some a) (find test (range_with_len (a + 1) n))) (sym e) ∙ h) in
    record { there = ap test (sym same) ∙ e; low = omega arith; high = omega arith; before = λ m low below. absurd (omega arith) })
    (λ e. let rest = first_from test (a + 1) n v (ap (λ b. cond b (Some a) (find test (range_with_len (a + 1) n))) (sym e) ∙ h) in
    record {
      there = rest.there;
      low = omega (arith, rest.low);
      high = omega (arith, rest.high);
      before = λ m low below. ⊎_elim
          (λ (same : a ≡ m). ap test (sym same) ∙ e)
          (λ other. ⊎_elim (λ (after : a < m). rest.before m (omega arith) below) (λ (under : m < a). absurd (omega arith)) other)
          (cases_order a m);
    })
  where
    here : Some a ≡ Some v → a ≡ v
    here e = cc

pub find_first : (test : ℕ → Bool) (n v : ℕ) → find test (range_with_len 0 n) ≡ Some v → IsFirstWhere test v
find_first test n v h = let first = first_from test 0 n v h in record { there = first.there; before = λ m below. first.before m (omega arith) below }

pub find_below : (test : ℕ → Bool) (n v : ℕ) → find test (range_with_len 0 n) ≡ Some v → v < n
find_below test n v h = let first = first_from test 0 n v h in omega (arith, first.high)

pub find_nowhere : (test : ℕ → Bool) (n : ℕ) → find test (range_with_len 0 n) ≡ None → (m : ℕ) → m < n → test m ≡ false
find_nowhere test n h m below = at_below m n (λ v. test v ≡ false) (find_none test (range_with_len 0 n) h) below

pub vertices_nowhere : (p : Dag) (test : ℕ → VertexSpec → Bool) → find (λ n. at_vertex p n (test n)) (vertex_numbers p) ≡ None → IsNowhere (λ n. at_vertex p n (test n))
vertices_nowhere p test h = nowhere_past test p.vertices (length p.vertices) (omega arith) (find_nowhere (λ n. at_vertex p n (test n)) (length p.vertices) h)

pub edges_nowhere : (p : Dag) (test : ℕ → EdgeSpec → Bool) → find (λ n. at_edge p n (test n)) (range_with_len 0 (length p.edges)) ≡ None → IsNowhere (λ n. at_edge p n (test n))
edges_nowhere p test h = nowhere_past test p.edges (length p.edges) (omega arith) (find_nowhere (λ n. at_edge p n (test n)) (length p.edges) h)

-- ---- cycles

pub all_known : (p : Dag) → Passes 4 p → AllKnown p
unfolding Passes checks
all_known p h = h.1.1.0

-- an edge leads to a vertex
leads_inside : (p : Dag) (u v : ℕ) (es : List EdgeSpec) → AllByRecursion (AreInside p) es → list_any (λ e. (from p e == u) && (to p e == v)) es ≡ true → v < length p.vertices
leads_inside p u v [] all h = cc
leads_inside p u v (e ∷ es) all h = ⊎_elim
    (λ k. subst (λ x. x < length p.vertices) (eqb-true (to p e) v (and_parts _ _ k).1) all.0.1)
    (λ k. leads_inside p u v es all.1 k)
    (or_cases ((from p e == u) && (to p e == v)) (list_any (λ d. (from p d == u) && (to p d == v)) es) h)

abbrev is_missing : List VertexId → ℕ → Bool
is_missing order v = not (list_any (λ u. u.0 == v) order)

missing_is : (p : Dag) (order : List VertexId) → order ≡ map vertex (topo p) → (v : ℕ) → is_missing order v ≡ not (among (topo p) v)
missing_is p order h v = ap (λ vs. is_missing vs v) h ∙ ap not (list_any-map (λ u. u.0 == v) vertex (topo p))

pub first_on_cycle : (p : Dag) (order : List VertexId) (n v : ℕ) → Passes 4 p → order ≡ map vertex (topo p) → n ≡ length p.vertices → find (is_missing order) (range_with_len 0 n) ≡ Some v → IsFirstFault p (Cycle (vertex v))
first_on_cycle p order n v passes h same found =
    let first = find_first (is_missing order) n v found in
    let inside : v < length p.vertices = omega (arith, find_below (is_missing order) n v found) in
    cycles_fault p v passes
    (missing p (edges_inside p (all_known p passes)) v inside (not-true (among (topo p) v) (sym (missing_is p order h v) ∙ first.there)))
    (λ m below behind. both (not-false (among (topo p) m) (sym (missing_is p order h m) ∙ first.before m below)) (stays_out p m behind))

pub none_on_cycle : (p : Dag) (order : List VertexId) (n : ℕ) → Passes 4 p → order ≡ map vertex (topo p) → n ≡ length p.vertices → find (is_missing order) (range_with_len 0 n) ≡ None → Passes 5 p
none_on_cycle p order n passes h same none = cycles_pass p passes
    (λ v behind.
    let by = behind.fed v behind.itself in
    let inside = leads_inside p by.0 v p.edges (edges_inside p (all_known p passes)) by.2 in
    both (not-false (among (topo p) v) (sym (missing_is p order h v) ∙ find_nowhere (is_missing order) n none v (omega (arith, inside)))) (stays_out p v behind))
