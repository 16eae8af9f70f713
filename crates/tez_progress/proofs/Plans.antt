-- What validity of a plan says of its edges: how vertices are fed, and how deep they are.
--     fed            how a vertex is fed
--     ranks          edges lead deeper
use Rattle.std.specs.Prelude.{◌≡◌, ℕ, zero, suc, ◌+◌, ◌<◌, ◌≤◌, ◌==◌, ◌&&◌, nat_lt, min, not, Bool, true, false, if◌then◌else◌, List, [], ◌∷◌, length, slice_get, Option, Some, None, is_some, refl}
use Rattle.std.specs.List.{filter, enumerate_from}
use Rattle.std.specs.Option.{option_map_or}
use Rattle.std.proofs.Common.{inl, inr, ap, sym, ◌∙◌, arith, subst}
use Rattle.std.proofs.lemmas.Bool.{eq-eqb, eqb-true}
use Rattle.std.proofs.lemmas.Bool.Decides.{nat_tests}
use Rattle.tez_lists.specs.Numbers.{In}
use Rattle.tez_lists.proofs.Cases.{cases}
use Rattle.tez_lists.proofs.Members.{in_filter}
use Rattle.tez_plan.specs.declared.parts.VertexSpec.{VertexSpec}
use Rattle.tez_plan.specs.declared.parts.EdgeSpec.{EdgeSpec}
use Rattle.tez_plan.specs.declared.parts.Movement.{Movement}
use Rattle.tez_plan.specs.declared.parts.Movement.TheVariants.{OneToOne, Broadcast, ScatterGather}
use Rattle.tez_plan.specs.Dag.{Dag, from, to, edges_into, IsEdge, is_one_to_one, is_broadcast, is_scatter_gather, goes_one_to_one, goes_to_all, goes_by_key}
use Rattle.tez_plan.specs.Order.{depth, EndsPath}
use Rattle.tez_plan.specs.Graph.{AreInside}
use Rattle.tez_plan.specs.Faults.{IsValid, primaries, incoming}
use Rattle.tez_plan.proofs.CheckLemmas.{valid_parts}
use Rattle.tez_plan.proofs.RankLemmas.{ranked, inside_edges}
use Rattle.tez_plan.proofs.DepthLemmas.{depth_is}
use Rattle.tez_history.specs.Shape.{Edge, edges_to, feed, feed_by, first_source, has_source}
use Rattle.tez_laws.proofs.StepLaw.{both}
use Rattle.tez_progress.specs.Laws.{IsFed, IsRanked}
use Rattle.tez_progress.proofs.Members.{true_and, filter_in, at_each, any_true, any_some}

-- ---- edges with their numbers

in_numbered : (n : ℕ) (es : List EdgeSpec) (e : Edge) → In e (enumerate_from n es) → In e.1 es
in_numbered n [] e h = absurd h
in_numbered n (x ∷ xs) e (inl h) = inl (ap (λ y. y.1) h)
in_numbered n (x ∷ xs) e (inr h) = inr (in_numbered (n + 1) xs e h)

pub in_edges : (g : Dag) (v : ℕ) (e : Edge) → In e (edges_to g v) → In e.1 g.edges × (to g e.1 ≡ v)
in_edges g v e h =
    let k = filter_in (λ x. to g x.1 == v) e (enumerate_from 0 g.edges) h in
    (in_numbered 0 g.edges e k.0, eqb-true (to g e.1) v k.1)

is_edge : (g : Dag) (v : ℕ) (e : Edge) → In e (edges_to g v) → IsEdge g (from g e.1) v
is_edge g v e h =
    let k = in_edges g v e h in
    any_true (λ x. (from g x == from g e.1) && (to g x == v)) e.1 g.edges k.0 (true_and (eq-eqb (from g e.1) (from g e.1) refl) (eq-eqb (to g e.1) v k.1))

ends : (g : Dag) → IsValid g → (v : ℕ) (e : Edge) → In e (edges_to g v) → AreInside g e.1
ends g valid v e h = at_each (AreInside g) e.1 g.edges (inside_edges g valid) (in_edges g v e h).0

pub target_inside : (g : Dag) → IsValid g → (v : ℕ) (e : Edge) → In e (edges_to g v) → v < length g.vertices
target_inside g valid v e h = subst (λ x. x < length g.vertices) (in_edges g v e h).1 (ends g valid v e h).1

-- ---- depths

rank_falls : (g : Dag) (valid : IsValid g) (u v : ℕ) → IsEdge g u v → (ranked g valid).rank_of u < (ranked g valid).rank_of v
rank_falls g valid u v h =
    let r = (ranked g valid).rank_of in
    let k = any_some (λ x. (from g x == u) && (to g x == v)) g.edges h in
    let same = both {x = from g k.0 == u} k.2 in
    subst (λ x. r x < r v) (eqb-true (from g k.0) u same.0)
    (at_each (λ e. r (from g e) < r v) k.0 (edges_into g v) ((ranked g valid).falls v) (in_filter (λ e. to g e == v) k.0 g.edges k.1 same.1))

path_rank : (g : Dag) (valid : IsValid g) (n v : ℕ) → EndsPath g n v → n ≤ (ranked g valid).rank_of v
path_rank g valid zero v h = omega arith
path_rank g valid (suc n) v h =
    let lower = rank_falls g valid h.0 v h.1 in
    let rest = path_rank g valid n h.0 h.2 in
    omega arith

pub ranks : (g : Dag) → IsValid g → IsRanked g
ranks g valid = record {
  inside = λ v e h. (ends g valid v e h).0;
  deeper = λ v e h.
      let here = depth_is g valid v (target_inside g valid v e h) in
      let there = depth_is g valid (from g e.1) (ends g valid v e h).0 in
      let most : suc (depth g (from g e.1)) ≤ depth g v = here.most (suc (depth g (from g e.1))) (from g e.1, is_edge g v e h, there.path) in
      omega arith;
  bounded = λ v h.
      let low = path_rank g valid (depth g v) v (depth_is g valid v h).path in
      let high = (ranked g valid).below v h in
      omega arith;
}

-- ---- how a vertex is fed

-- the edges of a kind into a vertex are those with their numbers
same_kind : (g : Dag) (v : ℕ) (kind : EdgeSpec → Bool) (n : ℕ) (es : List EdgeSpec)
    → length (filter (λ e. kind e.1) (filter (λ e. to g e.1 == v) (enumerate_from n es))) ≡ length (filter kind (filter (λ e. to g e == v) es))
same_kind g v kind n [] = refl
same_kind g v kind n (e ∷ es) =
    let rest = same_kind g v kind (n + 1) es in
    cases (to g e == v)
    (λ t. cases (kind e) (λ k. rw t (rw k (ap suc rest))) (λ k. rw t (rw k rest)))
    (λ t. rw t rest)

kinds : (g : Dag) (v : ℕ) (kind : EdgeSpec → Bool) → length (filter (λ e. kind e.1) (edges_to g v)) ≡ length (incoming kind g v)
kinds g v kind = same_kind g v kind 0 g.edges

-- where no edge gathers, the primary ones are those that are one to one
only_one_to_one : (es : List Edge) → length (filter (λ e. is_scatter_gather e.1) es) ≡ 0 → filter (λ e. not (is_broadcast e.1)) es ≡ filter (λ e. is_one_to_one e.1) es
only_one_to_one [] h = refl
only_one_to_one (e ∷ es) h = by (only_one_to_one es) e.1.movement h where
  gathering : List Edge
  gathering = filter (λ e. is_scatter_gather e.1) es

  by : (length gathering ≡ 0 → filter (λ e. not (is_broadcast e.1)) es ≡ filter (λ e. is_one_to_one e.1) es) → (m : Movement)
      → length (if goes_by_key m then e ∷ gathering else gathering) ≡ 0
      → (if not (goes_to_all m) then e ∷ filter (λ e. not (is_broadcast e.1)) es else filter (λ e. not (is_broadcast e.1)) es)
      ≡ (if goes_one_to_one m then e ∷ filter (λ e. is_one_to_one e.1) es else filter (λ e. is_one_to_one e.1) es)
  by ih OneToOne k = ap (λ xs. e ∷ xs) (ih k)
  by ih Broadcast k = ih k
  by ih (ScatterGather keys) k = absurd (omega (arith, k))

gathers_primary : (m : Movement) → goes_by_key m ≡ true → not (goes_to_all m) ≡ true
gathers_primary OneToOne h = cc
gathers_primary Broadcast h = cc
gathers_primary (ScatterGather keys) h = refl

first_of : {X : Type 0} (xs : List X) → 1 ≤ length xs → (x : X) × In x xs
first_of [] h = absurd (omega arith)
first_of (x ∷ xs) h = (x, inl refl)

-- a vertex has exactly one kind of primary
one_primary : (g : Dag) (v : ℕ) (s : VertexSpec) → IsValid g → slice_get g.vertices v ≡ Some s → primaries g v s ≡ 1
one_primary g v s valid at =
    let parts = valid_parts g valid in
    let some : (primaries g v s == 0) ≡ true → ⊥ = λ e. parts.some_primary v (rw at e) in
    let few : nat_lt 1 (primaries g v s) ≡ true → ⊥ = λ e. parts.one_primary v (rw at e) in
    one_of (primaries g v s) some few where
      one_of : (n : ℕ) → ((n == 0) ≡ true → ⊥) → (nat_lt 1 n ≡ true → ⊥) → n ≡ 1
      one_of zero some few = absurd (some refl)
      one_of (suc zero) some few = refl
      one_of (suc (suc n)) some few = absurd (few (grind (arith, nat_tests)))

source_count : (b : Option (List ℕ)) → is_some b ≡ false → (let n : ℕ = option_map_or (λ _. 1) b 0 in n ≡ 0)
source_count None h = refl
source_count (Some f) h = cc

one_to_one_of : Dag → ℕ → List Edge
one_to_one_of g v = filter (λ e. is_one_to_one e.1) (edges_to g v)

gathering_of : Dag → ℕ → List Edge
gathering_of g v = filter (λ e. is_scatter_gather e.1) (edges_to g v)

-- without a source file, one edge is one to one and none gathers, or some gather
counts : (g : Dag) (v : ℕ) → IsValid g → v < length g.vertices → has_source g v ≡ false → length (one_to_one_of g v) + min 1 (length (gathering_of g v)) ≡ 1
unfolding one_to_one_of gathering_of
counts g v valid h file =
    let at = Rattle.std.proofs.lemmas.Option.slice_get-get_or g.vertices v (nothing g v) h in
    let s = Rattle.std.proofs.Common.get_or g.vertices v (nothing g v) in
    let one = one_primary g v s valid at in
    let none : is_some s.source ≡ false = subst (λ o. option_map_or (λ s. is_some s.source) o false ≡ false) at file in
    let zeros = source_count s.source none in
    let a = kinds g v is_one_to_one in
    let b = kinds g v is_scatter_gather in
    rw (a, b) (omega (arith, one, zeros))
  where
    nothing : Dag → ℕ → VertexSpec
    nothing g v = record { name = []; tasks = 0; source = None; head = Rattle.tez_plan.specs.declared.parts.Head.TheVariants.Each; steps = []; sink = None }

by_feed : (g : Dag) (v : ℕ) (file : Bool) (xs : List Edge) → one_to_one_of g v ≡ xs → has_source g v ≡ file → IsValid g → v < length g.vertices → IsFed g v (feed_by file (first_source g xs))
unfolding one_to_one_of gathering_of
by_feed g v true xs e k valid h = tt
by_feed g v false [] e k valid h =
    let n = counts g v valid h k in
    let none : length (one_to_one_of g v) ≡ 0 = ap length e in
    let x = first_of (gathering_of g v) (omega (arith, n, none)) in
    let m = filter_in (λ e. is_scatter_gather e.1) x.0 (edges_to g v) x.1 in
    (x.0, in_filter (λ e. not (is_broadcast e.1)) x.0 (edges_to g v) m.0 (gathers_primary x.0.1.movement m.1))
by_feed g v false (x ∷ xs) e k valid h =
    let n = counts g v valid h k in
    let some : length (one_to_one_of g v) ≡ suc (length xs) = ap length e in
    let none : length (gathering_of g v) ≡ 0 = omega (arith, n, some) in
    let few : length xs ≡ 0 = omega (arith, n, some) in
    (x, only_one_to_one (edges_to g v) none ∙ e ∙ ap (λ ys. x ∷ ys) (empty xs few), refl)
  where
    empty : {X : Type 0} (xs : List X) → length xs ≡ 0 → xs ≡ []
    empty [] h = refl
    empty (x ∷ xs) h = absurd (omega arith)

pub fed : (g : Dag) (v : ℕ) → IsValid g → v < length g.vertices → IsFed g v (feed g v)
unfolding one_to_one_of
fed g v valid h = by_feed g v (has_source g v) (one_to_one_of g v) refl refl valid h
