-- The router's view with managers of its own for each edge, and one edge after another getting its manager.
use Rattle.std.specs.Prelude.{◌≡◌, ℕ, zero, suc, ◌+◌, ◌≤◌, Bool, true, false, not, ◌&&◌, ◌||◌, ◌==◌, nat_le, if◌then◌else◌, cond, List, [], ◌∷◌, map, length, replicate, slice_set, Option, refl}
use Rattle.std.specs.List.{enumerate_from, list_any, count_by}
use Rattle.std.specs.Option.{option_map_or}
use Rattle.std.proofs.Common.{ap, sym, ◌∙◌, arith, subst, inl, inr, zero-add}
use Rattle.std.proofs.lemmas.Bool.Decides.{nat_tests}
use Rattle.std.proofs.lemmas.List.Sums.{sum_by-cons}
use Rattle.tez_ids.specs.declared.AttemptId.{AttemptId}
use Rattle.tez_lists.specs.Numbers.{In, numbers_from}
use Rattle.tez_plan.specs.Dag.{Dag, from, to}
use Rattle.tez_history.specs.Shape.{numbers_below, Edge, edges_to}
use Rattle.tez_history.specs.History.{Past, is_fetched}
use Rattle.tez_history.specs.Derived.{waiting_attempts}
use Rattle.tez_router.specs.State.{RouterState, LinkState, AdmittedState, EdgeInputs, Routing}
use Rattle.tez_router.specs.Table.{inputs_in, with_routing, restart_by, restart_over, after_set_edge, can_restart, can_restart_by, can_set_edge}
use Rattle.tez_router_view.specs.View.{router_view, routing_view, winners_view}
use Rattle.tez_router.specs.Configure.{after_set_edges, CanSetEdges}
use Rattle.tez_router_view.proofs.Lists.{map-map, map-same, all-false, all-pass, length-numbers}
use Rattle.tez_router_view.proofs.Edges.{edge_got, one_edge, edge_in, edge_target, inputs_same}
use Rattle.tez_router_view.proofs.Ordering.{in-mapped}

abbrev pub link_by : Dag → (Edge → Routing) → Edge → LinkState
link_by g f e = record { edge = e.0; source = from g e.1; target = to g e.1; routing = f e }

abbrev pub inputs_by : (Edge → Routing) → Past → AttemptId → Edge → EdgeInputs
inputs_by f past a e = record { edge = e.0; fetched = map (λ i. is_fetched a e.0 i past) (numbers_below (inputs_in (f e) a.task.index)) }

abbrev pub admitted_by : Dag → (Edge → Routing) → Past → AttemptId → AdmittedState
admitted_by g f past a = record { attempt = a; edges = map (inputs_by f past a) (edges_to g a.task.vertex.0) }

abbrev pub state_by : Dag → (Edge → Routing) → Past → RouterState
state_by g f past = record {
  links = map (link_by g f) (enumerate_from 0 g.edges);
  winners = winners_view g past;
  admitted = map (admitted_by g f past) (waiting_attempts g past);
}

abbrev pub state_with : List (List (Option AttemptId)) → List LinkState → List AdmittedState → RouterState
state_with rows ls xs = record { links = ls; winners = rows; admitted = xs }

abbrev row : ℕ → List Bool → EdgeInputs
row e bs = record { edge = e; fetched = bs }

abbrev with_edges : AttemptId → List EdgeInputs → AdmittedState
with_edges b ys = record { attempt = b; edges = ys }

-- ---- managers that agree

pub admitted_same : (g : Dag) (past : Past) (f h : Edge → Routing) → ((e : Edge) → In e (enumerate_from 0 g.edges) → f e ≡ h e) → (a : AttemptId) → admitted_by g f past a ≡ admitted_by g h past a
admitted_same g past f h s a =
    ap (with_edges a) (map-same (inputs_by f past a) (inputs_by h past a) (edges_to g a.task.vertex.0)
    (λ e i. ap (λ r. row e.0 (map (λ j. is_fetched a e.0 j past) (numbers_below (inputs_in r a.task.index)))) (s e (edge_in g a.task.vertex.0 e i))))

pub state_same : (g : Dag) (past : Past) (f h : Edge → Routing) → ((e : Edge) → In e (enumerate_from 0 g.edges) → f e ≡ h e) → state_by g f past ≡ state_by g h past
state_same g past f h s =
    ap (λ ls. state_with (winners_view g past) ls (map (admitted_by g f past) (waiting_attempts g past)))
    (map-same (link_by g f) (link_by g h) (enumerate_from 0 g.edges) (λ e i. ap (λ r. link_by g (λ _. r) e) (s e i)))
    ∙ ap (state_with (winners_view g past) (map (link_by g h) (enumerate_from 0 g.edges)))
    (map-same (admitted_by g f past) (admitted_by g h past) (waiting_attempts g past) (λ a _. admitted_same g past f h s a))

pub view_by : (g : Dag) (past : Past) → router_view g past ≡ state_by g (routing_view g past) past
view_by g past =
    ap (λ xs. record (router_view g past) { admitted = xs })
    (map-same _ (admitted_by g (routing_view g past) past) (waiting_attempts g past)
    (λ a _. ap (with_edges a) (map-same _ (inputs_by (routing_view g past) past a) (edges_to g a.task.vertex.0)
    (λ e _. ap (λ n. row e.0 (map (λ j. is_fetched a e.0 j past) (numbers_below n))) (sym (inputs_same g past e a.task.index))))))

-- ---- one edge gets another manager

abbrev pub put : ℕ → Routing → (Edge → Routing) → Edge → Routing
put k r f e = if e.0 == k then r else f e

is_number : (d e : ℕ) → (d == e) ≡ true → d ≡ e
is_number d e h = grind (arith, nat_tests)

if_here : {X : Type 0} (b c : ℕ) (x y : X) → b ≡ c → (if b == c then x else y) ≡ x
if_here b c x y h = grind (arith, nat_tests)

if_there : {X : Type 0} (b c : ℕ) (x y : X) → (b ≡ c → ⊥) → (if b == c then x else y) ≡ y
if_there b c x y h = grind (arith, nat_tests)

above-same : {X Y : Type 0} (F : ℕ × X → Y) (y : Y) (m n : ℕ) (xs : List X) → m + 1 ≤ n → map F (enumerate_from n xs) ≡ map (λ e. if e.0 == m then y else F e) (enumerate_from n xs)
above-same F y m n [] h = refl
above-same F y m n (x ∷ xs) h =
    let here = if_there n m y (F (n, x)) (λ e. omega arith) in
    let rest = above-same F y m (n + 1) xs (omega arith) in
    ap (λ z. z ∷ map F (enumerate_from (n + 1) xs)) (sym here) ∙ ap (λ zs. (if n == m then y else F (n, x)) ∷ zs) rest

set-from : {X Y : Type 0} (F : ℕ × X → Y) (y : Y) (n k : ℕ) (xs : List X) → slice_set (map F (enumerate_from n xs)) k y ≡ map (λ e. if e.0 == n + k then y else F e) (enumerate_from n xs)
set-from F y n k [] = refl
set-from F y n zero (x ∷ xs) =
    ap (λ z. z ∷ map F (enumerate_from (n + 1) xs)) (sym (if_here n (n + 0) y (F (n, x)) (omega arith)))
    ∙ ap (λ zs. (if n == n + 0 then y else F (n, x)) ∷ zs) (above-same F y (n + 0) (n + 1) xs (omega arith))
set-from F y n (suc k) (x ∷ xs) =
    ap (λ zs. F (n, x) ∷ zs) (set-from F y (n + 1) k xs ∙ ap (λ m. map (λ e. if e.0 == m then y else F e) (enumerate_from (n + 1) xs)) (omega arith))
    ∙ ap (λ z. z ∷ map (λ e. if e.0 == n + suc k then y else F e) (enumerate_from (n + 1) xs)) (sym (if_there n (n + suc k) y (F (n, x)) (λ e. omega arith)))

links_put : (g : Dag) (f : Edge → Routing) (d : Edge) (r : Routing) → In d (enumerate_from 0 g.edges)
    → with_routing (map (link_by g f) (enumerate_from 0 g.edges)) d.0 r ≡ map (link_by g (put d.0 r f)) (enumerate_from 0 g.edges)
links_put g f d r here =
    ap (λ o. option_map_or (λ l. slice_set (map (link_by g f) (enumerate_from 0 g.edges)) d.0 (record l { routing = r })) o (map (link_by g f) (enumerate_from 0 g.edges))) (edge_got (link_by g f) g.edges d here)
    ∙ set-from (link_by g f) (link_by g (λ _. r) d) 0 d.0 g.edges
    ∙ map-same (λ e. if e.0 == 0 + d.0 then link_by g (λ _. r) d else link_by g f e) (link_by g (put d.0 r f)) (enumerate_from 0 g.edges)
    (λ e i. ap (λ m. if e.0 == m then link_by g (λ _. r) d else link_by g f e) (zero-add d.0) ∙ by e i (e.0 == d.0) refl)
  where
    by : (e : Edge) → In e (enumerate_from 0 g.edges) → (b : Bool) → (e.0 == d.0) ≡ b → (if b then link_by g (λ _. r) d else link_by g f e) ≡ link_by g (λ x. if b then r else f x) e
    by e i true h = ap (link_by g (λ _. r)) (sym (one_edge g.edges e d i here (is_number e.0 d.0 h)))
    by e i false h = refl

-- nobody that waits has fetched over the edge
abbrev pub IsFresh : Dag → Past → Edge → Type 0
IsFresh g past d = (a : AttemptId) → In a (waiting_attempts g past) → to g d.1 ≡ a.task.vertex.0 → (i : ℕ) → is_fetched a d.0 i past ≡ false

-- nor gets more inputs over it
abbrev pub GetsNoMore : Dag → Past → (Edge → Routing) → Routing → Edge → Type 0
GetsNoMore g past f r d = (a : AttemptId) → In a (waiting_attempts g past) → to g d.1 ≡ a.task.vertex.0 → inputs_in r a.task.index ≤ inputs_in (f d) a.task.index

inputs_put : (g : Dag) (past : Past) (f : Edge → Routing) (d : Edge) (r : Routing) → In d (enumerate_from 0 g.edges) → IsFresh g past d → (a : AttemptId) → In a (waiting_attempts g past) → (e : Edge) → In e (edges_to g a.task.vertex.0)
    → restart_over d.0 (inputs_in r a.task.index) (inputs_by f past a e) ≡ inputs_by (put d.0 r f) past a e
inputs_put g past f d r here fresh a waits e there = by (e.0 == d.0) refl where
  by : (b : Bool) → (e.0 == d.0) ≡ b → (if b then row e.0 (replicate (inputs_in r a.task.index) false) else inputs_by f past a e) ≡ inputs_by (λ x. if b then r else f x) past a e
  by true h =
      let same : e ≡ d = one_edge g.edges e d (edge_in g a.task.vertex.0 e there) here (is_number e.0 d.0 h) in
      let at : to g d.1 ≡ a.task.vertex.0 = subst (λ x. to g x.1 ≡ a.task.vertex.0) same (edge_target g a.task.vertex.0 e there) in
      ap (row e.0) (sym (all-false (λ i. is_fetched a e.0 i past) 0 (inputs_in r a.task.index) (λ i. subst (λ x. is_fetched a x.0 i past ≡ false) (sym same) (fresh a waits at i))))
  by false h = refl

pub edge_set : (g : Dag) (past : Past) (f : Edge → Routing) (d : Edge) (r : Routing) → In d (enumerate_from 0 g.edges) → IsFresh g past d → after_set_edge (state_by g f past) d.0 r ≡ state_by g (put d.0 r f) past
edge_set g past f d r here fresh =
    ap (λ ls. state_with (winners_view g past) ls (map (restart_by d.0 r) (map (admitted_by g f past) (waiting_attempts g past)))) (links_put g f d r here)
    ∙ ap (state_with (winners_view g past) (map (link_by g (put d.0 r f)) (enumerate_from 0 g.edges)))
    (map-map (restart_by d.0 r) (admitted_by g f past) (waiting_attempts g past)
    ∙ map-same (λ a. restart_by d.0 r (admitted_by g f past a)) (admitted_by g (put d.0 r f) past) (waiting_attempts g past)
    (λ a i. ap (with_edges a) (map-map (restart_over d.0 (inputs_in r a.task.index)) (inputs_by f past a) (edges_to g a.task.vertex.0)
    ∙ map-same (λ e. restart_over d.0 (inputs_in r a.task.index) (inputs_by f past a e)) (inputs_by (put d.0 r f) past a) (edges_to g a.task.vertex.0) (λ e j. inputs_put g past f d r here fresh a i e j))))

-- ---- it may get it

count-false : (n : ℕ) → count_by (λ b. b) (replicate n false) ≡ 0
count-false zero = refl
count-false (suc n) = let e = sum_by-cons (λ (b : Bool). cond b 1 0) false (replicate n false) in let ih = count-false n in omega arith

restart_holds : (e d n m k : ℕ) → k ≡ 0 → n ≤ m → (not (e == d) || (k == 0 && nat_le n m)) ≡ true
restart_holds e d n m k none low = grind (arith, nat_tests)

restart_other : (e d : ℕ) (b : Bool) → (e == d) ≡ false → (not (e == d) || b) ≡ true
restart_other e d b h = ap (λ x. not x || b) h

may_restart : (g : Dag) (past : Past) (f : Edge → Routing) (d : Edge) (r : Routing) → In d (enumerate_from 0 g.edges) → IsFresh g past d → GetsNoMore g past f r d
    → (a : AttemptId) → In a (waiting_attempts g past) → (e : Edge) → In e (edges_to g a.task.vertex.0) → can_restart d.0 (inputs_in r a.task.index) (inputs_by f past a e) ≡ true
may_restart g past f d r here fresh fewer a waits e there = by (e.0 == d.0) refl where
  flags : List Bool
  flags = map (λ i. is_fetched a e.0 i past) (numbers_from 0 (inputs_in (f e) a.task.index))

  by : (b : Bool) → (e.0 == d.0) ≡ b → can_restart d.0 (inputs_in r a.task.index) (inputs_by f past a e) ≡ true
  by true h =
      let same : e ≡ d = one_edge g.edges e d (edge_in g a.task.vertex.0 e there) here (is_number e.0 d.0 h) in
      let at : to g d.1 ≡ a.task.vertex.0 = subst (λ x. to g x.1 ≡ a.task.vertex.0) same (edge_target g a.task.vertex.0 e there) in
      let low : inputs_in r a.task.index ≤ inputs_in (f e) a.task.index = subst (λ x. inputs_in r a.task.index ≤ inputs_in (f x) a.task.index) (sym same) (fewer a waits at) in
      let none = all-false (λ i. is_fetched a e.0 i past) 0 (inputs_in (f e) a.task.index) (λ i. subst (λ x. is_fetched a x.0 i past ≡ false) (sym same) (fresh a waits at i)) in
      restart_holds e.0 d.0 (inputs_in r a.task.index) (length flags) (count_by (λ b. b) flags) (ap (count_by (λ b. b)) none ∙ count-false (inputs_in (f e) a.task.index))
      (subst (λ n. inputs_in r a.task.index ≤ n) (sym (length-numbers (λ i. is_fetched a e.0 i past) 0 (inputs_in (f e) a.task.index))) low)
  by false h = restart_other e.0 d.0 _ h

pub edge_can : (g : Dag) (past : Past) (f : Edge → Routing) (d : Edge) (r : Routing) → In d (enumerate_from 0 g.edges) → IsFresh g past d → GetsNoMore g past f r d → can_set_edge (state_by g f past) d.0 r ≡ true
edge_can g past f d r here fresh fewer =
    all-pass (can_restart_by d.0 r) (map (admitted_by g f past) (waiting_attempts g past))
    (λ x i.
    let q = in-mapped (admitted_by g f past) x (waiting_attempts g past) i in
    subst (λ y. can_restart_by d.0 r y ≡ true) (sym q.2)
    (all-pass (can_restart d.0 (inputs_in r q.0.task.index)) (map (inputs_by f past q.0) (edges_to g q.0.task.vertex.0))
    (λ y j.
    let p = in-mapped (inputs_by f past q.0) y (edges_to g q.0.task.vertex.0) j in
    subst (λ z. can_restart d.0 (inputs_in r q.0.task.index) z ≡ true) (sym p.2) (may_restart g past f d r here fresh fewer q.0 q.1 p.0 p.1))))

-- ---- one edge after another

abbrev pub is_listed : List Edge → Edge → Bool
is_listed es e = list_any (λ d. e.0 == d.0) es

abbrev pub put_all : List Edge → (Edge → Routing) → (Edge → Routing) → Edge → Routing
put_all es h f e = if is_listed es e then h e else f e

listed_more : {X : Type 0} (here later : Bool) (x y z : X) → (here ≡ true → z ≡ x) → (if later then x else (if here then z else y)) ≡ (if here || later then x else y)
listed_more true true x y z s = refl
listed_more true false x y z s = s refl
listed_more false later x y z s = refl

either_low : (n : ℕ) (b : Bool) (x y : Routing) (t : ℕ) → (b ≡ true → n ≤ inputs_in x t) → n ≤ inputs_in y t → n ≤ inputs_in (if b then x else y) t
either_low n true x y t h k = h refl
either_low n false x y t h k = k

at_most_same : (m n : ℕ) → m ≡ n → m ≤ n
at_most_same m n h = omega (arith, h)

pub edges_set : (g : Dag) (past : Past) (h f : Edge → Routing) (es : List Edge) → ((e : Edge) → In e es → In e (enumerate_from 0 g.edges)) → ((e : Edge) → In e es → IsFresh g past e)
    → ((e : Edge) → In e es → GetsNoMore g past f (h e) e)
    → CanSetEdges (state_by g f past) (map (link_by g h) es) × (after_set_edges (state_by g f past) (map (link_by g h) es) ≡ state_by g (put_all es h f) past)
edges_set g past h f [] there fresh fewer = (tt, refl)
edges_set g past h f (d ∷ es) there fresh fewer =
    let here = there d (inl refl) in
    let one : after_set_edge (state_by g f past) d.0 (h d) ≡ state_by g (put d.0 (h d) f) past = edge_set g past f d (h d) here (fresh d (inl refl)) in
    let same = λ (e : Edge) (i : In e (enumerate_from 0 g.edges)) (k : (e.0 == d.0) ≡ true). ap h (sym (one_edge g.edges e d i here (is_number e.0 d.0 k))) in
    let rest = edges_set g past h (put d.0 (h d) f) es (λ e i. there e (inr i)) (λ e i. fresh e (inr i))
    (λ e i a w at. either_low (inputs_in (h e) a.task.index) (e.0 == d.0) (h d) (f e) a.task.index
    (λ k. at_most_same _ _ (ap (λ r. inputs_in r a.task.index) (sym (same e (there e (inr i)) k)))) (fewer e (inr i) a w at)) in (
      (edge_can g past f d (h d) here (fresh d (inl refl)) (fewer d (inl refl)), subst (λ s. CanSetEdges s (map (link_by g h) es)) (sym one) rest.0),
      ap (λ s. after_set_edges s (map (link_by g h) es)) one ∙ rest.1
          ∙ state_same g past (put_all es h (put d.0 (h d) f)) (put_all (d ∷ es) h f) (λ e i. listed_more (e.0 == d.0) (is_listed es e) (h e) (f e) (h d) (same e i)),
    )
