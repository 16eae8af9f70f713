-- A vertex is configured: each of its edges may get its new manager, and then the router stands for the longer history.
use Rattle.std.specs.Prelude.{◌≡◌, ℕ, zero, suc, ◌-◌, ◌*◌, ◌≤◌, Bool, true, false, ◌||◌, ◌==◌, nat_lt, if◌then◌else◌, List, [], ◌∷◌, ◌++◌, map, Option, Some, None, unwrap_or, refl}
use Rattle.std.specs.List.{filter, filter_map, cons_option, flat_map, enumerate_from}
use Rattle.std.proofs.Common.{ap, sym, ◌∙◌, arith, subst, inl, inr}
use Rattle.std.proofs.lemmas.Bool.Decides.{nat_tests}
use Rattle.tez_ids.specs.declared.VertexId.{VertexId}
use Rattle.tez_ids.specs.declared.AttemptId.{AttemptId}
use Rattle.tez_ids.specs.Same.{task}
use Rattle.tez_events.specs.declared.Entry.TheVariants.{Stands, Configured}
use Rattle.tez_lists.specs.Numbers.{In, numbers_from}
use Rattle.tez_lists.proofs.Flat.{flat_same, in-filter-out}
use Rattle.tez_lists.proofs.Members.{in_filter}
use Rattle.tez_plan.specs.Dag.{Dag, from, to, tasks_of as planned}
use Rattle.tez_plan.specs.declared.parts.Movement.{Movement}
use Rattle.tez_plan.specs.declared.parts.Movement.TheVariants.{OneToOne, Broadcast, ScatterGather}
use Rattle.tez_conf.specs.declared.values.ConfValues.{ConfValues}
use Rattle.tez_vman.specs.declared.seen.Config.{Config}
use Rattle.tez_vman.specs.Rules.{config as shape}
use Rattle.tez_shrink.specs.Formulas.{tasks_of, first_of, end_of}
use Rattle.tez_history.specs.Shape.{Edge, vertices}
use Rattle.tez_history.specs.History.{Past, config, live, stage, is_fetched}
use Rattle.tez_history.specs.Derived.{tasks, tasks_if, waiting_attempts, is_waiting, live_attempts}
use Rattle.tez_history.specs.Follows.{IsMade}
use Rattle.tez_router.specs.State.{Routing}
use Rattle.tez_router.specs.Table.{inputs_in}
use Rattle.tez_router_view.specs.View.{router_view, routing_view, routing_for, link_view}
use Rattle.tez_router.specs.Configure.{after_set_edges, CanSetEdges, is_at}
use Rattle.tez_router_view.specs.Events.{links_at}
use Rattle.tez_router_view.proofs.Lists.{filter-map, in-filter-holds}
use Rattle.tez_router_view.proofs.Waiting.{waiting_at, waiting_by_task, none_live}
use Rattle.tez_router_view.proofs.Sources.{no_live_there, none_fetched_from}
use Rattle.tez_router_view.proofs.Setting.{link_by, state_by, state_same, view_by, admitted_by, IsFresh, GetsNoMore, is_listed, put_all, edges_set}
use Rattle.tez_laws.proofs.Tasks.{live_task}

-- ---- managers of fewer source tasks

less_if : (b : Bool) (m n : ℕ) → m ≤ n → (if b then m else 0) ≤ (if b then n else 0)
less_if true m n h = h
less_if false m n h = omega arith

fewer_one : (t m n : ℕ) → m ≤ n → (if nat_lt t m then 1 else 0) ≤ (if nat_lt t n then 1 else 0)
fewer_one t m n h = grind (arith, nat_tests)

times_less : (m n k : ℕ) → m ≤ n → m * k ≤ n * k
times_less m n k h = grind arith

fewer_inputs : (x : Movement) (m n k p b t : ℕ) → m ≤ n → inputs_in (routing_for x m k p b) t ≤ inputs_in (routing_for x n k p b) t
fewer_inputs OneToOne m n k p b t h = fewer_one t m n h
fewer_inputs Broadcast m n k p b t h = less_if (nat_lt t k) m n h
fewer_inputs (ScatterGather keys) m n k p b t h =
    let width = end_of p b t - first_of b t in less_if (nat_lt t (tasks_of p b)) (m * width) (n * width) (times_less m n width h)

-- ---- who waits

filter_map-append : {X Y : Type 0} (f : X → Option Y) (xs ys : List X) → filter_map f (xs ++ ys) ≡ filter_map f xs ++ filter_map f ys
filter_map-append f [] ys = refl
filter_map-append f (x ∷ xs) ys = ap (cons_option (f x)) (filter_map-append f xs ys) ∙ by (f x) where
  by : (o : Option _) → cons_option o (filter_map f xs ++ filter_map f ys) ≡ cons_option o (filter_map f xs) ++ filter_map f ys
  by None = refl
  by (Some y) = refl

filter_map-flat : {X Y Z : Type 0} (f : Y → Option Z) (h : X → List Y) (xs : List X) → filter_map f (flat_map h xs) ≡ flat_map (λ x. filter_map f (h x)) xs
filter_map-flat f h [] = refl
filter_map-flat f h (x ∷ xs) = filter_map-append f (h x) (flat_map h xs) ∙ ap (λ zs. filter_map f (h x) ++ zs) (filter_map-flat f h xs)

is_number : (d e : ℕ) → (d == e) ≡ true → d ≡ e
is_number d e h = grind (arith, nat_tests)

nobody_at : (g : Dag) (c : ConfValues) (past : Past) → IsMade g c past → (v a n : ℕ) → config v past ≡ None → filter_map (waiting_at past) (map (task v) (numbers_from a n)) ≡ []
nobody_at g c past m v a zero none = refl
nobody_at g c past m v a (suc n) none =
    ap (λ o. cons_option o (filter_map (waiting_at past) (map (task v) (numbers_from (suc a) n)))) (none_live past (task v a) (no_live_there g c past m (task v a) none))
    ∙ nobody_at g c past m v (suc a) n none

row_waits : (g : Dag) (c : ConfValues) (past : Past) → IsMade g c past → (v w : ℕ) (s : Config) → config v past ≡ None
    → filter_map (waiting_at past) (tasks_if (if v == w then Some s else config w past) w) ≡ filter_map (waiting_at past) (tasks_if (config w past) w)
row_waits g c past m v w s none = by (v == w) refl where
  by : (b : Bool) → (v == w) ≡ b → filter_map (waiting_at past) (tasks_if (if b then Some s else config w past) w) ≡ filter_map (waiting_at past) (tasks_if (config w past) w)
  by false e = refl
  by true e =
      let here : config w past ≡ None = subst (λ x. config x past ≡ None) (is_number v w e) none in
      nobody_at g c past m w 0 s.tasks here ∙ sym (ap (λ o. filter_map (waiting_at past) (tasks_if o w)) here)

all_wait : (g : Dag) (c : ConfValues) (past : Past) → IsMade g c past → (v : ℕ) (s : Config) → config v past ≡ None
    → filter_map (waiting_at past) (flat_map (λ w. tasks_if (if v == w then Some s else config w past) w) (vertices g)) ≡ waiting_attempts g past
all_wait g c past m v s none =
    filter_map-flat (waiting_at past) (λ w. tasks_if (if v == w then Some s else config w past) w) (vertices g)
    ∙ flat_same (λ w. filter_map (waiting_at past) (tasks_if (if v == w then Some s else config w past) w)) (λ w. filter_map (waiting_at past) (tasks_if (config w past) w)) (vertices g)
    (λ w _. row_waits g c past m v w s none)
    ∙ sym (filter_map-flat (waiting_at past) (λ w. tasks_if (config w past) w) (vertices g)) ∙ sym (waiting_by_task g past)

pub configured_waits : (g : Dag) (c : ConfValues) (past : Past) → IsMade g c past → (v : VertexId) (n b : ℕ) → config v.0 past ≡ None → waiting_attempts g (Configured v n b ∷ past) ≡ waiting_attempts g past
configured_waits g c past m v n b none = waiting_by_task g (Configured v n b ∷ past) ∙ all_wait g c past m v.0 (shape n b) none

pub stands_waits : (g : Dag) (c : ConfValues) (past : Past) → IsMade g c past → (v : VertexId) (n b : ℕ) → config v.0 past ≡ None → waiting_attempts g (Stands v n b ∷ past) ≡ waiting_attempts g past
stands_waits g c past m v n b none = waiting_by_task g (Stands v n b ∷ past) ∙ all_wait g c past m v.0 (shape n b) none

-- a waiting attempt's vertex is configured
in-options : {X : Type 0} (f : X → Option AttemptId) (a : AttemptId) (xs : List X) → In a (filter_map f xs) → (x : X) × (f x ≡ Some a)
in-options f a [] h = absurd h
in-options {X} f a (x ∷ xs) h = by (f x) refl h (in-options f a xs) where
  by : (o : Option AttemptId) → f x ≡ o → In a (cons_option o (filter_map f xs)) → (In a (filter_map f xs) → (y : X) × (f y ≡ Some a)) → (y : X) × (f y ≡ Some a)
  by None e k ih = ih k
  by (Some b) e (inl s) ih = (x, e ∙ ap Some (sym s))
  by (Some b) e (inr k) ih = ih k

pub waits_there : (g : Dag) (c : ConfValues) (past : Past) → IsMade g c past → (a : AttemptId) → In a (waiting_attempts g past) → config a.task.vertex.0 past ≡ None → ⊥
waits_there g c past m a i none =
    let r = in-options (λ t. live t past) a (tasks g past) (in-filter-out (λ b. is_waiting (stage b past)) a (live_attempts g past) i) in
    let of : a.task ≡ r.0 = live_task past r.0 a r.1 in
    let no : live r.0 past ≡ None = no_live_there g c past m r.0 (subst (λ t. config t.vertex.0 past ≡ None) of none) in
    let some : live r.0 past ≡ Some a = r.1 in
    cc

-- ---- the managers

-- a vertex's configuration by that of another
abbrev pub now_at : ℕ → Config → Past → ℕ → Option Config
now_at v s past w = if v == w then Some s else config w past

abbrev pub routing_at : Dag → Edge → Option Config → Option Config → Routing
routing_at g e source target =
    routing_for e.1.movement (unwrap_or source (shape (planned g (from g e.1)) 1)).tasks (unwrap_or target (shape (planned g (to g e.1)) 1)).tasks (planned g (to g e.1)) (unwrap_or target (shape (planned g (to g e.1)) 1)).base

-- the managers once v is configured
abbrev pub routing_now : Dag → ℕ → Config → Past → Edge → Routing
routing_now g v s past e = routing_at g e (now_at v s past (from g e.1)) (now_at v s past (to g e.1))

abbrev pub touches : Dag → ℕ → Edge → Bool
touches g v e = (from g e.1 == v) || (to g e.1 == v)

elsewhere : {X : Type 0} (v w : ℕ) (x y : X) → (w == v) ≡ false → (if v == w then x else y) ≡ y
elsewhere v w x y h = grind (arith, nat_tests)

neither : (x y : Bool) → (x || y) ≡ false → (x ≡ false) × (y ≡ false)
neither true y h = cc
neither false y h = (refl, h)

untouched : (g : Dag) (v : ℕ) (s : Config) (past : Past) (e : Edge) → touches g v e ≡ false → routing_view g past e ≡ routing_now g v s past e
untouched g v s past e h =
    let k = neither (from g e.1 == v) (to g e.1 == v) h in
    ap (λ o. routing_at g e o (config (to g e.1) past)) (sym (elsewhere v (from g e.1) (Some s) (config (from g e.1) past) k.0))
    ∙ ap (routing_at g e (now_at v s past (from g e.1))) (sym (elsewhere v (to g e.1) (Some s) (config (to g e.1) past) k.1))

pub in-listed : (es : List Edge) (e : Edge) → In e es → is_listed es e ≡ true
in-listed [] e h = absurd h
in-listed (d ∷ es) e (inl s) = grind (arith, nat_tests)
in-listed (d ∷ es) e (inr k) = let ih = in-listed es e k in by (e.0 == d.0) ih where
  by : (b : Bool) → is_listed es e ≡ true → (b || is_listed es e) ≡ true
  by true h = refl
  by false h = h

listed_so : {X : Type 0} (b : Bool) (x y : X) → b ≡ true → (if b then x else y) ≡ x
listed_so true x y h = refl
listed_so false x y h = cc

same_either : {X : Type 0} (b : Bool) (x y : X) → y ≡ x → (if b then x else y) ≡ x
same_either true x y h = refl
same_either false x y h = h

all_put : (g : Dag) (v : ℕ) (s : Config) (past : Past) (e : Edge) → In e (enumerate_from 0 g.edges)
    → put_all (filter (touches g v) (enumerate_from 0 g.edges)) (routing_now g v s past) (routing_view g past) e ≡ routing_now g v s past e
all_put g v s past e i = by (touches g v e) refl where
  es : List Edge
  es = filter (touches g v) (enumerate_from 0 g.edges)

  by : (b : Bool) → touches g v e ≡ b → (if is_listed (filter (touches g v) (enumerate_from 0 g.edges)) e then routing_now g v s past e else routing_view g past e) ≡ routing_now g v s past e
  by true h = listed_so (is_listed es e) (routing_now g v s past e) (routing_view g past e) (in-listed es e (in_filter (touches g v) e (enumerate_from 0 g.edges) i h))
  by false h = same_either (is_listed es e) (routing_now g v s past e) (routing_view g past e) (untouched g v s past e h)

-- ---- nobody waits at v, and nobody has fetched from v

fresh_at : (g : Dag) (c : ConfValues) (past : Past) → IsMade g c past → (v : ℕ) → config v past ≡ None → (e : Edge) → In e (filter (touches g v) (enumerate_from 0 g.edges)) → IsFresh g past e
fresh_at g c past m v none e i a waits at j = by (from g e.1 == v) (to g e.1 == v) refl refl (in-filter-holds (touches g v) e (enumerate_from 0 g.edges) i) where
  by : (x y : Bool) → (from g e.1 == v) ≡ x → (to g e.1 == v) ≡ y → (x || y) ≡ true → is_fetched a e.0 j past ≡ false
  by true y h k l = none_fetched_from g c past m a e j (in-filter-out (touches g v) e (enumerate_from 0 g.edges) i) (subst (λ w. config w past ≡ None) (sym (is_number (from g e.1) v h)) none)
  by false true h k l = absurd (waits_there g c past m a waits (subst (λ w. config w past ≡ None) (sym (is_number (to g e.1) v k) ∙ at) none))
  by false false h k l = cc

more_at : (g : Dag) (c : ConfValues) (past : Past) → IsMade g c past → (v : ℕ) (s : Config) → config v past ≡ None → s.tasks ≤ planned g v → (e : Edge) → GetsNoMore g past (routing_view g past) (routing_now g v s past e) e
more_at g c past m v s none few e a waits at = by (v == from g e.1) (v == to g e.1) refl refl where
  t : ℕ
  t = a.task.index

  other : (x : Bool) → (v == from g e.1) ≡ x → inputs_in (routing_at g e (if x then Some s else config (from g e.1) past) (config (to g e.1) past)) a.task.index ≤ inputs_in (routing_view g past e) a.task.index
  other false h = omega arith
  other true h =
      let same : v ≡ from g e.1 = is_number v (from g e.1) h in
      let target = unwrap_or (config (to g e.1) past) (shape (planned g (to g e.1)) 1) in
      let before : config (from g e.1) past ≡ None = subst (λ w. config w past ≡ None) same none in
      let low : s.tasks ≤ planned g (from g e.1) = subst (λ w. s.tasks ≤ planned g w) same few in
      let were : inputs_in (routing_at g e None (config (to g e.1) past)) t ≡ inputs_in (routing_view g past e) t = ap (λ o. inputs_in (routing_at g e o (config (to g e.1) past)) t) (sym before) in
      subst (λ n. inputs_in (routing_at g e (Some s) (config (to g e.1) past)) t ≤ n) were
      (fewer_inputs e.1.movement s.tasks (planned g (from g e.1)) target.tasks (planned g (to g e.1)) target.base t low)

  by : (x y : Bool) → (v == from g e.1) ≡ x → (v == to g e.1) ≡ y
      → inputs_in (routing_at g e (if x then Some s else config (from g e.1) past) (if y then Some s else config (to g e.1) past)) a.task.index ≤ inputs_in (routing_view g past e) a.task.index
  by x true h k = absurd (waits_there g c past m a waits (subst (λ w. config w past ≡ None) (is_number v (to g e.1) k ∙ at) none))
  by x false h k = other x h

-- ---- the law

abbrev pub Sets : Dag → ℕ → Past → Past → Type 0
Sets g v past later = CanSetEdges (router_view g past) (links_at g v later) × (after_set_edges (router_view g past) (links_at g v later) ≡ router_view g later)

set_now : (g : Dag) (c : ConfValues) (past : Past) → IsMade g c past → (v : ℕ) (s : Config) → config v past ≡ None → s.tasks ≤ planned g v → (links : List _)
    → links ≡ map (link_by g (routing_now g v s past)) (filter (touches g v) (enumerate_from 0 g.edges))
    → CanSetEdges (router_view g past) links × (after_set_edges (router_view g past) links ≡ state_by g (routing_now g v s past) past)
set_now g c past m v s none few links are =
    let es = filter (touches g v) (enumerate_from 0 g.edges) in
    let r = edges_set g past (routing_now g v s past) (routing_view g past) es (λ e i. in-filter-out (touches g v) e (enumerate_from 0 g.edges) i) (fresh_at g c past m v none) (λ e i. more_at g c past m v s none few e) in (
      subst (CanSetEdges (router_view g past)) (sym are) (subst (λ x. CanSetEdges x (map (link_by g (routing_now g v s past)) es)) (sym (view_by g past)) r.0),
      ap (after_set_edges (router_view g past)) are ∙ ap (λ x. after_set_edges x (map (link_by g (routing_now g v s past)) es)) (view_by g past) ∙ r.1
          ∙ state_same g past (put_all es (routing_now g v s past) (routing_view g past)) (routing_now g v s past) (all_put g v s past),
    )

pub configured_view : (g : Dag) (c : ConfValues) (past : Past) → IsMade g c past → (v : VertexId) (n b : ℕ) → config v.0 past ≡ None → n ≤ planned g v.0 → Sets g v.0 past (Configured v n b ∷ past)
configured_view g c past m v n b none few =
    let later : Past = Configured v n b ∷ past in
    let r = set_now g c past m v.0 (shape n b) none few (links_at g v.0 later) (filter-map (is_at v.0) (link_view g later) (enumerate_from 0 g.edges)) in
    (r.0, r.1 ∙ ap (λ xs. record (state_by g (routing_now g v.0 (shape n b) past) past) { admitted = map (admitted_by g (routing_now g v.0 (shape n b) past) past) xs }) (sym (configured_waits g c past m v n b none)) ∙ sym (view_by g later))

pub stands_view : (g : Dag) (c : ConfValues) (past : Past) → IsMade g c past → (v : VertexId) (n b : ℕ) → config v.0 past ≡ None → n ≤ planned g v.0 → Sets g v.0 past (Stands v n b ∷ past)
stands_view g c past m v n b none few =
    let later : Past = Stands v n b ∷ past in
    let r = set_now g c past m v.0 (shape n b) none few (links_at g v.0 later) (filter-map (is_at v.0) (link_view g later) (enumerate_from 0 g.edges)) in
    (r.0, r.1 ∙ ap (λ xs. record (state_by g (routing_now g v.0 (shape n b) past) past) { admitted = map (admitted_by g (routing_now g v.0 (shape n b) past) past) xs }) (sym (stands_waits g c past m v n b none)) ∙ sym (view_by g later))
