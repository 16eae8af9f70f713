-- A vertex is configured: its tasks, and the managers of its edges.
use Rattle.std.specs.Prelude.{◌≡◌, ℕ, Bool, true, false, ◌==◌, if◌then◌else◌, ◌∷◌, map, Option, Some, None, is_none, is_some, unwrap_or, refl}
use Rattle.std.specs.List.{filter, enumerate_from}
use Rattle.std.specs.Option.{option_map_or}
use Rattle.std.proofs.Common.{ap, sym, ◌∙◌, arith}
use Rattle.std.proofs.lemmas.Bool.Decides.{nat_tests}
use Rattle.tez_ids.specs.declared.VertexId.{VertexId}
use Rattle.tez_plan.specs.Dag.{Dag, from, to, tasks_of as planned}
use Rattle.tez_plan.specs.declared.parts.Movement.{Movement}
use Rattle.tez_plan.specs.declared.parts.Movement.TheVariants as movement
use Rattle.tez_conf.specs.declared.values.ConfValues.{ConfValues}
use Rattle.tez_vman.specs.declared.seen.Config.{Config}
use Rattle.tez_vman.specs.Rules.{config as shape}
use Rattle.tez_events.specs.declared.Entry.TheVariants.{Configured}
use Rattle.tez_events.specs.declared.CoreEvent.TheVariants.{Configure}
use Rattle.tez_history.specs.Shape.{Edge, is_vertex}
use Rattle.tez_history.specs.History.{Past, extend, config}
use Rattle.tez_history.specs.Derived.{configures}
use Rattle.tez_history.specs.Steps.{enabled, entries_of, is_running}
use Rattle.tez_laws.proofs.StepLaw.{both}
use Rattle.tez_router.specs.State.{LinkState, Routing, OneToOne, Broadcast, ScatterGather}
use Rattle.tez_router_view.specs.View.{router_view, link_view, routing_for}
use Rattle.tez_router.specs.Configure.{after_set_edges, is_at, rerouted, reroute, links_for}
use Rattle.tez_router_view.specs.Events.{links_at}
use Rattle.tez_router_view.proofs.Lists.{filter-map, map-map, map-same}
use Rattle.tez_router_view.proofs.Ordering.{vertex_below}
use Rattle.tez_router_view.proofs.Keeping.{event_fits}
use Rattle.tez_router_view.proofs.Told.{configured}
use Rattle.tez_vertex_view.proofs.Configuring.{configure_step}
use Rattle.tez_pool_view.proofs.Stepping.{other_step}
use Rattle.tez_schedule.specs.Table.{configures_at}
use Rattle.tez_schedule_view.specs.View.{schedule_view}
use Rattle.tez_schedule_view.proofs.Seeing.{configures_same}
use Rattle.tez_schedule_view.proofs.ByEvent.{configure_view}
use Rattle.tez_master_model.specs.Settled.{with_config}
use Rattle.tez_master_view.specs.View.{master_view}
use Rattle.tez_master_view.specs.Laws.{Goes}
use Rattle.tez_master_view.proofs.Simple.{Settles, settles}

-- ---- the managers of the edges

-- what an end of an edge is once v is configured
abbrev now : ℕ → Config → ℕ → Option Config → Option Config
now v s w o = if v == w then Some s else o

abbrev routed : Movement → ℕ → ℕ → Option Config → Option Config → Routing
routed x source target o p =
    routing_for x (unwrap_or o (shape source 1)).tasks (unwrap_or p (shape target 1)).tasks target (unwrap_or p (shape target 1)).base

tasks_now : (b d : Bool) (s : Config) (n : ℕ) (o : Option Config) → b ≡ d → (unwrap_or (if b then Some s else o) (shape n 1)).tasks ≡ (if d then s.tasks else (unwrap_or o (shape n 1)).tasks)
tasks_now true true s n o e = refl
tasks_now false false s n o e = refl
tasks_now true false s n o e = cc
tasks_now false true s n o e = cc

base_now : (b d : Bool) (s : Config) (n : ℕ) (o : Option Config) → b ≡ d → (unwrap_or (if b then Some s else o) (shape n 1)).base ≡ (if d then s.base else (unwrap_or o (shape n 1)).base)
base_now true true s n o e = refl
base_now false false s n o e = refl
base_now true false s n o e = cc
base_now false true s n o e = cc

turned : (v w : ℕ) → (v == w) ≡ (w == v)
turned v w = grind (arith, nat_tests)

rerouted_by : (x : Movement) (v : ℕ) (s : Config) (l : LinkState) (n k : ℕ) (o p : Option Config)
    → routed x n k (now v s l.source o) (now v s l.target p) ≡ rerouted v s l (routed x n k o p)
rerouted_by movement.OneToOne v s l n k o p = ap OneToOne (tasks_now (v == l.source) (l.source == v) s n o (turned v l.source))
rerouted_by movement.Broadcast v s l n k o p =
    ap (λ i. Broadcast i (unwrap_or (now v s l.target p) (shape k 1)).tasks) (tasks_now (v == l.source) (l.source == v) s n o (turned v l.source))
    ∙ ap (Broadcast (if l.source == v then s.tasks else (unwrap_or o (shape n 1)).tasks)) (tasks_now (v == l.target) (l.target == v) s k p (turned v l.target))
rerouted_by (movement.ScatterGather keys) v s l n k o p =
    ap (λ i. ScatterGather i k (unwrap_or (now v s l.target p) (shape k 1)).base) (tasks_now (v == l.source) (l.source == v) s n o (turned v l.source))
    ∙ ap (ScatterGather (if l.source == v then s.tasks else (unwrap_or o (shape n 1)).tasks) k) (base_now (v == l.target) (l.target == v) s k p (turned v l.target))

link_set : (g : Dag) (past : Past) (v : VertexId) (s : Config) (e : Edge) → link_view g (Configured v s.tasks s.base ∷ past) e ≡ reroute v.0 s (link_view g past e)
link_set g past v s e =
    ap (λ r. record (link_view g past e) { routing = r })
    (rerouted_by e.1.movement v.0 s (link_view g past e) (planned g (from g e.1)) (planned g (to g e.1)) (config (from g e.1) past) (config (to g e.1) past))

pub links_set : (g : Dag) (past : Past) (v : VertexId) (s : Config) → links_for (router_view g past) v.0 s ≡ links_at g v.0 (Configured v s.tasks s.base ∷ past)
links_set g past v s =
    let later = Configured v s.tasks s.base ∷ past in
    let es = enumerate_from 0 g.edges in
    ap (map (reroute v.0 s)) (filter-map (is_at v.0) (link_view g past) es)
    ∙ map-map (reroute v.0 s) (link_view g past) (filter (λ e. is_at v.0 (link_view g past e)) es)
    ∙ map-same (λ e. reroute v.0 s (link_view g past e)) (link_view g later) (filter (λ e. is_at v.0 (link_view g past e)) es) (λ e _. sym (link_set g past v s e))
    ∙ sym (filter-map (is_at v.0) (link_view g later) es)

-- ---- the event

some_is : (o : Option Config) → is_some o ≡ true → o ≡ Some (unwrap_or o (shape 0 0))
some_is None h = cc
some_is (Some s) h = refl

unconfigured : (o : Option Config) → is_none o ≡ true → is_some o ≡ false
unconfigured None h = refl
unconfigured (Some s) h = cc

pub configure_settles : (g : Dag) (c : ConfValues) (past : Past) (v : VertexId) → Goes g c past → enabled g c past (Configure v) ≡ true → Settles g c past (Configure v)
configure_settles g c past v go on =
    let m = go.sound.made in
    let k = both {x = is_running past} on in
    let l = both {x = is_vertex g v.0} k.1 in
    let n = both {x = is_none (config v.0 past)} l.1 in
    let s = unwrap_or (configures g c v.0 past) (shape 0 0) in
    let is : configures g c v.0 past ≡ Some s = some_is (configures g c v.0 past) n.1 in
    let later = extend past (entries_of g c past (Configure v)) in
    let fits = event_fits g c past (Configure v) go.valid m on go.plan in
    let asked : configures_at (schedule_view g c past) v.0 ≡ Some s =
    configures_same g c past m go.plan v.0 (vertex_below g v.0 l.0)
    ∙ ap (λ b. if b then None else configures g c v.0 past) (unconfigured (config v.0 past) n.0) ∙ is in
    ap (λ o. option_map_or (with_config (master_view g c past) v.0) o (master_view g c past)) asked
    ∙ settles g c past later (sym (configure_step g c past v s go.conf.some_failed m go.failed on is)) (sym (other_step g c past (Configure v) tt m on))
    (ap (after_set_edges (router_view g past)) (links_set g past v s) ∙ (configured g c past v m on fits).1) (configure_view g c past v s m on is fits) refl refl refl
