-- A new master that goes on from what it finds: the edges of the configurations that stand, and then the winners that are taken over.
use Rattle.std.specs.Prelude.{◌≡◌, ℕ, ◌<◌, Bool, true, false, ◌&&◌, if◌then◌else◌, List, [], ◌∷◌, ◌++◌, map, length, Option, Some, None, is_none, refl}
use Rattle.std.specs.List.{filter, enumerate_from}
use Rattle.std.proofs.Common.{ap, sym, ◌∙◌, subst}
use Rattle.tez_ids.specs.declared.TaskId.{TaskId}
use Rattle.tez_ids.specs.declared.VertexId.{VertexId}
use Rattle.tez_ids.specs.declared.AttemptId.{AttemptId}
use Rattle.tez_ids.specs.Same.{task}
use Rattle.tez_events.specs.declared.Entry.TheVariants.{Stands, Carried, Kept}
use Rattle.tez_lists.specs.Numbers.{In}
use Rattle.tez_lists.proofs.Tables.{table_same}
use Rattle.tez_plan.specs.Dag.{Dag, vertex, tasks_of as planned}
use Rattle.tez_conf.specs.declared.values.ConfValues.{ConfValues}
use Rattle.tez_vman.specs.declared.seen.Config.{Config}
use Rattle.tez_history.specs.Shape.{Edge, is_vertex}
use Rattle.tez_history.specs.History.{Past, extend, config, live, winner}
use Rattle.tez_history.specs.Derived.{is_task, tasks, waiting_attempts}
use Rattle.tez_history.specs.Steps.{each_after}
use Rattle.tez_history.specs.Runs.{Standing, stands_if, kept_if, carried_entries, opened_at, standing_entries}
use Rattle.tez_history.specs.Follows.{IsMade, IsOpen}
use Rattle.tez_laws.proofs.StepLaw.{both}
use Rattle.tez_laws.proofs.Going.{extend-append}
use Rattle.tez_router.specs.State.{Routing}
use Rattle.tez_router.specs.Planned.{planned_router}
use Rattle.tez_router_view.specs.View.{router_view, routing_view, links_view, winners_view}
use Rattle.tez_router.specs.Configure.{after_set_edges, CanSetEdges}
use Rattle.tez_router_view.specs.Events.{after_announces}
use Rattle.tez_router_view.proofs.Lists.{filter_map-none, filter-same}
use Rattle.tez_router_view.proofs.Waiting.{waiting_at, waiting_by_task, none_live}
use Rattle.tez_router_view.proofs.Ordering.{vertex_below}
use Rattle.tez_router_view.proofs.Winners.{task_vertex}
use Rattle.tez_router_view.proofs.Moving.{kept_view}
use Rattle.tez_router_view.proofs.Setting.{link_by, admitted_by, state_by, state_with, state_same, view_by, put_all, is_listed, edges_set}
use Rattle.tez_router_view.proofs.Configuring.{in-listed}
use Rattle.tez_router_view.proofs.Beginning.{planned_view}

-- ---- facts that these entries leave

stands_keep : {A : Type 0} (g : Dag) (fact : Past → A) → ((p : Past) (v : VertexId) (n b : ℕ) → fact (Stands v n b ∷ p) ≡ fact p) → (past : Past) (xs : List (ℕ × Config)) → fact (extend past (each_after (stands_if g) past xs)) ≡ fact past
stands_keep g fact same past [] = refl
stands_keep g fact same past (x ∷ xs) = by (is_none (config x.0 past) && is_vertex g x.0) (stands_keep g fact same past xs) (stands_keep g fact same (Stands (vertex x.0) x.1.tasks x.1.base ∷ past) xs) where
  by : (b : Bool) → fact (extend past (each_after (stands_if g) past xs)) ≡ fact past
      → fact (extend (Stands (vertex x.0) x.1.tasks x.1.base ∷ past) (each_after (stands_if g) (Stands (vertex x.0) x.1.tasks x.1.base ∷ past) xs)) ≡ fact (Stands (vertex x.0) x.1.tasks x.1.base ∷ past)
      → fact (extend past ((if b then Stands (vertex x.0) x.1.tasks x.1.base ∷ [] else []) ++ each_after (stands_if g) (extend past (if b then Stands (vertex x.0) x.1.tasks x.1.base ∷ [] else [])) xs)) ≡ fact past
  by true stays moves = moves ∙ same past (vertex x.0) x.1.tasks x.1.base
  by false stays moves = stays

pub carried_keep : {A : Type 0} (fact : Past → A) → ((p : Past) (t : TaskId) (n : ℕ) → fact (Carried t n ∷ p) ≡ fact p) → (past : Past) (xs : List (TaskId × ℕ)) → fact (extend past (carried_entries xs)) ≡ fact past
carried_keep fact same past [] = refl
carried_keep fact same past (x ∷ xs) = carried_keep fact same (Carried x.0 x.1 ∷ past) xs ∙ same past x.0 x.1

pub kept_keep : {A : Type 0} (g : Dag) (fact : Past → A) → ((p : Past) (w : AttemptId) → fact (Kept w ∷ p) ≡ fact p) → (past : Past) (ws : List AttemptId) → fact (extend past (each_after (kept_if g) past ws)) ≡ fact past
kept_keep g fact same past [] = refl
kept_keep g fact same past (w ∷ ws) = by (is_task g past w.task) (kept_keep g fact same past ws) (kept_keep g fact same (Kept w ∷ past) ws) where
  by : (b : Bool) → fact (extend past (each_after (kept_if g) past ws)) ≡ fact past → fact (extend (Kept w ∷ past) (each_after (kept_if g) (Kept w ∷ past) ws)) ≡ fact (Kept w ∷ past)
      → fact (extend past ((if b then Kept w ∷ [] else []) ++ each_after (kept_if g) (extend past (if b then Kept w ∷ [] else [])) ws)) ≡ fact past
  by true stays moves = moves ∙ same past w
  by false stays moves = stays

-- ---- they may follow

none_is : (o : Option Config) → is_none o ≡ true → o ≡ None
none_is None h = refl
none_is (Some s) h = cc

-- made so far, by a master that is open
abbrev IsGoing : Dag → ConfValues → Past → Type 0
IsGoing g c past = IsMade g c past × IsOpen past

stands_may : (g : Dag) (c : ConfValues) (past : Past) (xs : List (ℕ × Config)) → IsGoing g c past → IsGoing g c (extend past (each_after (stands_if g) past xs))
stands_may g c past [] k = k
stands_may g c past (x ∷ xs) k =
    by (is_none (config x.0 past) && is_vertex g x.0) refl (stands_may g c past xs k) (λ l. stands_may g c (Stands (vertex x.0) x.1.tasks x.1.base ∷ past) xs l)
  where
    by : (b : Bool) → (is_none (config x.0 past) && is_vertex g x.0) ≡ b → IsGoing g c (extend past (each_after (stands_if g) past xs))
        → (IsGoing g c (Stands (vertex x.0) x.1.tasks x.1.base ∷ past)
        → IsGoing g c (extend (Stands (vertex x.0) x.1.tasks x.1.base ∷ past) (each_after (stands_if g) (Stands (vertex x.0) x.1.tasks x.1.base ∷ past) xs)))
        → IsGoing g c (extend past ((if b then Stands (vertex x.0) x.1.tasks x.1.base ∷ [] else []) ++ each_after (stands_if g) (extend past (if b then Stands (vertex x.0) x.1.tasks x.1.base ∷ [] else [])) xs))
    by true e stays moves = let t = both {x = is_none (config x.0 past)} e in moves (((none_is (config x.0 past) t.0, t.1, k.1), k.0), refl)
    by false e stays moves = stays

carried_may : (g : Dag) (c : ConfValues) (past : Past) (xs : List (TaskId × ℕ)) → IsGoing g c past → IsGoing g c (extend past (carried_entries xs))
carried_may g c past [] k = k
carried_may g c past (x ∷ xs) k = carried_may g c (Carried x.0 x.1 ∷ past) xs ((k.1, k.0), refl)

-- ---- the winners that are taken over

pub kept_all : (g : Dag) (past : Past) (ws : List AttemptId) → ((t : TaskId) → is_task g past t ≡ true → t.vertex.0 < length g.vertices)
    → router_view g (extend past (each_after (kept_if g) past ws)) ≡ after_announces (router_view g past) (filter (λ w. is_task g past w.task) ws)
kept_all g past [] inside = refl
kept_all g past (w ∷ ws) inside = by (is_task g past w.task) refl (kept_all g past ws inside) (kept_all g (Kept w ∷ past) ws inside) where
  by : (b : Bool) → is_task g past w.task ≡ b → router_view g (extend past (each_after (kept_if g) past ws)) ≡ after_announces (router_view g past) (filter (λ x. is_task g past x.task) ws)
      → router_view g (extend (Kept w ∷ past) (each_after (kept_if g) (Kept w ∷ past) ws)) ≡ after_announces (router_view g (Kept w ∷ past)) (filter (λ x. is_task g past x.task) ws)
      → router_view g (extend past ((if b then Kept w ∷ [] else []) ++ each_after (kept_if g) (extend past (if b then Kept w ∷ [] else [])) ws))
      ≡ after_announces (router_view g past) (if b then w ∷ filter (λ x. is_task g past x.task) ws else filter (λ x. is_task g past x.task) ws)
  by true e stays moves = moves ∙ ap (λ s. after_announces s (filter (λ x. is_task g past x.task) ws)) (sym (kept_view g past w (inside w.task e)))
  by false e stays moves = stays

-- ---- the edges

pub nobody : (g : Dag) (past : Past) → ((t : TaskId) → live t past ≡ None) → waiting_attempts g past ≡ []
nobody g past dead = waiting_by_task g past ∙ filter_map-none (waiting_at past) (tasks g past) (λ t. none_live past t (dead t))

nobody_first : (g : Dag) (a : AttemptId) → In a (waiting_attempts g []) → ⊥
nobody_first g a i = subst (λ xs. In a xs) (nobody g [] (λ t. refl)) i

listed_so : {X : Type 0} (b : Bool) (x y : X) → b ≡ true → (if b then x else y) ≡ x
listed_so true x y h = refl
listed_so false x y h = cc

-- all edges get the managers of a history in which nothing is live or won
pub all_set : (g : Dag) (past : Past) → ((t : TaskId) → live t past ≡ None) → ((t : TaskId) → winner t past ≡ None)
    → CanSetEdges (planned_router g) (links_view g past) × (after_set_edges (planned_router g) (links_view g past) ≡ router_view g past)
all_set g past dead lost =
    let es = enumerate_from 0 g.edges in
    let h : Edge → Routing = routing_view g past in
    let begin : state_by g (routing_view g []) [] ≡ planned_router g = sym (view_by g []) ∙ planned_view g [] (λ v. refl) (λ t. refl) (λ t. refl) in
    let r = edges_set g [] h (routing_view g []) es (λ e i. i) (λ e i a w. absurd (nobody_first g a w)) (λ e i a w. absurd (nobody_first g a w)) in (
      subst (λ s. CanSetEdges s (map (link_by g h) es)) begin r.0,
      ap (λ s. after_set_edges s (map (link_by g h) es)) (sym begin) ∙ r.1
          ∙ state_same g [] (put_all es h (routing_view g [])) h (λ e i. listed_so (is_listed es e) (h e) (routing_view g [] e) (in-listed es e i))
          ∙ ap (λ rows. state_with rows (map (link_by g h) es) (map (admitted_by g h []) (waiting_attempts g []))) (table_same (λ v i. winner (task v i) []) (λ v i. winner (task v i) past) (planned g) (length g.vertices) (λ v i. sym (lost (task v i))))
          ∙ ap (λ xs. state_with (winners_view g past) (map (link_by g h) es) (map (admitted_by g h []) xs)) (nobody g [] (λ t. refl))
          ∙ sym (ap (λ xs. state_with (winners_view g past) (map (link_by g h) es) (map (admitted_by g h past) xs)) (nobody g past dead))
          ∙ sym (view_by g past),
    )

-- ---- the opening as a whole

abbrev pub stood : Dag → Past → Standing → Past
stood g past s = extend (extend past (each_after (stands_if g) past s.configured)) (carried_entries s.failed)

stood_keeps : {A : Type 0} (g : Dag) (s : Standing) (fact : Past → A) → ((p : Past) (v : VertexId) (n b : ℕ) → fact (Stands v n b ∷ p) ≡ fact p) → ((p : Past) (t : TaskId) (n : ℕ) → fact (Carried t n ∷ p) ≡ fact p)
    → (past : Past) → fact (stood g past s) ≡ fact past
stood_keeps g s fact same too past = carried_keep fact too (extend past (each_after (stands_if g) past s.configured)) s.failed ∙ stands_keep g fact same past s.configured

stood_made : (g : Dag) (c : ConfValues) (past : Past) (s : Standing) → IsGoing g c past → IsMade g c (stood g past s)
stood_made g c past s k = (carried_may g c (extend past (each_after (stands_if g) past s.configured)) s.failed (stands_may g c past s.configured k)).0

pub ends_so : (g : Dag) (past : Past) (s : Standing) → extend past (standing_entries g past s) ≡ extend (stood g past s) (each_after (kept_if g) (stood g past s) s.kept)
ends_so g past s =
    let stands = each_after (stands_if g) past s.configured in
    extend-append past stands (carried_entries s.failed ++ each_after (kept_if g) (stood g past s) s.kept)
    ∙ extend-append (extend past stands) (carried_entries s.failed) (each_after (kept_if g) (stood g past s) s.kept)

pub opened_view : (g : Dag) (c : ConfValues) (past : Past) (s : Standing) → IsMade g c (opened_at s past) → (later : Past) → later ≡ extend (opened_at s past) (standing_entries g (opened_at s past) s)
    → CanSetEdges (planned_router g) (links_view g later) × (router_view g later ≡ after_announces (after_set_edges (planned_router g) (links_view g later)) (filter (λ w. is_task g later w.task) s.kept))
opened_view g c past s m later is =
    let before : Past = stood g (opened_at s past) s in
    let made : IsMade g c before = stood_made g c (opened_at s past) s (m, refl) in
    let dead : (t : TaskId) → live t before ≡ None = λ t. stood_keeps g s (λ p. live t p) (λ p v n b. refl) (λ p u n. refl) (opened_at s past) in
    let lost : (t : TaskId) → winner t before ≡ None = λ t. stood_keeps g s (λ p. winner t p) (λ p v n b. refl) (λ p u n. refl) (opened_at s past) in
    let ends : later ≡ extend before (each_after (kept_if g) before s.kept) = is ∙ ends_so g (opened_at s past) s in
    let links : links_view g later ≡ links_view g before = ap (links_view g) ends ∙ kept_keep g (λ p. links_view g p) (λ p w. refl) before s.kept in
    let there : (t : TaskId) → is_task g before t ≡ is_task g later t = λ t. sym (ap (λ p. is_task g p t) ends ∙ kept_keep g (λ p. is_task g p t) (λ p w. refl) before s.kept) in
    let set = all_set g before dead lost in (
      subst (CanSetEdges (planned_router g)) (sym links) set.0,
      ap (router_view g) ends ∙ kept_all g before s.kept (λ t h. vertex_below g t.vertex.0 (task_vertex g c before made t h))
          ∙ ap (after_announces (router_view g before)) (filter-same (λ w. is_task g before w.task) (λ w. is_task g later w.task) s.kept (λ w _. there w.task))
          ∙ ap (λ x. after_announces x (filter (λ w. is_task g later w.task) s.kept)) (sym set.1 ∙ ap (after_set_edges (planned_router g)) (sym links)),
    )
