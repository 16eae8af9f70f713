-- What the managers see in the view is what they see in the history.
use Rattle.std.specs.Prelude.{◌≡◌, ◌⊎◌, ℕ, ◌<◌, ◌≤◌, nat_lt, Bool, true, false, not, ◌==◌, if◌then◌else◌, List, map, length, slice_get, Option, Some, None, is_some, unwrap_or, option_and_then, refl}
use Rattle.std.specs.List.{sum_by}
use Rattle.std.specs.Option.{option_map_or}
use Rattle.std.proofs.Common.{ap, sym, ◌∙◌, arith, subst, inl, inr, zero-add}
use Rattle.std.proofs.lemmas.Bool.{cases_lt}
use Rattle.tez_ids.specs.Same.{task}
use Rattle.tez_lists.specs.Numbers.{In}
use Rattle.tez_lists.proofs.Flat.{in-filter-out}
use Rattle.tez_plan.specs.Dag.{Dag, from, to, source_of, tasks_of as planned, is_broadcast}
use Rattle.tez_conf.specs.declared.values.ConfValues.{ConfValues}
use Rattle.tez_vman.specs.declared.seen.Seen.{Seen}
use Rattle.tez_vman.specs.declared.seen.Config.{Config}
use Rattle.tez_vman.specs.Rules.{configures as configures_by_rule, schedules, config as shape}
use Rattle.tez_history.specs.Shape.{Edge, vertices, edges_to, primary_edges, rule, numbers_below}
use Rattle.tez_history.specs.History.{Past, config, winner, made_bytes}
use Rattle.tez_history.specs.Derived.{task_count, is_configured, winners_of, edge_winners, seen, configures, to_schedule}
use Rattle.tez_history.specs.Follows.{IsMade}
use Rattle.tez_laws.proofs.StepLaw.{both, below}
use Rattle.tez_laws.proofs.Ranges.{scheduled_is_task, configured_is_vertex, winner_scheduled}
use Rattle.tez_schedule.specs.State.{VertexState, EdgeState}
use Rattle.tez_schedule.specs.Planned.{input_of}
use Rattle.tez_schedule.specs.Table.{how_many, tasks_in, tasks_at, won_at, is_configured_at, made_in, made_at, seen_by, to_schedule_at, to_schedule as to_schedule_in, configures_by, configures_at}
use Rattle.tez_schedule_view.specs.View.{schedule_view, progress_view, edge_view, has_winner, by_task, made_view, FitsPlan}
use Rattle.tez_schedule_view.proofs.Lists.{get-past, get-here, get-beyond, sum-map, all-map, count-options, sum-options, got-from}

abbrev pub vertices_view : Dag → ConfValues → Past → List VertexState
vertices_view g c past = map (progress_view g c past) (vertices g)

abbrev pub edges_view : Dag → Past → List EdgeState
edges_view g past = map (edge_view g past) (numbers_below (length g.edges))

-- ---- beyond the vertices of the plan

not_below : (m n : ℕ) → nat_lt m n ≡ true → n ≤ m → ⊥
not_below m n h l = let k : m < n = below m n h in omega (arith, k, l)

pub unplanned : (g : Dag) (c : ConfValues) (past : Past) → IsMade g c past → (v : ℕ) → length g.vertices ≤ v → (config v past ≡ None) × (task_count g v past ≡ 0)
unplanned g c past m v high = (none, ap (λ o. (unwrap_or o (shape (planned g v) 1)).tasks) none ∙ ap (λ o. option_map_or (λ s. s.tasks) o 0) (get-past g.vertices v high)) where
  by : (o : Option Config) → config v past ≡ o → config v past ≡ None
  by None e = e
  by (Some s) e = absurd (not_below v (length g.vertices) (configured_is_vertex g c past m v (ap is_some e)) high)

  none : config v past ≡ None
  none = by (config v past) refl

pub tasks_of_config : (o : Option Config) (n : ℕ) → option_map_or (λ s. s.tasks) o n ≡ (unwrap_or o (shape n 1)).tasks
tasks_of_config None n = refl
tasks_of_config (Some s) n = refl

-- ---- a vertex

pub tasks_seen : (g : Dag) (c : ConfValues) (past : Past) → IsMade g c past → (v : ℕ) → tasks_at (vertices_view g c past) v ≡ task_count g v past
tasks_seen g c past m v = by (cases_lt v (length g.vertices)) where
  by : (v < length g.vertices) ⊎ (length g.vertices ≤ v) → tasks_at (vertices_view g c past) v ≡ task_count g v past
  by (inl low) = ap (λ o. option_map_or tasks_in o 0) (get-here (progress_view g c past) (length g.vertices) v low) ∙ tasks_of_config (config v past) (planned g v)
  by (inr high) = ap (λ o. option_map_or tasks_in o 0) (get-beyond (progress_view g c past) (length g.vertices) v high) ∙ sym (unplanned g c past m v high).1

pub configured_seen : (g : Dag) (c : ConfValues) (past : Past) → IsMade g c past → (v : ℕ) → is_configured_at (vertices_view g c past) v ≡ is_configured v past
configured_seen g c past m v = by (cases_lt v (length g.vertices)) where
  by : (v < length g.vertices) ⊎ (length g.vertices ≤ v) → is_configured_at (vertices_view g c past) v ≡ is_configured v past
  by (inl low) = ap (λ o. option_map_or (λ x. is_some x.config) o false) (get-here (progress_view g c past) (length g.vertices) v low)
  by (inr high) = ap (λ o. option_map_or (λ (x : VertexState). is_some x.config) o false) (get-beyond (progress_view g c past) (length g.vertices) v high) ∙ ap is_some (sym (unplanned g c past m v high).0)

-- a task that is not there has no winner
pub none_beyond : (g : Dag) (c : ConfValues) (past : Past) → IsMade g c past → (v i : ℕ) → task_count g v past ≤ i → winner (task v i) past ≡ None
none_beyond g c past m v i high = by (winner (task v i) past) refl where
  by : (o : _) → winner (task v i) past ≡ o → winner (task v i) past ≡ None
  by None e = e
  by (Some w) e = absurd (not_below i (task_count g v past) (both {x = is_configured v past} (scheduled_is_task g c past m (task v i) (winner_scheduled g c past m (task v i) w e))).1 high)

pub won_in_row : (g : Dag) (c : ConfValues) (past : Past) → IsMade g c past → FitsPlan g past → (v : ℕ) → how_many (by_task g v (has_winner past)) ≡ length (winners_of v (task_count g v past) past)
won_in_row g c past m fits v =
    count-options (λ i. winner (task v i) past) 0 (task_count g v past) (planned g v) (fits v) (λ i l. none_beyond g c past m v i (subst (λ n. n ≤ i) (zero-add (task_count g v past)) l))

pub won_seen : (g : Dag) (c : ConfValues) (past : Past) → IsMade g c past → FitsPlan g past → (v : ℕ) → won_at (vertices_view g c past) v ≡ length (winners_of v (task_count g v past) past)
won_seen g c past m fits v = by (cases_lt v (length g.vertices)) where
  by : (v < length g.vertices) ⊎ (length g.vertices ≤ v) → won_at (vertices_view g c past) v ≡ length (winners_of v (task_count g v past) past)
  by (inl low) = ap (λ o. option_map_or (λ (x : VertexState). how_many x.won) o 0) (get-here (progress_view g c past) (length g.vertices) v low) ∙ won_in_row g c past m fits v
  by (inr high) =
      ap (λ o. option_map_or (λ (x : VertexState). how_many x.won) o 0) (get-beyond (progress_view g c past) (length g.vertices) v high)
      ∙ ap (λ n. length (winners_of v n past)) (sym (unplanned g c past m v high).1)

-- ---- an edge

pub edge_there : (g : Dag) (v : ℕ) (e : Edge) → In e (primary_edges g v) → (e.0 < length g.edges) × (source_of g e.0 ≡ from g e.1)
edge_there g v e h =
    let r = got-from (λ x. x) 0 g.edges e (in-filter-out (λ x. to g x.1 == v) e _ (in-filter-out (λ x. not (is_broadcast x.1)) e (edges_to g v) h)) in
    let at : e.0 ≡ r.0 = r.1 ∙ zero-add r.0 in
    (subst (λ k. k < length g.edges) (sym at) r.3, ap (λ k. option_map_or (from g) (slice_get g.edges k) 0) at ∙ ap (λ o. option_map_or (from g) o 0) r.2)

made_in_row : (g : Dag) (c : ConfValues) (past : Past) → IsMade g c past → FitsPlan g past → (e v : ℕ) → sum_by (λ n. n) (by_task g v (made_view past e)) ≡ sum_by (λ a. made_bytes a e past) (winners_of v (task_count g v past) past)
made_in_row g c past m fits e v =
    sum-options (λ i. winner (task v i) past) (λ a. made_bytes a e past) 0 (task_count g v past) (planned g v) (fits v)
    (λ i l. none_beyond g c past m v i (subst (λ n. n ≤ i) (zero-add (task_count g v past)) l))

pub made_seen : (g : Dag) (c : ConfValues) (past : Past) → IsMade g c past → FitsPlan g past → (v : ℕ) (e : Edge) → In e (primary_edges g v)
    → made_at (edges_view g past) e.0 ≡ sum_by (λ a. made_bytes a e.0 past) (edge_winners g past e)
made_seen g c past m fits v e h =
    let there = edge_there g v e h in
    ap (λ o. option_map_or made_in o 0) (get-here (edge_view g past) (length g.edges) e.0 there.0)
    ∙ ap (λ u. sum_by (λ n. n) (by_task g u (made_view past e.0))) there.1 ∙ made_in_row g c past m fits e.0 (from g e.1)

-- ---- what is seen

abbrev seen_with : ℕ → Bool → ℕ → ℕ → ℕ → Seen
seen_with sources configured finished bytes tasks = record { sources = sources; configured = configured; finished = finished; bytes = bytes; tasks = tasks }

same_seen : (s t : Seen) → s.sources ≡ t.sources → s.configured ≡ t.configured → s.finished ≡ t.finished → s.bytes ≡ t.bytes → s.tasks ≡ t.tasks → s ≡ t
same_seen s t a b f n k =
    ap (λ x. seen_with x s.configured s.finished s.bytes s.tasks) a ∙ ap (λ x. seen_with t.sources x s.finished s.bytes s.tasks) b ∙ ap (λ x. seen_with t.sources t.configured x s.bytes s.tasks) f
    ∙ ap (λ x. seen_with t.sources t.configured t.finished x s.tasks) n ∙ ap (λ x. seen_with t.sources t.configured t.finished t.bytes x) k

pub seen_same : (g : Dag) (c : ConfValues) (past : Past) → IsMade g c past → FitsPlan g past → (v : ℕ) → seen_by (vertices_view g c past) (edges_view g past) (progress_view g c past v) ≡ seen g v past
seen_same g c past m fits v =
    let vs = vertices_view g c past in
    let es = edges_view g past in
    same_seen (seen_by vs es (progress_view g c past v)) (seen g v past)
    (sum-map (λ f. tasks_at vs f.source.0) (input_of g) (λ e. task_count g (from g e.1) past) (primary_edges g v) (λ e _. tasks_seen g c past m (from g e.1)))
    (all-map (λ f. is_configured_at vs f.source.0) (input_of g) (λ e. is_configured (from g e.1) past) (primary_edges g v) (λ e _. configured_seen g c past m (from g e.1)))
    (sum-map (λ f. won_at vs f.source.0) (input_of g) (λ e. length (edge_winners g past e)) (primary_edges g v) (λ e _. won_seen g c past m fits (from g e.1)))
    (sum-map (λ f. made_at es f.edge.0) (input_of g) (λ e. sum_by (λ a. made_bytes a e.0 past) (edge_winners g past e)) (primary_edges g v) (λ e h. made_seen g c past m fits v e h))
    (tasks_of_config (config v past) (planned g v))

pub to_schedule_same : (g : Dag) (c : ConfValues) (past : Past) → IsMade g c past → FitsPlan g past → (v : ℕ) → v < length g.vertices → to_schedule_at (vertices_view g c past) (edges_view g past) v ≡ to_schedule g c v past
to_schedule_same g c past m fits v low =
    ap (λ o. option_map_or (to_schedule_in (vertices_view g c past) (edges_view g past)) o 0) (get-here (progress_view g c past) (length g.vertices) v low)
    ∙ ap (λ s. if is_configured v past then schedules (rule g c v) s else 0) (seen_same g c past m fits v)

pub configures_same : (g : Dag) (c : ConfValues) (past : Past) → IsMade g c past → FitsPlan g past → (v : ℕ) → v < length g.vertices
    → configures_at (schedule_view g c past) v ≡ (if is_configured v past then None else configures g c v past)
configures_same g c past m fits v low =
    ap (λ o. option_and_then (configures_by (vertices_view g c past) (edges_view g past)) o) (get-here (progress_view g c past) (length g.vertices) v low)
    ∙ ap (λ s. if is_configured v past then None else configures_by_rule (rule g c v) s) (seen_same g c past m fits v)
