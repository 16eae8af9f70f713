-- What the schedule answers of its vertices.
use Rattle.std.specs.Prelude.{◌≡◌, ◌⊎◌, ℕ, ◌<◌, ◌≤◌, Bool, true, false, ◌&&◌, ◌==◌, if◌then◌else◌, length, Option, Some, None, is_some, is_none, option_and_then, refl}
use Rattle.std.specs.List.{find}
use Rattle.std.specs.Option.{option_map, option_map_or}
use Rattle.std.proofs.Common.{ap, sym, ◌∙◌, arith, inl, inr}
use Rattle.std.proofs.lemmas.Bool.{cases_lt}
use Rattle.std.proofs.lemmas.Bool.Decides.{nat_tests}
use Rattle.tez_lists.specs.Numbers.{numbers_from}
use Rattle.tez_plan.specs.Dag.{Dag, vertex, tasks_of as planned}
use Rattle.tez_conf.specs.declared.values.ConfValues.{ConfValues}
use Rattle.tez_vman.specs.declared.seen.Config.{Config}
use Rattle.tez_events.specs.declared.CoreEvent.TheVariants.{Configure}
use Rattle.tez_history.specs.Shape.{vertices, is_vertex}
use Rattle.tez_history.specs.History.{Past, config}
use Rattle.tez_history.specs.Derived.{is_configured, task_count, winners_of, is_vertex_done, all_done, configures}
use Rattle.tez_history.specs.Steps.{enabled, is_running, some_configure}
use Rattle.tez_history.specs.Follows.{IsMade}
use Rattle.tez_schedule.specs.State.{VertexState}
use Rattle.tez_schedule.specs.Table.{is_done, are_done, progress_in, progress_at, config_at, configures_by, configures_at, next_configure}
use Rattle.tez_schedule_view.specs.View.{schedule_view, progress_view, FitsPlan}
use Rattle.tez_schedule_view.proofs.Lists.{get-here, get-beyond, length-each, find-map, find-same, all-map, not_less}
use Rattle.tez_schedule_view.proofs.Seeing.{vertices_view, edges_view, unplanned, tasks_of_config, won_in_row, configures_same}

pub config_same : (g : Dag) (c : ConfValues) (past : Past) → IsMade g c past → (v : ℕ) → config_at (schedule_view g c past) v ≡ config v past
config_same g c past m v = by (cases_lt v (length g.vertices)) where
  by : (v < length g.vertices) ⊎ (length g.vertices ≤ v) → config_at (schedule_view g c past) v ≡ config v past
  by (inl low) = ap (λ o. option_and_then (λ (x : VertexState). x.config) o) (get-here (progress_view g c past) (length g.vertices) v low)
  by (inr high) = ap (λ o. option_and_then (λ (x : VertexState). x.config) o) (get-beyond (progress_view g c past) (length g.vertices) v high) ∙ sym (unplanned g c past m v high).0

-- a vertex is done exactly where all its tasks have winners
done_same : (g : Dag) (c : ConfValues) (past : Past) → IsMade g c past → FitsPlan g past → (v : ℕ) → is_done (progress_view g c past v) ≡ is_vertex_done g v past
done_same g c past m fits v =
    ap (λ n. is_configured v past && (n == option_map_or (λ s. s.tasks) (config v past) (planned g v))) (won_in_row g c past m fits v)
    ∙ ap (λ n. is_configured v past && (length (winners_of v (task_count g v past) past) == n)) (tasks_of_config (config v past) (planned g v))

pub are_done_same : (g : Dag) (c : ConfValues) (past : Past) → IsMade g c past → FitsPlan g past → are_done (schedule_view g c past) ≡ all_done g past
are_done_same g c past m fits = all-map is_done (progress_view g c past) (λ v. is_vertex_done g v past) (vertices g) (λ v _. done_same g c past m fits v)

pub progress_same : (g : Dag) (c : ConfValues) (past : Past) → IsMade g c past → FitsPlan g past → (v : ℕ)
    → progress_at (schedule_view g c past) v ≡ (if is_configured v past then (length (winners_of v (task_count g v past) past), task_count g v past) else (0, 0))
progress_same g c past m fits v = by (cases_lt v (length g.vertices)) where
  by : (v < length g.vertices) ⊎ (length g.vertices ≤ v)
      → progress_at (schedule_view g c past) v ≡ (if is_configured v past then (length (winners_of v (task_count g v past) past), task_count g v past) else (0, 0))
  by (inl low) =
      ap (λ o. option_map_or progress_in o (0, 0)) (get-here (progress_view g c past) (length g.vertices) v low)
      ∙ ap (λ n. if is_configured v past then (n, option_map_or (λ s. s.tasks) (config v past) (planned g v)) else (0, 0)) (won_in_row g c past m fits v)
      ∙ ap (λ n. if is_configured v past then (length (winners_of v (task_count g v past) past), n) else (0, 0)) (tasks_of_config (config v past) (planned g v))
  by (inr high) =
      ap (λ o. option_map_or progress_in o (0, 0)) (get-beyond (progress_view g c past) (length g.vertices) v high)
      ∙ sym (ap (λ o. if is_some o then (length (winners_of v (task_count g v past) past), task_count g v past) else (0, 0)) (unplanned g c past m v high).0)

pub configures_told : (g : Dag) (c : ConfValues) (past : Past) → IsMade g c past → FitsPlan g past → (v : ℕ)
    → configures_at (schedule_view g c past) v ≡ (if is_vertex g v && is_none (config v past) then configures g c v past else None)
configures_told g c past m fits v = by (cases_lt v (length g.vertices)) where
  turned : (o p : Option Config) → (if is_some o then None else p) ≡ (if is_none o then p else None)
  turned None p = refl
  turned (Some s) p = refl

  less : v < length g.vertices → is_vertex g v ≡ true
  less h = grind (arith, nat_tests)

  by : (v < length g.vertices) ⊎ (length g.vertices ≤ v) → configures_at (schedule_view g c past) v ≡ (if is_vertex g v && is_none (config v past) then configures g c v past else None)
  by (inl low) =
      configures_same g c past m fits v low ∙ turned (config v past) (configures g c v past)
      ∙ ap (λ b. if b && is_none (config v past) then configures g c v past else None) (sym (less low))
  by (inr high) =
      ap (λ o. option_and_then (configures_by (vertices_view g c past) (edges_view g past)) o) (get-beyond (progress_view g c past) (length g.vertices) v high)
      ∙ ap (λ b. if b && is_none (config v past) then configures g c v past else None) (sym (not_less v (length g.vertices) high))

-- ---- the first vertex that is to be configured

some_if : (b d : Bool) (o : Option Config) → is_some (if b && d then o else None) ≡ (b && (d && is_some o))
some_if true true o = refl
some_if true false o = refl
some_if false d o = refl

pub next_configure_same : (g : Dag) (c : ConfValues) (past : Past) → IsMade g c past → FitsPlan g past → is_running past ≡ true
    → option_map (λ v. Configure (vertex v)) (next_configure (schedule_view g c past)) ≡ find (enabled g c past) (some_configure g)
next_configure_same g c past m fits runs =
    ap (λ n. option_map (λ v. Configure (vertex v)) (find (λ v. is_some (configures_at (schedule_view g c past) v)) (numbers_from 0 n))) (length-each (progress_view g c past) 0 (length g.vertices))
    ∙ ap (option_map (λ v. Configure (vertex v)))
    (find-same (λ v. is_some (configures_at (schedule_view g c past) v)) (λ v. enabled g c past (Configure (vertex v))) (vertices g)
    (λ v _. ap is_some (configures_told g c past m fits v) ∙ some_if (is_vertex g v) (is_none (config v past)) (configures g c v past)
    ∙ ap (λ b. b && (is_vertex g v && (is_none (config v past) && is_some (configures g c v past)))) (sym runs)))
    ∙ sym (find-map (enabled g c past) (λ v. Configure (vertex v)) (vertices g))
