-- The table of winners is what the history says, and what entries make of it.
use Rattle.std.specs.Prelude.{◌≡◌, ℕ, ◌<◌, ◌≤◌, Bool, true, false, if◌then◌else◌, [], ◌∷◌, length, slice_get, Option, Some, None, unwrap_or, refl, nat_lt}
use Rattle.std.proofs.Common.{ap, sym, ◌∙◌, subst, arith}
use Rattle.tez_ids.specs.declared.TaskId.{TaskId}
use Rattle.tez_ids.specs.declared.AttemptId.{AttemptId}
use Rattle.tez_ids.specs.Same.{task, same_task, same_attempt}
use Rattle.tez_events.specs.declared.Entry.TheVariants.{Succeeded, Rerun, Kept}
use Rattle.tez_lists.specs.Tables.{set_in}
use Rattle.tez_lists.proofs.Tables.{set_table, cell_get, cell_there}
use Rattle.tez_plan.specs.Dag.{Dag, tasks_of as planned}
use Rattle.tez_conf.specs.declared.values.ConfValues.{ConfValues}
use Rattle.tez_history.specs.Shape.{is_vertex}
use Rattle.tez_history.specs.History.{Past, winner, freed, live}
use Rattle.tez_history.specs.Derived.{is_task, task_count, is_configured}
use Rattle.tez_history.specs.Follows.{IsMade}
use Rattle.tez_laws.proofs.Same.{same_task-true, same_attempt-refl}
use Rattle.tez_laws.proofs.Tasks.{winner_task}
use Rattle.tez_laws.proofs.StepLaw.{both}
use Rattle.tez_laws.proofs.Ranges.{scheduled_is_task, configured_is_vertex, live_scheduled, winner_scheduled}
use Rattle.tez_router.specs.Table.{winner_at}
use Rattle.tez_router_view.specs.View.{winners_view, FitsPlan}
use Rattle.tez_router_view.proofs.Ordering.{vertex_below}
use Rattle.std.proofs.lemmas.Bool.Decides.{nat_tests}

-- ---- where a task with a live attempt or a winner is

pub task_vertex : (g : Dag) (c : ConfValues) (past : Past) → IsMade g c past → (t : TaskId) → is_task g past t ≡ true → is_vertex g t.vertex.0 ≡ true
task_vertex g c past m t h = configured_is_vertex g c past m t.vertex.0 (both {x = is_configured t.vertex.0 past} h).0

pub live_task_there : (g : Dag) (c : ConfValues) (past : Past) → IsMade g c past → (t : TaskId) (a : AttemptId) → live t past ≡ Some a → is_task g past t ≡ true
live_task_there g c past m t a h = scheduled_is_task g c past m t (live_scheduled g c past m t a h)

pub won_task_there : (g : Dag) (c : ConfValues) (past : Past) → IsMade g c past → (t : TaskId) (w : AttemptId) → winner t past ≡ Some w → is_task g past t ≡ true
won_task_there g c past m t w h = scheduled_is_task g c past m t (winner_scheduled g c past m t w h)

pub live_vertex : (g : Dag) (c : ConfValues) (past : Past) → IsMade g c past → (t : TaskId) (a : AttemptId) → live t past ≡ Some a → t.vertex.0 < length g.vertices
live_vertex g c past m t a h = vertex_below g t.vertex.0 (task_vertex g c past m t (live_task_there g c past m t a h))

pub won_vertex : (g : Dag) (c : ConfValues) (past : Past) → IsMade g c past → (t : TaskId) (w : AttemptId) → winner t past ≡ Some w → t.vertex.0 < length g.vertices
won_vertex g c past m t w h = vertex_below g t.vertex.0 (task_vertex g c past m t (won_task_there g c past m t w h))

-- ---- a reading

is_less : (a b : ℕ) → nat_lt a b ≡ true → a < b
is_less a b h = grind (arith, nat_tests)

pub winner_read : (g : Dag) (c : ConfValues) (past : Past) → IsMade g c past → FitsPlan g past → (t : TaskId) → winner_at (winners_view g past) t.vertex.0 t.index ≡ winner t past
winner_read g c past m fits t = by (winner t past) refl where
  cell : Option (Option AttemptId)
  cell = slice_get (unwrap_or (slice_get (winners_view g past) t.vertex.0) []) t.index

  empty : (o : Option (Option AttemptId)) → slice_get (unwrap_or (slice_get (winners_view g past) t.vertex.0) []) t.index ≡ o → winner t past ≡ None → unwrap_or o None ≡ None
  empty None e n = refl
  empty (Some x) e n = (cell_there (λ v i. winner (task v i) past) (planned g) (length g.vertices) t.vertex.0 t.index x e).2 ∙ n

  by : (o : Option AttemptId) → winner t past ≡ o → winner_at (winners_view g past) t.vertex.0 t.index ≡ o
  by None e = empty cell refl e
  by (Some w) e =
      let there = both {x = is_configured t.vertex.0 past} (won_task_there g c past m t w e) in
      let low : t.index < task_count g t.vertex.0 past = is_less t.index (task_count g t.vertex.0 past) there.1 in
      let fit : task_count g t.vertex.0 past ≤ planned g t.vertex.0 = fits t.vertex.0 in
      ap (λ x. unwrap_or x None) (cell_get (λ v i. winner (task v i) past) (planned g) (length g.vertices) t.vertex.0 t.index (won_vertex g c past m t w e) (omega arith)) ∙ e

-- ---- the entries that set a winner

unlike : (w x : AttemptId) (t : TaskId) → same_task w.task t ≡ false → x.task ≡ t → same_attempt w x ≡ false
unlike w x t h e = grind arith

freed_by : (w : AttemptId) (t : TaskId) (b : Bool) (o : Option AttemptId) → same_task w.task t ≡ b → (b ≡ true → o ≡ Some w) → ((x : AttemptId) → o ≡ Some x → x.task ≡ t) → freed w o ≡ (if b then None else o)
freed_by w t true o e has of = ap (freed w) (has refl) ∙ ap (λ x. if x then None else Some w) (same_attempt-refl w)
freed_by w t false None e has of = refl
freed_by w t false (Some x) e has of = ap (λ y. if y then None else Some x) (unlike w x t e (of x refl))

-- a winner that goes leaves those of other tasks
pub withdrawn_winner : (past : Past) (w : AttemptId) (t : TaskId) → winner w.task past ≡ Some w → winner t (Rerun w ∷ past) ≡ (if same_task w.task t then None else winner t past)
withdrawn_winner past w t won =
    freed_by w t (same_task w.task t) (winner t past) refl (λ e. subst (λ u. winner u past ≡ Some w) (same_task-true w.task t e) won) (winner_task past t)

pub withdrawn_row : (g : Dag) (past : Past) (w : AttemptId) → w.task.vertex.0 < length g.vertices → winner w.task past ≡ Some w → set_in (winners_view g past) w.task.vertex.0 w.task.index None ≡ winners_view g (Rerun w ∷ past)
withdrawn_row g past w inside won =
    set_table (λ v i. winner (task v i) past) (λ v i. winner (task v i) (Rerun w ∷ past)) (planned g) (length g.vertices) w.task.vertex.0 w.task.index None inside (λ u j. sym (withdrawn_winner past w (task u j) won))

pub announced_row : (g : Dag) (past : Past) (a : AttemptId) → a.task.vertex.0 < length g.vertices → set_in (winners_view g past) a.task.vertex.0 a.task.index (Some a) ≡ winners_view g (Succeeded a ∷ past)
announced_row g past a inside =
    set_table (λ v i. winner (task v i) past) (λ v i. winner (task v i) (Succeeded a ∷ past)) (planned g) (length g.vertices) a.task.vertex.0 a.task.index (Some a) inside (λ u j. refl)

pub kept_row : (g : Dag) (past : Past) (a : AttemptId) → a.task.vertex.0 < length g.vertices → set_in (winners_view g past) a.task.vertex.0 a.task.index (Some a) ≡ winners_view g (Kept a ∷ past)
kept_row g past a inside =
    set_table (λ v i. winner (task v i) past) (λ v i. winner (task v i) (Kept a ∷ past)) (planned g) (length g.vertices) a.task.vertex.0 a.task.index (Some a) inside (λ u j. refl)
