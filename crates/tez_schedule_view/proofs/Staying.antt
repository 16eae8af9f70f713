-- Entries that leave the view.
use Rattle.std.specs.Prelude.{◌≡◌, ℕ, ⊤, Bool, true, false, ◌||◌, ◌∷◌, length, refl}
use Rattle.std.proofs.Common.{ap, sym, ◌∙◌, subst}
use Rattle.tez_ids.specs.declared.TaskId.{TaskId}
use Rattle.tez_ids.specs.declared.AttemptId.{AttemptId}
use Rattle.tez_ids.specs.Same.{task, same_task}
use Rattle.tez_lists.proofs.Tables.{map_below}
use Rattle.tez_plan.specs.Dag.{Dag, tasks_of as planned}
use Rattle.tez_conf.specs.declared.values.ConfValues.{ConfValues}
use Rattle.tez_events.specs.declared.Entry.{Entry}
use Rattle.tez_events.specs.declared.Entry.TheVariants.{Opened, Over, Stands, Carried, Kept, Configured, Queued, Placed, Fetched, ReadError, InputFailed, Ordered, Succeeded, Made, Failed, Killed, NodeLost, OutputLost, Rerun, Stopped, Committing, Ready, Asked, Settled, Published, CommitStarted, Finished, Purged}
use Rattle.tez_history.specs.History.{Past, is_scheduled}
use Rattle.tez_history.specs.Derived.{to_schedule, greatest_to_schedule, starts_epoch}
use Rattle.tez_laws.proofs.Same.{same_task-true}
use Rattle.tez_schedule_view.specs.View.{schedule_view, progress_view}
use Rattle.tez_schedule_view.proofs.Beginning.{schedule_with}
use Rattle.tez_schedule_view.proofs.Seeing.{vertices_view, edges_view}
use Rattle.tez_schedule_view.proofs.Asking.{most_view, quiet}

pub most_quiet : (g : Dag) (c : ConfValues) (past : Past) (e : Entry) → starts_epoch e ≡ false → ((v : ℕ) → to_schedule g c v (e ∷ past) ≡ to_schedule g c v past) → most_view g c (e ∷ past) ≡ most_view g c past
most_quiet g c past e h same = map_below (λ v. greatest_to_schedule g c v (e ∷ past)) (λ v. greatest_to_schedule g c v past) 0 (length g.vertices) (λ v _ _. quiet g c v past e h (same v))

-- what tells the schedule nothing
abbrev pub IsSilent : Entry → Type 0
IsSilent (Opened _) = ⊥
IsSilent Over = ⊥
IsSilent (Stands _ _ _) = ⊥
IsSilent (Carried _ _) = ⊤
IsSilent (Kept _) = ⊥
IsSilent (Configured _ _ _) = ⊥
IsSilent (Queued _) = ⊥
IsSilent (Placed _ _ _) = ⊤
IsSilent (Fetched _ _ _ _) = ⊤
IsSilent (ReadError _ _ _ _) = ⊤
IsSilent (InputFailed _ _ _ _) = ⊤
IsSilent (Ordered _) = ⊤
IsSilent (Succeeded _) = ⊥
IsSilent (Made _ _ _) = ⊥
IsSilent (Failed _) = ⊤
IsSilent (Killed _ _) = ⊤
IsSilent (NodeLost _ _) = ⊤
IsSilent (OutputLost _) = ⊤
IsSilent (Rerun _) = ⊥
IsSilent (Stopped _) = ⊥
IsSilent (Committing _) = ⊤
IsSilent (Ready _) = ⊤
IsSilent (Asked _) = ⊤
IsSilent (Settled _) = ⊤
IsSilent (Published _) = ⊤
IsSilent CommitStarted = ⊤
IsSilent Finished = ⊤
IsSilent Purged = ⊤

pub silent_view : (g : Dag) (c : ConfValues) (past : Past) (e : Entry) → IsSilent e → schedule_view g c (e ∷ past) ≡ schedule_view g c past
silent_view g c past (Carried t n) h = ap (schedule_with (vertices_view g c past) (edges_view g past)) (most_quiet g c past (Carried t n) refl (λ v. refl))
silent_view g c past (Placed a k p) h = ap (schedule_with (vertices_view g c past) (edges_view g past)) (most_quiet g c past (Placed a k p) refl (λ v. refl))
silent_view g c past (Fetched a d i w) h = ap (schedule_with (vertices_view g c past) (edges_view g past)) (most_quiet g c past (Fetched a d i w) refl (λ v. refl))
silent_view g c past (ReadError a d i w) h = ap (schedule_with (vertices_view g c past) (edges_view g past)) (most_quiet g c past (ReadError a d i w) refl (λ v. refl))
silent_view g c past (InputFailed a d i w) h = ap (schedule_with (vertices_view g c past) (edges_view g past)) (most_quiet g c past (InputFailed a d i w) refl (λ v. refl))
silent_view g c past (Ordered a) h = ap (schedule_with (vertices_view g c past) (edges_view g past)) (most_quiet g c past (Ordered a) refl (λ v. refl))
silent_view g c past (Failed a) h = ap (schedule_with (vertices_view g c past) (edges_view g past)) (most_quiet g c past (Failed a) refl (λ v. refl))
silent_view g c past (Killed a k) h = ap (schedule_with (vertices_view g c past) (edges_view g past)) (most_quiet g c past (Killed a k) refl (λ v. refl))
silent_view g c past (NodeLost s l) h = ap (schedule_with (vertices_view g c past) (edges_view g past)) (most_quiet g c past (NodeLost s l) refl (λ v. refl))
silent_view g c past (OutputLost a) h = ap (schedule_with (vertices_view g c past) (edges_view g past)) (most_quiet g c past (OutputLost a) refl (λ v. refl))
silent_view g c past (Committing n) h = ap (schedule_with (vertices_view g c past) (edges_view g past)) (most_quiet g c past (Committing n) refl (λ v. refl))
silent_view g c past (Ready v) h = ap (schedule_with (vertices_view g c past) (edges_view g past)) (most_quiet g c past (Ready v) refl (λ v. refl))
silent_view g c past (Asked v) h = ap (schedule_with (vertices_view g c past) (edges_view g past)) (most_quiet g c past (Asked v) refl (λ v. refl))
silent_view g c past (Settled v) h = ap (schedule_with (vertices_view g c past) (edges_view g past)) (most_quiet g c past (Settled v) refl (λ v. refl))
silent_view g c past (Published v) h = ap (schedule_with (vertices_view g c past) (edges_view g past)) (most_quiet g c past (Published v) refl (λ v. refl))
silent_view g c past CommitStarted h = ap (schedule_with (vertices_view g c past) (edges_view g past)) (most_quiet g c past CommitStarted refl (λ v. refl))
silent_view g c past Finished h = ap (schedule_with (vertices_view g c past) (edges_view g past)) (most_quiet g c past Finished refl (λ v. refl))
silent_view g c past Purged h = ap (schedule_with (vertices_view g c past) (edges_view g past)) (most_quiet g c past Purged refl (λ v. refl))
silent_view g c past _ h = absurd h

-- ---- a task is queued again

scheduled_too : (past : Past) (a : AttemptId) (t : TaskId) → is_scheduled a.task past ≡ true → (same_task a.task t || is_scheduled t past) ≡ is_scheduled t past
scheduled_too past a t h = by (same_task a.task t) refl where
  by : (b : Bool) → same_task a.task t ≡ b → (b || is_scheduled t past) ≡ is_scheduled t past
  by true e = sym (subst (λ u. is_scheduled u past ≡ true) (same_task-true a.task t e) h)
  by false e = refl

pub again_view : (g : Dag) (c : ConfValues) (past : Past) (a : AttemptId) → is_scheduled a.task past ≡ true → schedule_view g c (Queued a ∷ past) ≡ schedule_view g c past
again_view g c past a h =
    ap (schedule_with (vertices_view g c (Queued a ∷ past)) (edges_view g past)) (most_quiet g c past (Queued a) refl (λ v. refl))
    ∙ ap (λ vs. schedule_with vs (edges_view g past) (most_view g c past))
    (map_below (progress_view g c (Queued a ∷ past)) (progress_view g c past) 0 (length g.vertices)
    (λ v _ _. ap (λ xs. record (progress_view g c past v) { scheduled = xs })
    (map_below (λ i. is_scheduled (task v i) (Queued a ∷ past)) (λ i. is_scheduled (task v i) past) 0 (planned g v) (λ i _ _. scheduled_too past a (task v i) h))))
