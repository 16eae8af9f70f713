-- What each event that concerns one task makes of the vertices.
use Rattle.std.specs.Prelude.{◌≡◌, ℕ, suc, ◌+◌, nat_le, Bool, true, false, IsTrue, if◌then◌else◌, List, [], ◌∷◌, map, refl}
use Rattle.std.proofs.Common.{ap, ◌∙◌, arith}
use Rattle.tez_ids.specs.declared.TaskId.{TaskId}
use Rattle.tez_ids.specs.declared.AttemptId.{AttemptId}
use Rattle.tez_plan.specs.Dag.{Dag, edge}
use Rattle.tez_conf.specs.declared.values.ConfValues.{ConfValues}
use Rattle.tez_events.specs.declared.KillCause.TheVariants.{Preempt as Preempted}
use Rattle.tez_events.specs.declared.Entry.TheVariants.{Succeeded, Made, Failed}
use Rattle.tez_events.specs.declared.CoreEvent.TheVariants.{Queue, Place, Send, Preempt, Fail}
use Rattle.tez_task.specs.declared.TaskEvent.TheVariants as task_event
use Rattle.tez_history.specs.History.{Past, Stage, InQueue, Waits, Runs, Ended, Unknown, stage, failures, extend, container_of}
use Rattle.tez_history.specs.Derived.{is_waiting, is_processing}
use Rattle.tez_history.specs.Steps.{enabled, entries_of, requeue, done_entries}
use Rattle.tez_history.specs.Follows.{IsMade}
use Rattle.tez_laws.specs.Laws.{FewFailures}
use Rattle.tez_laws.proofs.OneLive.{waits_placed}
use Rattle.tez_laws.proofs.StepLaw.{both, event_may}
use Rattle.tez_vertex_view.specs.View.{vertices_view}
use Rattle.tez_master_model.specs.Vertices.{take_in}
use Rattle.tez_vertex_view.proofs.Taking.{takes_one}
use Rattle.tez_vertex_view.proofs.Moving.{placed_takes, sent_takes, done_takes, first_takes, killed_takes, failed_takes_again, failed_takes_last}

pub waits_at : (s : Stage) → is_waiting s ≡ true → (p : ℕ) × (s ≡ Waits p)
waits_at (Waits p) h = (p, refl)
waits_at InQueue h = cc
waits_at (Runs p) h = cc
waits_at Unknown h = cc
waits_at Ended h = cc

pub runs_at : (s : Stage) → is_processing s ≡ true → (p : ℕ) × (s ≡ Runs p)
runs_at (Runs p) h = (p, refl)
runs_at InQueue h = cc
runs_at (Waits p) h = cc
runs_at Unknown h = cc
runs_at Ended h = cc

pub queue_step : (g : Dag) (c : ConfValues) (past : Past) (t : TaskId) → IsMade g c past → FewFailures c past → enabled g c past (Queue t) ≡ true → vertices_view g c (extend past (entries_of g c past (Queue t))) ≡ take_in (vertices_view g c past) t task_event.Queue
queue_step g c past t m few h =
    let f = (event_may g c past (Queue t) m h).0 in
    takes_one c past (extend past (requeue past t)) t task_event.Queue (first_takes c past t few f.0 f.1) g

pub place_step : (g : Dag) (c : ConfValues) (past : Past) (a : AttemptId) (p : ℕ) → IsMade g c past → FewFailures c past → enabled g c past (Place a p) ≡ true
    → vertices_view g c (extend past (entries_of g c past (Place a p))) ≡ take_in (vertices_view g c past) a.task (task_event.Place a)
place_step g c past a p m few h =
    let f = (event_may g c past (Place a p) m h).0 in
    takes_one c past (extend past (entries_of g c past (Place a p))) a.task (task_event.Place a) (placed_takes g c past a (record { 0 = container_of c p past }) p m few f.0) g

pub send_step : (g : Dag) (c : ConfValues) (past : Past) (a : AttemptId) → IsMade g c past → FewFailures c past → enabled g c past (Send a) ≡ true
    → vertices_view g c (extend past (entries_of g c past (Send a))) ≡ take_in (vertices_view g c past) a.task (task_event.Send a)
send_step g c past a m few h =
    let k = both (both h).1 in
    let at = waits_at (stage a past) k.0 in
    takes_one c past (extend past (entries_of g c past (Send a))) a.task (task_event.Send a) (sent_takes g c past a at.0 m few at.1) g

pub preempt_step : (g : Dag) (c : ConfValues) (past : Past) (a : AttemptId) → IsMade g c past → FewFailures c past → enabled g c past (Preempt a) ≡ true
    → vertices_view g c (extend past (entries_of g c past (Preempt a))) ≡ take_in (vertices_view g c past) a.task (task_event.Kill a)
preempt_step g c past a m few h =
    let k = both (both h).1 in
    takes_one c past (extend past (entries_of g c past (Preempt a))) a.task (task_event.Kill a) (killed_takes g c past a Preempted m few (waits_placed (stage a past) k.0)) g

fail_by : (g : Dag) (c : ConfValues) (past : Past) (a : AttemptId) (p : ℕ) → IsMade g c past → FewFailures c past → stage a past ≡ Runs p → (b : Bool) → nat_le c.max_failed (suc (failures a.task past)) ≡ b
    → vertices_view g c (extend past (Failed a ∷ (if b then [] else requeue past a.task))) ≡ take_in (vertices_view g c past) a.task (task_event.Fail a)
fail_by g c past a p m few s b e = by b (ap (nat_le c.max_failed) (more (failures a.task past)) ∙ e) where
  more : (n : ℕ) → n + 1 ≡ suc n
  more n = omega arith

  by : (b : Bool) → nat_le c.max_failed (failures a.task past + 1) ≡ b → vertices_view g c (extend past (Failed a ∷ (if b then [] else requeue past a.task))) ≡ take_in (vertices_view g c past) a.task (task_event.Fail a)
  by true f = takes_one c past (Failed a ∷ past) a.task (task_event.Fail a) (failed_takes_last g c past a p m few s f) g
  by false f = takes_one c past (extend past (Failed a ∷ requeue past a.task)) a.task (task_event.Fail a) (failed_takes_again g c past a p m few s f) g

pub fail_step : (g : Dag) (c : ConfValues) (past : Past) (a : AttemptId) → IsMade g c past → FewFailures c past → enabled g c past (Fail a) ≡ true
    → vertices_view g c (extend past (entries_of g c past (Fail a))) ≡ take_in (vertices_view g c past) a.task (task_event.Fail a)
fail_step g c past a m few h =
    let at = runs_at (stage a past) (both h).1 in
    fail_by g c past a at.0 m few at.1 (nat_le c.max_failed (suc (failures a.task past))) refl

made_same : (g : Dag) (c : ConfValues) (past : Past) (a : AttemptId) (made : List (ℕ × ℕ)) → vertices_view g c (extend past (map (λ x. Made a (edge x.0) x.1) made)) ≡ vertices_view g c past
made_same g c past a [] = refl
made_same g c past a (x ∷ xs) = made_same g c (Made a (edge x.0) x.1 ∷ past) a xs

pub done_step : (g : Dag) (c : ConfValues) (past : Past) (a : AttemptId) (made : List (ℕ × ℕ)) → IsMade g c past → FewFailures c past → IsTrue (is_processing (stage a past))
    → vertices_view g c (extend past (done_entries a made)) ≡ take_in (vertices_view g c past) a.task (task_event.Succeed a)
done_step g c past a made m few h =
    let at = runs_at (stage a past) h in
    made_same g c (Succeeded a ∷ past) a made ∙ takes_one c past (Succeeded a ∷ past) a.task (task_event.Succeed a) (done_takes g c past a at.0 m few at.1) g
