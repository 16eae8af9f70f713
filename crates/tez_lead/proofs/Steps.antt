-- What each event leaves of what a lead keeps.
--     Steps m n t     from m to n only task t changes
--     Leaves m n      no task does
use Rattle.std.specs.Prelude.{◌≡◌, ℕ, ◌<◌, Bool, true, false, if◌then◌else◌, List, map, length, slice_get, Option, Some, None, is_some, refl, option_and_then}
use Rattle.std.proofs.Common.{ap, sym, ◌∙◌, subst}
use Rattle.std.proofs.lemmas.Option.{slice_get_within}
use Rattle.tez_ids.specs.declared.TaskId.{TaskId}
use Rattle.tez_ids.specs.declared.AttemptId.{AttemptId}
use Rattle.tez_ids.specs.declared.EdgeId.{EdgeId}
use Rattle.tez_ids.specs.declared.VertexId.{VertexId}
use Rattle.tez_ids.specs.Same.{same_task}
use Rattle.tez_plan.specs.Dag.{tasks_of as planned}
use Rattle.tez_events.specs.declared.CoreEvent.TheVariants.{Queue, Place, Send, Preempt, Fail, LoseOutput, Ready, CommitStart, Publish, Finish, Purge}
use Rattle.tez_task.specs.declared.TaskEvent.{TaskEvent}
use Rattle.tez_task.specs.declared.TaskEvent.TheVariants as task_event
use Rattle.tez_vertex.specs.Vertex.{Vertex}
use Rattle.tez_vertex.specs.Table.{task_of}
use Rattle.tez_master_model.specs.Vertices.{take_in}
use Rattle.tez_pool.specs.Victim.{AreIn}
use Rattle.tez_router.specs.Table.{after_fetched}
use Rattle.tez_schedule.specs.Kept.{layout, planned_at}
use Rattle.tez_schedule.specs.Table.{scheduled_with}
use Rattle.tez_lead.proofs.Layouts.{layout_changed, layout_winner}
use Rattle.tez_queue.specs.Queue.{Queue as Waiting, with_task}
use Rattle.tez_master_model.specs.State.{MasterState}
use Rattle.tez_master_model.specs.Read.{is_queued, is_in_queue, is_on_shelf}
use Rattle.tez_task.specs.Table.{state_of}
use Rattle.tez_master_model.specs.Settled.{settled, killed, withdrawn, released, without_node, after_fetch, after_done, after_asked}
use Rattle.tez_master_model.specs.Recovery.{committed}
use Rattle.tez_core.specs.Parts.{task_at}
use Rattle.tez_core.specs.Choosing.{queued_at}
use Rattle.tez_lead.specs.Kept.{AreVertices, IsFit, IsKept, queue_of}
use Rattle.tez_lead.proofs.Tasks.{took_elsewhere, took_vertices}
use Rattle.tez_lead.proofs.Places.{sent_within, release_within, loss_within, place_within, place_per}
use Rattle.tez_lead.proofs.Queues.{refreshed}

-- what does not speak of tasks
pub record Stays (m n : MasterState) : Type 0 where
  pub plan : n.plan ≡ m.plan
  pub conf : n.conf ≡ m.conf
  pub within : AreIn m.plan m.pool.places → AreIn m.plan n.pool.places
  pub per_node : n.pool.per_node ≡ m.pool.per_node
  pub layouts : map layout n.schedule.vertices ≡ map layout m.schedule.vertices

pub record Steps (m n : MasterState) (t : TaskId) : Type 0 where
  pub stays : Stays m n
  pub elsewhere : (u : TaskId) → same_task t u ≡ false → task_at n.vertices u ≡ task_at m.vertices u
  pub vertices : AreVertices m.plan m.vertices → AreVertices m.plan n.vertices

pub record Leaves (m n : MasterState) : Type 0 where
  pub stays : Stays m n
  pub same : n.vertices ≡ m.vertices

pub fit_by : (m n : MasterState) → IsFit m → Stays m n → AreVertices m.plan n.vertices → IsFit n
fit_by m n k s vs = record {
  vertices = subst (λ g. AreVertices g n.vertices) (sym s.plan) vs;
  within = subst (λ g. AreIn g n.pool.places) (sym s.plan) (s.within k.within);
  places = s.per_node ∙ k.places ∙ ap (λ c. c.per_node) (sym s.conf);
  tasks = λ v. ap (λ ls. planned_at ls v) s.layouts ∙ k.tasks v ∙ ap (λ g. planned g v) (sym s.plan);
}

pub kept_step : (m n : MasterState) (q r : Waiting) (t : TaskId) → IsKept m q → Steps m n t → r ≡ with_task q t (is_some (queued_at n.vertices t)) → IsKept n r
kept_step m n q r t k s e = record {
  fit = fit_by m n k.fit s.stays (s.vertices k.fit.vertices);
  queue = e ∙ ap (λ p. with_task p t (is_some (queued_at n.vertices t))) k.queue ∙ refreshed m.plan m.vertices n.vertices t s.elsewhere ∙ ap (λ g. queue_of g n.vertices) (sym s.stays.plan);
}

pub kept_leave : (m n : MasterState) (q : Waiting) → IsKept m q → Leaves m n → IsKept n q
kept_leave m n q k s = record {
  fit = fit_by m n k.fit s.stays (subst (AreVertices m.plan) (sym s.same) k.fit.vertices);
  queue = k.queue ∙ ap (queue_of m.plan) (sym s.same) ∙ ap (λ g. queue_of g n.vertices) (sym s.stays.plan);
}

pub kept_after : (m s n : MasterState) (q r : Waiting) (t : TaskId) → IsKept m q → n ≡ s → Steps m s t → r ≡ with_task q t (is_some (queued_at n.vertices t)) → IsKept n r
kept_after m s n q r t k e steps is = kept_step m n q r t k (subst (λ x. Steps m x t) (sym e) steps) is

pub left_after : (m s n : MasterState) (q : Waiting) → IsKept m q → n ≡ s → Leaves m s → IsKept n q
left_after m s n q k e leaves = kept_leave m n q k (subst (Leaves m) (sym e) leaves)

-- ---- the events

pub all_stays : (m : MasterState) → Stays m m
all_stays m = record { plan = refl; conf = refl; within = λ h. h; per_node = refl; layouts = refl }

taking : (m n : MasterState) (t : TaskId) (e : TaskEvent) → Stays m n → n.vertices ≡ take_in m.vertices t e → Steps m n t
taking m n t e s is = record {
  stays = s;
  elsewhere = λ u ne. ap (λ vs. task_at vs u) is ∙ took_elsewhere m.vertices t u e ne;
  vertices = λ k. subst (AreVertices m.plan) (sym is) (took_vertices m.plan m.vertices t e k);
}

pub queue_steps : (m : MasterState) (t : TaskId) → Steps m (settled m (Queue t)) t
queue_steps m t = taking m (settled m (Queue t)) t task_event.Queue
    (record { plan = refl; conf = refl; within = λ h. h; per_node = refl; layouts = layout_changed m.schedule.vertices t.vertex.0 (scheduled_with t.index) (λ x. refl) }) refl

pub place_steps : (m : MasterState) (a : AttemptId) (p : ℕ) → a.task.vertex.0 < length m.plan.vertices → Steps m (settled m (Place a p)) a.task
place_steps m a p there = taking m (settled m (Place a p)) a.task (task_event.Place a)
    (record { plan = refl; conf = refl; within = place_within m.plan m.pool a p there; per_node = place_per m.pool a p; layouts = refl }) refl

pub send_steps : (m : MasterState) (a : AttemptId) → Steps m (settled m (Send a)) a.task
send_steps m a = taking m (settled m (Send a)) a.task (task_event.Send a)
    (record { plan = refl; conf = refl; within = sent_within m.plan m.pool a; per_node = refl; layouts = refl }) refl

released_steps : (m : MasterState) (a : AttemptId) (e : TaskEvent) → Steps m (released m a e) a.task
released_steps m a e = taking m (released m a e) a.task e
    (record { plan = refl; conf = refl; within = release_within m.plan m.pool a; per_node = refl; layouts = refl }) refl

pub preempt_steps : (m : MasterState) (a : AttemptId) → Steps m (settled m (Preempt a)) a.task
preempt_steps m a = released_steps m a (task_event.Kill a)

pub fail_steps : (m : MasterState) (a : AttemptId) → Steps m (settled m (Fail a)) a.task
fail_steps m a = released_steps m a (task_event.Fail a)

pub kill_steps : (m : MasterState) (a : AttemptId) → Steps m (killed m a) a.task
kill_steps m a = taking m (killed m a) a.task (task_event.Kill a) (record { plan = refl; conf = refl; within = λ h. h; per_node = refl; layouts = refl }) refl

pub withdraw_steps : (m : MasterState) (w : AttemptId) → Steps m (withdrawn m w) w.task
withdraw_steps m w = taking m (withdrawn m w) w.task (task_event.Lose w)
    (record { plan = refl; conf = refl; within = λ h. h; per_node = refl; layouts = layout_winner m.schedule.vertices w.task false }) refl

pub done_steps : (m : MasterState) (a : AttemptId) (made : List (EdgeId × ℕ)) → Steps m (after_done m a made) a.task
done_steps m a made = taking m (after_done m a made) a.task (task_event.Succeed a)
    (record { plan = refl; conf = refl; within = release_within m.plan m.pool a; per_node = refl; layouts = layout_winner m.schedule.vertices a.task true }) refl

pub fetch_steps : (m : MasterState) (a : AttemptId) (e i : ℕ) (w : AttemptId) → Steps m (after_fetch m a e i (Some w)) w.task
fetch_steps m a e i w = by (is_on_shelf m w) where
  by : (b : Bool) → Steps m (if b then record m { router = after_fetched m.router a e i } else withdrawn m w) w.task
  by true = record {
    stays = record { plan = refl; conf = refl; within = λ h. h; per_node = refl; layouts = refl };
    elsewhere = λ u ne. refl;
    vertices = λ k. k;
  }
  by false = withdraw_steps m w

pub drop_leaves : (m : MasterState) (slot : ℕ) → Leaves m (without_node m slot)
drop_leaves m slot = record { stays = record { plan = refl; conf = refl; within = loss_within m.plan m.pool slot; per_node = refl; layouts = refl }; same = refl }

pub lose_leaves : (m : MasterState) (t : TaskId) → Leaves m (settled m (LoseOutput t))
lose_leaves m t = record { stays = record { plan = refl; conf = refl; within = λ h. h; per_node = refl; layouts = refl }; same = refl }

pub ready_leaves : (m : MasterState) (v : VertexId) → Leaves m (settled m (Ready v))
ready_leaves m v = record { stays = record { plan = refl; conf = refl; within = λ h. h; per_node = refl; layouts = refl }; same = refl }

pub asked_leaves : (m : MasterState) (v : VertexId) (there : Bool) → Leaves m (after_asked m v.0 there)
asked_leaves m v true = record { stays = record { plan = refl; conf = refl; within = λ h. h; per_node = refl; layouts = refl }; same = refl }
asked_leaves m v false = record { stays = record { plan = refl; conf = refl; within = λ h. h; per_node = refl; layouts = refl }; same = refl }

pub taken_leaves : (m : MasterState) (n : ℕ) → Leaves m (committed m n)
taken_leaves m n = record { stays = record { plan = refl; conf = refl; within = λ h. h; per_node = refl; layouts = refl }; same = refl }

pub publish_leaves : (m : MasterState) (v : VertexId) → Leaves m (settled m (Publish v))
publish_leaves m v = record { stays = record { plan = refl; conf = refl; within = λ h. h; per_node = refl; layouts = refl }; same = refl }

pub commit_leaves : (m : MasterState) → Leaves m (settled m CommitStart)
commit_leaves m = record { stays = record { plan = refl; conf = refl; within = λ h. h; per_node = refl; layouts = refl }; same = refl }

pub finish_leaves : (m : MasterState) → Leaves m (settled m Finish)
finish_leaves m = record { stays = record { plan = refl; conf = refl; within = λ h. h; per_node = refl; layouts = refl }; same = refl }

pub purge_leaves : (m : MasterState) → Leaves m (settled m Purge)
purge_leaves m = record { stays = record { plan = refl; conf = refl; within = λ h. h; per_node = refl; layouts = refl }; same = refl }

-- ---- a queued attempt is of a vertex of the plan

pub queued_there : (m : MasterState) (a : AttemptId) → AreVertices m.plan m.vertices → is_queued m a ≡ true → a.task.vertex.0 < length m.plan.vertices
queued_there m a k h = by (slice_get m.vertices a.task.vertex.0) refl where
  by : (o : Option Vertex) → slice_get m.vertices a.task.vertex.0 ≡ o → a.task.vertex.0 < length m.plan.vertices
  by None e = let none : is_queued m a ≡ false = ap (λ o. is_in_queue (option_and_then (λ t. state_of t.live a) (option_and_then (λ x. task_of x a.task.index) o))) e in cc
  by (Some x) e = subst (λ n. a.task.vertex.0 < n) k.sized (slice_get_within m.vertices a.task.vertex.0 x e)
