-- What the laws say of the vertices after a history.
use Rattle.std.specs.Prelude.{◌≡◌, ◌<◌, ◌&&◌, nat_le, length, slice_get, map, max, ℕ, Bool, List, IsTrue, true, false, suc, Some, None}
use Rattle.std.specs.List.{list_all, filter_map}
use Rattle.tez_ids.specs.declared.TaskId.{TaskId}
use Rattle.tez_ids.specs.declared.AttemptId.{AttemptId}
use Rattle.tez_ids.specs.declared.EdgeId.{EdgeId}
use Rattle.tez_ids.specs.declared.VertexId.{VertexId}
use Rattle.tez_plan.specs.Dag.{Dag}
use Rattle.tez_conf.specs.declared.values.ConfValues.{ConfValues}
use Rattle.tez_vman.specs.declared.seen.Config.{Config}
use Rattle.tez_vertex.specs.Vertex.{Vertex, has_winner}
use Rattle.tez_vertex.specs.Table.{task_of, has_failed, after_configure}
use Rattle.tez_events.specs.declared.StopCause.{StopCause}
use Rattle.tez_events.specs.declared.CoreEvent.{CoreEvent}
use Rattle.tez_ids.specs.Same.{task}
use Rattle.tez_task.specs.Table.{task_took, state_of}
use Rattle.tez_history.specs.History.{Past, extend, stage, winner, failures, epoch, is_committing}
use Rattle.tez_history.specs.Runs.{Run, Found, Standing, opened_by, stopped, spent_in}
use Rattle.tez_history.specs.Derived.{is_task, tasks, live_attempts, is_processing, is_configured, is_vertex_done, task_count, next_attempt, is_on_shelf, configures}
use Rattle.tez_history.specs.Steps.{enabled, entries_of, done_entries, winner_behind}
use Rattle.tez_history.specs.Follows.{IsMade, IsAlive, IsPlaced}
use Rattle.tez_laws.specs.Laws.{FewFailures, answered}
use Rattle.tez_vertex_view.specs.View.{task_view, vertex_view, vertices_view, restored_vertices, idle, FailedAreTasks, FailedStand, kill_all, lose_all, held_there, lost_there, come, live_in, winners_in}
use Rattle.tez_master_model.specs.Vertices.{new_vertices, change, take_in, AreRestorable, configure_one, carry_one, keep_one}
use Rattle.tez_vertex_view.specs.Elsewhere.{IsElsewhere}
use Rattle.tez_events.specs.declared.CoreEvent.TheVariants as core_event
use Rattle.tez_task.specs.declared.TaskEvent.TheVariants as task_event
use Rattle.tez_task.specs.declared.TaskTook.TheVariants as task_took_is
use Rattle.tez_history.specs.Runs.{AllDone, Unfinished, Committed}

-- ---- task is queued

-- a task that is queued takes that event
abbrev pub QueueIsTaken : Dag → ConfValues → Past → TaskId → Type 0
QueueIsTaken g c past t =
    IsMade g c past → FewFailures c past → enabled g c past (core_event.Queue t) ≡ true
    → vertices_view g c (extend past (entries_of g c past (core_event.Queue t))) ≡ take_in (vertices_view g c past) t task_event.Queue

-- ---- attempt goes on

-- so does the task of an attempt that takes a place
abbrev pub PlaceIsTaken : Dag → ConfValues → Past → AttemptId → ℕ → Type 0
PlaceIsTaken g c past a p =
    IsMade g c past → FewFailures c past → enabled g c past (core_event.Place a p) ≡ true
    → vertices_view g c (extend past (entries_of g c past (core_event.Place a p))) ≡ take_in (vertices_view g c past) a.task (task_event.Place a)

-- and that of an attempt whose order goes out
abbrev pub SendIsTaken : Dag → ConfValues → Past → AttemptId → Type 0
SendIsTaken g c past a =
    IsMade g c past → FewFailures c past → enabled g c past (core_event.Send a) ≡ true
    → vertices_view g c (extend past (entries_of g c past (core_event.Send a))) ≡ take_in (vertices_view g c past) a.task (task_event.Send a)

-- ---- attempt ends

-- a report is a success of its task
abbrev pub ReportIsTaken : Dag → ConfValues → Past → AttemptId → Type 0
ReportIsTaken g c past a =
    (made : List (ℕ × ℕ)) → IsMade g c past → FewFailures c past → IsTrue (is_processing (stage a past))
    → vertices_view g c (extend past (done_entries a made)) ≡ take_in (vertices_view g c past) a.task (task_event.Succeed a)

-- a failure is one of its task
abbrev pub FailureIsTaken : Dag → ConfValues → Past → AttemptId → Type 0
FailureIsTaken g c past a =
    IsMade g c past → FewFailures c past → enabled g c past (core_event.Fail a) ≡ true
    → vertices_view g c (extend past (entries_of g c past (core_event.Fail a))) ≡ take_in (vertices_view g c past) a.task (task_event.Fail a)

-- where an attempt gives way, its task takes a kill
abbrev pub PreemptIsTaken : Dag → ConfValues → Past → AttemptId → Type 0
PreemptIsTaken g c past a =
    IsMade g c past → FewFailures c past → enabled g c past (core_event.Preempt a) ≡ true
    → vertices_view g c (extend past (entries_of g c past (core_event.Preempt a))) ≡ take_in (vertices_view g c past) a.task (task_event.Kill a)

-- ---- winner is withdrawn

-- a fetch that finds its piece leaves the vertices as they are
abbrev pub FoundLeaves : Dag → ConfValues → Past → AttemptId → EdgeId → Type 0
FoundLeaves g c past a e =
    (i : ℕ) (w : AttemptId) → winner_behind g past a e.0 i ≡ Some w → is_on_shelf g c past w ≡ true
    → vertices_view g c (extend past (entries_of g c past (core_event.Fetch a e i))) ≡ vertices_view g c past

-- one that does not withdraws the winner
abbrev pub MissedWithdraws : Dag → ConfValues → Past → AttemptId → Type 0
MissedWithdraws g c past a =
    (e : EdgeId) (i : ℕ) (w : AttemptId) → IsMade g c past → FewFailures c past → enabled g c past (core_event.Fetch a e i) ≡ true
    → winner_behind g past a e.0 i ≡ Some w → is_on_shelf g c past w ≡ false
    → vertices_view g c (extend past (entries_of g c past (core_event.Fetch a e i))) ≡ take_in (vertices_view g c past) w.task (task_event.Lose w)

-- ---- node is lost

-- before the commit who held a place of a lost node is killed, and then the winners whose pieces lay there are withdrawn
abbrev pub LossKillsAndWithdraws : Dag → ConfValues → Past → ℕ → Type 0
LossKillsAndWithdraws g c past slot =
    IsMade g c past → FewFailures c past → enabled g c past (core_event.LoseNode slot) ≡ true → is_committing past ≡ false
    → vertices_view g c (extend past (entries_of g c past (core_event.LoseNode slot))) ≡ lose_all (kill_all (vertices_view g c past) (held_there c past slot)) (lost_there g c past slot)

-- once the commit has started a loss leaves the vertices as they are
abbrev pub LateLossLeaves : Dag → ConfValues → Past → ℕ → Type 0
LateLossLeaves g c past slot =
    is_committing past ≡ true → vertices_view g c (extend past (entries_of g c past (core_event.LoseNode slot))) ≡ vertices_view g c past

-- ---- vertices are left

-- every other event leaves the vertices as they are
abbrev pub LeavesVertices : Dag → ConfValues → Past → CoreEvent → Type 0
LeavesVertices g c past e = IsElsewhere e → vertices_view g c (extend past (entries_of g c past e)) ≡ vertices_view g c past

-- and so does what the store answers of a sink
abbrev pub AnswerLeaves : Dag → ConfValues → Past → VertexId → Type 0
AnswerLeaves g c past v = (there : Bool) → vertices_view g c (answered past v there) ≡ vertices_view g c past

-- ---- vertex is configured

-- a vertex that is configured gets the tasks of its configuration
abbrev pub VertexIsConfigured : Dag → ConfValues → Past → VertexId → Config → Type 0
VertexIsConfigured g c past v s =
    0 < c.max_failed → IsMade g c past → FailedAreTasks g past → enabled g c past (core_event.Configure v) ≡ true → configures g c v.0 past ≡ Some s
    → vertices_view g c (extend past (entries_of g c past (core_event.Configure v))) ≡ change (vertices_view g c past) v.0 (λ x. after_configure x s.tasks)

-- ---- failed are tasks

-- each event keeps it so that only tasks of configured vertices have failed
abbrev pub EventKeepsFailed : Dag → ConfValues → Past → CoreEvent → Type 0
EventKeepsFailed g c past e =
    IsMade g c past → FailedAreTasks g past → enabled g c past e ≡ true → FailedAreTasks g (extend past (entries_of g c past e))

-- so does each report
abbrev pub ReportKeepsFailed : Dag → ConfValues → Past → AttemptId → Type 0
ReportKeepsFailed g c past a =
    (made : List (ℕ × ℕ)) → IsMade g c past → FailedAreTasks g past → IsTrue (is_processing (stage a past))
    → FailedAreTasks g (extend past (done_entries a made))

-- and each stop
abbrev pub StopKeepsFailed : Dag → ConfValues → Run → StopCause → Type 0
StopKeepsFailed g c r cause = FailedAreTasks g (stopped c r cause).past

-- and each start, where the failures that it finds are at tasks of what stands configured
abbrev pub StartKeepsFailed : Dag → ConfValues → Run → Found → Type 0
StartKeepsFailed g c r found = FailedStand g r.past found → FailedAreTasks g r.past → FailedAreTasks g (opened_by g c r found).past

-- ---- masters change

-- after a stop no task has a live attempt or a winner
abbrev pub StopIdles : Dag → ConfValues → Run → StopCause → Type 0
StopIdles g c r cause = vertices_view g c (stopped c r cause).past ≡ map idle (vertices_view g c r.past)

-- where the job is over the vertices are new
abbrev pub OverIsNew : Dag → ConfValues → Run → Type 0
OverIsNew g c r = vertices_view g c (opened_by g c r AllDone).past ≡ new_vertices g c (suc (epoch r.past))

-- else they are what the standing restores
abbrev pub StartRestores : Dag → ConfValues → Run → Standing → Type 0
StartRestores g c r s =
    0 < c.max_failed → spent_in c s ≡ None
    → vertices_view g c (opened_by g c r (Unfinished s)).past ≡ restored_vertices g c (suc (max s.epoch (epoch r.past))) s

-- so they are where it takes up a commit, whatever of it was recorded
abbrev pub TakenUpRestores : Dag → ConfValues → Run → Standing → ℕ → Type 0
TakenUpRestores g c r s n =
    0 < c.max_failed → spent_in c s ≡ None
    → vertices_view g c (opened_by g c r (Committed s n)).past ≡ restored_vertices g c (suc (max s.epoch (epoch r.past))) s

-- ---- tasks may be restored

-- tasks may be restored once a vertex is configured
abbrev pub ConfiguredMay : ConfValues → List Vertex → ℕ × Config → Type 0
ConfiguredMay c vs x = 0 < c.max_failed → AreRestorable c vs → AreRestorable c (configure_one vs x)

-- and once the failures of one were carried over, fewer than it may have
abbrev pub CarriedMay : ConfValues → List Vertex → TaskId × ℕ → Type 0
CarriedMay c vs x = x.1 < c.max_failed → AreRestorable c vs → AreRestorable c (carry_one vs x)

-- and once a winner was kept
abbrev pub KeptMay : ConfValues → List Vertex → AttemptId → Type 0
KeptMay c vs a = AreRestorable c vs → AreRestorable c (keep_one vs a)

-- ---- answers agree

-- the machine of a task answers a queued task with the model's next attempt
abbrev pub AnswersQueue : Dag → ConfValues → Past → TaskId → Type 0
AnswersQueue g c past t =
    IsMade g c past → FewFailures c past → enabled g c past (core_event.Queue t) ≡ true
    → task_took (task_view c t past) task_event.Queue ≡ task_took_is.Again (next_attempt past t)

-- a place that is taken moves it
abbrev pub AnswersPlace : Dag → ConfValues → Past → AttemptId → ℕ → Type 0
AnswersPlace g c past a p =
    IsMade g c past → FewFailures c past → enabled g c past (core_event.Place a p) ≡ true
    → task_took (task_view c a.task past) (task_event.Place a) ≡ task_took_is.Moved

-- so does an order that goes out
abbrev pub AnswersSend : Dag → ConfValues → Past → AttemptId → Type 0
AnswersSend g c past a =
    IsMade g c past → FewFailures c past → enabled g c past (core_event.Send a) ≡ true
    → task_took (task_view c a.task past) (task_event.Send a) ≡ task_took_is.Moved

-- and a report
abbrev pub AnswersReport : Dag → ConfValues → Past → AttemptId → Type 0
AnswersReport g c past a =
    IsMade g c past → FewFailures c past → IsTrue (is_processing (stage a past))
    → task_took (task_view c a.task past) (task_event.Succeed a) ≡ task_took_is.Moved

-- the last failure spends the task
abbrev pub AnswersLastFailure : Dag → ConfValues → Past → AttemptId → Type 0
AnswersLastFailure g c past a =
    IsMade g c past → FewFailures c past → IsTrue (is_processing (stage a past)) → nat_le c.max_failed (suc (failures a.task past)) ≡ true
    → task_took (task_view c a.task past) (task_event.Fail a) ≡ task_took_is.Spent

-- another one queues its next attempt
abbrev pub AnswersFailure : Dag → ConfValues → Past → AttemptId → Type 0
AnswersFailure g c past a =
    IsMade g c past → FewFailures c past → IsTrue (is_processing (stage a past)) → nat_le c.max_failed (suc (failures a.task past)) ≡ false
    → task_took (task_view c a.task past) (task_event.Fail a) ≡ task_took_is.Again (next_attempt past a.task)

-- so does a kill of an attempt at a place
abbrev pub AnswersKill : Dag → ConfValues → Past → AttemptId → Type 0
AnswersKill g c past a =
    IsMade g c past → FewFailures c past → IsPlaced (stage a past)
    → task_took (task_view c a.task past) (task_event.Kill a) ≡ task_took_is.Again (next_attempt past a.task)

-- and the loss of its winner
abbrev pub AnswersLoss : Dag → ConfValues → Past → AttemptId → Type 0
AnswersLoss g c past w =
    IsMade g c past → FewFailures c past → winner w.task past ≡ Some w
    → task_took (task_view c w.task past) (task_event.Lose w) ≡ task_took_is.Again (next_attempt past w.task)

-- ---- readings agree

-- each vertex of the plan is there
abbrev pub VertexIsThere : Dag → ConfValues → Past → ℕ → Type 0
VertexIsThere g c past v = v < length g.vertices → slice_get (vertices_view g c past) v ≡ Some (vertex_view c v past)

-- with each of its tasks, once it is configured
abbrev pub TaskIsThere : Dag → ConfValues → Past → ℕ → ℕ → Type 0
TaskIsThere g c past v i =
    is_configured v past ≡ true → i < task_count g v past → task_of (vertex_view c v past) i ≡ Some (task_view c (task v i) past)

-- as many as the model says
abbrev pub CountIsTold : Dag → ConfValues → Past → ℕ → Type 0
CountIsTold g c past v = is_configured v past ≡ true → length (vertex_view c v past).tasks ≡ task_count g v past

-- a live attempt has come as far as the model says
abbrev pub StateIsTold : Dag → ConfValues → Past → AttemptId → Type 0
StateIsTold g c past a = IsMade g c past → state_of (task_view c a.task past).live a ≡ come (stage a past)

-- the live attempts are the model's, in the order of tasks
abbrev pub LiveAreTold : Dag → ConfValues → Past → Type 0
LiveAreTold g c past = live_in (vertices_view g c past) ≡ live_attempts g past

-- so are the winners
abbrev pub WinnersAreTold : Dag → ConfValues → Past → Type 0
WinnersAreTold g c past = winners_in (vertices_view g c past) ≡ filter_map (λ t. winner t past) (tasks g past)

-- a vertex is done where each of its tasks has a winner
abbrev pub DoneIsTold : Dag → ConfValues → Past → ℕ → Type 0
DoneIsTold g c past v = is_vertex_done g v past ≡ ((vertex_view c v past).configured && list_all has_winner (vertex_view c v past).tasks)

-- no task is spent of a run that goes on
abbrev pub NoneFailed : ConfValues → Past → ℕ → Type 0
NoneFailed c past v = FewFailures c past → has_failed (vertex_view c v past) ≡ false

-- ---- tasks are there

-- a task of the model is one of its vertex
abbrev pub TaskIsInVertex : Dag → ConfValues → Past → TaskId → Type 0
TaskIsInVertex g c past t =
    IsMade g c past → is_task g past t ≡ true → (t.vertex.0 < length g.vertices) × (t.index < length (vertex_view c t.vertex.0 past).tasks)

-- a live attempt is of a task
abbrev pub LiveIsOfTask : Dag → ConfValues → Past → AttemptId → Type 0
LiveIsOfTask g c past a = IsMade g c past → IsAlive (stage a past) → is_task g past a.task ≡ true

-- so is a winner
abbrev pub WinnerIsOfTask : Dag → ConfValues → Past → TaskId → Type 0
WinnerIsOfTask g c past t = (w : AttemptId) → IsMade g c past → winner t past ≡ Some w → is_task g past t ≡ true
