-- The entries that an event adds, from what the master holds before it.
--     entries_in m e          those of an event that may come, none where it is to ask the store
--     withdrawal_in m r w     a winner is withdrawn, with the notices of this router
--     notice_entry n          the line of a notice
use Rattle.std.specs.Prelude.{ℕ, suc, Bool, false, if◌then◌else◌, List, [], ◌∷◌, ◌++◌, map, slice_get, Option, Some, None, unwrap_or}
use Rattle.std.specs.List.{flat_map}
use Rattle.std.specs.Option.{option_map_or}
use Rattle.tez_ids.specs.declared.TaskId.{TaskId}
use Rattle.tez_ids.specs.declared.AttemptId.{AttemptId}
use Rattle.tez_ids.specs.declared.ContainerId.{ContainerId}
use Rattle.tez_plan.specs.Dag.{edge}
use Rattle.tez_vman.specs.declared.seen.Config.{Config}
use Rattle.tez_vman.specs.Rules.{config as shape}
use Rattle.tez_events.specs.declared.KillCause.TheVariants.{Node, Preempt as Preempted}
use Rattle.tez_events.specs.declared.Entry.{Entry}
use Rattle.tez_events.specs.declared.Entry.TheVariants.{Configured, Queued, Placed, Fetched, ReadError, InputFailed, Ordered, Failed, Killed, NodeLost, OutputLost, Rerun, Ready as Readied, Published, CommitStarted, Finished, Purged}
use Rattle.tez_events.specs.declared.CoreEvent.{CoreEvent}
use Rattle.tez_events.specs.declared.CoreEvent.TheVariants.{Open, Configure, Queue, Place, Fetch, Send, Preempt, Fail, LoseNode, LoseOutput, Restart, Ready, CommitStart, Ask, Publish, Finish, Purge}
use Rattle.tez_task.specs.Table.{is_last}
use Rattle.tez_pool.specs.Table.{held_on}
use Rattle.tez_router.specs.declared.notice.Notice.{Notice}
use Rattle.tez_router.specs.State.{RouterState}
use Rattle.tez_router.specs.Table.{notices_in, without}
use Rattle.tez_schedule.specs.Table.{configures_at}
use Rattle.tez_master_model.specs.State.{MasterState}
use Rattle.tez_master_model.specs.Read.{task_in, winner_in, next_in, is_on_shelf, source_in, lost_in}

-- those that wait for a withdrawn winner are told
abbrev pub notice_entry : Notice → Entry
notice_entry n = InputFailed n.attempt n.edge n.input n.lost

abbrev pub requeue_in : MasterState → TaskId → List Entry
requeue_in m t = Queued (next_in m t) ∷ []

abbrev pub withdrawal_in : MasterState → RouterState → AttemptId → List Entry
withdrawal_in m router w = Rerun w ∷ (map notice_entry (notices_in router w.task) ++ requeue_in m w.task)

abbrev pub configured_in : ℕ → Config → List Entry
configured_in v s = Configured (record { 0 = v }) s.tasks s.base ∷ []

-- the container of a place, 0 where there is no such place
abbrev pub container_in : MasterState → ℕ → ContainerId
container_in m p = option_map_or (λ x. x.container) (slice_get m.pool.places p) (record { 0 = 0 })

abbrev pub fetch_in : MasterState → AttemptId → ℕ → ℕ → Option AttemptId → List Entry
fetch_in m a e i None = []
fetch_in m a e i (Some w) =
    if is_on_shelf m w then Fetched a (edge e) i w ∷ [] else ReadError a (edge e) i w ∷ withdrawal_in m m.router w

-- the next failure spends the task
abbrev pub is_last_in : MasterState → TaskId → Bool
is_last_in m t = option_map_or is_last (task_in m t) false

-- the life of the node that stands in a slot next
abbrev pub next_life : MasterState → ℕ → ℕ
next_life m slot = suc (unwrap_or (slice_get m.pool.lives slot) 0)

abbrev pub kill_in : MasterState → AttemptId → List Entry
kill_in m a = Killed a Node ∷ requeue_in m a.task

-- who holds a place of the node is killed, and then the winners whose pieces lay there are withdrawn
abbrev pub node_loss_in : MasterState → ℕ → List Entry
node_loss_in m slot =
    flat_map (kill_in m) (held_on m.pool slot)
    ++ flat_map (withdrawal_in m (without m.router (held_on m.pool slot))) (lost_in m slot)

abbrev pub output_lost_in : Option AttemptId → List Entry
output_lost_in None = []
output_lost_in (Some w) = OutputLost w ∷ []

abbrev pub entries_in : MasterState → CoreEvent → List Entry
entries_in m Open = []
entries_in m (Configure v) = configured_in v.0 (unwrap_or (configures_at m.schedule v.0) (shape 0 0))
entries_in m (Queue t) = requeue_in m t
entries_in m (Place a p) = Placed a (container_in m p) p ∷ []
entries_in m (Fetch a e i) = fetch_in m a e.0 i (source_in m a e.0 i)
entries_in m (Send a) = Ordered a ∷ []
entries_in m (Preempt a) = Killed a Preempted ∷ requeue_in m a.task
entries_in m (Fail a) = Failed a ∷ (if is_last_in m a.task then [] else requeue_in m a.task)
entries_in m (LoseNode slot) = NodeLost slot (next_life m slot) ∷ (if m.committing then [] else node_loss_in m slot)
entries_in m (LoseOutput t) = output_lost_in (winner_in m t)
entries_in m Restart = []
entries_in m (Ready v) = Readied v ∷ []
entries_in m CommitStart = CommitStarted ∷ []
entries_in m (Ask v) = []
entries_in m (Publish v) = Published v ∷ []
entries_in m Finish = Finished ∷ []
entries_in m Purge = Purged ∷ []
