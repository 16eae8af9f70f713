-- What a node's loss makes of a master, place by place and task by task, and the room that it needs.
--     killed_at m p          who holds this place is killed
--     withdrawn_at slot m t  the winner of this task is withdrawn, where its pieces lie on the node
--     tasks_in m v           the tasks of a vertex, in order
--     emptied m slot         who holds a place of the node is killed, and the winners whose pieces lie there are withdrawn, unless the commit has begun
--     RoomsBelow b m         fewer than b attempts of each task were queued
--     HasRooms m             so many attempts of each task can be numbered that no event runs out of numbers
use Rattle.std.specs.Prelude.{ℕ, ◌<◌, ◌^◌, if◌then◌else◌, List, map, Option, Some, None, IfSome}
use Rattle.std.specs.List.{fold}
use Rattle.tez_ids.specs.declared.TaskId.{TaskId}
use Rattle.tez_ids.specs.declared.AttemptId.{AttemptId}
use Rattle.tez_ids.specs.Same.{task}
use Rattle.tez_lists.specs.Numbers.{numbers_from}
use Rattle.tez_pool.specs.Index.{held_at}
use Rattle.tez_master_model.specs.State.{MasterState}
use Rattle.tez_pool.specs.Table.{held_on}
use Rattle.tez_master_model.specs.Read.{task_in, lost_in}
use Rattle.tez_master_model.specs.Settled.{killed, withdrawn}
use Rattle.tez_core.specs.Choosing.{count_at, lost_at}

abbrev pub killed_by : MasterState → Option AttemptId → MasterState
killed_by m None = m
killed_by m (Some a) = killed m a

abbrev pub killed_at : MasterState → ℕ → MasterState
killed_at m p = killed_by m (held_at m.pool.places p)

abbrev pub withdrawn_by : MasterState → Option AttemptId → MasterState
withdrawn_by m None = m
withdrawn_by m (Some w) = withdrawn m w

abbrev pub withdrawn_at : ℕ → MasterState → TaskId → MasterState
withdrawn_at slot m t = withdrawn_by m (lost_at m slot t)

abbrev pub tasks_in : MasterState → ℕ → List TaskId
tasks_in m v = map (task v) (numbers_from 0 (count_at m.vertices v))

abbrev pub emptied : MasterState → ℕ → MasterState
emptied m slot = if m.committing then m else fold withdrawn (fold killed m (held_on m.pool slot)) (lost_in m slot)

abbrev pub RoomsBelow : ℕ → MasterState → Type 0
RoomsBelow b m = (t : TaskId) → IfSome (task_in m t) (λ s. s.queued < b)

abbrev pub HasRooms : MasterState → Type 0
HasRooms m = RoomsBelow (2 ^ 63) m
