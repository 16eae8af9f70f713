-- What the type of a lead keeps.
--     is_waiting vs v i    an attempt of this task is queued
--     queue_of g vs        the tasks of the plan of which an attempt is queued
--     IsTask t s           a task at its number: its attempts are its own, and it has no winner while one is live, which was queued
--     IsVertex n v x       a vertex at its number, with n tasks at most, and none before it is configured
--     AreVertices g vs     those of a plan, each with its planned tasks at most
--     IsFit m              the parts fit the plan and the configuration
--     IsKept m q           they do, and the queue is that of the vertices
use Rattle.std.specs.Prelude.{◌≡◌, ℕ, ◌<◌, ◌≤◌, Bool, false, List, map, length, slice_get, Some, None, is_some}
use Rattle.tez_ids.specs.declared.TaskId.{TaskId}
use Rattle.tez_ids.specs.declared.AttemptId.{AttemptId}
use Rattle.tez_ids.specs.Same.{task}
use Rattle.tez_lists.specs.Numbers.{numbers_from}
use Rattle.tez_lists.specs.Tables.{table}
use Rattle.tez_plan.specs.Dag.{Dag, vertex, tasks_of as planned}
use Rattle.tez_plan.specs.Order.{depth}
use Rattle.tez_task.specs.declared.Live.{Live}
use Rattle.tez_task.specs.TaskState.{TaskState}
use Rattle.tez_vertex.specs.Vertex.{Vertex}
use Rattle.tez_pool.specs.Victim.{AreIn}
use Rattle.tez_schedule.specs.Kept.{layout, planned_at}
use Rattle.tez_queue.specs.Queue.{Queue}
use Rattle.tez_master_model.specs.State.{MasterState}
use Rattle.tez_core.specs.Choosing.{queued_at}

abbrev pub is_waiting : List Vertex → ℕ → ℕ → Bool
is_waiting vs v i = is_some (queued_at vs (task v i))

abbrev pub queue_of : Dag → List Vertex → Queue
queue_of g vs = record {
  depths = map (depth g) (numbers_from 0 (length g.vertices));
  queued = table (is_waiting vs) (planned g) (length g.vertices);
}

pub record IsTask (t : TaskId) (s : TaskState) : Type 0 where
  pub task_is : s.task ≡ t
  pub live_is : (l : Live) → s.live ≡ Some l → l.attempt.task ≡ t
  pub winner_is : (w : AttemptId) → s.winner ≡ Some w → w.task ≡ t
  pub one : (l : Live) → s.live ≡ Some l → s.winner ≡ None
  pub begun : (l : Live) → s.live ≡ Some l → 0 < s.queued

pub record IsVertex (n v : ℕ) (x : Vertex) : Type 0 where
  pub number : x.vertex ≡ vertex v
  pub few : length x.tasks ≤ n
  pub unconfigured : x.configured ≡ false → length x.tasks ≡ 0
  pub tasks : (i : ℕ) (s : TaskState) → slice_get x.tasks i ≡ Some s → IsTask (task v i) s

pub record AreVertices (g : Dag) (vs : List Vertex) : Type 0 where
  pub sized : length vs ≡ length g.vertices
  pub each : (v : ℕ) (x : Vertex) → slice_get vs v ≡ Some x → IsVertex (planned g v) v x

-- who hold places are of the plan's vertices, nodes have as many places as the configuration says, and the schedule knows how many tasks are planned
pub record IsFit (m : MasterState) : Type 0 where
  pub vertices : AreVertices m.plan m.vertices
  pub within : AreIn m.plan m.pool.places
  pub places : m.pool.per_node ≡ m.conf.per_node
  pub tasks : (v : ℕ) → planned_at (map layout m.schedule.vertices) v ≡ planned m.plan v

pub record IsKept (m : MasterState) (q : Queue) : Type 0 where
  pub fit : IsFit m
  pub queue : q ≡ queue_of m.plan m.vertices
