-- The tasks of a plan that wait for a place.
--     depths           by vertex, its depth
--     queued           by vertex and task, whether the task waits
--     has q t          this task waits
--     with_task q t b  the queue where the task waits, or does not
--     first q          of each depth from 0, of each vertex of that depth, of each index, the first that waits
--     queued_tasks q   the tasks that wait, in the order of tasks
--     IsQueueOf g q xs the queue is of this plan, and has the tasks of these attempts
--     empty_queue g    nothing waits of this plan
use Rattle.std.specs.Prelude.{◌≡◌, ℕ, Bool, false, ◌==◌, List, [], map, length, slice_get, slice_index_or, Option}
use Rattle.std.specs.List.{filter, flat_map}
use Rattle.tez_ids.specs.declared.TaskId.{TaskId}
use Rattle.tez_ids.specs.declared.AttemptId.{AttemptId}
use Rattle.tez_ids.specs.Same.{task}
use Rattle.tez_lists.specs.Numbers.{numbers_from}
use Rattle.tez_lists.specs.Tables.{table, set_in}
use Rattle.tez_plan.specs.Dag.{Dag, tasks_of as planned}
use Rattle.tez_plan.specs.Order.{depth}

pub record Queue : Type 0 where
  pub depths : List ℕ
  pub queued : List (List Bool)

abbrev pub row_of : List (List Bool) → ℕ → List Bool
row_of rows v = slice_index_or rows v []

abbrev pub flag : List Bool → ℕ → Bool
flag row i = slice_index_or row i false

abbrev pub has : Queue → TaskId → Bool
has q t = flag (row_of q.queued t.vertex.0) t.index

abbrev pub with_task : Queue → TaskId → Bool → Queue
with_task q t present = record { depths = q.depths; queued = set_in q.queued t.vertex.0 t.index present }

-- the tasks of a vertex that wait, in order
abbrev pub queued_of : List (List Bool) → ℕ → List TaskId
queued_of rows v = map (task v) (filter (flag (row_of rows v)) (numbers_from 0 (length (row_of rows v))))

-- the vertices of a depth, in order
abbrev pub of_depth : List ℕ → ℕ → List ℕ
of_depth depths d = filter (λ v. slice_index_or depths v 0 == d) (numbers_from 0 (length depths))

-- the tasks of a depth that wait, in order
abbrev pub queued_at : Queue → ℕ → List TaskId
queued_at q d = flat_map (queued_of q.queued) (of_depth q.depths d)

abbrev pub first : Queue → Option TaskId
first q = slice_get (flat_map (queued_at q) (numbers_from 0 (length q.depths))) 0

-- the tasks that wait, in the order of tasks
abbrev pub queued_tasks : Queue → List TaskId
queued_tasks q = flat_map (queued_of q.queued) (numbers_from 0 (length q.queued))

-- the queue is of this plan, and these are the attempts at its tasks
pub record IsQueueOf (g : Dag) (q : Queue) (xs : List AttemptId) : Type 0 where
  pub depths_are : q.depths ≡ map (depth g) (numbers_from 0 (length g.vertices))
  pub rows_are : length q.queued ≡ length g.vertices
  pub attempts_are : map (λ a. a.task) xs ≡ queued_tasks q

abbrev pub empty_queue : Dag → Queue
empty_queue g = record {
  depths = map (depth g) (numbers_from 0 (length g.vertices));
  queued = table (λ v i. false) (planned g) (length g.vertices);
}
