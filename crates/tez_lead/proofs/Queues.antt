-- A change of one task changes the queue at that task alone.
use Rattle.std.specs.Prelude.{◌≡◌, ℕ, Bool, true, false, if◌then◌else◌, List, length, map, is_some, refl, option_and_then}
use Rattle.std.proofs.Common.{ap, sym}
use Rattle.tez_ids.specs.declared.TaskId.{TaskId}
use Rattle.tez_ids.specs.Same.{task, same_task}
use Rattle.tez_ids.proofs.Sameness.{same_task-true}
use Rattle.tez_lists.specs.Numbers.{numbers_from}
use Rattle.tez_lists.proofs.Tables.{table_same}
use Rattle.tez_plan.specs.Dag.{Dag, tasks_of as planned}
use Rattle.tez_plan.specs.Order.{depth}
use Rattle.tez_vertex.specs.Vertex.{Vertex}
use Rattle.tez_queue.specs.Queue.{Queue, with_task}
use Rattle.tez_core.specs.Parts.{task_at}
use Rattle.tez_core.specs.Choosing.{queued_one, queued_at}
use Rattle.tez_lead.specs.Kept.{is_waiting, queue_of}
use Rattle.tez_lead.proofs.Lists.{set_any}

abbrev pub with_rows : Dag → List (List Bool) → Queue
with_rows g rows = record { depths = map (depth g) (numbers_from 0 (length g.vertices)); queued = rows }

-- where the vertices tell the same of every other task
pub refreshed : (g : Dag) (vs later : List Vertex) (t : TaskId) → ((u : TaskId) → same_task t u ≡ false → task_at later u ≡ task_at vs u)
    → with_task (queue_of g vs) t (is_some (queued_at later t)) ≡ queue_of g later
refreshed g vs later t same =
    ap (with_rows g) (set_any (is_waiting vs) (is_waiting later) (planned g) (length g.vertices) t.vertex.0 t.index (is_some (queued_at later t)) (λ w j. by w j (same_task t (task w j)) refl))
  where
    by : (w j : ℕ) (b : Bool) → same_task t (task w j) ≡ b → (if b then is_some (queued_at later t) else is_waiting vs w j) ≡ is_waiting later w j
    by w j true e = ap (λ u. is_some (queued_at later u)) (same_task-true t (task w j) e)
    by w j false e = ap (λ o. is_some (option_and_then queued_one o)) (sym (same (task w j) e))

-- where they tell the same of all
pub unchanged : (g : Dag) (vs later : List Vertex) → ((u : TaskId) → task_at later u ≡ task_at vs u) → queue_of g vs ≡ queue_of g later
unchanged g vs later same = ap (with_rows g) (table_same (is_waiting vs) (is_waiting later) (planned g) (length g.vertices) (λ v i. ap (λ o. is_some (option_and_then queued_one o)) (sym (same (task v i)))))
