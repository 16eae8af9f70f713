-- A task that may fail twice, and does.
use Rattle.std.specs.Prelude.{◌≡◌, List, [], ◌∷◌, refl}
use Rattle.tez_ids.specs.declared.AttemptId.{AttemptId}
use Rattle.tez_ids.specs.Same.{task, attempt}
use Rattle.tez_task.specs.declared.TaskEvent.{TaskEvent}
use Rattle.tez_task.specs.declared.TaskEvent.TheVariants.{Queue, Place, Send, Succeed, Fail, Kill, Lose}
use Rattle.tez_task.specs.declared.TaskTook.{TaskTook}
use Rattle.tez_task.specs.declared.TaskTook.TheVariants.{Moved, Again, Spent, Ignored}
use Rattle.tez_task.specs.TaskState.{TaskState}
use Rattle.tez_task.specs.Table.{new_task, task_after, task_took}

abbrev run : TaskState → List TaskEvent → List TaskTook
run s [] = []
run s (e ∷ es) = task_took s e ∷ run (task_after s e) es

abbrev first : AttemptId
first = attempt 1 (task 0 0) 0

abbrev second : AttemptId
second = attempt 1 (task 0 0) 1

fails_twice : run (new_task (task 0 0) 1 2) (Queue ∷ Place first ∷ Send first ∷ Fail first ∷ Succeed first ∷ Place second ∷ Send second ∷ Fail second ∷ Queue ∷ [])
    ≡ Again first ∷ Moved ∷ Moved ∷ Again second ∷ Ignored ∷ Moved ∷ Moved ∷ Spent ∷ Ignored ∷ []
fails_twice = refl

-- kills and losses count as no failure
killed_and_lost : run (new_task (task 0 0) 1 1) (Queue ∷ Kill first ∷ Place second ∷ Send second ∷ Succeed second ∷ Queue ∷ Lose first ∷ Lose second ∷ [])
    ≡ Again first ∷ Again second ∷ Moved ∷ Moved ∷ Moved ∷ Ignored ∷ Ignored ∷ Again (attempt 1 (task 0 0) 2) ∷ []
killed_and_lost = refl
