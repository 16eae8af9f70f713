use Rattle.std.specs.Prelude.{ℕ, ◌+◌, ◌<◌, ◌^◌, Bool, Option}
use Rattle.tez_ids.specs.declared.TaskId.{TaskId}
use Rattle.tez_ids.specs.declared.AttemptId.{AttemptId}
use Rattle.tez_task.specs.declared.Live.{Live}

-- what a task is to its callers
pub record TaskState : Type 0 where
  pub task : TaskId
  pub epoch : ℕ
  pub max_failed : ℕ
  pub live : Option Live
  pub winner : Option AttemptId
  pub queued : ℕ
  pub failures : ℕ
  pub spent : Bool

-- one attempt more can be numbered
abbrev pub HasRoom : TaskState → Type 0
HasRoom s = s.queued + 1 < 2 ^ 64
