-- Tasks and attempts by their numbers, and when two are the same.
use Rattle.std.specs.Prelude.{ℕ, Bool, ◌&&◌, ◌==◌}
use Rattle.tez_ids.specs.declared.TaskId.{TaskId}
use Rattle.tez_ids.specs.declared.AttemptId.{AttemptId}

-- task i of vertex v
abbrev pub task : ℕ → ℕ → TaskId
task v i = record { vertex = record { 0 = v }; index = i }

-- the attempt of this epoch, task and number
abbrev pub attempt : ℕ → TaskId → ℕ → AttemptId
attempt epoch t number = record { epoch = record { 0 = epoch }; task = t; number = number }

abbrev pub same_task : TaskId → TaskId → Bool
same_task s t = (s.vertex.0 == t.vertex.0) && (s.index == t.index)

abbrev pub same_attempt : AttemptId → AttemptId → Bool
same_attempt a b = (a.epoch.0 == b.epoch.0) && (same_task a.task b.task && (a.number == b.number))
