-- What a vertex is to its callers.
--     tasks      the states of its tasks, by number
--     moved      some event of a task was not ignored
use Rattle.std.specs.Prelude.{◌≡◌, ℕ, ◌<◌, ◌^◌, Bool, List, length, count_by, is_some}
use Rattle.std.specs.List.{list_any}
use Rattle.tez_ids.specs.declared.VertexId.{VertexId}
use Rattle.tez_task.specs.TaskState.{TaskState}

pub record Vertex : Type 0 where
  pub vertex : VertexId
  pub epoch : ℕ
  pub max_failed : ℕ
  pub configured : Bool
  pub tasks : List TaskState
  pub moved : Bool

abbrev pub has_winner : TaskState → Bool
has_winner t = is_some t.winner

abbrev pub is_spent : TaskState → Bool
is_spent t = t.spent

-- the tasks with a winner are counted, and it is noted whether one is spent
pub record IsCounted (tasks : List TaskState) (max_failed won : ℕ) (spent : Bool) : Type 0 where
  pub winners : won ≡ count_by has_winner tasks
  pub any_spent : spent ≡ list_any is_spent tasks
  pub few : length tasks < 2 ^ 32
  pub may_fail : 0 < max_failed
