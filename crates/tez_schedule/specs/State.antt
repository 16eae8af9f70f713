-- What a schedule is to its callers.
--     vertices     what is known of each vertex
--     edges        what was made for each edge
--     greatest     by vertex, the greatest number of its tasks that there were to schedule
use Rattle.std.specs.Prelude.{ℕ, Bool, List, Option}
use Rattle.tez_ids.specs.declared.VertexId.{VertexId}
use Rattle.tez_vman.specs.declared.seen.Config.{Config}
use Rattle.tez_vman.specs.Rules.{Rule}
use Rattle.tez_schedule.specs.declared.input.Input.{Input}

-- a vertex
--     rule         how its manager goes
--     feeder       the vertex that feeds it one to one, if one does
--     inputs       the edges over which it is fed, and not only told
--     planned      its tasks in the plan; the lists by task are as long
--     config       its tasks and base, once it is configured
--     scheduled    by task, whether it was scheduled
--     fed          by task, whether its source task has a winner; all are where nothing feeds it one to one
--     won          by task, whether it has a winner
pub record VertexState : Type 0 where
  pub rule : Rule
  pub feeder : Option VertexId
  pub inputs : List Input
  pub planned : ℕ
  pub config : Option Config
  pub scheduled : List Bool
  pub fed : List Bool
  pub won : List Bool

-- of an edge the vertex that it leads from, and by task of that vertex the bytes that its winner made for the edge
pub record EdgeState : Type 0 where
  pub source : VertexId
  pub made : List ℕ

pub record ScheduleState : Type 0 where
  pub vertices : List VertexState
  pub edges : List EdgeState
  pub greatest : List ℕ
