-- What a master that is up goes by: its parts, and what it knows beside them.
--     locations    by vertex and task of the plan, the node slot where the pieces of the task's winner lie, if they lie anywhere
--     readied      by vertex, whether its sink counts as readied
--     asked        by vertex, whether the store was asked of its sink and did not have it
--     recorded     how many sinks the journal has recorded
--     committing   the commit has started
--     found        it had started before this master began
--     up           it has not purged what is left over
use Rattle.std.specs.Prelude.{ℕ, Bool, List, Option}
use Rattle.tez_plan.specs.Dag.{Dag}
use Rattle.tez_conf.specs.declared.values.ConfValues.{ConfValues}
use Rattle.tez_vertex.specs.Vertex.{Vertex}
use Rattle.tez_pool.specs.State.{PoolState}
use Rattle.tez_router.specs.State.{RouterState}
use Rattle.tez_schedule.specs.State.{ScheduleState}

pub record MasterState : Type 0 where
  pub plan : Dag
  pub conf : ConfValues
  pub epoch : ℕ
  pub vertices : List Vertex
  pub pool : PoolState
  pub router : RouterState
  pub schedule : ScheduleState
  pub locations : List (List (Option ℕ))
  pub readied : List Bool
  pub asked : List Bool
  pub recorded : ℕ
  pub committing : Bool
  pub found : Bool
  pub finished : Bool
  pub up : Bool
