-- A master of which nothing is known yet.
--     no_locations s       where the pieces of the tasks of a vertex lie: nowhere
--     fresh g c n pool     a master of epoch n over these places: nothing is configured, queued or won
use Rattle.std.specs.Prelude.{ℕ, true, false, List, map, length, replicate, Option, None}
use Rattle.tez_plan.specs.Dag.{Dag}
use Rattle.tez_plan.specs.declared.parts.VertexSpec.{VertexSpec}
use Rattle.tez_conf.specs.declared.values.ConfValues.{ConfValues}
use Rattle.tez_pool.specs.State.{PoolState}
use Rattle.tez_router.specs.Planned.{planned_router}
use Rattle.tez_schedule.specs.Planned.{planned_schedule}
use Rattle.tez_master_model.specs.State.{MasterState}
use Rattle.tez_master_model.specs.Vertices.{new_vertices}

abbrev pub no_locations : VertexSpec → List (Option ℕ)
no_locations s = replicate s.tasks None

abbrev pub fresh : Dag → ConfValues → ℕ → PoolState → MasterState
fresh g c n pool = record {
  plan = g;
  conf = c;
  epoch = n;
  vertices = new_vertices g c n;
  pool = pool;
  router = planned_router g;
  schedule = planned_schedule g c;
  locations = map no_locations g.vertices;
  readied = replicate (length g.vertices) false;
  asked = replicate (length g.vertices) false;
  recorded = 0;
  committing = false;
  found = false;
  finished = false;
  up = true;
}
