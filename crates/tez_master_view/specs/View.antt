-- What a master that is up has to be after a history.
--     location_view c past t       the node slot where the pieces of a task's winner lie
--     master_view g c past    the master
use Rattle.std.specs.Prelude.{ℕ, List, map, length, Option, Some, None, option_and_then}
use Rattle.tez_ids.specs.declared.TaskId.{TaskId}
use Rattle.tez_ids.specs.Same.{task}
use Rattle.tez_lists.specs.Tables.{table}
use Rattle.tez_plan.specs.Dag.{Dag, tasks_of as planned}
use Rattle.tez_conf.specs.declared.values.ConfValues.{ConfValues}
use Rattle.tez_history.specs.Shape.{vertices}
use Rattle.tez_history.specs.History.{Past, Location, Nowhere, On, InQuestion, epoch, winner, location, is_readied, was_asked, recorded, is_committing, is_found, is_finished, is_up}
use Rattle.tez_vertex_view.specs.View.{vertices_view}
use Rattle.tez_pool_view.specs.View.{pool_view}
use Rattle.tez_router_view.specs.View.{router_view}
use Rattle.tez_schedule_view.specs.View.{schedule_view}
use Rattle.tez_master_model.specs.State.{MasterState}

abbrev pub slot_by : Location → Option ℕ
slot_by (On slot) = Some slot
slot_by Nowhere = None
slot_by (InQuestion slot) = None

abbrev pub location_view : ConfValues → Past → TaskId → Option ℕ
location_view c past t = option_and_then (λ w. slot_by (location c w past)) (winner t past)

abbrev pub locations_view : Dag → ConfValues → Past → List (List (Option ℕ))
locations_view g c past = table (λ v i. location_view c past (task v i)) (planned g) (length g.vertices)

abbrev pub master_view : Dag → ConfValues → Past → MasterState
master_view g c past = record {
  plan = g;
  conf = c;
  epoch = epoch past;
  vertices = vertices_view g c past;
  pool = pool_view c past;
  router = router_view g past;
  schedule = schedule_view g c past;
  locations = locations_view g c past;
  readied = map (λ v. is_readied v past) (vertices g);
  asked = map (λ v. was_asked v past) (vertices g);
  recorded = recorded past;
  committing = is_committing past;
  found = is_found past;
  finished = is_finished past;
  up = is_up past;
}
