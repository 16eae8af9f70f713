-- The winners that are lost with a node.
--     is_lost_with p lies slot w     the pieces of this winner lie on the node of the slot
--     lost_of p lies slot t          the winner of a task, where it is such a one
--     lost_at p lies slot x          those of a vertex, in the order of tasks
use Rattle.std.specs.Prelude.{ℕ, Bool, false, ◌&&◌, ◌==◌, List, Option, option_to_list}
use Rattle.std.specs.List.{filter, flat_map}
use Rattle.std.specs.Option.{option_map_or}
use Rattle.tez_ids.specs.declared.AttemptId.{AttemptId}
use Rattle.tez_plan.specs.Dag.{Dag}
use Rattle.tez_task.specs.TaskState.{TaskState}
use Rattle.tez_vertex.specs.Vertex.{Vertex}
use Rattle.tez_history.specs.Shape.{has_edge_out}
use Rattle.tez_core.specs.Parts.{location_at}

abbrev pub is_lost_with : Dag → List (List (Option ℕ)) → ℕ → AttemptId → Bool
is_lost_with p locations slot w = has_edge_out p w.task.vertex.0 && option_map_or (λ s. s == slot) (location_at locations w.task) false

abbrev pub lost_of : Dag → List (List (Option ℕ)) → ℕ → Option AttemptId → List AttemptId
lost_of p locations slot winner = filter (is_lost_with p locations slot) (option_to_list winner)

abbrev pub lost_at : Dag → List (List (Option ℕ)) → ℕ → Vertex → List AttemptId
lost_at p locations slot x = flat_map (λ (t : TaskState). lost_of p locations slot t.winner) x.tasks
