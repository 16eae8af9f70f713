-- The router of a plan: no winner, nobody admitted, and the managers of the plan's task counts.
use Rattle.std.specs.Prelude.{ℕ, List, [], map, length, replicate, slice_get, Option, None}
use Rattle.std.specs.List.{range_with_len}
use Rattle.std.specs.Option.{option_map_or}
use Rattle.tez_ids.specs.declared.AttemptId.{AttemptId}
use Rattle.tez_plan.specs.Dag.{Dag, source_of, target_of, tasks_of}
use Rattle.tez_plan.specs.declared.parts.VertexSpec.{VertexSpec}
use Rattle.tez_plan.specs.declared.parts.Movement.{Movement}
use Rattle.tez_plan.specs.declared.parts.Movement.TheVariants as movement
use Rattle.tez_router.specs.State.{RouterState, LinkState, Routing, OneToOne, Broadcast, ScatterGather}

-- a scatter-gather edge begins with a partition for each task
abbrev pub routing_by : Movement → ℕ → ℕ → Routing
routing_by movement.OneToOne sources consumers = OneToOne sources
routing_by movement.Broadcast sources consumers = Broadcast sources consumers
routing_by (movement.ScatterGather keys) sources consumers = ScatterGather sources consumers 1

abbrev pub planned_routing : Dag → ℕ → Routing
planned_routing p e = option_map_or (λ s. routing_by s.movement (tasks_of p (source_of p e)) (tasks_of p (target_of p e))) (slice_get p.edges e) (OneToOne 0)

abbrev pub planned_link : Dag → ℕ → LinkState
planned_link p e = record { edge = e; source = source_of p e; target = target_of p e; routing = planned_routing p e }

abbrev pub no_winners : VertexSpec → List (Option AttemptId)
no_winners v = replicate v.tasks None

abbrev pub planned_router : Dag → RouterState
planned_router p = record {
  links = map (planned_link p) (range_with_len 0 (length p.edges));
  winners = map no_winners p.vertices;
  admitted = [];
}
