-- What a history says of the router: the state that a router has after it.
--     link_view g past e        an edge, with the manager that the tasks at its ends ask for
--     winners_view g past       by vertex and number, the winner of each task of the plan
--     inputs_view g past a e    which inputs over an edge an attempt has fetched
--     admitted_view g past a    an attempt with its inputs
--     router_view g past        the router
--     FitsPlan g past           no vertex has more tasks than the plan gives it
use Rattle.std.specs.Prelude.{ℕ, ◌≤◌, List, map, length, Option}
use Rattle.std.specs.List.{enumerate_from}
use Rattle.tez_ids.specs.declared.AttemptId.{AttemptId}
use Rattle.tez_ids.specs.Same.{task}
use Rattle.tez_lists.specs.Tables.{table}
use Rattle.tez_plan.specs.Dag.{Dag, from, to, tasks_of as planned}
use Rattle.tez_plan.specs.declared.parts.Movement.{Movement}
use Rattle.tez_plan.specs.declared.parts.Movement.TheVariants as movement
use Rattle.tez_history.specs.Shape.{numbers_below, Edge, edges_to}
use Rattle.tez_history.specs.History.{Past, winner, is_fetched}
use Rattle.tez_history.specs.Derived.{shape_of, task_count, input_count, waiting_attempts}
use Rattle.tez_router.specs.State.{RouterState, LinkState, AdmittedState, EdgeInputs, Routing, OneToOne, Broadcast, ScatterGather}

-- the manager of a movement for so many source tasks, consumer tasks and partitions, and partitions for each consumer
abbrev pub routing_for : Movement → ℕ → ℕ → ℕ → ℕ → Routing
routing_for movement.OneToOne sources consumers parts base = OneToOne sources
routing_for movement.Broadcast sources consumers parts base = Broadcast sources consumers
routing_for (movement.ScatterGather keys) sources consumers parts base = ScatterGather sources parts base

-- the tasks are those configured, and before that those of the plan
abbrev pub routing_view : Dag → Past → Edge → Routing
routing_view g past e =
    routing_for e.1.movement (task_count g (from g e.1) past) (task_count g (to g e.1) past) (planned g (to g e.1)) (shape_of g (to g e.1) past).base

abbrev pub link_view : Dag → Past → Edge → LinkState
link_view g past e = record { edge = e.0; source = from g e.1; target = to g e.1; routing = routing_view g past e }

abbrev pub links_view : Dag → Past → List LinkState
links_view g past = map (link_view g past) (enumerate_from 0 g.edges)

abbrev pub winners_view : Dag → Past → List (List (Option AttemptId))
winners_view g past = table (λ v i. winner (task v i) past) (planned g) (length g.vertices)

abbrev pub inputs_view : Dag → Past → AttemptId → Edge → EdgeInputs
inputs_view g past a e = record { edge = e.0; fetched = map (λ i. is_fetched a e.0 i past) (numbers_below (input_count g past e.1 a.task.index)) }

abbrev pub admitted_view : Dag → Past → AttemptId → AdmittedState
admitted_view g past a = record { attempt = a; edges = map (inputs_view g past a) (edges_to g a.task.vertex.0) }

-- the waiting attempts are admitted
abbrev pub router_view : Dag → Past → RouterState
router_view g past = record {
  links = links_view g past;
  winners = winners_view g past;
  admitted = map (admitted_view g past) (waiting_attempts g past);
}

abbrev pub FitsPlan : Dag → Past → Type 0
FitsPlan g past = (v : ℕ) → task_count g v past ≤ planned g v
