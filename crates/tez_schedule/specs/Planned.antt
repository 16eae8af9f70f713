-- The schedule of a plan: no vertex is configured, nothing is scheduled, and nothing has a winner.
use Rattle.std.specs.Prelude.{ℕ, false, List, map, length, replicate, Option, None, Some, is_none}
use Rattle.std.specs.List.{filter}
use Rattle.tez_ids.specs.declared.VertexId.{VertexId}
use Rattle.tez_lists.specs.Numbers.{numbers_from}
use Rattle.tez_plan.specs.Dag.{Dag, from, source_of, tasks_of, vertex, edge, is_one_to_one}
use Rattle.tez_conf.specs.declared.values.ConfValues.{ConfValues}
use Rattle.tez_vman.specs.Rules.{Rule}
use Rattle.tez_history.specs.Shape.{Edge, Feed, ByFile, ByVertex, ByPartitions, feed, rule, edges_to, first_source, primary_edges}
use Rattle.tez_schedule.specs.declared.input.Input.{Input}
use Rattle.tez_schedule.specs.State.{ScheduleState, VertexState, EdgeState}

abbrev pub feeder_by : Feed → Option VertexId
feeder_by ByFile = None
feeder_by (ByVertex u) = Some (vertex u)
feeder_by ByPartitions = None

-- the source of the first one-to-one edge to a vertex
abbrev pub one_to_one_source : Dag → ℕ → Option ℕ
one_to_one_source g v = first_source g (filter (λ e. is_one_to_one e.1) (edges_to g v))

abbrev pub input_of : Dag → Edge → Input
input_of g e = record { edge = edge e.0; source = vertex (from g e.1) }

-- a vertex of which nothing is known yet; no source task has a winner, where one to one is waited for them
abbrev pub new_vertex : Rule → Option VertexId → List Input → ℕ → VertexState
new_vertex rule feeder inputs planned =
    record {
      rule = rule;
      feeder = feeder;
      inputs = inputs;
      planned = planned;
      config = None;
      scheduled = replicate planned false;
      fed = replicate planned (is_none feeder);
      won = replicate planned false;
    }

abbrev pub planned_vertex : Dag → ConfValues → ℕ → VertexState
planned_vertex g c v = new_vertex (rule g c v) (feeder_by (feed g v)) (map (input_of g) (primary_edges g v)) (tasks_of g v)

abbrev pub planned_edge : Dag → ℕ → EdgeState
planned_edge g e = record { source = vertex (source_of g e); made = replicate (tasks_of g (source_of g e)) 0 }

abbrev pub planned_schedule : Dag → ConfValues → ScheduleState
planned_schedule g c =
    record {
      vertices = map (planned_vertex g c) (numbers_from 0 (length g.vertices));
      edges = map (planned_edge g) (numbers_from 0 (length g.edges));
      greatest = replicate (length g.vertices) 0;
    }
