-- What the schedule has to be after a history.
--     progress_view g c past v     a vertex
--     edge_view g past e           the bytes that the winners of an edge's source vertex made for it
--     schedule_view g c past       the whole schedule
--     FitsPlan g past              no vertex has more tasks than the plan gives it
use Rattle.std.specs.Prelude.{ℕ, ◌≤◌, Bool, true, List, map, length, replicate, is_some}
use Rattle.std.specs.Option.{option_map_or}
use Rattle.tez_ids.specs.declared.TaskId.{TaskId}
use Rattle.tez_ids.specs.Same.{task}
use Rattle.tez_plan.specs.Dag.{Dag, vertex, source_of, tasks_of as planned}
use Rattle.tez_conf.specs.declared.values.ConfValues.{ConfValues}
use Rattle.tez_history.specs.Shape.{numbers_below, vertices, Feed, ByFile, ByVertex, ByPartitions, feed}
use Rattle.tez_history.specs.History.{Past, config, is_scheduled, winner, made_bytes}
use Rattle.tez_history.specs.Derived.{task_count, greatest_to_schedule}
use Rattle.tez_schedule.specs.State.{ScheduleState, VertexState, EdgeState}
use Rattle.tez_schedule.specs.Planned.{planned_vertex}

-- by task of the plan
abbrev pub by_task : {X : Type 0} → Dag → ℕ → (TaskId → X) → List X
by_task g v f = map (λ i. f (task v i)) (numbers_below (planned g v))

abbrev pub has_winner : Past → TaskId → Bool
has_winner past t = is_some (winner t past)

-- by task of v, whether its source task has a winner; nobody waits for it where nothing feeds v one to one
abbrev pub fed_view : Dag → Past → ℕ → Feed → List Bool
fed_view g past v ByFile = replicate (planned g v) true
fed_view g past v (ByVertex u) = map (λ i. has_winner past (task u i)) (numbers_below (planned g v))
fed_view g past v ByPartitions = replicate (planned g v) true

abbrev pub progress_view : Dag → ConfValues → Past → ℕ → VertexState
progress_view g c past v =
    record (planned_vertex g c v) {
      config = config v past;
      scheduled = by_task g v (λ t. is_scheduled t past);
      fed = fed_view g past v (feed g v);
      won = by_task g v (has_winner past);
    }

-- none where the task has no winner
abbrev pub made_view : Past → ℕ → TaskId → ℕ
made_view past e t = option_map_or (λ w. made_bytes w e past) (winner t past) 0

abbrev pub edge_view : Dag → Past → ℕ → EdgeState
edge_view g past e = record { source = vertex (source_of g e); made = by_task g (source_of g e) (made_view past e) }

abbrev pub schedule_view : Dag → ConfValues → Past → ScheduleState
schedule_view g c past = record {
  vertices = map (progress_view g c past) (vertices g);
  edges = map (edge_view g past) (numbers_below (length g.edges));
  greatest = map (λ v. greatest_to_schedule g c v past) (vertices g);
}

abbrev pub FitsPlan : Dag → Past → Type 0
FitsPlan g past = (v : ℕ) → task_count g v past ≤ planned g v
