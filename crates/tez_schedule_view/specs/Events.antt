-- Steps of a schedule that consist of several calls, and the bytes that a history tells.
--     after_withdraws s ws       these winners were withdrawn, one after another
--     winners_on g c past slot   the winners whose pieces lie on a node, in the order of tasks
--     as_made made               the bytes of a report, as the schedule takes them
--     told_bytes g past a        the bytes that a history tells of an attempt, by edge
--     Tells g past a made        these are those bytes, for each edge out of the attempt's vertex
--     HasNoBytes past a          no bytes are told of an attempt
--     TellsInTime past           bytes are told only of attempts that were queued and are not alive any more
use Rattle.std.specs.Prelude.{◌≡◌, ℕ, ◌<◌, false, List, [], ◌∷◌, map, length}
use Rattle.std.specs.List.{filter, filter_map}
use Rattle.tez_ids.specs.declared.EdgeId.{EdgeId}
use Rattle.tez_ids.specs.declared.AttemptId.{AttemptId}
use Rattle.tez_plan.specs.Dag.{Dag, edge, source_of}
use Rattle.tez_conf.specs.declared.values.ConfValues.{ConfValues}
use Rattle.tez_history.specs.Shape.{numbers_below}
use Rattle.tez_history.specs.History.{Past, stage, winner, made_bytes}
use Rattle.tez_history.specs.Derived.{tasks, is_on_node}
use Rattle.tez_history.specs.Follows.{IsAlive}
use Rattle.tez_laws.specs.Laws.{was_ever_queued}
use Rattle.tez_schedule.specs.State.{ScheduleState}
use Rattle.tez_schedule.specs.Table.{after_withdraw, bytes_for}

abbrev pub after_withdraws : ScheduleState → List AttemptId → ScheduleState
after_withdraws s [] = s
after_withdraws s (w ∷ ws) = after_withdraws (after_withdraw s w.task) ws

abbrev pub winners_on : Dag → ConfValues → Past → ℕ → List AttemptId
winners_on g c past slot = filter (is_on_node g c past slot) (filter_map (λ t. winner t past) (tasks g past))

-- ---- bytes

abbrev pub as_made : List (ℕ × ℕ) → List (EdgeId × ℕ)
as_made made = map (λ m. (edge m.0, m.1)) made

abbrev pub told_bytes : Dag → Past → AttemptId → List (EdgeId × ℕ)
told_bytes g past a = map (λ e. (edge e, made_bytes a e past)) (numbers_below (length g.edges))

abbrev pub Tells : Dag → Past → AttemptId → List (EdgeId × ℕ) → Type 0
Tells g past a made = (e : ℕ) → e < length g.edges → source_of g e ≡ a.task.vertex.0 → bytes_for e made ≡ made_bytes a e past

abbrev pub HasNoBytes : Past → AttemptId → Type 0
HasNoBytes past a = (e : ℕ) → made_bytes a e past ≡ 0

pub record TellsInTime (past : Past) : Type 0 where
  pub alive : (a : AttemptId) → IsAlive (stage a past) → HasNoBytes past a
  pub unknown : (a : AttemptId) → was_ever_queued a past ≡ false → HasNoBytes past a
