-- The table of a schedule: what each call makes of it, and what it answers.
--     seen_by vs es x           what the manager of a vertex sees
--     configures_at s v         what vertex v is to be configured with now, None once it is configured
--     to_schedule vs es x       how many tasks of a vertex there are to schedule
--     may_queue s t             the task is one of those that may be queued now
--     next_queue s              the first such task
--     asked s                   the managers are asked again how many tasks there are to schedule
--     after_configure, after_schedule, after_win, after_withdraw
use Rattle.std.specs.Prelude.{ℕ, max, Bool, true, false, not, ◌&&◌, ◌==◌, nat_lt, nat_le, if◌then◌else◌, List, [], map, slice_get, slice_set, length, count_by, reverse, Option, Some, None, is_some, is_none, unwrap_or}
use Rattle.std.specs.List.{find, list_all, sum_by}
use Rattle.std.specs.Option.{option_map, option_map_or, option_and_then}
use Rattle.tez_ids.specs.declared.EdgeId.{EdgeId}
use Rattle.tez_ids.specs.declared.TaskId.{TaskId}
use Rattle.tez_ids.specs.Same.{task}
use Rattle.tez_lists.specs.Numbers.{numbers_from}
use Rattle.tez_lists.specs.Tables.{each_from}
use Rattle.tez_vman.specs.declared.seen.Seen.{Seen}
use Rattle.tez_vman.specs.declared.seen.Config.{Config}
use Rattle.tez_vman.specs.Rules.{configures, schedules}
use Rattle.tez_schedule.specs.State.{ScheduleState, VertexState, EdgeState}

-- ---- one vertex

abbrev pub how_many : List Bool → ℕ
how_many xs = count_by (λ b. b) xs

abbrev pub flag : List Bool → ℕ → Bool
flag xs i = unwrap_or (slice_get xs i) false

-- those configured, and before that those of the plan
abbrev pub tasks_in : VertexState → ℕ
tasks_in x = option_map_or (λ c. c.tasks) x.config x.planned

abbrev pub is_configured : VertexState → Bool
is_configured x = is_some x.config

-- the tasks that there are, none before it is configured
abbrev pub tasks_by : Option Config → ℕ
tasks_by config = option_map_or (λ c. c.tasks) config 0

-- every task has a winner
abbrev pub is_done : VertexState → Bool
is_done x = is_configured x && (how_many x.won == tasks_in x)

-- a task that was not scheduled, and whose source task has a winner where one feeds it
abbrev pub open_by : Option Config → List Bool → List Bool → ℕ → Bool
open_by config fed scheduled i = nat_lt i (tasks_by config) && (flag fed i && not (flag scheduled i))

abbrev pub is_open : VertexState → ℕ → Bool
is_open x i = open_by x.config x.fed x.scheduled i

abbrev pub first_open : VertexState → Option ℕ
first_open x = find (is_open x) (numbers_from 0 x.planned)

-- a vertex that nothing feeds one to one has as many tasks scheduled as its manager said at most
abbrev pub has_more : ℕ → VertexState → Bool
has_more most x = if is_some x.feeder then true else nat_lt (how_many x.scheduled) most

abbrev pub next_task : ℕ → VertexState → Option ℕ
next_task most x = if has_more most x then first_open x else None

abbrev pub is_number : ℕ → Option ℕ → Bool
is_number i o = option_map_or (λ j. j == i) o false

-- fed one to one any open task may be queued, else the first one
abbrev pub may_queue_in : ℕ → VertexState → ℕ → Bool
may_queue_in most x i = if is_some x.feeder then is_open x i else is_number i (next_task most x)

-- the tasks that have a winner, and the tasks, both none before the vertex is configured
abbrev pub progress_in : VertexState → ℕ × ℕ
progress_in x = if is_configured x then (how_many x.won, tasks_in x) else (0, 0)

-- ---- what the managers see

abbrev pub tasks_at : List VertexState → ℕ → ℕ
tasks_at vs v = option_map_or tasks_in (slice_get vs v) 0

abbrev pub won_at : List VertexState → ℕ → ℕ
won_at vs v = option_map_or (λ x. how_many x.won) (slice_get vs v) 0

abbrev pub is_configured_at : List VertexState → ℕ → Bool
is_configured_at vs v = option_map_or is_configured (slice_get vs v) false

abbrev pub made_in : EdgeState → ℕ
made_in x = sum_by (λ n. n) x.made

abbrev pub made_at : List EdgeState → ℕ → ℕ
made_at es e = option_map_or made_in (slice_get es e) 0

abbrev pub seen_by : List VertexState → List EdgeState → VertexState → Seen
seen_by vs es x =
    record {
      sources = sum_by (λ f. tasks_at vs f.source.0) x.inputs;
      configured = list_all (λ f. is_configured_at vs f.source.0) x.inputs;
      finished = sum_by (λ f. won_at vs f.source.0) x.inputs;
      bytes = sum_by (λ f. made_at es f.edge.0) x.inputs;
      tasks = tasks_in x;
    }

abbrev pub to_schedule : List VertexState → List EdgeState → VertexState → ℕ
to_schedule vs es x = if is_configured x then schedules x.rule (seen_by vs es x) else 0

abbrev pub to_schedule_at : List VertexState → List EdgeState → ℕ → ℕ
to_schedule_at vs es v = option_map_or (to_schedule vs es) (slice_get vs v) 0

abbrev pub configures_by : List VertexState → List EdgeState → VertexState → Option Config
configures_by vs es x = if is_configured x then None else configures x.rule (seen_by vs es x)

-- ---- what the calls answer

abbrev pub vertex_at : ScheduleState → ℕ → Option VertexState
vertex_at s v = slice_get s.vertices v

abbrev pub configures_at : ScheduleState → ℕ → Option Config
configures_at s v = option_and_then (configures_by s.vertices s.edges) (vertex_at s v)

abbrev pub config_at : ScheduleState → ℕ → Option Config
config_at s v = option_and_then (λ x. x.config) (vertex_at s v)

-- the first vertex that is to be configured
abbrev pub next_configure : ScheduleState → Option ℕ
next_configure s = find (λ v. is_some (configures_at s v)) (numbers_from 0 (length s.vertices))

abbrev pub greatest_at : ScheduleState → ℕ → ℕ
greatest_at s v = unwrap_or (slice_get s.greatest v) 0

abbrev pub may_queue : ScheduleState → TaskId → Bool
may_queue s t = option_map_or (λ x. may_queue_in (greatest_at s t.vertex.0) x t.index) (vertex_at s t.vertex.0) false

-- the first task of a vertex that may be queued
abbrev pub next_at : ScheduleState → ℕ → Option TaskId
next_at s v = option_map (task v) (option_and_then (next_task (greatest_at s v)) (vertex_at s v))

abbrev pub next_queue : ScheduleState → Option TaskId
next_queue s = option_and_then (next_at s) (find (λ v. is_some (next_at s v)) (numbers_from 0 (length s.vertices)))

abbrev pub progress_at : ScheduleState → ℕ → ℕ × ℕ
progress_at s v = option_map_or progress_in (vertex_at s v) (0, 0)

abbrev pub is_done_at : ScheduleState → ℕ → Bool
is_done_at s v = option_map_or is_done (vertex_at s v) false

abbrev pub are_done : ScheduleState → Bool
are_done s = list_all is_done s.vertices

-- a task of a configured vertex
abbrev pub is_task_in : List VertexState → TaskId → Bool
is_task_in vs t = option_map_or (λ x. nat_lt t.index (tasks_by x.config)) (slice_get vs t.vertex.0) false

abbrev pub is_task : ScheduleState → TaskId → Bool
is_task s t = is_task_in s.vertices t

-- a vertex that is not configured can have 1 task or more, and as many as it has in the plan at most
abbrev pub can_have : Config → VertexState → Bool
can_have c x = is_none x.config && (nat_le 1 c.tasks && nat_le c.tasks x.planned)

abbrev pub can_configure_in : List VertexState → ℕ → Config → Bool
can_configure_in vs v c = option_map_or (can_have c) (slice_get vs v) false

abbrev pub can_configure : ScheduleState → ℕ → Config → Bool
can_configure s v c = can_configure_in s.vertices v c

-- ---- what each call makes of it

abbrev pub asked_at : List VertexState → List EdgeState → ℕ → ℕ → ℕ
asked_at vs es v n = max n (to_schedule_at vs es v)

abbrev pub asked : ScheduleState → ScheduleState
asked s = record s { greatest = each_from 0 (asked_at s.vertices s.edges) s.greatest }

abbrev pub changed_at : List VertexState → ℕ → (VertexState → VertexState) → List VertexState
changed_at vs v change = option_map_or (λ x. slice_set vs v (change x)) (slice_get vs v) vs

abbrev pub configured_with : Config → VertexState → VertexState
configured_with c x = record x { config = Some c }

-- the vertex has these tasks and this base
abbrev pub after_configure : ScheduleState → ℕ → Config → ScheduleState
after_configure s v c = asked (record s { vertices = changed_at s.vertices v (configured_with c) })

abbrev pub scheduled_with : ℕ → VertexState → VertexState
scheduled_with i x = record x { scheduled = slice_set x.scheduled i true }

-- the task was queued, or kept from an earlier master
abbrev pub after_schedule : ScheduleState → TaskId → ScheduleState
after_schedule s t = record s { vertices = changed_at s.vertices t.vertex.0 (scheduled_with t.index) }

-- whether task i has a winner
abbrev pub won_with : ℕ → Bool → VertexState → VertexState
won_with i has x = record x { won = slice_set x.won i has }

-- whether task i of vertex v has a winner, to a vertex that may be fed by v
abbrev pub fed_with : ℕ → ℕ → Bool → VertexState → VertexState
fed_with v i has x = if option_map_or (λ u. u.0 == v) x.feeder false then record x { fed = slice_set x.fed i has } else x

abbrev pub with_winner : List VertexState → TaskId → Bool → List VertexState
with_winner vs t has = map (fed_with t.vertex.0 t.index has) (changed_at vs t.vertex.0 (won_with t.index has))

-- the bytes for an edge, none where there is no word of it; of two words the last counts
abbrev pub bytes_for : ℕ → List (EdgeId × ℕ) → ℕ
bytes_for e made = option_map_or (λ m. m.1) (find (λ m. m.0.0 == e) (reverse made)) 0

-- what a winner of task i of vertex v made for edge e
abbrev pub made_with : ℕ → ℕ → List (EdgeId × ℕ) → ℕ → EdgeState → EdgeState
made_with v i made e x = if x.source.0 == v then record x { made = slice_set x.made i (bytes_for e made) } else x

abbrev pub with_made : List EdgeState → TaskId → List (EdgeId × ℕ) → List EdgeState
with_made es t made = each_from 0 (made_with t.vertex.0 t.index made) es

abbrev pub with_result : ScheduleState → TaskId → Bool → List (EdgeId × ℕ) → ScheduleState
with_result s t has made = asked (record s { vertices = with_winner s.vertices t has; edges = with_made s.edges t made })

-- the task has a winner, which made these bytes for these edges
abbrev pub after_win : ScheduleState → TaskId → List (EdgeId × ℕ) → ScheduleState
after_win s t made = with_result s t true made

-- the task has no winner any more
abbrev pub after_withdraw : ScheduleState → TaskId → ScheduleState
after_withdraw s t = with_result s t false []
