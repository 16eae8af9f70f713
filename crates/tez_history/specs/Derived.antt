-- What follows from a history for a plan: the tasks, the inputs of attempts, and what the managers see and say.
use Rattle.std.specs.Prelude.{ℕ, ◌*◌, max, Bool, true, false, not, ◌&&◌, ◌==◌, nat_lt, if◌then◌else◌, List, [], ◌∷◌, map, length, Option, Some, None, is_some, is_none, unwrap_or, slice_get}
use Rattle.std.specs.List.{filter, list_any, list_all, filter_map, flat_map, sum_by, count_by}
use Rattle.std.specs.Option.{option_map_or}
use Rattle.tez_ids.specs.declared.TaskId.{TaskId}
use Rattle.tez_ids.specs.declared.AttemptId.{AttemptId}
use Rattle.tez_ids.specs.Same.{task, attempt, same_task}
use Rattle.tez_lists.specs.Numbers.{numbers_from}
use Rattle.tez_plan.specs.Dag.{Dag, from, to, edge, tasks_of as planned}
use Rattle.tez_plan.specs.Order.{depth}
use Rattle.tez_plan.specs.declared.parts.EdgeSpec.{EdgeSpec}
use Rattle.tez_plan.specs.declared.parts.Movement.{Movement}
use Rattle.tez_plan.specs.declared.parts.Movement.TheVariants.{OneToOne, Broadcast, ScatterGather}
use Rattle.tez_conf.specs.declared.values.ConfValues.{ConfValues}
use Rattle.tez_tables.specs.Table.{Table, one_to_one, broadcast, scatter_gather}
use Rattle.tez_vman.specs.declared.seen.Seen.{Seen}
use Rattle.tez_vman.specs.declared.seen.Config.{Config}
use Rattle.tez_vman.specs.Rules.{configures as configures_by, schedules, config as shape}
use Rattle.tez_events.specs.declared.Entry.{Entry}
use Rattle.tez_events.specs.declared.Entry.TheVariants.{Opened, Over, Stands, Carried, Kept, Configured, Queued, Placed, Fetched, ReadError, InputFailed, Ordered, Succeeded, Made, Failed, Killed, NodeLost, OutputLost, Rerun, Stopped, Committing, Ready, Asked, Settled, Published, CommitStarted, Finished, Purged}
use Rattle.tez_history.specs.Shape.{Edge, numbers_below, vertices, sinks, edges_to, primary_edges, has_edge_out, rule, places}
use Rattle.tez_history.specs.History.{Past, Stage, Unknown, InQueue, Waits, Runs, Ended, Location, Nowhere, On, InQuestion, config, live, stage, winner, epoch, attempts, made_bytes, is_fetched, is_scheduled, holder, location, recorded}

-- the tasks and base of a vertex: those configured, and before that those of the plan
abbrev pub shape_of : Dag → ℕ → Past → Config
shape_of g v past = unwrap_or (config v past) (shape (planned g v) 1)

abbrev pub task_count : Dag → ℕ → Past → ℕ
task_count g v past = (shape_of g v past).tasks

abbrev pub is_configured : ℕ → Past → Bool
is_configured v past = is_some (config v past)

-- the tasks of the configured vertices, in order
abbrev pub tasks_if : Option Config → ℕ → List TaskId
tasks_if None v = []
tasks_if (Some s) v = map (task v) (numbers_below s.tasks)

abbrev pub tasks : Dag → Past → List TaskId
tasks g past = flat_map (λ v. tasks_if (config v past) v) (vertices g)

-- a task of a configured vertex
abbrev pub is_task : Dag → Past → TaskId → Bool
is_task g past t = is_configured t.vertex.0 past && nat_lt t.index (task_count g t.vertex.0 past)

-- the live attempts, in order
abbrev pub live_attempts : Dag → Past → List AttemptId
live_attempts g past = filter_map (λ t. live t past) (tasks g past)

abbrev pub is_queued : Stage → Bool
is_queued InQueue = true
is_queued Unknown = false
is_queued (Waits p) = false
is_queued (Runs p) = false
is_queued Ended = false

abbrev pub is_waiting : Stage → Bool
is_waiting (Waits p) = true
is_waiting InQueue = false
is_waiting Unknown = false
is_waiting (Runs p) = false
is_waiting Ended = false

abbrev pub is_processing : Stage → Bool
is_processing (Runs p) = true
is_processing (Waits p) = false
is_processing InQueue = false
is_processing Unknown = false
is_processing Ended = false

abbrev pub queued_attempts : Dag → Past → List AttemptId
queued_attempts g past = filter (λ a. is_queued (stage a past)) (live_attempts g past)

abbrev pub waiting_attempts : Dag → Past → List AttemptId
waiting_attempts g past = filter (λ a. is_waiting (stage a past)) (live_attempts g past)

-- ---- the table of an edge, as the vertices at its ends are configured

abbrev pub table_by : Movement → ℕ → ℕ → ℕ → ℕ → Table
table_by OneToOne sources consumers parts base = one_to_one sources
table_by Broadcast sources consumers parts base = broadcast sources consumers
table_by (ScatterGather keys) sources consumers parts base = scatter_gather sources parts base

abbrev pub table_over : Dag → Past → EdgeSpec → Table
table_over g past e =
    table_by e.movement (task_count g (from g e) past) (task_count g (to g e) past) (planned g (to g e)) (shape_of g (to g e) past).base

-- how many inputs consumer task t has over an edge, none where there is no such task
abbrev pub input_count : Dag → Past → EdgeSpec → ℕ → ℕ
input_count g past e t = if nat_lt t (table_over g past e).consumers then (table_over g past e).inputs_of t else 0

-- the task behind input i of consumer task t
abbrev pub source_task : Dag → Past → EdgeSpec → ℕ → ℕ → TaskId
source_task g past e t i = task (from g e) ((table_over g past e).leads t i).0

-- an input of an attempt: the edge's number, the edge, and the input's number
abbrev pub Input : Type 0
Input = ℕ × EdgeSpec × ℕ

abbrev pub inputs : Dag → Past → AttemptId → List Input
inputs g past a = flat_map (λ e. map (λ i. (e.0, e.1, i)) (numbers_below (input_count g past e.1 a.task.index))) (edges_to g a.task.vertex.0)

abbrev pub source_of_input : Dag → Past → AttemptId → Input → TaskId
source_of_input g past a i = source_task g past i.1 a.task.index i.2

-- the winner behind an input, where its task has one
abbrev pub input_winner : Dag → Past → AttemptId → Input → Option AttemptId
input_winner g past a i = winner (source_of_input g past a i) past

abbrev pub has_fetched : Past → AttemptId → Input → Bool
has_fetched past a i = is_fetched a i.0 i.2 past

abbrev pub all_fetched : Dag → Past → AttemptId → Bool
all_fetched g past a = list_all (has_fetched past a) (inputs g past a)

-- the lines that tell the waiting attempts that a winner is gone
abbrev pub notices_of : Dag → Past → AttemptId → AttemptId → List Entry
notices_of g past lost a =
    map (λ i. InputFailed a (edge i.0) i.2 lost)
    (filter (λ i. same_task (source_of_input g past a i) lost.task && not (has_fetched past a i)) (inputs g past a))

abbrev pub notices : Dag → Past → AttemptId → List Entry
notices g past lost = flat_map (notices_of g past lost) (waiting_attempts g past)

-- the attempt of a task that is queued next
abbrev pub next_attempt : Past → TaskId → AttemptId
next_attempt past t = attempt (epoch past) t (attempts t past)

-- ---- progress

abbrev pub winners_of : ℕ → ℕ → Past → List AttemptId
winners_of v n past = filter_map (λ i. winner (task v i) past) (numbers_below n)

-- every task has a winner
abbrev pub is_vertex_done : Dag → ℕ → Past → Bool
is_vertex_done g v past = is_configured v past && (length (winners_of v (task_count g v past) past) == task_count g v past)

abbrev pub all_done : Dag → Past → Bool
all_done g past = list_all (λ v. is_vertex_done g v past) (vertices g)

-- over the primary edges: whether all source vertices are configured, their tasks, those with a winner, and the bytes of these
abbrev pub sources_configured : Dag → ℕ → Past → Bool
sources_configured g v past = list_all (λ e. is_configured (from g e.1) past) (primary_edges g v)

abbrev pub source_tasks : Dag → ℕ → Past → ℕ
source_tasks g v past = sum_by (λ e. task_count g (from g e.1) past) (primary_edges g v)

abbrev pub edge_winners : Dag → Past → Edge → List AttemptId
edge_winners g past e = winners_of (from g e.1) (task_count g (from g e.1) past) past

abbrev pub source_winners : Dag → ℕ → Past → ℕ
source_winners g v past = sum_by (λ e. length (edge_winners g past e)) (primary_edges g v)

abbrev pub source_bytes : Dag → ℕ → Past → ℕ
source_bytes g v past = sum_by (λ e. sum_by (λ a. made_bytes a e.0 past) (edge_winners g past e)) (primary_edges g v)

-- ---- the managers

-- what the manager of a vertex sees
abbrev pub seen : Dag → ℕ → Past → Seen
seen g v past =
    record {
      sources = source_tasks g v past;
      configured = sources_configured g v past;
      finished = source_winners g v past;
      bytes = source_bytes g v past;
      tasks = task_count g v past;
    }

-- what the manager configures v with now, if it does
abbrev pub configures : Dag → ConfValues → ℕ → Past → Option Config
configures g c v past = configures_by (rule g c v) (seen g v past)

-- how many tasks the manager has to schedule now
abbrev pub to_schedule : Dag → ConfValues → ℕ → Past → ℕ
to_schedule g c v past = if is_configured v past then schedules (rule g c v) (seen g v past) else 0

abbrev pub starts_epoch : Entry → Bool
starts_epoch (Opened _) = true
starts_epoch Over = true
starts_epoch (Stands v tasks base) = false
starts_epoch (Carried t n) = false
starts_epoch (Kept a) = false
starts_epoch (Configured v tasks base) = false
starts_epoch (Queued a) = false
starts_epoch (Placed a k p) = false
starts_epoch (Fetched a e i w) = false
starts_epoch (ReadError a e i w) = false
starts_epoch (InputFailed a e i w) = false
starts_epoch (Ordered a) = false
starts_epoch (Succeeded a) = false
starts_epoch (Made a e n) = false
starts_epoch (Failed a) = false
starts_epoch (Killed a cause) = false
starts_epoch (NodeLost slot l) = false
starts_epoch (OutputLost w) = false
starts_epoch (Rerun w) = false
starts_epoch (Stopped cause) = false
starts_epoch (Committing n) = false
starts_epoch (Ready v) = false
starts_epoch (Asked v) = false
starts_epoch (Settled v) = false
starts_epoch (Published v) = false
starts_epoch CommitStarted = false
starts_epoch Finished = false
starts_epoch Purged = false

-- the greatest number to schedule since the last open
abbrev pub greatest_to_schedule : Dag → ConfValues → ℕ → Past → ℕ
greatest_to_schedule g c v [] = 0
greatest_to_schedule g c v (e ∷ past) = max (to_schedule g c v (e ∷ past)) (if starts_epoch e then 0 else greatest_to_schedule g c v past)

-- the tasks of v that were kept or scheduled since the last open
abbrev pub scheduled_count : Dag → ℕ → Past → ℕ
scheduled_count g v past = count_by (λ i. is_scheduled (task v i) past) (numbers_below (task_count g v past))

-- ---- places and shelves

abbrev pub is_free : Past → ℕ → Bool
is_free past p = is_none (holder p past)

abbrev pub any_free : ConfValues → Past → Bool
any_free c past = list_any (is_free past) (numbers_below (places c))

abbrev pub is_stored : Location → Bool
is_stored (On slot) = true
is_stored Nowhere = false
is_stored (InQuestion slot) = false

abbrev pub is_on_slot : ℕ → Location → Bool
is_on_slot slot (On s) = s == slot
is_on_slot slot Nowhere = false
is_on_slot slot (InQuestion s) = false

-- whether the pieces of an attempt are on the shelf
abbrev pub is_on_shelf : Dag → ConfValues → Past → AttemptId → Bool
is_on_shelf g c past a = has_edge_out g a.task.vertex.0 && is_stored (location c a past)

-- the places of a node slot
abbrev pub places_on : ConfValues → ℕ → List ℕ
places_on c slot = numbers_from (slot * c.per_node) c.per_node

-- whether the pieces of an attempt are what a loss of the node takes from the consumers
abbrev pub is_on_node : Dag → ConfValues → Past → ℕ → AttemptId → Bool
is_on_node g c past slot a = has_edge_out g a.task.vertex.0 && is_on_slot slot (location c a past)

-- some queued attempt has a lesser depth
abbrev pub is_shallower_queued : Dag → Past → ℕ → Bool
is_shallower_queued g past d = list_any (λ a. nat_lt (depth g a.task.vertex.0) d) (queued_attempts g past)

-- ---- sinks

-- the sink that the journal records next, None once each is recorded
abbrev pub next_sink : Dag → Past → Option ℕ
next_sink g past = slice_get (sinks g) (recorded past)

abbrev pub is_next : Dag → Past → ℕ → Bool
is_next g past v = option_map_or (λ w. w == v) (next_sink g past) false
