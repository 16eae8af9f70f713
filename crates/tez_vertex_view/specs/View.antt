-- What the vertices have to be after a history.
--     task_view c t past        a task: its live attempt, its winner, and its counts
--     vertex_view c v past      a vertex with its tasks, none before it is configured
--     vertices_view g c past    the vertices of the plan, by number
--     idle s                    a vertex once the master has stopped
--     live_in vs, winners_in vs  the live attempts and the winners in order of tasks
--     FailedAreTasks g past     while the master is up, only tasks of configured vertices have failed
use Rattle.std.specs.Prelude.{◌≡◌, ⊤, ℕ, Bool, true, false, nat_lt, nat_le, List, map, Option, Some, None}
use Rattle.std.specs.List.{list_any, fold, filter, filter_map, flat_map}
use Rattle.std.specs.Option.{option_map}
use Rattle.tez_ids.specs.declared.TaskId.{TaskId}
use Rattle.tez_ids.specs.declared.AttemptId.{AttemptId}
use Rattle.tez_ids.specs.Same.{task}
use Rattle.tez_lists.specs.Numbers.{In}
use Rattle.tez_plan.specs.Dag.{Dag, vertex}
use Rattle.tez_conf.specs.declared.values.ConfValues.{ConfValues}
use Rattle.tez_vman.specs.declared.seen.Config.{Config}
use Rattle.tez_attempt.specs.declared.AttemptState.{AttemptState}
use Rattle.tez_attempt.specs.declared.AttemptState.TheVariants.{Queued, Placed, Processing, Killed}
use Rattle.tez_task.specs.declared.Live.{Live}
use Rattle.tez_task.specs.declared.TaskEvent.TheVariants.{Kill, Lose}
use Rattle.tez_task.specs.TaskState.{TaskState}
use Rattle.tez_task.specs.Table.{live_of}
use Rattle.tez_vertex.specs.Vertex.{Vertex}
use Rattle.tez_history.specs.Shape.{numbers_below, vertices}
use Rattle.tez_history.specs.History.{Past, Stage, Unknown, InQueue, Waits, Runs, Ended, stage, live, winner, attempts, failures, epoch, config, holder, is_up, extend}
use Rattle.tez_history.specs.Derived.{is_configured, is_task, tasks, places_on, is_on_node}
use Rattle.tez_history.specs.Steps.{each_after}
use Rattle.tez_history.specs.Runs.{Standing, Found, Unfinished, AllDone, Committed, Begun, stands_if, opened_at}
use Rattle.tez_master_model.specs.Vertices.{new_vertices, take_in, configure_one, carry_one, keep_one}

-- how far an attempt has come, by where it stands; one that is not live has ended
abbrev pub machine_at : Stage → AttemptState
machine_at InQueue = Queued
machine_at (Waits p) = Placed
machine_at (Runs p) = Processing
machine_at Unknown = Killed
machine_at Ended = Killed

-- how far an attempt has come, where it is a live one
abbrev pub come : Stage → Option AttemptState
come InQueue = Some Queued
come (Waits p) = Some Placed
come (Runs p) = Some Processing
come Unknown = None
come Ended = None

abbrev pub live_view : TaskId → Past → Option Live
live_view t past = option_map (λ a. record { attempt = a; machine = machine_at (stage a past) }) (live t past)

-- a task is spent once it has failed as often as it may
abbrev pub task_view : ConfValues → TaskId → Past → TaskState
task_view c t past = record {
  task = t;
  epoch = epoch past;
  max_failed = c.max_failed;
  live = live_view t past;
  winner = winner t past;
  queued = attempts t past;
  failures = failures t past;
  spent = nat_le c.max_failed (failures t past);
}

abbrev pub tasks_in : Option Config → ℕ
tasks_in None = 0
tasks_in (Some s) = s.tasks

-- some task of it had an attempt queued
abbrev pub has_moved : ℕ → Past → Bool
has_moved v past = list_any (λ i. nat_lt 0 (attempts (task v i) past)) (numbers_below (tasks_in (config v past)))

abbrev pub vertex_view : ConfValues → ℕ → Past → Vertex
vertex_view c v past = record {
  vertex = vertex v;
  epoch = epoch past;
  max_failed = c.max_failed;
  configured = is_configured v past;
  tasks = map (λ i. task_view c (task v i) past) (numbers_below (tasks_in (config v past)));
  moved = has_moved v past;
}

abbrev pub vertices_view : Dag → ConfValues → Past → List Vertex
vertices_view g c past = map (λ v. vertex_view c v past) (vertices g)

-- after a stop no task has a live attempt or a winner; its counts stay
abbrev pub idle_task : TaskState → TaskState
idle_task t = record t { live = None; winner = None }

abbrev pub idle : Vertex → Vertex
idle s = record s { tasks = map idle_task s.tasks }

-- the live attempts and the winners of vertices, in order of their tasks
abbrev pub live_in : List Vertex → List AttemptId
live_in vs = flat_map (λ s. filter_map live_of s.tasks) vs

abbrev pub winners_in : List Vertex → List AttemptId
winners_in vs = flat_map (λ s. filter_map (λ t. t.winner) s.tasks) vs

-- attempts are killed, and winners withdrawn, one after another
abbrev pub kill_all : List Vertex → List AttemptId → List Vertex
kill_all vs killed = fold (λ ws a. take_in ws a.task (Kill a)) vs killed

abbrev pub lose_all : List Vertex → List AttemptId → List Vertex
lose_all vs lost = fold (λ ws a. take_in ws a.task (Lose a)) vs lost

-- who holds the places of a node, by place
abbrev pub held_there : ConfValues → Past → ℕ → List AttemptId
held_there c past slot = filter_map (λ p. holder p past) (places_on c slot)

-- the winners whose pieces are lost with a node, by task
abbrev pub lost_there : Dag → ConfValues → Past → ℕ → List AttemptId
lost_there g c past slot = filter (is_on_node g c past slot) (filter_map (λ t. winner t past) (tasks g past))

-- ---- what a new master is given: configurations, then failures, and then winners

abbrev pub restored_vertices : Dag → ConfValues → ℕ → Standing → List Vertex
restored_vertices g c epoch s = fold keep_one (fold carry_one (fold configure_one (new_vertices g c epoch) s.configured) s.failed) s.kept

-- ---- failures

abbrev pub FailedAreTasks : Dag → Past → Type 0
FailedAreTasks g past = is_up past ≡ true → (t : TaskId) → is_task g past t ≡ false → failures t past ≡ 0

-- the failures that a new master finds are at tasks of what stands configured
abbrev pub StandsFailed : Dag → Past → Standing → Type 0
StandsFailed g past s =
    let start = opened_at s past in
    (x : TaskId × ℕ) → In x s.failed → is_task g (extend start (each_after (stands_if g) start s.configured)) x.0 ≡ true

abbrev pub FailedStand : Dag → Past → Found → Type 0
FailedStand g past (Unfinished s) = StandsFailed g past s
FailedStand g past AllDone = ⊤
FailedStand g past (Committed s n) = StandsFailed g past s
FailedStand g past Begun = ⊤
