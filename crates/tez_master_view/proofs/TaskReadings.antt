-- What a master tells of tasks and attempts is what the history says.
use Rattle.std.specs.Prelude.{◌≡◌, ◌⊎◌, ℕ, ◌≤◌, ◌<◌, Bool, true, false, ◌&&◌, nat_lt, List, [], ◌∷◌, ◌++◌, map, length, Option, Some, None, is_some, unwrap_or, option_and_then, if◌then◌else◌, refl}
use Rattle.std.specs.List.{filter, filter_map, flat_map, cons_option}
use Rattle.std.specs.Option.{option_map, option_map_or}
use Rattle.std.proofs.Common.{ap, sym, ◌∙◌, arith, inl, inr, true≢false}
use Rattle.std.proofs.lemmas.Bool.{cases_lt}
use Rattle.std.proofs.lemmas.Bool.Decides.{nat_tests}
use Rattle.tez_ids.specs.declared.TaskId.{TaskId}
use Rattle.tez_ids.specs.declared.AttemptId.{AttemptId}
use Rattle.tez_ids.specs.Same.{task}
use Rattle.tez_lists.proofs.Flat.{flat-append, flat_map-map, flat_same}
use Rattle.tez_plan.specs.Dag.{Dag, tasks_of as planned}
use Rattle.tez_conf.specs.declared.values.ConfValues.{ConfValues}
use Rattle.tez_vman.specs.declared.seen.Config.{Config}
use Rattle.tez_vman.specs.Rules.{config as shape}
use Rattle.tez_task.specs.declared.Live.{Live}
use Rattle.tez_task.specs.Table.{state_of, next_of}
use Rattle.tez_vertex.specs.Table.{task_of}
use Rattle.tez_history.specs.Shape.{numbers_below, vertices}
use Rattle.tez_history.specs.History.{Past, Stage, Unknown, InQueue, Waits, Runs, Ended, epoch, stage, live, winner, config}
use Rattle.tez_history.specs.Derived.{is_task, is_configured, tasks_if, queued_attempts, next_attempt, tasks, is_queued as is_queued_at, is_waiting, is_processing}
use Rattle.tez_history.specs.Follows.{IsMade, IsAlive}
use Rattle.tez_laws.proofs.Same.{same_attempt-refl}
use Rattle.tez_laws.proofs.StepLaw.{both, below}
use Rattle.tez_laws.proofs.Ranges.{configured_is_vertex}
use Rattle.tez_vertex_view.specs.View.{task_view, vertex_view, tasks_in, machine_at, come}
use Rattle.tez_master_model.proofs.Numbers.{get_above}
use Rattle.tez_vertex_view.proofs.Answering.{read_vertex, read_task}
use Rattle.tez_vertex_view.proofs.Telling.{read_state, read_winners, alive_there, winner_there}
use Rattle.tez_master_model.specs.Read.{task_in, state_in, winner_in, next_in, is_in_queue, is_at_place, is_at_work, is_queued, waits, processes, queued_of, queued_in, winners_in}
use Rattle.tez_master_view.specs.View.{master_view}

-- ---- a task

pub task_read : (g : Dag) (c : ConfValues) (past : Past) (t : TaskId) → IsMade g c past → is_task g past t ≡ true → task_in (master_view g c past) t ≡ Some (task_view c t past)
task_read g c past t m is =
    let k = both {x = is_configured t.vertex.0 past} is in
    ap (option_and_then (λ x. task_of x t.index)) (read_vertex g c past t.vertex.0 (below t.vertex.0 (length g.vertices) (configured_is_vertex g c past m t.vertex.0 k.0)))
    ∙ read_task g c past t.vertex.0 t.index k.0 (below t.index _ k.1)

not_below : (a b : ℕ) → nat_lt a b ≡ false → b ≤ a
not_below a b h = grind (arith, nat_tests)

none_there : (i : ℕ) (o : Option Config) (plan : Config) → (is_some o && nat_lt i (unwrap_or o plan).tasks) ≡ false → tasks_in o ≤ i
none_there i None plan h = omega arith
none_there i (Some s) plan h = not_below i s.tasks h

pub no_task_read : (g : Dag) (c : ConfValues) (past : Past) (t : TaskId) → is_task g past t ≡ false → task_in (master_view g c past) t ≡ None
no_task_read g c past t is = by (cases_lt t.vertex.0 (length g.vertices)) where
  by : (t.vertex.0 < length g.vertices) ⊎ (length g.vertices ≤ t.vertex.0) → task_in (master_view g c past) t ≡ None
  by (inl l) =
      ap (option_and_then (λ x. task_of x t.index)) (read_vertex g c past t.vertex.0 l)
      ∙ get_above (λ i. task_view c (task t.vertex.0 i) past) (tasks_in (config t.vertex.0 past)) t.index (none_there t.index (config t.vertex.0 past) (shape (planned g t.vertex.0) 1) is)
  by (inr l) = ap (option_and_then (λ x. task_of x t.index)) (get_above (λ v. vertex_view c v past) (length g.vertices) t.vertex.0 l)

-- ---- how far an attempt has come

come_none : (s : Stage) → (IsAlive s → ⊥) → come s ≡ None
come_none Unknown h = refl
come_none InQueue h = absurd (h tt)
come_none (Waits p) h = absurd (h tt)
come_none (Runs p) h = absurd (h tt)
come_none Ended h = refl

pub state_read : (g : Dag) (c : ConfValues) (past : Past) (a : AttemptId) → IsMade g c past → state_in (master_view g c past) a ≡ come (stage a past)
state_read g c past a m = by (is_task g past a.task) refl where
  by : (b : Bool) → is_task g past a.task ≡ b → state_in (master_view g c past) a ≡ come (stage a past)
  by true is = ap (option_and_then (λ t. state_of t.live a)) (task_read g c past a.task m is) ∙ read_state g c past a m
  by false is =
      ap (option_and_then (λ t. state_of t.live a)) (no_task_read g c past a.task is) ∙ sym (come_none (stage a past) (λ alive. true≢false (sym (alive_there g c past a m alive) ∙ is)))

queued_come : (s : Stage) → is_in_queue (come s) ≡ is_queued_at s
queued_come Unknown = refl
queued_come InQueue = refl
queued_come (Waits p) = refl
queued_come (Runs p) = refl
queued_come Ended = refl

waits_come : (s : Stage) → is_at_place (come s) ≡ is_waiting s
waits_come Unknown = refl
waits_come InQueue = refl
waits_come (Waits p) = refl
waits_come (Runs p) = refl
waits_come Ended = refl

processes_come : (s : Stage) → is_at_work (come s) ≡ is_processing s
processes_come Unknown = refl
processes_come InQueue = refl
processes_come (Waits p) = refl
processes_come (Runs p) = refl
processes_come Ended = refl

pub queued_read : (g : Dag) (c : ConfValues) (past : Past) (a : AttemptId) → IsMade g c past → is_queued (master_view g c past) a ≡ is_queued_at (stage a past)
queued_read g c past a m = ap is_in_queue (state_read g c past a m) ∙ queued_come (stage a past)

pub waits_read : (g : Dag) (c : ConfValues) (past : Past) (a : AttemptId) → IsMade g c past → waits (master_view g c past) a ≡ is_waiting (stage a past)
waits_read g c past a m = ap is_at_place (state_read g c past a m) ∙ waits_come (stage a past)

pub processes_read : (g : Dag) (c : ConfValues) (past : Past) (a : AttemptId) → IsMade g c past → processes (master_view g c past) a ≡ is_processing (stage a past)
processes_read g c past a m = ap is_at_work (state_read g c past a m) ∙ processes_come (stage a past)

-- ---- winners, and the next attempt of a task

pub winner_read : (g : Dag) (c : ConfValues) (past : Past) (t : TaskId) → IsMade g c past → winner_in (master_view g c past) t ≡ winner t past
winner_read g c past t m = by (is_task g past t) refl where
  none : (o : Option AttemptId) → is_task g past t ≡ false → winner t past ≡ o → None ≡ o
  none None is e = refl
  none (Some w) is e = absurd (true≢false (sym (winner_there g c past t w m e) ∙ is))

  by : (b : Bool) → is_task g past t ≡ b → winner_in (master_view g c past) t ≡ winner t past
  by true is = ap (option_and_then (λ x. x.winner)) (task_read g c past t m is)
  by false is = ap (option_and_then (λ x. x.winner)) (no_task_read g c past t is) ∙ none (winner t past) is refl

pub next_read : (g : Dag) (c : ConfValues) (past : Past) (t : TaskId) → IsMade g c past → is_task g past t ≡ true → next_in (master_view g c past) t ≡ next_attempt past t
next_read g c past t m is = ap (λ o. option_map_or next_of o (record { epoch = record { 0 = epoch past }; task = t; number = 0 })) (task_read g c past t m is)

pub winners_read : (g : Dag) (c : ConfValues) (past : Past) → winners_in (master_view g c past) ≡ filter_map (λ t. winner t past) (tasks g past)
winners_read g c past = read_winners g c past

-- ---- the queued attempts in order of tasks

abbrev alone : Option AttemptId → List AttemptId
alone o = option_map_or (λ a. a ∷ []) o []

machine_queued : (s : Stage) → is_in_queue (Some (machine_at s)) ≡ is_queued_at s
machine_queued Unknown = refl
machine_queued InQueue = refl
machine_queued (Waits p) = refl
machine_queued (Runs p) = refl
machine_queued Ended = refl

abbrev queued_alone : Past → Option AttemptId → List AttemptId
queued_alone past o = filter (λ a. is_queued_at (stage a past)) (alone o)

queued_one : (c : ConfValues) (past : Past) (t : TaskId) → queued_of (task_view c t past) ≡ queued_alone past (live t past)
queued_one c past t = by (live t past) where
  by : (o : Option AttemptId)
      → filter (λ a. is_in_queue (state_of (option_map (λ b. record { attempt = b; machine = machine_at (stage b past) }) o) a))
      (option_map_or (λ a. a ∷ []) (option_map (λ (l : Live). l.attempt) (option_map (λ b. record { attempt = b; machine = machine_at (stage b past) }) o)) [])
      ≡ queued_alone past o
  by None = refl
  by (Some a) =
      ap (λ b. if is_in_queue (if b then Some (machine_at (stage a past)) else None) then a ∷ [] else []) (same_attempt-refl a)
      ∙ ap (λ b. if b then a ∷ [] else []) (machine_queued (stage a past))

filter-cons : (p : AttemptId → Bool) (o : Option AttemptId) (ys : List AttemptId) → filter p (cons_option o ys) ≡ filter p (alone o) ++ filter p ys
filter-cons p None ys = refl
filter-cons p (Some a) ys = by (p a) where
  by : (b : Bool) → (if b then a ∷ filter p ys else filter p ys) ≡ (if b then a ∷ [] else []) ++ filter p ys
  by true = refl
  by false = refl

filter-each : (p : AttemptId → Bool) (f : TaskId → Option AttemptId) (ts : List TaskId) → filter p (filter_map f ts) ≡ flat_map (λ t. filter p (alone (f t))) ts
filter-each p f [] = refl
filter-each p f (t ∷ ts) = filter-cons p (f t) (filter_map f ts) ∙ ap (λ ys. filter p (alone (f t)) ++ ys) (filter-each p f ts)

row : (c : ConfValues) (past : Past) (v : ℕ) (o : Option Config)
    → flat_map queued_of (map (λ i. task_view c (task v i) past) (numbers_below (tasks_in o))) ≡ flat_map (λ t. queued_alone past (live t past)) (tasks_if o v)
row c past v None = refl
row c past v (Some s) =
    flat_map-map queued_of (λ i. task_view c (task v i) past) (numbers_below s.tasks)
    ∙ flat_same (λ i. queued_of (task_view c (task v i) past)) (λ i. queued_alone past (live (task v i) past)) (numbers_below s.tasks) (λ i _. queued_one c past (task v i))
    ∙ sym (flat_map-map (λ t. queued_alone past (live t past)) (task v) (numbers_below s.tasks))

rows : (c : ConfValues) (past : Past) (vs : List ℕ)
    → flat_map (λ x. flat_map queued_of x.tasks) (map (λ v. vertex_view c v past) vs) ≡ flat_map (λ t. queued_alone past (live t past)) (flat_map (λ v. tasks_if (config v past) v) vs)
rows c past [] = refl
rows c past (v ∷ vs) =
    ap (λ xs. xs ++ flat_map (λ x. flat_map queued_of x.tasks) (map (λ w. vertex_view c w past) vs)) (row c past v (config v past))
    ∙ ap (λ ys. flat_map (λ t. queued_alone past (live t past)) (tasks_if (config v past) v) ++ ys) (rows c past vs)
    ∙ sym (flat-append (λ t. queued_alone past (live t past)) (tasks_if (config v past) v) (flat_map (λ w. tasks_if (config w past) w) vs))

pub all_queued_read : (g : Dag) (c : ConfValues) (past : Past) → queued_in (master_view g c past) ≡ queued_attempts g past
all_queued_read g c past = rows c past (vertices g) ∙ sym (filter-each (λ a. is_queued_at (stage a past)) (λ t. live t past) (tasks g past))
