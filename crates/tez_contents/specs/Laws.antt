-- What attempts make is what their tasks are to make.
--     IsAllowedSoFar g configs      what is configured is as the managers may configure it
--     WereAllowed g past            so it was before each entry, but while configurations were found, which comes first after an open
--     KeptRight job past            each winner that was taken over had the value of its task
--     HasNone test past             no entry passes the test
--     task_makes job past t         what a task is to make, as the vertices are configured
--     WinnersAreRight job past      each winner made it
--     OrdersAreRight job past       so did each attempt that was sent to its container
--     FetchesAreRight job past      each input that was fetched is the piece of what its source task is to make
--     BadsAreRight job past         an attempt reads a bad record exactly where its task does
--     WinnersAreWhole job past      the winners of a vertex whose tasks all have one make together what the vertex makes
--     IsRight job past              all five
--     FindsRight job past h         what a new master finds is allowed, and the winners that it takes over made what their tasks are to make
--     AllFindRight job c r hs       so it is at each happening from this run on
--     BeginsAnew h                  a new master finds no configuration and no winner
use Rattle.std.specs.Prelude.{◌≡◌, ◌≤◌, ⊤, ℕ, Bool, true, false, IsTrue, List, [], ◌∷◌, Option, Some, slice_get}
use Rattle.std.specs.List.{flat_map}
use Rattle.tez_ids.specs.declared.TaskId.{TaskId}
use Rattle.tez_ids.specs.declared.AttemptId.{AttemptId}
use Rattle.tez_lists.specs.Numbers.{In}
use Rattle.tez_record.specs.Bag.{sort}
use Rattle.tez_plan.specs.declared.parts.EdgeSpec.{EdgeSpec}
use Rattle.tez_plan.specs.Dag.{Dag, is_one_to_one, is_scatter_gather, tasks_of as planned}
use Rattle.tez_shrink.specs.Formulas.{tasks_of as tasks_for}
use Rattle.tez_conf.specs.declared.values.ConfValues.{ConfValues}
use Rattle.tez_vman.specs.declared.seen.Config.{Config}
use Rattle.tez_meaning.specs.Jobs.{Job}
use Rattle.tez_meaning.specs.Value.{value}
use Rattle.tez_shares.specs.Shares.{has_source, has_edge_from, task_value, task_bad}
use Rattle.tez_events.specs.declared.Entry.{Entry}
use Rattle.tez_events.specs.declared.Entry.TheVariants.{Opened, Stands, Kept}
use Rattle.tez_history.specs.History.{Past, config, winner, is_fetched}
use Rattle.tez_history.specs.Derived.{task_count, source_task, winners_of, is_vertex_done}
use Rattle.tez_history.specs.Runs.{Run, Standing, Unfinished, AllDone, Committed, Begun, Happening, Event, Report, Answer, Stop, Start, happens}
use Rattle.tez_progress.specs.Laws.{found_at}
use Rattle.tez_contents.specs.Contents.{Records, config_by, configurations, piece_for, made, copied, met_bad, is_ordered}

-- ---- configurations

-- Of a source vertex the tasks of the plan, of a one-to-one vertex those of its source, which is configured too, and of a shuffle vertex as many as take the partitions by runs of base.
pub record IsAllowedSoFar (g : Dag) (configs : ℕ → Option Config) : Type 0 where
  pub source : (v : ℕ) (s : Config) → configs v ≡ Some s → IsTrue (has_source g v) → (s.tasks ≡ planned g v) × (s.base ≡ 1)
  pub one_to_one : (v u : ℕ) (s : Config) → configs v ≡ Some s → IsTrue (has_edge_from is_one_to_one g u v) → (d : Config) × (configs u ≡ Some d) × (s.tasks ≡ d.tasks) × (s.base ≡ 1)
  pub shuffle : (v u : ℕ) (s : Config) → configs v ≡ Some s → IsTrue (has_edge_from is_scatter_gather g u v) → (1 ≤ s.base) × (s.base ≤ planned g v) × (s.tasks ≡ tasks_for (planned g v) s.base)

abbrev pub IsAllowedNow : Dag → Past → Type 0
IsAllowedNow g past = IsAllowedSoFar g (λ v. config v past)

-- nothing but configurations that were found came since the last open
abbrev pub is_opening : Past → Bool
is_opening [] = false
is_opening (Opened _ ∷ past) = true
is_opening (Stands v tasks base ∷ past) = is_opening past
is_opening (_ ∷ past) = false

-- configurations that were found stand in any order, and are allowed together
abbrev pub WasAllowed : Dag → Past → Entry → Type 0
WasAllowed g past (Stands v tasks base) = is_opening past ≡ true
WasAllowed g past _ = IsAllowedNow g past

abbrev pub WereAllowed : Dag → Past → Type 0
WereAllowed g [] = ⊤
WereAllowed g (e ∷ past) = WasAllowed g past e × WereAllowed g past

-- ---- values

abbrev pub task_makes : Job → Past → TaskId → Records
task_makes job past t = task_value job (configurations job.plan past) t.vertex.0 t.index

abbrev pub IsKeptRight : Job → Past → Entry → Type 0
IsKeptRight job past (Kept a) = made job a past ≡ task_makes job past a.task
IsKeptRight job past _ = ⊤

abbrev pub KeptRight : Job → Past → Type 0
KeptRight job [] = ⊤
KeptRight job (e ∷ past) = IsKeptRight job past e × KeptRight job past

abbrev pub is_kept : Entry → Bool
is_kept (Kept a) = true
is_kept _ = false

abbrev pub HasNone : (Entry → Bool) → Past → Type 0
HasNone test [] = ⊤
HasNone test (e ∷ past) = (test e ≡ false) × HasNone test past

abbrev pub WinnersAreRight : Job → Past → Type 0
WinnersAreRight job past = (t : TaskId) (w : AttemptId) → winner t past ≡ Some w → made job w past ≡ task_makes job past t

abbrev pub OrdersAreRight : Job → Past → Type 0
OrdersAreRight job past = (a : AttemptId) → is_ordered a past ≡ true → made job a past ≡ task_makes job past a.task

abbrev pub FetchesAreRight : Job → Past → Type 0
FetchesAreRight job past =
    (a : AttemptId) (n i : ℕ) (e : EdgeSpec) → slice_get job.plan.edges n ≡ Some e → is_fetched a n i past ≡ true
    → copied job a n i past ≡ piece_for job.plan past e a.task.index i (task_makes job past (source_task job.plan past e a.task.index i))

abbrev pub BadsAreRight : Job → Past → Type 0
BadsAreRight job past =
    (a : AttemptId) → is_ordered a past ≡ true → met_bad job a past ≡ task_bad job (configurations job.plan past) a.task.vertex.0 a.task.index

abbrev pub WinnersAreWhole : Job → Past → Type 0
WinnersAreWhole job past =
    (v : ℕ) → is_vertex_done job.plan v past ≡ true
    → sort (flat_map (λ w. made job w past) (winners_of v (task_count job.plan v past) past)) ≡ value job v

pub record IsRight (job : Job) (past : Past) : Type 0 where
  pub winners : WinnersAreRight job past
  pub orders : OrdersAreRight job past
  pub fetches : FetchesAreRight job past
  pub bads : BadsAreRight job past
  pub whole : WinnersAreWhole job past

-- ---- runs

abbrev pub StandsRight : Job → Past → Standing → Type 0
StandsRight job past s =
    IsAllowedSoFar job.plan (found_at s.configured)
    × ((a : AttemptId) → In a s.kept → made job a past ≡ task_value job (config_by job.plan (found_at s.configured)) a.task.vertex.0 a.task.index)

abbrev pub FindsRight : Job → Past → Happening → Type 0
FindsRight job past (Start (Unfinished s)) = StandsRight job past s
FindsRight job past (Start (Committed s n)) = StandsRight job past s
FindsRight job past (Start AllDone) = ⊤
FindsRight job past (Start Begun) = ⊤
FindsRight job past (Event e) = ⊤
FindsRight job past (Report a bytes) = ⊤
FindsRight job past (Answer v there) = ⊤
FindsRight job past (Stop cause) = ⊤

abbrev pub AllFindRight : Job → ConfValues → Run → List Happening → Type 0
AllFindRight job c r [] = ⊤
AllFindRight job c r (h ∷ hs) = FindsRight job r.past h × AllFindRight job c (happens job.plan c r h) hs

abbrev pub BeginsAnew : Happening → Type 0
BeginsAnew (Start (Unfinished s)) = (s.configured ≡ []) × (s.kept ≡ [])
BeginsAnew (Start (Committed s n)) = (s.configured ≡ []) × (s.kept ≡ [])
BeginsAnew (Start AllDone) = ⊤
BeginsAnew (Start Begun) = ⊤
BeginsAnew (Event e) = ⊤
BeginsAnew (Report a bytes) = ⊤
BeginsAnew (Answer v there) = ⊤
BeginsAnew (Stop cause) = ⊤
