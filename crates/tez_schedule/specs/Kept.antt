-- What the types of a schedule keep.
--     IsVertex x open      what the schedule of a vertex keeps, with the set of its open tasks
--     IsKept s             what a schedule keeps
use Rattle.std.specs.Prelude.{◌≡◌, ◌≢◌, ℕ, ◌<◌, ◌≤◌, ◌^◌, ⊤, Bool, true, List, [], map, length, slice_get, IfSome}
use Rattle.tez_plan.specs.Ranges.{most_tasks}
use Rattle.std.specs.List.{All, sum_by}
use Rattle.std.specs.Option.{option_map_or}
use Rattle.tez_lists.specs.Numbers.{numbers_from}
use Rattle.tez_vman.specs.declared.seen.Config.{Config}
use Rattle.tez_vman.specs.Rules.{Rule, AtOnce, AsSources, Gathers}
use Rattle.tez_schedule.specs.declared.input.Input.{Input}
use Rattle.tez_schedule.specs.State.{ScheduleState, VertexState}
use Rattle.tez_schedule.specs.Table.{flag, is_open, tasks_by}

-- the bytes by task, each in 64 bits, with their sum
pub record AddsUp (total : ℕ) (made : List ℕ) : Type 0 where
  pub sum : total ≡ sum_by (λ n. n) made
  pub few : length made ≤ most_tasks
  pub narrow : All (λ n. n < 2 ^ 64) made

-- a vertex that reads no source has an input
abbrev pub HasInput : Rule → List Input → Type 0
HasInput (AtOnce tasks) inputs = ⊤
HasInput AsSources inputs = inputs ≢ []
HasInput (Gathers s) inputs = inputs ≢ []

-- a configuration that a vertex with so many planned tasks can have
abbrev pub Fits : ℕ → Config → Type 0
Fits planned c = (1 ≤ c.tasks) × (c.tasks ≤ planned)

pub record IsVertex (x : VertexState) (open_tasks : List Bool) : Type 0 where
  pub some : 1 ≤ x.planned
  pub few : x.planned ≤ most_tasks
  pub scheduled_sized : length x.scheduled ≡ x.planned
  pub fed_sized : length x.fed ≡ x.planned
  pub won_sized : length x.won ≡ x.planned
  pub opened : open_tasks ≡ map (is_open x) (numbers_from 0 x.planned)
  pub fits : IfSome x.config (Fits x.planned)
  pub won_there : (i : ℕ) → flag x.won i ≡ true → i < tasks_by x.config
  pub few_inputs : length x.inputs ≤ 256
  pub input : HasInput x.rule x.inputs

-- ---- what never changes: how the manager of a vertex goes, what feeds it, and its tasks in the plan
pub record Layout : Type 0 where
  pub rule : Rule
  pub inputs : List Input
  pub planned : ℕ

abbrev pub layout : VertexState → Layout
layout x = record { rule = x.rule; inputs = x.inputs; planned = x.planned }

abbrev pub planned_at : List Layout → ℕ → ℕ
planned_at ls v = option_map_or (λ l. l.planned) (slice_get ls v) 0

-- the tasks that are planned for the source vertices of a vertex
abbrev pub planned_sources : List Layout → Layout → ℕ
planned_sources ls l = sum_by (λ f. planned_at ls f.source.0) l.inputs

-- a rule that never gives more tasks than planned, where there are so many source tasks at most
abbrev pub GivesFew : Rule → ℕ → ℕ → Type 0
GivesFew (AtOnce tasks) planned sources = tasks ≡ planned
GivesFew AsSources planned sources = sources ≤ planned
GivesFew (Gathers s) planned sources = s.parts ≡ planned

abbrev pub IsLaidOut : List Layout → Layout → Type 0
IsLaidOut ls l = GivesFew l.rule l.planned (planned_sources ls l)

abbrev pub AreLaidOut : List Layout → Type 0
AreLaidOut ls = (v : ℕ) → IfSome (slice_get ls v) (IsLaidOut ls)

pub record IsKept (s : ScheduleState) : Type 0 where
  pub few_vertices : length s.vertices ≤ 64
  pub few_edges : length s.edges ≤ 256
  pub sized : length s.greatest ≡ length s.vertices
  pub laid_out : AreLaidOut (map layout s.vertices)
