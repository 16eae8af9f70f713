-- The rules of the vertex managers.
--     configures r seen      what a vertex is configured with, if it is to be
--     schedules r seen       how many of its tasks are to be scheduled
--     HasSources r seen      a vertex that does not read a source has source tasks, once their vertices are configured
--     StartsAll r seen       with all source tasks finished it is configured and starts all its tasks
use Rattle.std.specs.Prelude.{◌≡◌, ℕ, ◌*◌, ◌≤◌, ◌&&◌, Bool, true, ⊤, nat_le, if◌then◌else◌, Option, Some, None, is_some}
use Rattle.tez_shrink.specs.Formulas.{wanted, base_of, tasks_of, slow_start}
use Rattle.tez_vman.specs.declared.seen.Seen.{Seen}
use Rattle.tez_vman.specs.declared.seen.Config.{Config}

-- how a vertex that gathers partitions is configured and started; fractions are in thousandths
pub record Shuffling : Type 0 where
  pub parts : ℕ
  pub auto_parallel : Bool
  pub min_src : ℕ
  pub max_src : ℕ
  pub desired_bytes : ℕ
  pub min_tasks : ℕ

-- a vertex that reads a source, one that is fed one to one, and one that gathers
pub data Rule : Type 0 where
  AtOnce : (tasks : ℕ) → Rule
  AsSources : Rule
  Gathers : (shuffling : Shuffling) → Rule

abbrev pub config : ℕ → ℕ → Config
config tasks base = record { tasks = tasks; base = base }

-- ---- the tasks

-- the partitions for each task, where so many bytes are to come in
abbrev pub shrunk_base : Shuffling → Seen → ℕ
shrunk_base s seen = base_of s.parts (wanted seen.sources seen.finished seen.bytes s.desired_bytes s.min_tasks)

abbrev pub shrunk : Shuffling → Seen → Config
shrunk s seen = config (tasks_of s.parts (shrunk_base s seen)) (shrunk_base s seen)

-- some source task has finished, and so has the least fraction of them
abbrev pub has_enough : Shuffling → Seen → Bool
has_enough s seen = seen.configured && (nat_le 1 seen.finished && nat_le (s.min_src * seen.sources) (1000 * seen.finished))

abbrev pub configures : Rule → Seen → Option Config
configures (AtOnce tasks) seen = Some (config tasks 1)
configures AsSources seen = if seen.configured then Some (config seen.sources 1) else None
configures (Gathers s) seen =
    if s.auto_parallel then (if has_enough s seen then Some (shrunk s seen) else None) else Some (config s.parts 1)

-- ---- the start

abbrev pub schedules : Rule → Seen → ℕ
schedules (AtOnce tasks) seen = seen.tasks
schedules AsSources seen = seen.tasks
schedules (Gathers s) seen =
    if seen.configured then slow_start seen.finished seen.sources seen.tasks s.min_src s.max_src else 0

-- ---- what may be seen

abbrev pub HasSources : Rule → Seen → Type 0
HasSources (AtOnce tasks) seen = ⊤
HasSources AsSources seen = seen.configured ≡ true → 1 ≤ seen.sources
HasSources (Gathers s) seen = seen.configured ≡ true → 1 ≤ seen.sources

-- the fractions of a rule are fractions, the least one first
abbrev pub HasFractions : Rule → Type 0
HasFractions (AtOnce tasks) = ⊤
HasFractions AsSources = ⊤
HasFractions (Gathers s) = (s.min_src ≤ s.max_src) × (s.max_src ≤ 1000)

abbrev pub StartsAll : Rule → Seen → Type 0
StartsAll r seen = HasFractions r → HasSources r seen → seen.configured ≡ true → seen.finished ≡ seen.sources
    → (is_some (configures r seen) ≡ true) × (schedules r seen ≡ seen.tasks)
