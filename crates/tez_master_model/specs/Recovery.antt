-- What a new master makes of what it finds: of the standing that a journal tells, and of the winners that it keeps.
--     KeptState                  a winner that is kept: where its pieces lie, and the bytes that it made, by edge
--     stood m x                  the tasks and base of a vertex stand again
--     carried m x                the failures of a task are counted
--     kept m k                   a winner is kept
--     going_on m s ks            all that stands, then the failures, and then the winners
--     committed m n              a commit that had started is taken up, with n sinks recorded
--     found m s ks               what it makes of how far the job has come: where it is finished it is over, and nothing is kept
--     AllCanStand m xs           the vertices can have their tasks, each when its turn comes
--     AllCanBeCarried m xs       each task had no attempt, and may fail more often than this
--     AllCanBeKept m ks          each winner's task is there, had no attempt, and may fail more often
--     CanGoOn m s ks, CanBeFound m s ks
use Rattle.std.specs.Prelude.{◌≡◌, ℕ, ⊤, true, IfSome, List, [], ◌∷◌, Option}
use Rattle.std.specs.List.{fold}
use Rattle.std.specs.Option.{option_map}
use Rattle.tez_ids.specs.declared.NodeId.{NodeId}
use Rattle.tez_ids.specs.declared.VertexId.{VertexId}
use Rattle.tez_ids.specs.declared.EdgeId.{EdgeId}
use Rattle.tez_ids.specs.declared.TaskId.{TaskId}
use Rattle.tez_ids.specs.declared.AttemptId.{AttemptId}
use Rattle.tez_vman.specs.declared.seen.Config.{Config}
use Rattle.tez_vman.specs.Rules.{config as shape}
use Rattle.tez_standing.specs.declared.state.Phase.{Phase}
use Rattle.tez_standing.specs.declared.state.Phase.TheVariants.{Running, CommitStarted, Finished}
use Rattle.tez_standing.specs.declared.state.Standing.{Standing}
use Rattle.tez_task.specs.TaskState.{TaskState}
use Rattle.tez_vertex.specs.Table.{IsFresh}
use Rattle.tez_master_model.specs.Vertices.{carry_one, keep_one}
use Rattle.tez_router.specs.Table.{after_announce}
use Rattle.tez_router.specs.Configure.{CanConfigure}
use Rattle.tez_schedule.specs.Table.{can_configure, is_task, after_schedule, after_win}
use Rattle.tez_master_model.specs.State.{MasterState}
use Rattle.tez_master_model.specs.Read.{task_in}
use Rattle.tez_master_model.specs.Settled.{with_config, with_location}

-- no node where its pieces are lost, or where it made none
pub record KeptState : Type 0 where
  pub attempt : AttemptId
  pub node : Option NodeId
  pub made : List (EdgeId × ℕ)

-- ---- one thing that is found

abbrev pub config_in : VertexId × ℕ × ℕ → Config
config_in x = shape x.1 x.2

abbrev pub stood : MasterState → VertexId × ℕ × ℕ → MasterState
stood m x = with_config m x.0.0 (config_in x)

abbrev pub carried : MasterState → TaskId × ℕ → MasterState
carried m x = record m { vertices = carry_one m.vertices x }

abbrev pub slot_kept : KeptState → Option ℕ
slot_kept k = option_map (λ n. n.slot) k.node

abbrev pub kept : MasterState → KeptState → MasterState
kept m k =
    with_location
    (record m {
      vertices = keep_one m.vertices k.attempt;
      router = after_announce m.router k.attempt;
      schedule = after_win (after_schedule m.schedule k.attempt.task) k.attempt.task k.made;
    })
    k.attempt.task (slot_kept k)

-- ---- all that is found

abbrev pub all_stood : MasterState → List (VertexId × ℕ × ℕ) → MasterState
all_stood m xs = fold stood m xs

abbrev pub all_carried : MasterState → List (TaskId × ℕ) → MasterState
all_carried m xs = fold carried m xs

abbrev pub all_kept : MasterState → List KeptState → MasterState
all_kept m ks = fold kept m ks

abbrev pub going_on : MasterState → Standing → List KeptState → MasterState
going_on m s ks = all_kept (all_carried (all_stood m s.configured) s.failures) ks

abbrev pub committed : MasterState → ℕ → MasterState
committed m n = record m { recorded = n; committing = true; found = true }

-- by how far the job has come
abbrev pub found_by : Phase → MasterState → Standing → List KeptState → MasterState
found_by Running m s ks = going_on m s ks
found_by (CommitStarted sums n) m s ks = committed (going_on m s ks) n
found_by (Finished sums) m s ks = record m { finished = true }

abbrev pub found : MasterState → Standing → List KeptState → MasterState
found m s ks = found_by s.phase m s ks

-- ---- what can be found: each thing may be told to the parts when its turn comes

pub record CanStand (m : MasterState) (x : VertexId × ℕ × ℕ) : Type 0 where
  pub edges : CanConfigure m.router x.0.0 (config_in x)
  pub tasks : can_configure m.schedule x.0.0 (config_in x) ≡ true

abbrev pub AllCanStand : MasterState → List (VertexId × ℕ × ℕ) → Type 0
AllCanStand m [] = ⊤
AllCanStand m (x ∷ xs) = CanStand m x × AllCanStand (stood m x) xs

abbrev pub CanBeCarried : MasterState → TaskId × ℕ → Type 0
CanBeCarried m x = IfSome (task_in m x.0) (IsFresh x.1)

abbrev pub AllCanBeCarried : MasterState → List (TaskId × ℕ) → Type 0
AllCanBeCarried m [] = ⊤
AllCanBeCarried m (x ∷ xs) = CanBeCarried m x × AllCanBeCarried (carried m x) xs

-- with the failures that it has
abbrev pub IsNew : TaskState → Type 0
IsNew t = IsFresh t.failures t

pub record CanBeKept (m : MasterState) (k : KeptState) : Type 0 where
  pub task : is_task m.schedule k.attempt.task ≡ true
  pub fresh : IfSome (task_in m k.attempt.task) IsNew

abbrev pub AllCanBeKept : MasterState → List KeptState → Type 0
AllCanBeKept m [] = ⊤
AllCanBeKept m (k ∷ ks) = CanBeKept m k × AllCanBeKept (kept m k) ks

pub record CanGoOn (m : MasterState) (s : Standing) (ks : List KeptState) : Type 0 where
  pub stands : AllCanStand m s.configured
  pub few : AllCanBeCarried (all_stood m s.configured) s.failures
  pub there : AllCanBeKept (all_carried (all_stood m s.configured) s.failures) ks

abbrev pub CanBeFoundAt : Phase → MasterState → Standing → List KeptState → Type 0
CanBeFoundAt Running m s ks = CanGoOn m s ks
CanBeFoundAt (CommitStarted sums n) m s ks = CanGoOn m s ks
CanBeFoundAt (Finished sums) m s ks = ⊤

abbrev pub CanBeFound : MasterState → Standing → List KeptState → Type 0
CanBeFound m s ks = CanBeFoundAt s.phase m s ks
