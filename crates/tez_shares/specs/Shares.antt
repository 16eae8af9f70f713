-- What each task of a vertex makes, under a configuration.
--     Config                     of a vertex, its tasks and how many partitions each takes
--     share_of_lines rs n t      the lines of a source that task t of n gets
--     IsAllowed p c              a configuration that vertex managers may come to
--     task_value job c v t       the bag that task t of v makes
--     task_bad job c v t         some record that it reads is bad
--     SharesMakeWhole job c v    the tasks together make what the vertex makes, and some task is bad exactly where the vertex is
use Rattle.std.specs.Prelude.{◌≡◌, ◌↔◌, ℕ, ◌+◌, ◌*◌, ◌/◌, ◌<◌, ◌≤◌, Bool, false, ◌&&◌, ◌==◌, nat_lt, nat_le, List, [], length, IsTrue, slice_get, slice_range, is_some}
use Rattle.std.specs.List.{filter, flat_map, list_any, range_with_len}
use Rattle.std.specs.Option.{option_map_or}
use Rattle.tez_record.specs.Bag.{sort}
use Rattle.tez_plan.specs.declared.parts.VertexSpec.{VertexSpec}
use Rattle.tez_plan.specs.declared.parts.EdgeSpec.{EdgeSpec}
use Rattle.tez_plan.specs.declared.parts.Movement.{Movement}
use Rattle.tez_plan.specs.declared.parts.Movement.TheVariants.{OneToOne, Broadcast, ScatterGather}
use Rattle.tez_plan.specs.Dag.{Dag, from, tasks_of, edges_into, is_one_to_one, is_scatter_gather}
use Rattle.tez_plan.specs.Order.{by_sources}
use Rattle.tez_partition.specs.Partition.{partition}
use Rattle.tez_shrink.specs.Formulas.{tasks_of as tasks_for, first_of, end_of}
use Rattle.tez_meaning.specs.Jobs.{Job}
use Rattle.tez_values.specs.Heads.{HeadInputs}
use Rattle.tez_values.specs.Program.{output, is_bad}
use Rattle.tez_meaning.specs.Value.{inputs, lines_of, value, bad}

pub record Config : Type 0 where
  pub tasks : ℕ
  pub base : ℕ

abbrev pub has_source : Dag → ℕ → Bool
has_source p v = option_map_or (λ s. is_some s.source) (slice_get p.vertices v) false

-- some edge of this kind leads from u to v
abbrev pub has_edge_from : (EdgeSpec → Bool) → Dag → ℕ → ℕ → Bool
has_edge_from kind p u v = list_any (λ e. kind e && (from p e == u)) (edges_into p v)

-- each vertex has tasks
abbrev pub HasTasks : Dag → Type 0
HasTasks p = (v : ℕ) → v < length p.vertices → 0 < tasks_of p v

-- Of a source vertex the tasks of the plan, of a one-to-one vertex those of its source, and of a shuffle vertex as many as take the partitions by runs of base.
pub record AllowsAt (p : Dag) (c : ℕ → Config) (v : ℕ) : Type 0 where
  pub source : IsTrue (has_source p v) → ((c v).tasks ≡ tasks_of p v) × ((c v).base ≡ 1)
  pub one_to_one : (u : ℕ) → IsTrue (has_edge_from is_one_to_one p u v) → ((c v).tasks ≡ (c u).tasks) × ((c v).base ≡ 1)
  pub shuffle : (u : ℕ) → IsTrue (has_edge_from is_scatter_gather p u v) → (1 ≤ (c v).base) × ((c v).base ≤ tasks_of p v) × ((c v).tasks ≡ tasks_for (tasks_of p v) (c v).base)

pub record IsAllowed (p : Dag) (c : ℕ → Config) : Type 0 where
  pub at : (v : ℕ) → v < length p.vertices → AllowsAt p c v

-- the first of n lines that task t gets, rounded down; its last line is before the first of the next task
abbrev pub first_line : ℕ → ℕ → ℕ → ℕ
first_line n tasks t = t * n / tasks

abbrev pub share_of_lines : List (List ℕ) → ℕ → ℕ → List (List ℕ)
share_of_lines rs tasks t = slice_range rs (first_line (length rs) tasks t) (first_line (length rs) tasks (t + 1))

-- r is in one of the partitions of task t
abbrev pub in_share : List ℕ → ℕ → ℕ → ℕ → List ℕ → Bool
in_share cols parts base t r = nat_le (first_of base t) (partition cols parts r) && nat_lt (partition cols parts r) (end_of parts base t)

-- what task t of v gets from u, where u makes `whole` and its tasks make `made`
abbrev pub share_over : Movement → ℕ → Config → ℕ → List (List ℕ) → (ℕ → List (List ℕ)) → List (List ℕ)
share_over OneToOne parts c t whole made = made t
share_over Broadcast parts c t whole made = whole
share_over (ScatterGather cols) parts c t whole made = filter (in_share cols parts c.base t) whole

abbrev pub share_of_edge : Job → (ℕ → Config) → ℕ → (ℕ → ℕ → List (List ℕ)) → ℕ → EdgeSpec → List (List ℕ)
share_of_edge job c v made t e = share_over e.movement (tasks_of job.plan v) (c v) t (value job (from job.plan e)) (made (from job.plan e))

abbrev pub task_inputs : Job → (ℕ → Config) → ℕ → VertexSpec → (ℕ → ℕ → List (List ℕ)) → ℕ → HeadInputs
task_inputs job c v s made t = inputs job.plan v s (λ name. share_of_lines (lines_of job name) (c v).tasks t) (share_of_edge job c v made t)

abbrev pub task_value_from : Job → (ℕ → Config) → ℕ → (ℕ → ℕ → List (List ℕ)) → ℕ → List (List ℕ)
task_value_from job c v made t = option_map_or (λ s. output s.head s.steps (task_inputs job c v s made t)) (slice_get job.plan.vertices v) []

unfoldable pub task_value : Job → (ℕ → Config) → ℕ → ℕ → List (List ℕ)
task_value job c = by_sources (λ t. []) (task_value_from job c) (length job.plan.vertices)

abbrev pub task_bad : Job → (ℕ → Config) → ℕ → ℕ → Bool
task_bad job c v t = option_map_or (λ s. is_bad s.head s.steps (task_inputs job c v s (task_value job c) t)) (slice_get job.plan.vertices v) false

abbrev pub tasks_in : (ℕ → Config) → ℕ → List ℕ
tasks_in c v = range_with_len 0 (c v).tasks

pub record SharesMakeWhole (job : Job) (c : ℕ → Config) (v : ℕ) : Type 0 where
  pub values : sort (flat_map (task_value job c v) (tasks_in c v)) ≡ value job v
  pub bads : IsTrue (list_any (task_bad job c v) (tasks_in c v)) ↔ IsTrue (bad job v)
