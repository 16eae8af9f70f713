-- What a task makes, from what the tasks of its vertex's sources make.
--     task_value-step      what a task makes is what its program makes of its shares
use Rattle.std.proofs.Common.{◌≡◌, ℕ, ◌<◌, [], length, ap, Option, Some, None, slice_get, refl}
use Rattle.std.specs.Option.{option_map_or}
use Rattle.tez_plan.specs.declared.parts.VertexSpec.{VertexSpec}
use Rattle.tez_plan.specs.Dag.{from, edges_into, tasks_of}
use Rattle.tez_plan.specs.Faults.{IsValid}
use Rattle.tez_plan.proofs.OrderLemmas.{all_map, LooksAtSources, by_sources-step}
use Rattle.tez_plan.proofs.RankLemmas.{ranked}
use Rattle.tez_meaning.specs.Jobs.{Job}
use Rattle.tez_meaning.specs.Value.{value, lines_of}
use Rattle.tez_meaning.proofs.ValueLemmas.{inputs-agree}
use Rattle.tez_values.specs.Program.{output}
use Rattle.tez_shares.specs.Shares.{Config, share_of_lines, share_over, share_of_edge, task_inputs, task_value_from, task_value}

at_spec : {X : Type 0} (f g : VertexSpec → X) (d : X) (o : Option VertexSpec) → ((s : VertexSpec) → f s ≡ g s) → option_map_or f o d ≡ option_map_or g o d
at_spec f g d None h = refl
at_spec f g d (Some s) h = h s

task_value_looks : (job : Job) (c : ℕ → Config) → LooksAtSources job.plan (task_value_from job c)
task_value_looks job c v f g all = λ i t. at_spec
    (λ s. output s.head s.steps (task_inputs job c v s f t)) (λ s. output s.head s.steps (task_inputs job c v s g t)) [] (slice_get job.plan.vertices v)
    (λ s. ap (output s.head s.steps) (inputs-agree job.plan v s (λ name. share_of_lines (lines_of job name) (c v).tasks t) (share_of_edge job c v f t) (share_of_edge job c v g t)
    (all_map (λ e. f (from job.plan e) ≡ g (from job.plan e)) (λ e. share_of_edge job c v f t e ≡ share_of_edge job c v g t e)
    (λ e h. ap (share_over e.movement (tasks_of job.plan v) (c v) t (value job (from job.plan e))) h) (edges_into job.plan v) all))) i

pub task_value-step : (job : Job) (c : ℕ → Config) (v : ℕ) → IsValid job.plan → v < length job.plan.vertices → task_value job c v ≡ task_value_from job c v (task_value job c)
unfolding task_value
task_value-step job c v valid inside =
    let r = ranked job.plan valid in
    by_sources-step (λ t. []) (task_value_from job c) job.plan (task_value_looks job c) r.rank_of r.falls (length job.plan.vertices) v (r.below v inside)
