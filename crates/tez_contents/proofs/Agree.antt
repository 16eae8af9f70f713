-- What a task is to make depends on the configurations of its vertex and of those that feed it one to one, and on no others.
--     IsClosed p stands     with a vertex, those that feed it one to one
--     inputs_same           what the program of a task reads
--     value_same, bad_same  what a task makes, and whether it is bad
use Rattle.std.specs.Prelude.{◌≡◌, ℕ, zero, suc, ◌<◌, true, false, List, [], ◌∷◌, length, slice_get, Option, Some, None, refl}
use Rattle.std.specs.List.{AllByRecursion}
use Rattle.std.specs.Option.{option_map_or}
use Rattle.std.proofs.Common.{inl, inr, ap, sym, ◌∙◌, arith}
use Rattle.tez_lists.specs.Numbers.{In}
use Rattle.tez_plan.specs.declared.parts.VertexSpec.{VertexSpec}
use Rattle.tez_plan.specs.declared.parts.EdgeSpec.{EdgeSpec}
use Rattle.tez_plan.specs.declared.parts.Movement.{Movement}
use Rattle.tez_plan.specs.declared.parts.Movement.TheVariants.{OneToOne, Broadcast, ScatterGather}
use Rattle.tez_plan.specs.Dag.{Dag, from, edges_into, is_one_to_one, goes_one_to_one, tasks_of}
use Rattle.tez_plan.specs.Faults.{IsValid}
use Rattle.tez_plan.specs.Graph.{AreInside}
use Rattle.tez_plan.proofs.RankLemmas.{Ranked, ranked, inside_edges}
use Rattle.tez_values.specs.Program.{output, is_bad}
use Rattle.tez_meaning.specs.Jobs.{Job}
use Rattle.tez_meaning.specs.Value.{inputs, lines_of, value}
use Rattle.tez_meaning.proofs.ValueLemmas.{inputs-agree}
use Rattle.tez_shares.specs.Shares.{Config, share_of_lines, share_over, share_of_edge, task_inputs, task_value, task_bad}
use Rattle.tez_shares.proofs.TaskLemmas.{task_value-step}
use Rattle.tez_progress.proofs.Members.{at_each}
use Rattle.tez_contents.specs.Contents.{Records}
use Rattle.tez_contents.proofs.Edges.{into_edges}

abbrev pub IsClosed : Dag → (ℕ → Type 0) → Type 0
IsClosed p stands = (v : ℕ) (e : EdgeSpec) → stands v → In e (edges_into p v) → is_one_to_one e ≡ true → stands (from p e)

share_same : (m : Movement) (parts : ℕ) (c d : Config) (t : ℕ) (whole : Records) (f g : ℕ → Records) → c ≡ d → (goes_one_to_one m ≡ true → f ≡ g) → share_over m parts c t whole f ≡ share_over m parts d t whole g
share_same OneToOne parts c d t whole f g e one = ap (λ h. h t) (one refl)
share_same Broadcast parts c d t whole f g e one = refl
share_same (ScatterGather cols) parts c d t whole f g e one = ap (λ x. share_over (ScatterGather cols) parts x t whole f) e

pub each_in : {X : Type 0} (P : X → Type 0) (xs : List X) → ((x : X) → In x xs → P x) → AllByRecursion P xs
each_in P [] h = tt
each_in P (x ∷ xs) h = (h x (inl refl), each_in P xs (λ y m. h y (inr m)))

pub at_spec : {X : Type 0} (f g : VertexSpec → X) (d : X) (o : Option VertexSpec) → ((s : VertexSpec) → o ≡ Some s → f s ≡ g s) → option_map_or f o d ≡ option_map_or g o d
at_spec f g d None h = refl
at_spec f g d (Some s) h = h s refl

-- the vertex at the start of an edge
pub starts_inside : (p : Dag) (v : ℕ) (e : EdgeSpec) → IsValid p → In e (edges_into p v) → from p e < length p.vertices
starts_inside p v e valid h = (at_each (AreInside p) e p.edges (inside_edges p valid) (into_edges p v e h).0).0

module _ (job : Job) (c d : ℕ → Config) (stands : ℕ → Type 0) (valid : IsValid job.plan) (closed : IsClosed job.plan stands) (same : (v : ℕ) → stands v → c v ≡ d v) where
  reads_same : (v t : ℕ) (s : VertexSpec) (f g : ℕ → ℕ → Records) → stands v → ((e : EdgeSpec) → In e (edges_into job.plan v) → is_one_to_one e ≡ true → f (from job.plan e) ≡ g (from job.plan e))
      → task_inputs job c v s f t ≡ task_inputs job d v s g t
  reads_same v t s f g h one =
      ap (λ (x : Config). inputs job.plan v s (λ name. share_of_lines (lines_of job name) x.tasks t) (share_of_edge job c v f t)) (same v h)
      ∙ inputs-agree job.plan v s (λ name. share_of_lines (lines_of job name) (d v).tasks t) (share_of_edge job c v f t) (share_of_edge job d v g t)
      (each_in (λ e. share_of_edge job c v f t e ≡ share_of_edge job d v g t e) (edges_into job.plan v)
      (λ e m. share_same e.movement (tasks_of job.plan v) (c v) (d v) t (value job (from job.plan e)) (f (from job.plan e)) (g (from job.plan e)) (same v h) (one e m)))

  value_at : (v : ℕ) → v < length job.plan.vertices → stands v → ((e : EdgeSpec) → In e (edges_into job.plan v) → is_one_to_one e ≡ true → task_value job c (from job.plan e) ≡ task_value job d (from job.plan e))
      → task_value job c v ≡ task_value job d v
  value_at v inside h one =
      task_value-step job c v valid inside
      ∙ (λ i t. at_spec (λ s. output s.head s.steps (task_inputs job c v s (task_value job c) t)) (λ s. output s.head s.steps (task_inputs job d v s (task_value job d) t)) [] (slice_get job.plan.vertices v)
      (λ s k. ap (output s.head s.steps) (reads_same v t s (task_value job c) (task_value job d) h one)) i)
      ∙ sym (task_value-step job d v valid inside)

  by_rank : (r : Ranked job.plan) (n v : ℕ) → r.rank_of v < n → v < length job.plan.vertices → stands v → task_value job c v ≡ task_value job d v
  by_rank r zero v low inside h = absurd (omega arith)
  by_rank r (suc n) v low inside h = value_at v inside h
      (λ e m one. let falls : r.rank_of (from job.plan e) < r.rank_of v = at_each (λ x. r.rank_of (from job.plan x) < r.rank_of v) e (edges_into job.plan v) (r.falls v) m in
      by_rank r n (from job.plan e) (omega (arith, falls)) (starts_inside job.plan v e valid m) (closed v e h m one))

  pub value_same : (v : ℕ) → v < length job.plan.vertices → stands v → task_value job c v ≡ task_value job d v
  value_same v inside h = let r = ranked job.plan valid in by_rank r (suc (r.rank_of v)) v (omega arith) inside h

  pub bad_same : (v t : ℕ) → v < length job.plan.vertices → stands v → task_bad job c v t ≡ task_bad job d v t
  bad_same v t inside h = at_spec (λ s. is_bad s.head s.steps (task_inputs job c v s (task_value job c) t)) (λ s. is_bad s.head s.steps (task_inputs job d v s (task_value job d) t)) false (slice_get job.plan.vertices v)
      (λ s k. ap (is_bad s.head s.steps) (reads_same v t s (task_value job c) (task_value job d) h (λ e m one. value_same (from job.plan e) (starts_inside job.plan v e valid m) (closed v e h m one))))
