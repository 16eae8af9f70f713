-- The drill's plan is in its ranges, and no check of it fails.
use Rattle.std.specs.Prelude.{◌≡◌, ℕ, zero, suc, ◌==◌, ◌&&◌, ◌||◌, ◌≢◌, true, false, Bool, IsTrue, List, codes, refl}
use Rattle.std.proofs.Common.{◌∙◌, ap, arith, sym}
use Rattle.tez_drill.specs.Drill.{drill_edges, drill_plan, drill_sources, drill_vertices}
use Rattle.tez_meaning.specs.Jobs.{HasSources}
use Rattle.tez_plan.specs.declared.fault.PlanFault.{PlanFault}
use Rattle.tez_plan.specs.declared.fault.PlanFault.TheVariants.{TooMany, DuplicateName, UnknownName, DuplicateEdge, Cycle, NoPrimary, MixedPrimary, HeadInputs, KeyDiffers, PartitionsDiffer, LeafWithoutSink, DuplicateSink, NoMemory}
use Rattle.tez_plan.specs.declared.parts.EdgeSpec.{EdgeSpec}
use Rattle.tez_plan.specs.declared.parts.VertexSpec.{VertexSpec}
use Rattle.tez_plan.specs.Dag.{dag_of, IsEdge}
use Rattle.tez_plan.specs.Faults.{IsBehindCycle, IsValid, checks, duplicate_edge, duplicate_name, duplicate_sink, head_inputs, key_differs, leaf_without_sink, mixed_primary, no_primary, partitions_differ, too_many_inputs, too_many_parts, unknown_name}
use Rattle.tez_plan.specs.Order.{topo}
use Rattle.tez_plan.specs.Ranges.{IsInRanges}
use Rattle.tez_plan.proofs.TopoLemmas.{stays_out}

impossible : false ≡ true → ⊥
impossible h = cc

-- no test fails at the two vertices, and none past them
nowhere : (test : ℕ → Bool) → test 0 ≡ false → test 1 ≡ false → ((n : ℕ) → test (suc (suc n)) ≡ false) → (n : ℕ) → ¬ IsTrue (test n)
nowhere test first second rest zero h = impossible (sym first ∙ h)
nowhere test first second rest (suc zero) h = impossible (sym second ∙ h)
nowhere test first second rest (suc (suc n)) h = impossible (sym (rest n) ∙ h)

few_parts : (n : ℕ) → ¬ IsTrue (too_many_parts drill_plan n)
unfolding drill_vertices drill_edges
few_parts n h = impossible (sym (neither (n == 64) (n == 256)) ∙ h)
  where
    neither : (a b : Bool) → ((a && false) || (b && false)) ≡ false
    neither true true = refl
    neither true false = refl
    neither false true = refl
    neither false false = refl

no_edge : (u v : ℕ) → ¬ IsEdge drill_plan u (suc (suc v))
unfolding drill_vertices drill_edges
no_edge u v h = impossible (sym (without (0 == u) (1 == suc (suc v)) (grind arith)) ∙ h)
  where
    without : (a b : Bool) → b ≡ false → ((a && b) || false) ≡ false
    without true true e = e
    without true false e = refl
    without false b e = refl

no_cycle : (v : ℕ) → ¬ IsBehindCycle drill_plan v
unfolding drill_vertices drill_edges topo
no_cycle zero h = impossible (sym (stays_out drill_plan 0 h))
no_cycle (suc zero) h = impossible (sym (stays_out drill_plan 1 h))
no_cycle (suc (suc v)) h = let by = h.fed (suc (suc v)) h.itself in no_edge by.0 v by.2

pub drill_is_valid : IsValid drill_plan
unfolding IsValid checks drill_vertices drill_edges
drill_is_valid = (
  few_parts,
  (
    nowhere (duplicate_name drill_plan) refl refl (λ n. refl),
    (
      nowhere (unknown_name drill_plan) refl refl (λ n. refl),
      (
        nowhere (duplicate_edge drill_plan) refl refl (λ n. refl),
        (
          no_cycle,
          (
            nowhere (no_primary drill_plan) refl refl (λ n. refl),
            (
              nowhere (mixed_primary drill_plan) refl refl (λ n. refl),
              (
                nowhere (head_inputs drill_plan) refl refl (λ n. refl),
                (
                  nowhere (key_differs drill_plan) refl refl (λ n. refl),
                  (
                    nowhere (partitions_differ drill_plan) refl refl (λ n. refl),
                    (
                      nowhere (leaf_without_sink drill_plan) refl refl (λ n. refl),
                      (
                        nowhere (duplicate_sink drill_plan) refl refl (λ n. refl),
                        (
                          nowhere (too_many_inputs drill_plan) refl refl (λ n. refl),
                          tt,
                        ),
                      ),
                    ),
                  ),
                ),
              ),
            ),
          ),
        ),
      ),
    ),
  ),
)

pub drill_in_ranges : IsInRanges drill_plan
unfolding drill_vertices drill_edges
drill_in_ranges = record { name = refl; some = omega arith; vertices = refl; edges = refl }

pub has_sources : (seed lines : ℕ) → HasSources drill_plan (drill_sources seed lines)
unfolding drill_vertices
has_sources seed lines = (refl, (tt, tt))

-- the plan of parts that are the drill's
pub same_plan : (name : List ℕ) (vertices : List VertexSpec) (edges : List EdgeSpec) → name ≡ codes "wc" → vertices ≡ drill_vertices → edges ≡ drill_edges
    → dag_of name vertices edges ≡ drill_plan
same_plan name vertices edges named vertexed edged =
    ap (λ n. dag_of n vertices edges) named
    ∙ ap (λ vs. dag_of (codes "wc") vs edges) vertexed
    ∙ ap (dag_of (codes "wc") drill_vertices) edged

-- a fault that is no other is want of memory
pub only_memory : (f : PlanFault) → ¬ (f ≢ NoMemory) → f ≡ NoMemory
only_memory (TooMany n) none = absurd (none (λ e. cc))
only_memory (DuplicateName n) none = absurd (none (λ e. cc))
only_memory (UnknownName n) none = absurd (none (λ e. cc))
only_memory (DuplicateEdge n) none = absurd (none (λ e. cc))
only_memory (Cycle n) none = absurd (none (λ e. cc))
only_memory (NoPrimary n) none = absurd (none (λ e. cc))
only_memory (MixedPrimary n) none = absurd (none (λ e. cc))
only_memory (HeadInputs n) none = absurd (none (λ e. cc))
only_memory (KeyDiffers n) none = absurd (none (λ e. cc))
only_memory (PartitionsDiffer n) none = absurd (none (λ e. cc))
only_memory (LeafWithoutSink n) none = absurd (none (λ e. cc))
only_memory (DuplicateSink n) none = absurd (none (λ e. cc))
only_memory NoMemory none = refl
