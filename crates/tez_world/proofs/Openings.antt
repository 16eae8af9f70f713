-- A master begins.
--     new_within                            nobody holds a place of a new pool
--     begun_parts                           what holds of the parts of a world whose first master has begun
--     sink_there                            a vertex with a sink
use Rattle.std.specs.Prelude.{◌≡◌, ℕ, zero, suc, ◌*◌, Bool, true, false, [], map, replicate, slice_get, is_some, Option, Some}
use Rattle.std.specs.Option.{option_map_or}
use Rattle.std.proofs.Common.{sym, ◌∙◌, ap, subst}
use Rattle.tez_lists.specs.Numbers.{numbers_from}
use Rattle.tez_ids.specs.declared.AttemptId.{AttemptId}
use Rattle.tez_plan.specs.Dag.{Dag}
use Rattle.tez_plan.specs.declared.parts.VertexSpec.{VertexSpec}
use Rattle.tez_plan.specs.Faults.{IsValid}
use Rattle.tez_plan.specs.Ranges.{IsInRanges}
use Rattle.tez_conf.specs.declared.values.ConfValues.{ConfValues}
use Rattle.tez_conf.specs.Ranges.{IsInRange}
use Rattle.tez_meaning.specs.Jobs.{Job}
use Rattle.tez_meaning.specs.Value.{sums}
use Rattle.tez_history.specs.Shape.{has_sink, places}
use Rattle.tez_pool.specs.Table.{free, new_pool}
use Rattle.tez_pool.specs.Index.{held_at}
use Rattle.tez_pool.specs.Victim.{AreIn}
use Rattle.tez_master_model.specs.Fresh.{fresh}
use Rattle.tez_inflight.specs.Seats.{Vacant}
use Rattle.tez_world_invariant.specs.Keeping.{Holds as HoldsNoted}
use Rattle.tez_world_invariant.specs.Begin.{first_past}
use Rattle.tez_world_invariant.proofs.EndsBegin.{begun_holds}
use Rattle.tez_steps.specs.declared.running.Running.{Running}
use Rattle.tez_steps.specs.Holds.{parts_of, right_texts, Holds}
use Rattle.tez_steps.proofs.Rows.{a_row_each}

-- ---- a new pool

no_holder : (n k i : ℕ) (a : AttemptId) → held_at (map free (numbers_from k n)) i ≡ Some a → ⊥
no_holder zero k i a h = cc
no_holder (suc n) k zero a h = cc
no_holder (suc n) k (suc i) a h = no_holder n (suc k) i a h

pub new_within : (g : Dag) (nodes per_node : ℕ) (reuse : Bool) → AreIn g (new_pool nodes per_node reuse).places
new_within g nodes per_node reuse n a h = absurd (no_holder (nodes * per_node) 0 n a h)

-- ---- a world that begins

pub begun_parts : (job : Job) (c : ConfValues) (r : Running) → IsValid job.plan → IsInRanges job.plan → IsInRange c → r.master.state ≡ fresh job.plan c 1 (new_pool c.nodes c.per_node c.reuse) → r.seats.seats ≡ replicate (places c) Vacant → r.shelves ≡ []
    → Holds job c (parts_of r) first_past
begun_parts job c r valid ranges range master seats shelves =
    subst (λ m. HoldsNoted job c (record { master = m; seats = r.seats.seats; shelves = r.shelves; texts = right_texts job; sums = sums job }) first_past) (sym master)
    (subst (λ d. HoldsNoted job c (record { master = fresh job.plan c 1 (new_pool c.nodes c.per_node c.reuse); seats = d; shelves = r.shelves; texts = right_texts job; sums = sums job }) first_past) (sym seats)
    (subst (λ s. HoldsNoted job c (record { master = fresh job.plan c 1 (new_pool c.nodes c.per_node c.reuse); seats = replicate (places c) Vacant; shelves = s; texts = right_texts job; sums = sums job }) first_past) (sym shelves)
    (begun_holds job c (right_texts job) (sums job) valid ranges range (a_row_each job))))

-- ---- sinks

pub sink_there : (g : Dag) (i : ℕ) (s : VertexSpec) → slice_get g.vertices i ≡ Some s → is_some s.sink ≡ true → has_sink g i ≡ true
sink_there g i s there is = ap (λ (o : Option VertexSpec). option_map_or (λ (x : VertexSpec). is_some x.sink) o false) there ∙ is
