-- The records and bytes of the sinks that are readied, in their order, where no commit was taken up, or none since the open.
--     sums_split, sums_own            so far
--     all_readied, own_committed      where all are, those of the job
use Rattle.std.specs.Prelude.{◌≡◌, ℕ, not, ◌&&◌, Bool, true, false, if◌then◌else◌, IsTrue, [], ◌∷◌, ◌++◌, map, refl}
use Rattle.std.specs.List.{list_all}
use Rattle.std.proofs.Common.{ap, sym, ◌∙◌}
use Rattle.tez_ids.specs.declared.VertexId.{VertexId}
use Rattle.tez_conf.specs.declared.values.ConfValues.{ConfValues}
use Rattle.tez_meaning.specs.Jobs.{Job}
use Rattle.tez_meaning.specs.Value.{sums}
use Rattle.tez_events.specs.declared.Entry.TheVariants.{Opened, Over, Rerun, Stopped, Committing, Ready}
use Rattle.tez_history.specs.Shape.{sinks}
use Rattle.tez_plan.specs.Dag.{Dag}
use Rattle.tez_history.specs.History.{Past, is_committing, is_found, is_readied, was_asked}
use Rattle.tez_history.specs.Derived.{is_next}
use Rattle.tez_history.specs.Steps.{is_first_without, may_ready}
use Rattle.tez_history.specs.Follows.{IsMade, IsOpen}
use Rattle.tez_laws.proofs.StepLaw.{both}
use Rattle.tez_laws.proofs.Opening.{open_before}
use Rattle.tez_progress.proofs.Members.{clash}
use Rattle.tez_contents.specs.Laws.{HasNone}
use Rattle.tez_sinks.specs.Sinks.{sink_sum, readied_sums, is_over, is_taken_up}
use Rattle.tez_sinks.specs.Well.{IsWell}
use Rattle.tez_sinks.proofs.Parts.{Parts, no_part, next_part, none_left, map-append}
use Rattle.tez_sinks.proofs.Names.{sinks_rise, sums_are}
use Rattle.tez_sinks.proofs.TakenUp.{own_commit}

record Sums (job : Job) (past : Past) : Type 0 where
  parts : Parts (sinks job.plan) (λ v. is_readied v past)
  view : readied_sums job past ≡ map (sink_sum job) parts.done

-- none is readied
none_readied : (job : Job) (past : Past) → ((v : ℕ) → is_readied v past ≡ false) → readied_sums job past ≡ [] → Sums job past
none_readied job past h nothing =
    let none = no_part (sinks job.plan) (λ v. is_readied v past) h in
    record { parts = none.0; view = nothing ∙ sym (ap (map (sink_sum job)) none.1) }

-- in a commit of one's own the first one is readied that is not
first_readied : (g : Dag) (past : Past) (v : ℕ) → is_found past ≡ false → IsTrue (may_ready g past v) → is_first_without (λ w. is_readied w past) (sinks g) v ≡ true
first_readied g past v own h = (both {x = not (is_committing past)} (by (is_found past) own h)).1 where
  by : (b : Bool) → b ≡ false
      → (if b then is_next g past v && (was_asked v past && not (is_readied v past)) else not (is_committing past) && is_first_without (λ w. is_readied w past) (sinks g) v) ≡ true
      → (not (is_committing past) && is_first_without (λ w. is_readied w past) (sinks g) v) ≡ true
  by true e k = cc
  by false e k = k

one_more : (job : Job) (past : Past) (v : VertexId) → is_first_without (λ w. is_readied w past) (sinks job.plan) v.0 ≡ true
    → Sums job past → Sums job (Ready v ∷ past)
one_more job past v first s =
    let next = next_part (sinks job.plan) (λ u. is_readied u past) v.0 (sinks_rise job.plan) s.parts first in
    record {
      parts = next.0;
      view =
          ap (λ xs. xs ++ sink_sum job v.0 ∷ []) s.view
          ∙ sym (map-append (sink_sum job) s.parts.done (v.0 ∷ []))
          ∙ sym (ap (map (sink_sum job)) next.1);
    }

sums_split : (job : Job) (c : ConfValues) (past : Past) → IsMade job.plan c past → HasNone is_taken_up past → Sums job past
sums_split job c [] m none = none_readied job [] (λ v. refl) refl
sums_split job c (Opened e ∷ past) m none = none_readied job (Opened e ∷ past) (λ v. refl) refl
sums_split job c (Rerun a ∷ past) m none = none_readied job (Rerun a ∷ past) (λ v. refl) refl
sums_split job c (Ready v ∷ past) m none =
    one_more job past v (first_readied job.plan past v.0 (own_commit past none.1) m.0.1) (sums_split job c past m.1 none.1)
sums_split job c (_ ∷ past) m none = let s = sums_split job c past m.1 none.1 in record { parts = s.parts; view = s.view }

-- after a found commit a master stops, and the next one readies anew
sums_own : (job : Job) (c : ConfValues) (past : Past) → IsMade job.plan c past → HasNone is_over past → IsOpen past
    → is_found past ≡ false → Sums job past
sums_own job c [] m over up own = cc
sums_own job c (Opened e ∷ past) m over up own = none_readied job (Opened e ∷ past) (λ v. refl) refl
sums_own job c (Over ∷ past) m over up own = clash refl over.0
sums_own job c (Stopped cause ∷ past) m over up own = cc
sums_own job c (Committing n ∷ past) m over up own = cc
sums_own job c (Rerun a ∷ past) m over up own = none_readied job (Rerun a ∷ past) (λ v. refl) refl
sums_own job c (Ready v ∷ past) m over up own =
    one_more job past v (first_readied job.plan past v.0 own m.0.1) (sums_own job c past m.1 over.1 m.0.2 own)
sums_own job c (x ∷ past) m over up own =
    let s = sums_own job c past m.1 over.1 (open_before job.plan c past x m.0 refl) own in
    record { parts = s.parts; view = s.view }

-- ---- where all are readied

whole : (job : Job) (past : Past) → Sums job past → list_all (λ v. is_readied v past) (sinks job.plan) ≡ true
    → readied_sums job past ≡ sums job
whole job past s h =
    s.view ∙ ap (map (sink_sum job)) (sym (none_left (sinks job.plan) (λ v. is_readied v past) s.parts h)) ∙ sums_are job

pub all_readied : (job : Job) (c : ConfValues) (past : Past) → IsMade job.plan c past → HasNone is_taken_up past
    → list_all (λ v. is_readied v past) (sinks job.plan) ≡ true → readied_sums job past ≡ sums job
all_readied job c past m none = whole job past (sums_split job c past m none)

committed_open : (past : Past) → is_committing past ≡ true → IsOpen past
committed_open [] h = cc
committed_open (Stopped cause ∷ past) h = cc
committed_open (_ ∷ past) h = refl

pub own_committed : (job : Job) (c : ConfValues) (past : Past) → IsWell job c past → HasNone is_over past
    → is_committing past ≡ true → is_found past ≡ false → readied_sums job past ≡ sums job
own_committed job c past w over on own =
    whole job past (sums_own job c past w.made over (committed_open past on) own) (w.committed on own)
