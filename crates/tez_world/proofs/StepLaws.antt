-- What a world tells after a step, and its parts.
--     err_any                 what holds holds of a refusal
--     step_is, world_is       what the world then tells, and its parts
use Rattle.std.specs.Prelude.{Some, Result, Ok, Err, OnErr, refl}
use Rattle.std.proofs.Common.{sym, subst, inr}
use Rattle.tez_conf.specs.declared.values.ConfValues.{ConfValues}
use Rattle.tez_meaning.specs.Jobs.{Job}
use Rattle.tez_log.specs.Log.{LogState}
use Rattle.tez_history.specs.History.{Past}
use Rattle.tez_world_invariant.specs.Keeping.{Parts, Holds as HoldsNoted}
use Rattle.tez_steps.specs.declared.event.Event.{Event}
use Rattle.tez_steps.specs.declared.running.Running.{Running}
use Rattle.tez_steps.specs.declared.verdict.Took.{Took}
use Rattle.tez_steps.specs.declared.verdict.Took.TheVariants.{Changed, Ignored, Ended}
use Rattle.tez_steps.specs.Step.{Up, StepIs}
use Rattle.tez_steps.specs.Holds.{parts_of, Holds, with_right_notes}
use Rattle.tez_world.specs.Holds.{phase_of, HasParts}
use Rattle.tez_steps.specs.Parts.{SameParts, SameLog}
use Rattle.tez_steps.specs.Taking.{IsTook}
use Rattle.tez_world.specs.Taking.{is_ended}
use Rattle.tez_world.proofs.WellLaws.{ended_well}

pub err_any : {T E : Type 0} (r : Result T E) (P : Type 0) → P → OnErr r P
err_any (Ok x) P k = tt
err_any (Err e) P k = k

-- ---- the world

pub step_is : (job : Job) (c : ConfValues) (e : Event) (r : Running) (log : LogState) (took : Took) (after : Running) (l : LogState) → IsTook job c e r log took after l
    → StepIs job c Up log.past e took (phase_of (Some after) (is_ended took)) l.past
step_is job c e r log Changed after l h = (refl, h.0)
step_is job c e r log (Ignored why) after l h = (refl, h.2.past, h.0)
step_is job c e r log (Ended v) after l h = (refl, h.0, h.1)

pub same_holds : (job : Job) (c : ConfValues) (r after : Running) (log l : LogState) → SameParts r after → SameLog log l → Holds job c (parts_of r) log.past → Holds job c (parts_of after) l.past
same_holds job c r after log l p s h =
    subst (λ (ps : Parts). HoldsNoted job c (with_right_notes job ps) l.past) (sym p.parts) (subst (λ (x : Past). Holds job c (parts_of r) x) (sym s.past) h)

pub world_is : (job : Job) (c : ConfValues) (e : Event) (r : Running) (log : LogState) (took : Took) (after : Running) (l : LogState) → Holds job c (parts_of r) log.past → IsTook job c e r log took after l
    → HasParts job c (Some after) (is_ended took) l.past
world_is job c e r log Changed after l h k = k.1
world_is job c e r log (Ignored why) after l h k = same_holds job c r after log l k.1 k.2 h
world_is job c e r log (Ended v) after l h k = inr (ended_well job c r log.past l.past e v h k.0)
