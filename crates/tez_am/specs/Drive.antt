-- How a call drives the run of its job.
--     Moment                    a run, with what its store tells and counts
--     RunGoesOn old new         a run that has not ended, some turns later
--     IsVerdict .. v            what a verdict says of the job and its store
--     HasEnded old new v        a run that has ended so
--     AnswersTo job v f         the failure that a verdict comes to
--     ComesTo job ended answer  what a run comes to, by its end, or without one where memory is short
use Rattle.std.specs.Prelude.{◌≡◌, ◌≢◌, ◌⊎◌, ◌≤◌, ⊤, ℕ, true, is_some, List, Option, Some, None, Result, Ok, Err}
use Rattle.tez_ids.specs.declared.AttemptId.{AttemptId}
use Rattle.tez_events.specs.declared.CoreEvent.TheVariants.{Fail}
use Rattle.tez_ports.specs.Causes.{Rose}
use Rattle.tez_ports.specs.Content.{Named, Store, Told}
use Rattle.tez_meaning.specs.Jobs.{Job}
use Rattle.tez_meaning.specs.Value.{bad, sums}
use Rattle.tez_history.specs.Shape.{has_sink}
use Rattle.tez_history.specs.History.{Past}
use Rattle.tez_sinks.specs.Sinks.{sink_name}
use Rattle.tez_world_invariant.specs.Store.{IsSuccess}
use Rattle.tez_steps.specs.Step.{Phase, Over, Notes, SinksStand, StoreAfter}
use Rattle.tez_world.specs.World.{RunParts}
use Rattle.tez_steps.specs.declared.event.Event.{Event}
use Rattle.tez_steps.specs.declared.event.Event.TheVariants.{Core}
use Rattle.tez_steps.specs.declared.verdict.Device.TheVariants as device
use Rattle.tez_steps.specs.declared.verdict.Verdict.{Verdict}
use Rattle.tez_steps.specs.declared.verdict.Verdict.TheVariants.{Succeeded, SinkExists, AttemptsSpent, DeviceFault}
use Rattle.tez_steps.specs.declared.verdict.Took.{Took}
use Rattle.tez_steps.specs.declared.verdict.Took.TheVariants.{Changed, Ignored, Ended}
use Rattle.tez_am.specs.Answer.{told_text}
use Rattle.tez_am.specs.Text.{name_of}
use Rattle.tez_am.specs.declared.failure.Failure.{Failure}
use Rattle.tez_am.specs.declared.failure.Failure.TheVariants.{Because, Spent}
use Rattle.tez_am.specs.declared.status.Status.TheVariants as status

pub record Moment : Type 0 where
  pub job : Job
  pub phase : Phase
  pub past : Past
  pub notes : Notes
  pub store : Option Store
  pub faults : ℕ
  pub stops : ℕ

abbrev pub moment : {A : Type 0} → (A → Option Store) → (A → ℕ) → (A → ℕ) → RunParts → A → Moment
moment store faults stops run now = record { job = run.job; phase = run.phase; past = run.past; notes = run.notes; store = store now; faults = faults now; stops = stops now }

-- no failure is an event of the master's own
abbrev pub IsNoFail : Event → Type 0
IsNoFail e = (a : AttemptId) → e ≢ Core (Fail a)

-- a store that tells goes on telling, and its counts do not fall
pub record Later (old new : Moment) : Type 0 where
  pub job : new.job ≡ old.job
  pub told : is_some new.store ≡ is_some old.store
  pub faults : old.faults ≤ new.faults
  pub stops : old.stops ≤ new.stops

pub record RunGoesOn (old new : Moment) : Type 0 where
  pub later : Later old new
  pub going : new.phase ≢ Over
  pub store : (before : Named) → Told old.store (SinksStand old.job before old.past old.notes) → Told new.store (SinksStand old.job before new.past new.notes)

abbrev pub IsVerdict : Moment → Moment → Verdict → Type 0
IsVerdict old new (Succeeded pairs) = IsSuccess old.job (sums old.job) new.past
IsVerdict old new (SinkExists v) = has_sink old.job.plan v.0 ≡ true
IsVerdict old new (AttemptsSpent t) = bad old.job t.vertex.0 ≡ true
IsVerdict old new (DeviceFault d) = (d ≡ device.Store) × (Rose old.faults new.faults ⊎ Rose old.stops new.stops)

pub record HasEnded (old new : Moment) (v : Verdict) : Type 0 where
  pub later : Later old new
  pub right : IsVerdict old new v
  pub store : (before : Named) → Told old.store (SinksStand old.job before old.past old.notes) → Told new.store (StoreAfter old.job before (Ended v) new.past new.notes)

abbrev pub IsEndOf : Took → Option Verdict → Type 0
IsEndOf Changed end = end ≡ None
IsEndOf (Ignored why) end = end ≡ None
IsEndOf (Ended v) end = end ≡ Some v

-- no end at a device
abbrev pub IsSure : Verdict → Type 0
IsSure (Succeeded pairs) = ⊤
IsSure (SinkExists v) = ⊤
IsSure (AttemptsSpent t) = ⊤
IsSure (DeviceFault d) = ⊥

-- ---- what it comes to

-- the text tells the sums that a success gives
abbrev pub IsToldBy : Job → Verdict → List ℕ → Type 0
IsToldBy job (Succeeded pairs) text = text ≡ told_text job.plan pairs.items
IsToldBy job (SinkExists v) text = ⊥
IsToldBy job (AttemptsSpent t) text = ⊥
IsToldBy job (DeviceFault d) text = ⊥

-- or memory is short
abbrev pub AnswersTo : Job → Verdict → Failure → Type 0
AnswersTo job (Succeeded pairs) f = f ≡ Because status.NoMemory
AnswersTo job (SinkExists v) f = (f ≡ Because (status.SinkExists (sink_name job.plan v.0))) ⊎ (f ≡ Because status.NoMemory)
AnswersTo job (AttemptsSpent t) f = (f ≡ Spent t.vertex t.index (name_of job.plan t.vertex.0)) ⊎ (f ≡ Because status.NoMemory)
AnswersTo job (DeviceFault d) f = f ≡ Because (status.DeviceFault d)

-- a text, where it succeeded, or a failure
abbrev pub ComesTo : {E : Type 0} → Job → Result Verdict E → Result (List ℕ) Failure → Type 0
ComesTo job (Ok v) (Ok text) = IsToldBy job v text
ComesTo job (Ok v) (Err f) = AnswersTo job v f
ComesTo job (Err refused) (Ok text) = ⊥
ComesTo job (Err refused) (Err f) = f ≡ Because status.NoMemory
