-- How a master began.
--     HasBegun job c began past          it is up, with its history, or the world ended at once with none
--     WasAsked job before began          what the publications of before say of it
--     HasFault .., IsNotFault began      whether it ended at a device
use Rattle.std.specs.Prelude.{◌≡◌, ◌⊎◌, ⊤, ℕ, true, length, [], ◌∷◌, Some, None}
use Rattle.tez_conf.specs.declared.values.ConfValues.{ConfValues}
use Rattle.tez_events.specs.declared.Entry.TheVariants.{Opened}
use Rattle.tez_ports.specs.Causes.{Rose}
use Rattle.tez_ports.specs.Content.{Named}
use Rattle.tez_meaning.specs.Jobs.{Job}
use Rattle.tez_history.specs.Shape.{has_sink}
use Rattle.tez_history.specs.History.{Past}
use Rattle.tez_world.specs.declared.opening.Began.{Began}
use Rattle.tez_world.specs.declared.opening.Began.TheVariants.{Up, Ended}
use Rattle.tez_steps.specs.declared.verdict.Device.TheVariants as device
use Rattle.tez_steps.specs.declared.verdict.Verdict.{Verdict}
use Rattle.tez_steps.specs.declared.verdict.Verdict.TheVariants.{Succeeded, SinkExists, AttemptsSpent, DeviceFault}
use Rattle.tez_steps.specs.Step.{first_published}
use Rattle.tez_steps.specs.Holds.{parts_of, Holds}

abbrev pub EndsAtOnce : Job → Verdict → Type 0
EndsAtOnce job (Succeeded pairs) = ⊥
EndsAtOnce job (SinkExists v) = has_sink job.plan v.0 ≡ true
EndsAtOnce job (AttemptsSpent t) = ⊥
EndsAtOnce job (DeviceFault d) = d ≡ device.Store

abbrev pub HasBegun : Job → ConfValues → Began → Past → Type 0
HasBegun job c (Up r) past = (past ≡ Opened (record { 0 = 1 }) ∷ []) × Holds job c (parts_of r) past
HasBegun job c (Ended v) past = (past ≡ []) × EndsAtOnce job v

-- a row is noted for each vertex
abbrev pub HasRows : Job → Began → Type 0
HasRows job (Up r) = length r.texts.items ≡ length job.plan.vertices
HasRows job (Ended v) = ⊤

abbrev pub TellsOf : Job → Named → Verdict → Type 0
TellsOf job before (Succeeded pairs) = ⊥
TellsOf job before (SinkExists v) = first_published job.plan before ≡ Some v.0
TellsOf job before (AttemptsSpent t) = ⊥
TellsOf job before (DeviceFault d) = ⊤

abbrev pub WasAsked : Job → Named → Began → Type 0
WasAsked job before (Up r) = first_published job.plan before ≡ None
WasAsked job before (Ended v) = TellsOf job before v

abbrev pub IsFaultBy : ℕ → ℕ → ℕ → ℕ → Verdict → Type 0
IsFaultBy faults stops new_faults new_stops (Succeeded pairs) = ⊤
IsFaultBy faults stops new_faults new_stops (SinkExists v) = ⊤
IsFaultBy faults stops new_faults new_stops (AttemptsSpent t) = ⊤
IsFaultBy faults stops new_faults new_stops (DeviceFault d) = Rose faults new_faults ⊎ Rose stops new_stops

abbrev pub HasFault : ℕ → ℕ → ℕ → ℕ → Began → Type 0
HasFault faults stops new_faults new_stops (Up r) = ⊤
HasFault faults stops new_faults new_stops (Ended v) = IsFaultBy faults stops new_faults new_stops v

abbrev pub IsNotDevice : Verdict → Type 0
IsNotDevice (Succeeded pairs) = ⊤
IsNotDevice (SinkExists v) = ⊤
IsNotDevice (AttemptsSpent t) = ⊤
IsNotDevice (DeviceFault d) = ⊥

abbrev pub IsNotFault : Began → Type 0
IsNotFault (Up r) = ⊤
IsNotFault (Ended v) = IsNotDevice v
