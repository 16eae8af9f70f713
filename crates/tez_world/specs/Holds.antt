-- A world and its parts.
--     notes_from                       what is noted of the sinks
--     phase_of, queue_of               what contracts see of them
--     HasParts job c running over past  what its parts are
--     IsWorld job c running over past  what holds of a world: its parts, the trace is one that keeps the rules, and reports told the bytes
use Rattle.std.specs.Prelude.{◌≡◌, ◌⊎◌, Bool, true, false, List, [], Option, Some, None}
use Rattle.tez_ids.specs.declared.AttemptId.{AttemptId}
use Rattle.tez_conf.specs.declared.values.ConfValues.{ConfValues}
use Rattle.tez_meaning.specs.Jobs.{Job}
use Rattle.tez_history.specs.History.{Past}
use Rattle.tez_rules.specs.OneMaster.{IsRuled}
use Rattle.tez_sinks.specs.Well.{IsWell}
use Rattle.tez_steps.specs.declared.running.Running.{Running}
use Rattle.tez_steps.specs.Step.{Phase, Down, Up, Over, Notes}
use Rattle.tez_steps.specs.Holds.{parts_of, Holds, notes_of}
use Rattle.tez_world.specs.Lawful.{BytesAreTold}

abbrev pub notes_from : Option Running → Notes
notes_from None = record { texts = []; sums = [] }
notes_from (Some r) = notes_of r

abbrev pub phase_of : Option Running → Bool → Phase
phase_of running true = Over
phase_of (Some r) false = Up
phase_of None false = Down

abbrev pub queue_of : Option Running → List AttemptId
queue_of None = []
queue_of (Some r) = r.seats.queue

abbrev pub IsRunning : Job → ConfValues → Option Running → Past → Type 0
IsRunning job c None past = past ≡ []
IsRunning job c (Some r) past = Holds job c (parts_of r) past

abbrev pub HasParts : Job → ConfValues → Option Running → Bool → Past → Type 0
HasParts job c running true past = (past ≡ []) ⊎ IsWell job c past
HasParts job c running false past = IsRunning job c running past

pub record IsWorld (job : Job) (c : ConfValues) (running : Option Running) (over : Bool) (past : Past) : Type 0 where
  pub parts : HasParts job c running over past
  pub ruled : IsRuled job.plan c past
  pub bytes : BytesAreTold job past
