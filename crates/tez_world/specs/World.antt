-- A world as contracts see it.
--     RunParts                     the job, its history and records, the orders that were not taken, and the notes
--     new_run job c                a run before its first master
--     WorldParts                   a run and its devices
--     next_in job c phase past     the next event of the world's own
use Rattle.std.specs.Prelude.{List, [], ◌∷◌, Option, Some, None}
use Rattle.std.specs.Option.{option_map}
use Rattle.tez_ids.specs.declared.AttemptId.{AttemptId}
use Rattle.tez_conf.specs.declared.values.ConfValues.{ConfValues}
use Rattle.tez_events.specs.declared.JournalRecord.{JournalRecord}
use Rattle.tez_events.specs.declared.CoreEvent.TheVariants.{Open}
use Rattle.tez_meaning.specs.Jobs.{Job}
use Rattle.tez_history.specs.History.{Past}
use Rattle.tez_history.specs.Steps.{choice}
use Rattle.tez_steps.specs.declared.event.Event.{Event}
use Rattle.tez_steps.specs.declared.event.Event.TheVariants.{Core}
use Rattle.tez_steps.specs.Step.{Phase, Down, Up, Over, Notes}

-- a run, to which the devices are lent
pub record RunParts : Type 0 where
  pub job : Job
  pub conf : ConfValues
  pub phase : Phase
  pub past : Past
  pub queue : List AttemptId
  pub notes : Notes
  pub records : List JournalRecord

-- a run before its first master
abbrev pub new_run : Job → ConfValues → RunParts
new_run job c = record { job = job; conf = c; phase = Down; past = []; queue = []; notes = record { texts = []; sums = [] }; records = [] }

pub record WorldParts (D S : Type 0) : Type 0 where
  pub run : RunParts
  pub disk : D
  pub store : S

-- ---- what comes next

abbrev pub next_in : Job → ConfValues → Phase → Past → Option Event
next_in job c Down past = Some (Core Open)
next_in job c Up past = option_map Core (choice job.plan c past)
next_in job c Over past = None

abbrev pub tail_of : List AttemptId → List AttemptId
tail_of [] = []
tail_of (a ∷ queue) = queue
