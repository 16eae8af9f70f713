-- Which answer is to come, unless a device fails or memory is short.
use Rattle.std.specs.Prelude.{◌≡◌, ◌⊎◌, ℕ, true, List, Option, Some, None, Ok, Err}
use Rattle.tez_ports.specs.Content.{Named, Store}
use Rattle.tez_ids.specs.declared.VertexId.{VertexId}
use Rattle.tez_meaning.specs.Jobs.{Job}
use Rattle.tez_meaning.specs.Value.{bad, IsDefined}
use Rattle.tez_am.specs.Accept.{IsAccepted}
use Rattle.tez_am.specs.Publish.{first_taken}
use Rattle.tez_steps.specs.declared.verdict.Device.TheVariants as device
use Rattle.tez_am.specs.declared.status.Status.{Status}
use Rattle.tez_am.specs.declared.status.Status.TheVariants.{Succeeded, InputFault, SinkExists, AttemptsSpent, DeviceFault, OutFault, NoMemory}

-- this answer, unless its text could not be written, or memory is short
abbrev pub IsAnswer : Status → Status → Type 0
IsAnswer due answer = (answer ≡ due) ⊎ (answer ≡ OutFault) ⊎ (answer ≡ NoMemory)

-- or a read failed
abbrev pub IsAnswerOfReads : Status → Status → Type 0
IsAnswerOfReads due answer = IsAnswer due answer ⊎ ((name : List ℕ) × (answer ≡ InputFault name))

-- or a call of the store failed
abbrev pub IsAnswerOfRun : Status → Status → Type 0
IsAnswerOfRun due answer = IsAnswerOfReads due answer ⊎ (answer ≡ DeviceFault device.Store)

-- the attempts of a task are spent whose vertex meets a bad record
abbrev pub IsAnswerOfSpent : Job → Status → Type 0
IsAnswerOfSpent job answer = (v : VertexId) × (task : ℕ) × (bad job v.0 ≡ true) × IsAnswerOfRun (AttemptsSpent v task) answer

pub record KeepsRows (words : List (List ℕ)) (files : Named) (store : Option Store) (answer : Status) : Type 0 where
  pub refused : (refusal : Status) → IsAccepted words files (Err refusal) → IsAnswerOfReads refusal answer
  pub exists : (job : Job) → IsAccepted words files (Ok job) → (s : Store) → store ≡ Some s → (name : List ℕ) → first_taken job.plan s.publications ≡ Some name
      → IsAnswerOfRun (SinkExists name) answer
  pub spent : (job : Job) → IsAccepted words files (Ok job) → (s : Store) → store ≡ Some s → first_taken job.plan s.publications ≡ None → (v : ℕ) → bad job v ≡ true
      → IsAnswerOfSpent job answer
  pub succeeds : (job : Job) → IsAccepted words files (Ok job) → (s : Store) → store ≡ Some s → first_taken job.plan s.publications ≡ None → IsDefined job
      → IsAnswerOfRun Succeeded answer
