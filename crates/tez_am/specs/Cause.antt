-- When each answer comes, and what it leaves.
use Rattle.std.specs.Prelude.{◌≡◌, ◌⊎◌, ⊤, ℕ, true, List, reverse, codes, Option, Some, None, Result, Ok, Err}
use Rattle.tez_ports.specs.Causes.{Rose}
use Rattle.tez_ports.specs.Content.{Named, Store, Told}
use Rattle.tez_conf.specs.declared.values.ConfValues.{ConfValues}
use Rattle.tez_events.specs.declared.Entry.{Entry}
use Rattle.tez_meaning.specs.Jobs.{Job}
use Rattle.tez_meaning.specs.Value.{bad}
use Rattle.tez_history.specs.History.{Past}
use Rattle.tez_sinks.specs.Sinks.{TasksWereStaged}
use Rattle.tez_world.specs.Lawful.{IsTrace}
use Rattle.tez_am.specs.Accept.{IsAccepted, IsDag}
use Rattle.tez_am.specs.Call.{Reads, Writes, Call, StoreFailed, Wrote, WrotePart}
use Rattle.tez_am.specs.Publish.{SamePublications, Publishes, PublishesPart, first_taken, is_sink}
use Rattle.tez_am.specs.Answer.{TellsSinks}
use Rattle.tez_am.specs.Text.{spent_text, status_text}
use Rattle.tez_am.specs.Words.{dag_word}
use Rattle.tez_steps.specs.declared.verdict.Device.TheVariants as device
use Rattle.tez_am.specs.declared.status.Status.{Status}
use Rattle.tez_am.specs.declared.status.Status.TheVariants.{Succeeded, Usage, DagRefused, InputMissing, InputTooLarge, InputFault, SinkExists, AttemptsSpent, DeviceFault, MeaningUndefined, OutFault, NoMemory}

-- a check of the input files is to end in this refusal
abbrev pub IsRefused : {A : Type 0} → (Named → Result A Status → Type 0) → Reads → Status → Type 0
IsRefused check reads refusal = Told reads.files (λ m. check m (Err refusal))

-- a read of this name failed
abbrev pub ReadFailed : Reads → List ℕ → Type 0
ReadFailed reads name = Rose reads.before reads.now × (reads.failed ≡ name)

-- why a check of the input files gave nothing
abbrev pub Refusal : {A : Type 0} → (Named → Result A Status → Type 0) → Reads → Status → Type 0
Refusal check reads (DagRefused fault) = IsRefused check reads (DagRefused fault)
Refusal check reads (InputMissing name) = IsRefused check reads (InputMissing name)
Refusal check reads (InputTooLarge name) = IsRefused check reads (InputTooLarge name)
Refusal check reads (InputFault name) = ReadFailed reads name
Refusal check reads NoMemory = ⊤
Refusal check reads _ = ⊥

-- the words and files are those of a job, and P holds of it
abbrev pub ForJob : Call → (Job → Type 0) → Type 0
ForJob c P = Told c.reads.files (λ m. (job : Job) × IsAccepted c.words m (Ok job) × P job)

-- the same, where the store tells its publications
abbrev pub AtStore : Call → (Job → Named → Type 0) → Type 0
AtStore c P = Told c.store.old (λ s. ForJob c (λ job. P job s.publications))

-- when each answer comes
unfoldable pub Cause : Call → Status → Type 0
Cause c Succeeded = ForJob c (λ job. Publishes job c.store)
Cause c Usage = dag_word c.words ≡ None
Cause c (DagRefused fault) = IsRefused (IsAccepted c.words) c.reads (DagRefused fault)
Cause c (InputMissing name) = IsRefused (IsAccepted c.words) c.reads (InputMissing name)
Cause c (InputTooLarge name) = IsRefused (IsAccepted c.words) c.reads (InputTooLarge name)
Cause c (InputFault name) = ReadFailed c.reads name
Cause c (SinkExists name) = ForJob c (λ job. is_sink job.plan name ≡ true) × AtStore c (λ job publications. first_taken job.plan publications ≡ Some name)
Cause c (AttemptsSpent vertex task) = ForJob c (λ job. bad job vertex.0 ≡ true) × AtStore c (λ job publications. first_taken job.plan publications ≡ None)
Cause c (DeviceFault device.Store) = StoreFailed c.store × ForJob c (λ job. ⊤)
Cause c (DeviceFault device.Disk) = ⊥
Cause c (MeaningUndefined name) = ⊥
Cause c OutFault = Rose c.out.before c.out.now
Cause c NoMemory = ⊤

-- nothing was published, or a first part of the job's sinks, each once
abbrev pub MayPublish : Call → Type 0
MayPublish c = SamePublications c.store ⊎ ForJob c (λ job. PublishesPart job c.store)

-- the store is as it was
abbrev pub SameStore : Call → Type 0
SameStore c = c.store.new ≡ c.store.old

-- what each answer leaves in the store
unfoldable pub Leaves : Call → Status → Type 0
Leaves c Succeeded = ForJob c (λ job. Publishes job c.store)
Leaves c Usage = SameStore c
Leaves c (DagRefused fault) = SameStore c
Leaves c (InputMissing name) = SameStore c
Leaves c (InputTooLarge name) = SameStore c
Leaves c (InputFault name) = SameStore c
Leaves c (SinkExists name) = SamePublications c.store
Leaves c (AttemptsSpent vertex task) = SamePublications c.store
Leaves c (DeviceFault d) = MayPublish c
Leaves c (MeaningUndefined name) = ⊥
Leaves c OutFault = MayPublish c
Leaves c NoMemory = MayPublish c

-- ---- the text

-- out of memory was said, or not, or in part as out failed
abbrev pub SaidNoMemory : Writes → Type 0
SaidNoMemory out = Wrote (codes "NO MEMORY\n") out ⊎ (out.new ≡ out.old) ⊎ (Rose out.before out.now × WrotePart (codes "NO MEMORY\n") out)

-- the text of an answer that has one
abbrev pub IsTextOf : Call → Status → List ℕ → Type 0
IsTextOf c Succeeded text = ForJob c (λ job. TellsSinks c.store.new job text)
IsTextOf c Usage text = text ≡ status_text Usage
IsTextOf c (DagRefused fault) text = text ≡ status_text (DagRefused fault)
IsTextOf c (InputMissing name) text = text ≡ status_text (InputMissing name)
IsTextOf c (InputTooLarge name) text = text ≡ status_text (InputTooLarge name)
IsTextOf c (InputFault name) text = text ≡ status_text (InputFault name)
IsTextOf c (SinkExists name) text = text ≡ status_text (SinkExists name)
IsTextOf c (AttemptsSpent vertex task) text = ForJob c (λ job. text ≡ spent_text job.plan vertex.0 task)
IsTextOf c (DeviceFault d) text = text ≡ status_text (DeviceFault d)
IsTextOf c (MeaningUndefined name) text = text ≡ status_text (MeaningUndefined name)
IsTextOf c OutFault text = ⊥
IsTextOf c NoMemory text = ⊥

-- the text of this answer was written
abbrev pub Says : Call → Status → Type 0
Says c status = (text : List ℕ) × IsTextOf c status text × Wrote text c.out

-- the first part of the text of an answer that was due
pub record SaysPart (c : Call) : Type 0 where
  pub due : Status
  pub cause : Cause c due
  pub text : List ℕ
  pub is : IsTextOf c due text
  pub part : WrotePart text c.out

-- what each answer leaves in the text
unfoldable pub Writing : Call → Status → Type 0
Writing c Succeeded = Says c Succeeded
Writing c Usage = Says c Usage
Writing c (DagRefused fault) = Says c (DagRefused fault)
Writing c (InputMissing name) = Says c (InputMissing name)
Writing c (InputTooLarge name) = Says c (InputTooLarge name)
Writing c (InputFault name) = Says c (InputFault name)
Writing c (SinkExists name) = Says c (SinkExists name)
Writing c (AttemptsSpent vertex task) = Says c (AttemptsSpent vertex task)
Writing c (DeviceFault d) = Says c (DeviceFault d)
Writing c (MeaningUndefined name) = ⊥
Writing c OutFault = SaysPart c
Writing c NoMemory = SaidNoMemory c.out

-- ---- the trace

-- a success staged each task of a vertex with a sink, with the text of what the task is to make
abbrev pub HasStaged : Option Store → Status → Job → Past → Type 0
HasStaged store Succeeded job past = Told store (λ s. TasksWereStaged job past s.stage_calls)
HasStaged store Usage job past = ⊤
HasStaged store (DagRefused fault) job past = ⊤
HasStaged store (InputMissing name) job past = ⊤
HasStaged store (InputTooLarge name) job past = ⊤
HasStaged store (InputFault name) job past = ⊤
HasStaged store (SinkExists name) job past = ⊤
HasStaged store (AttemptsSpent vertex task) job past = ⊤
HasStaged store (DeviceFault d) job past = ⊤
HasStaged store (MeaningUndefined name) job past = ⊤
HasStaged store OutFault job past = ⊤
HasStaged store NoMemory job past = ⊤

-- the entries are those of a run of the job in the configuration that its DAG file gives, which is lawful
abbrev pub HasTrace : Call → Status → List Entry → Type 0
HasTrace c status entries = Told c.reads.files (λ m. (job : Job) × (conf : ConfValues) × IsAccepted c.words m (Ok job) × IsDag (dag_word c.words) m (Ok (job.plan, conf)) × IsTrace job conf (reverse entries) × HasStaged c.store.new status job (reverse entries))
