-- A call of a tool: its words, and what its devices told before and after it. When each answer comes, what it leaves, and which is to come.
--     check_text said              what `check` writes of a DAG file: its canonical text, and a line feed
--     IsToolDue words files ..     the text that is due, or the refusal
use Rattle.std.specs.Prelude.{◌≡◌, ◌≢◌, ◌⊎◌, ⊤, ℕ, List, ◌++◌, codes, Option, Some, None, Result, Ok, Err}
use Rattle.tez_plan.specs.Faults.{IsValid}
use Rattle.tez_dag_json.specs.Canonical.{canonical}
use Rattle.tez_ports.specs.Causes.{Rose}
use Rattle.tez_ports.specs.Content.{Named, Told}
use Rattle.tez_meaning.specs.Jobs.{Job}
use Rattle.tez_meaning.specs.Value.{first_bad_vertex, IsDefined}
use Rattle.tez_am.specs.Accept.{Planned, AfterDag, and_then, run_job}
use Rattle.tez_am.specs.Call.{Reads, Writes, Wrote, WrotePart}
use Rattle.tez_am.specs.Cause.{IsRefused, ReadFailed, Refusal, SaidNoMemory}
use Rattle.tez_am.specs.Meaning.{meaning_text}
use Rattle.tez_am.specs.Rows.{IsAnswerOfReads}
use Rattle.tez_am.specs.Text.{name_of, status_text}
use Rattle.tez_am.specs.Words.{check_word, meaning_word}
use Rattle.tez_am.specs.declared.status.Status.{Status}
use Rattle.tez_am.specs.declared.status.Status.TheVariants.{Succeeded, Usage, DagRefused, InputMissing, InputTooLarge, InputFault, SinkExists, AttemptsSpent, DeviceFault, MeaningUndefined, OutFault, NoMemory}

pub record ToolCall : Type 0 where
  pub words : List (List ℕ)
  pub reads : Reads
  pub out : Writes

-- ---- what is due

abbrev pub check_text : Planned → List ℕ
check_text said = canonical said.0 said.1 ++ codes "\n"

abbrev pub checked : Named → Planned → Result (List ℕ) Status
checked files said = Ok (check_text said)

-- the text of a job's meaning, or the name of the first vertex that meets a bad record
abbrev pub meant_of : Job → Option ℕ → Result (List ℕ) Status
meant_of job None = Ok (meaning_text job)
meant_of job (Some v) = Err (MeaningUndefined (name_of job.plan v))

unfoldable pub meant : Job → Result (List ℕ) Status
meant job = meant_of job (first_bad_vertex job)

abbrev pub meaning_of : Named → Planned → Result (List ℕ) Status
meaning_of files said = and_then (run_job files said) meant

-- by the DAG file of a check, and that of a meaning
abbrev pub IsDueFor : Option (List ℕ) → Option (List ℕ) → Named → Result (List ℕ) Status → Type 0
IsDueFor (Some word) other files answer = AfterDag checked (Some word) files answer
IsDueFor None (Some word) files answer = AfterDag meaning_of (Some word) files answer
IsDueFor None None files answer = answer ≡ Err Usage

unfoldable pub IsToolDue : List (List ℕ) → Named → Result (List ℕ) Status → Type 0
IsToolDue words files answer = IsDueFor (check_word words) (meaning_word words) files answer

-- why a tool has no text
abbrev pub ToolRefusal : {A : Type 0} → (Named → Result A Status → Type 0) → Reads → Status → Type 0
ToolRefusal check reads s = Refusal check reads s ⊎ ((name : List ℕ) × (s ≡ MeaningUndefined name) × IsRefused check reads s)

-- ---- the answers

-- the text of a valid plan, or of the meaning of a job that has one
abbrev pub IsText : List ℕ → Type 0
IsText text = ((said : Planned) × IsValid said.0 × (text ≡ check_text said)) ⊎ ((job : Job) × IsValid job.plan × IsDefined job × (text ≡ meaning_text job))

-- a text that is due, and P of it
pub record ForText (c : ToolCall) (P : List ℕ → Type 0) : Type 0 where
  pub text : List ℕ
  pub kind : IsText text
  pub due : Told c.reads.files (λ m. IsToolDue c.words m (Ok text))
  pub so : P text

abbrev pub IsUsage : List (List ℕ) → Type 0
IsUsage words = (check_word words ≡ None) × (meaning_word words ≡ None)

-- when each answer comes
unfoldable pub ToolCause : ToolCall → Status → Type 0
ToolCause c Succeeded = ForText c (λ text. ⊤)
ToolCause c Usage = IsUsage c.words
ToolCause c (DagRefused fault) = IsRefused (IsToolDue c.words) c.reads (DagRefused fault)
ToolCause c (InputMissing name) = IsRefused (IsToolDue c.words) c.reads (InputMissing name)
ToolCause c (InputTooLarge name) = IsRefused (IsToolDue c.words) c.reads (InputTooLarge name)
ToolCause c (InputFault name) = ReadFailed c.reads name
ToolCause c (SinkExists name) = ⊥
ToolCause c (AttemptsSpent vertex task) = ⊥
ToolCause c (DeviceFault d) = ⊥
ToolCause c (MeaningUndefined name) = IsRefused (IsToolDue c.words) c.reads (MeaningUndefined name)
ToolCause c OutFault = Rose c.out.before c.out.now
ToolCause c NoMemory = ⊤

-- the first part of a text that was due
abbrev pub SaysSome : ToolCall → Type 0
SaysSome c = ForText c (λ text. WrotePart text c.out) ⊎ ((s : Status) × (s ≢ NoMemory) × ToolCause c s × WrotePart (status_text s) c.out)

-- what each answer leaves in the text
unfoldable pub ToolLeaves : ToolCall → Status → Type 0
ToolLeaves c Succeeded = ForText c (λ text. Wrote text c.out)
ToolLeaves c Usage = Wrote (status_text Usage) c.out
ToolLeaves c (DagRefused fault) = Wrote (status_text (DagRefused fault)) c.out
ToolLeaves c (InputMissing name) = Wrote (status_text (InputMissing name)) c.out
ToolLeaves c (InputTooLarge name) = Wrote (status_text (InputTooLarge name)) c.out
ToolLeaves c (InputFault name) = Wrote (status_text (InputFault name)) c.out
ToolLeaves c (SinkExists name) = ⊥
ToolLeaves c (AttemptsSpent vertex task) = ⊥
ToolLeaves c (DeviceFault d) = ⊥
ToolLeaves c (MeaningUndefined name) = Wrote (status_text (MeaningUndefined name)) c.out
ToolLeaves c OutFault = SaysSome c
ToolLeaves c NoMemory = SaidNoMemory c.out

-- which answer is to come, unless a device fails or memory is short
pub record KeepsToolRows (words : List (List ℕ)) (files : Named) (answer : Status) : Type 0 where
  pub refused : (refusal : Status) → IsToolDue words files (Err refusal) → IsAnswerOfReads refusal answer
  pub succeeds : (text : List ℕ) → IsToolDue words files (Ok text) → IsAnswerOfReads Succeeded answer
