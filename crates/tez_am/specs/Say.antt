-- How an answer is written.
use Rattle.std.specs.Prelude.{◌≡◌, ◌≢◌, ◌⊎◌, ℕ, List, Result, Ok, Err}
use Rattle.tez_ports.specs.Causes.{Rose}
use Rattle.tez_am.specs.Call.{Writes, Wrote, WrotePart}
use Rattle.tez_am.specs.Cause.{SaidNoMemory}
use Rattle.tez_am.specs.Text.{spent_line, status_text}
use Rattle.tez_am.specs.declared.failure.Failure.{Failure}
use Rattle.tez_am.specs.declared.failure.Failure.TheVariants.{Because, Spent}
use Rattle.tez_am.specs.declared.status.Status.{Status}
use Rattle.tez_am.specs.declared.status.Status.TheVariants.{Succeeded, AttemptsSpent, OutFault, NoMemory}

-- the answer to a failure, and its text
abbrev pub status_of : Failure → Status
status_of (Because status) = status
status_of (Spent vertex task name) = AttemptsSpent vertex task

abbrev pub failure_text : Failure → List ℕ
failure_text (Because status) = status_text status
failure_text (Spent vertex task name) = spent_line name task

-- the answer of a call that ended so, where nothing fails any more
abbrev pub answer_of : Result (List ℕ) Failure → Status
answer_of (Ok text) = Succeeded
answer_of (Err failure) = status_of failure

-- and its text
abbrev pub text_of : Result (List ℕ) Failure → List ℕ
text_of (Ok text) = text
text_of (Err failure) = failure_text failure

-- all of the text was written, and the answer stands; or out failed; or memory is short
abbrev pub Said : Status → List ℕ → Writes → Status → Type 0
Said status text out answer = ((answer ≡ status) × Wrote text out)
    ⊎ ((answer ≡ OutFault) × (status ≢ NoMemory) × Rose out.before out.now × WrotePart text out)
    ⊎ ((answer ≡ NoMemory) × SaidNoMemory out)
