-- The text of a failed run, and the trace of one.
--     HasText job f              the text of a failure names the vertex that it tells of
use Rattle.std.specs.Prelude.{◌≡◌, ⊤}
use Rattle.tez_meaning.specs.Jobs.{Job}
use Rattle.tez_am.specs.Text.{name_of}
use Rattle.tez_am.specs.declared.failure.Failure.{Failure}
use Rattle.tez_am.specs.declared.failure.Failure.TheVariants.{Because, Spent}
use Rattle.tez_am.specs.declared.status.Status.{Status}
use Rattle.tez_am.specs.declared.status.Status.TheVariants.{AttemptsSpent}

-- a failure that is an answer by itself has the text of that answer
abbrev pub IsBareStatus : Status → Type 0
IsBareStatus (AttemptsSpent vertex task) = ⊥
IsBareStatus _ = ⊤

abbrev pub HasText : Job → Failure → Type 0
HasText job (Because status) = IsBareStatus status
HasText job (Spent vertex task name) = name ≡ name_of job.plan vertex.0
