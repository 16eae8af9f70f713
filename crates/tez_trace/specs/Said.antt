-- What the words of a line say: the entry whose line it is, if it is the line of an entry, and else any entry or none.
-- No public contract cites these words. The reader writes the line of what it found, and compares.
--     before s bytes, after s bytes   what stands before the first s, or all, and after it, or nothing
--     split s bytes                   the pieces between bytes s
--     upto most digits                the number that decimal digits write, or the limit where it is greater
--     read_task, read_attempt text    the numbers between dots
--     read_entry line                 by the first word and the words after it
use Rattle.std.specs.Prelude.{ℕ, ◌+◌, ◌-◌, ◌*◌, ◌^◌, ◌==◌, cond, min, fold, List, [], ◌∷◌, codes, Option, Some, None, get_or}
use Rattle.std.specs.List.{slice_split}
use Rattle.std.specs.Str.{bytes_eq}
use Rattle.tez_ids.specs.declared.AttemptId.{AttemptId}
use Rattle.tez_ids.specs.declared.TaskId.{TaskId}
use Rattle.tez_events.specs.declared.Entry.{Entry}
use Rattle.tez_events.specs.declared.Entry.TheVariants.{Opened, Over, Stands, Carried, Kept, Configured, Queued, Placed, Fetched, ReadError, InputFailed, Ordered, Succeeded, Made, Failed, Killed, NodeLost, OutputLost, Rerun, Stopped, Committing, Ready, Asked, Settled, Published, CommitStarted, Finished, Purged}
use Rattle.tez_events.specs.declared.KillCause.{KillCause}
use Rattle.tez_events.specs.declared.KillCause.TheVariants.{Node, Preempt}
use Rattle.tez_events.specs.declared.StopCause.{StopCause}
use Rattle.tez_events.specs.declared.StopCause.TheVariants.{Script, Disk, Store}

abbrev pub before : ℕ → List ℕ → List ℕ
before s [] = []
before s (b ∷ bytes) = cond (b == s) [] (b ∷ before s bytes)

abbrev pub after : ℕ → List ℕ → List ℕ
after s [] = []
after s (b ∷ bytes) = cond (b == s) bytes (after s bytes)

abbrev pub split : ℕ → List ℕ → List (List ℕ)
split s bytes = slice_split (λ b. b == s) bytes

-- the piece at a place, which is empty where there is none
abbrev pub piece : List (List ℕ) → ℕ → List ℕ
piece pieces i = get_or pieces i []

abbrev pub upto : ℕ → List ℕ → ℕ
upto most digits = min (fold (λ n d. n * 10 + (d - 48)) 0 digits) most

-- the number of the piece at a place, for each of the four widths
abbrev pub short : List (List ℕ) → ℕ → ℕ
short pieces i = upto (2 ^ 16 - 1) (piece pieces i)

abbrev pub word : List (List ℕ) → ℕ → ℕ
word pieces i = upto (2 ^ 32 - 1) (piece pieces i)

abbrev pub long : List (List ℕ) → ℕ → ℕ
long pieces i = upto (2 ^ 64 - 1) (piece pieces i)

abbrev pub wide : List (List ℕ) → ℕ → ℕ
wide pieces i = upto (2 ^ 128 - 1) (piece pieces i)

abbrev pub task_of : List (List ℕ) → TaskId
task_of p = record { vertex = record { 0 = short p 0 }; index = word p 1 }

abbrev pub attempt_of : List (List ℕ) → AttemptId
attempt_of p = record { epoch = record { 0 = long p 0 }; task = record { vertex = record { 0 = short p 1 }; index = word p 2 }; number = long p 3 }

abbrev pub read_task : List ℕ → TaskId
read_task text = task_of (split 46 text)

abbrev pub read_attempt : List ℕ → AttemptId
read_attempt text = attempt_of (split 46 text)

abbrev pub at : List (List ℕ) → ℕ → AttemptId
at p i = read_attempt (piece p i)

abbrev pub cause_of : List ℕ → KillCause
cause_of text = cond (bytes_eq text (codes "node")) Node Preempt

abbrev pub stop_of : List ℕ → StopCause
stop_of text = cond (bytes_eq text (codes "script")) Script (cond (bytes_eq text (codes "disk")) Disk Store)

abbrev is : List ℕ → List ℕ → Entry → Option Entry → Option Entry
is first name entry other = cond (bytes_eq first name) (Some entry) other

-- an attempt alone
abbrev pub of_attempt : List ℕ → List (List ℕ) → Option Entry
of_attempt first p =
    is first (codes "kept") (Kept (at p 0)) (
    is first (codes "queue") (Queued (at p 0)) (
    is first (codes "order") (Ordered (at p 0)) (
    is first (codes "done") (Succeeded (at p 0)) (
    is first (codes "fail") (Failed (at p 0)) (
    is first (codes "outputlost") (OutputLost (at p 0)) (
    is first (codes "rerun") (Rerun (at p 0)) None))))))

-- a vertex
abbrev pub of_vertex : List ℕ → List (List ℕ) → Option Entry
of_vertex first p =
    is first (codes "ready") (Ready (record { 0 = short p 0 })) (
    is first (codes "ask") (Asked (record { 0 = short p 0 })) (
    is first (codes "settled") (Settled (record { 0 = short p 0 })) (
    is first (codes "publish") (Published (record { 0 = short p 0 })) (
    is first (codes "stands") (Stands (record { 0 = short p 0 }) (word p 1) (word p 2)) (
    is first (codes "config") (Configured (record { 0 = short p 0 }) (word p 1) (word p 2)) None)))))

-- an attempt, and what happens to it
abbrev pub of_work : List ℕ → List (List ℕ) → Option Entry
of_work first p =
    is first (codes "place") (Placed (at p 0) (record { 0 = wide p 1 }) (word p 2)) (
    is first (codes "made") (Made (at p 0) (record { 0 = short p 1 }) (long p 2)) (
    is first (codes "kill") (Killed (at p 0) (cause_of (piece p 1))) (
    is first (codes "fetch") (Fetched (at p 0) (record { 0 = short p 1 }) (word p 2) (at p 3)) (
    is first (codes "readerror") (ReadError (at p 0) (record { 0 = short p 1 }) (word p 2) (at p 3)) (
    is first (codes "inputfailed") (InputFailed (at p 0) (record { 0 = short p 1 }) (word p 2) (at p 3)) None)))))

-- the job's end
abbrev pub of_end : List ℕ → Option Entry
of_end first =
    is first (codes "commit") CommitStarted (
    is first (codes "finish") Finished (
    is first (codes "purge") Purged None))

-- the job, its masters and nodes
abbrev pub of_job : List ℕ → List (List ℕ) → Option Entry
of_job first p =
    is first (codes "open") (Opened (record { 0 = long p 0 })) (
    is first (codes "over") Over (
    is first (codes "carried") (Carried (read_task (piece p 0)) (long p 1)) (
    is first (codes "committing") (Committing (long p 0)) (
    is first (codes "nodelost") (NodeLost (short p 0) (long p 1)) (
    is first (codes "stop") (Stopped (stop_of (piece p 0))) (
    of_end first))))))

abbrev pub or_else : Option Entry → Option Entry → Option Entry
or_else None other = other
or_else (Some entry) other = Some entry

abbrev pub entry_of : List ℕ → List (List ℕ) → Option Entry
entry_of first p = or_else (of_attempt first p) (or_else (of_vertex first p) (or_else (of_work first p) (of_job first p)))

abbrev pub read_entry : List ℕ → Option Entry
read_entry line = entry_of (before 32 line) (split 32 (after 32 line))
