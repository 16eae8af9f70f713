-- A worked run by computing, a word count: two tasks split the lines, of which the first makes its output again, and a task adds up the first of two partitions.
use Rattle.std.specs.Prelude.{◌≡◌, ℕ, true, false, List, [], ◌∷◌, reverse, refl}
use Rattle.std.proofs.Common.{codes}
use Rattle.std.specs.Fmt.{digits}
use Rattle.tez_ids.specs.declared.AttemptId.{AttemptId}
use Rattle.tez_ids.specs.Same.{task, attempt}
use Rattle.tez_plan.specs.Dag.{edge, vertex}
use Rattle.tez_plan.proofs.Samples.{wc}
use Rattle.tez_events.specs.declared.Entry.{Entry}
use Rattle.tez_events.specs.declared.Entry.TheVariants.{Opened, Configured, Queued, Placed, Fetched, ReadError, InputFailed, Ordered, Succeeded, OutputLost, Rerun, Stopped}
use Rattle.tez_events.specs.declared.StopCause.TheVariants.{Script}
use Rattle.tez_meaning.specs.Jobs.{Job, job_of}
use Rattle.tez_meaning.specs.Value.{value}
use Rattle.tez_shares.specs.Shares.{task_value}
use Rattle.tez_history.specs.History.{Past}
use Rattle.tez_contents.specs.Contents.{made, copied, met_bad, is_ordered}
use Rattle.tez_contents.specs.Laws.{task_makes}

-- a line for each task; `a` and `c` are in the first partition, `b` is in the second
abbrev letters : Job
letters = job_of wc ((codes "in.txt", codes "b a\na c\n") ∷ [])

-- attempt n of task i of vertex v in the first epoch
abbrev try : ℕ → ℕ → ℕ → AttemptId
try v i n = attempt 1 (task v i) n

abbrev trace : List Entry
trace =
    Opened (record { 0 = 1 }) ∷ Configured (vertex 0) 2 1 ∷ Configured (vertex 1) 2 1
    ∷ Queued (try 0 0 0) ∷ Queued (try 0 1 0) ∷ Placed (try 0 0 0) (record { 0 = 0 }) 0 ∷ Placed (try 0 1 0) (record { 0 = 1 }) 1
    ∷ Ordered (try 0 0 0) ∷ Ordered (try 0 1 0) ∷ Succeeded (try 0 0 0) ∷ Succeeded (try 0 1 0)
    ∷ Queued (try 1 0 0) ∷ Placed (try 1 0 0) (record { 0 = 0 }) 0 ∷ Fetched (try 1 0 0) (edge 0) 1 (try 0 1 0)
    ∷ OutputLost (try 0 0 0) ∷ ReadError (try 1 0 0) (edge 0) 0 (try 0 0 0) ∷ Rerun (try 0 0 0) ∷ InputFailed (try 1 0 0) (edge 0) 0 (try 0 0 0) ∷ Queued (try 0 0 1)
    ∷ Placed (try 0 0 1) (record { 0 = 1 }) 1 ∷ Ordered (try 0 0 1) ∷ Succeeded (try 0 0 1)
    ∷ Fetched (try 1 0 0) (edge 0) 0 (try 0 0 1) ∷ Ordered (try 1 0 0) ∷ []

abbrev after_all : Past
after_all = reverse trace

first_task : made letters (try 0 0 0) after_all ≡ codes "a\t1" ∷ codes "b\t1" ∷ []
unfolding made copied
first_task = refl

-- the rerun makes the same
again : made letters (try 0 0 1) after_all ≡ codes "a\t1" ∷ codes "b\t1" ∷ []
unfolding made copied
again = refl

first_piece : copied letters (try 1 0 0) 0 0 after_all ≡ codes "a\t1" ∷ []
unfolding made copied
first_piece = refl

second_piece : copied letters (try 1 0 0) 0 1 after_all ≡ codes "a\t1" ∷ codes "c\t1" ∷ []
unfolding made copied
second_piece = refl

added : made letters (try 1 0 0) after_all ≡ codes "a\t2" ∷ codes "c\t1" ∷ []
unfolding digits made copied
added = refl

as_its_task : task_makes letters after_all (task 1 0) ≡ codes "a\t2" ∷ codes "c\t1" ∷ []
unfolding digits value task_value
as_its_task = refl

none_bad : met_bad letters (try 1 0 0) after_all ≡ false
unfolding digits made copied
none_bad = refl

-- an attempt that was not sent has made nothing, and after a stop none counts as sent
not_sent : (made letters (try 1 1 0) after_all ≡ []) × (is_ordered (try 1 0 0) after_all ≡ true) × (is_ordered (try 1 0 0) (Stopped Script ∷ after_all) ≡ false)
unfolding made copied
not_sent = (refl, refl, refl)
