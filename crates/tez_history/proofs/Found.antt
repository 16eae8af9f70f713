-- A commit that an open finds: the store stops the first publication after it took effect, and the next master goes on.
use Rattle.std.specs.Prelude.{◌≡◌, ℕ, true, false, List, [], ◌∷◌, Option, Some, None, refl}
use Rattle.tez_plan.specs.Dag.{Dag, vertex}
use Rattle.tez_plan.specs.Order.{depth}
use Rattle.tez_conf.specs.declared.values.ConfValues.{ConfValues}
use Rattle.tez_vman.specs.Rules.{config as shape}
use Rattle.tez_events.specs.declared.StopCause.TheVariants.{Store}
use Rattle.tez_events.specs.declared.Entry.{Entry}
use Rattle.tez_events.specs.declared.Entry.TheVariants.{Opened, Stands, Kept, Configured, Queued, Placed, Ordered, Succeeded, Rerun, Stopped, Committing, Ready, Asked, Settled, Published, CommitStarted, Finished, Purged}
use Rattle.tez_events.specs.declared.CoreEvent.TheVariants.{Ask, Publish}
use Rattle.tez_events.specs.declared.CoreEvent.TheVariants as event
use Rattle.tez_history.specs.History.{Past}
use Rattle.tez_history.specs.Steps.{enabled, choice, after_asked}
use Rattle.tez_history.specs.Rules.{broken}
use Rattle.tez_history.specs.Runs.{Standing, Committed, opened_by}
use Rattle.tez_history.proofs.Driving.{conf, opened, try, reads}

abbrev two_sinks : Dag
two_sinks = record { name = []; vertices = reads 1 (Some (7 ∷ [])) ∷ reads 1 (Some (8 ∷ [])) ∷ []; edges = [] }

abbrev by : ConfValues
by = conf false 104857600 1 2

-- to the stop in the commit, the latest entry first
abbrev stopped : Past
stopped =
    Stopped Store ∷ CommitStarted ∷ Ready (vertex 1) ∷ Ready (vertex 0) ∷ Succeeded (try 1 0 0) ∷ Succeeded (try 0 0 0)
    ∷ Ordered (try 1 0 0) ∷ Placed (try 1 0 0) (record { 0 = 1 }) 1 ∷ Ordered (try 0 0 0) ∷ Placed (try 0 0 0) (record { 0 = 0 }) 0
    ∷ Queued (try 1 0 0) ∷ Queued (try 0 0 0) ∷ Configured (vertex 1) 1 1 ∷ Configured (vertex 0) 1 1 ∷ opened

-- what the journal tells then
abbrev ground : Standing
ground = record { epoch = 1; configured = (0, shape 1 1) ∷ (1, shape 1 1) ∷ []; failed = []; kept = try 0 0 0 ∷ try 1 0 0 ∷ [] }

-- the next master, with so many sinks recorded
abbrev next : ℕ → Past
next n = Committing n ∷ Kept (try 1 0 0) ∷ Kept (try 0 0 0) ∷ Stands (vertex 1) 1 1 ∷ Stands (vertex 0) 1 1 ∷ Opened (record { 0 = 2 }) ∷ stopped

opens : (opened_by two_sinks by (record { past = stopped; verdict = None }) (Committed ground 0)).past ≡ next 0
unfolding depth
opens = refl

-- it asks of the first sink, which is there, and of the second, which is not; that one is readied and published
asks_first : choice two_sinks by (next 0) ≡ Some (Ask (vertex 0))
unfolding depth
asks_first = refl

settles_first : after_asked two_sinks by (next 0) (vertex 0) true ≡ Settled (vertex 0) ∷ next 0
unfolding depth
settles_first = refl

asks_next : choice two_sinks by (Settled (vertex 0) ∷ next 0) ≡ Some (Ask (vertex 1))
unfolding depth
asks_next = refl

no_publish : enabled two_sinks by (Settled (vertex 0) ∷ next 0) (Publish (vertex 1)) ≡ false
unfolding depth
no_publish = refl

readies : choice two_sinks by (Asked (vertex 1) ∷ Settled (vertex 0) ∷ next 0) ≡ Some (event.Ready (vertex 1))
unfolding depth
readies = refl

publishes : choice two_sinks by (Ready (vertex 1) ∷ Asked (vertex 1) ∷ Settled (vertex 0) ∷ next 0) ≡ Some (Publish (vertex 1))
unfolding depth
publishes = refl

finishes : choice two_sinks by (Published (vertex 1) ∷ Ready (vertex 1) ∷ Asked (vertex 1) ∷ Settled (vertex 0) ∷ next 0) ≡ Some event.Finish
unfolding depth
finishes = refl

abbrev whole : List Entry
whole =
    Opened (record { 0 = 1 }) ∷ Configured (vertex 0) 1 1 ∷ Configured (vertex 1) 1 1 ∷ Queued (try 0 0 0) ∷ Queued (try 1 0 0)
    ∷ Placed (try 0 0 0) (record { 0 = 0 }) 0 ∷ Ordered (try 0 0 0) ∷ Placed (try 1 0 0) (record { 0 = 1 }) 1 ∷ Ordered (try 1 0 0)
    ∷ Succeeded (try 0 0 0) ∷ Succeeded (try 1 0 0) ∷ Ready (vertex 0) ∷ Ready (vertex 1) ∷ CommitStarted ∷ Stopped Store
    ∷ Opened (record { 0 = 2 }) ∷ Stands (vertex 0) 1 1 ∷ Stands (vertex 1) 1 1 ∷ Kept (try 0 0 0) ∷ Kept (try 1 0 0) ∷ Committing 0
    ∷ Settled (vertex 0) ∷ Asked (vertex 1) ∷ Ready (vertex 1) ∷ Published (vertex 1) ∷ Finished ∷ Purged ∷ []

obeys : broken two_sinks by whole ≡ None
unfolding depth
obeys = refl

-- with both recorded it finishes at once
nothing_left : choice two_sinks by (next 2) ≡ Some event.Finish
unfolding depth
nothing_left = refl

-- ---- traces with one thing wrong

abbrev found : ℕ → List Entry → Option (ℕ × ℕ)
found n es =
    broken two_sinks by
    (Opened (record { 0 = 1 }) ∷ Stands (vertex 0) 1 1 ∷ Stands (vertex 1) 1 1 ∷ Kept (try 0 0 0) ∷ Kept (try 1 0 0) ∷ Committing n ∷ es)

-- published before it was asked of, readied before it was asked of, the wrong sink, finished with one left, and one more finished
publish_first : found 0 (Ready (vertex 0) ∷ Published (vertex 0) ∷ []) ≡ Some (7, 7)
unfolding depth
publish_first = refl

ready_first : found 0 (Ready (vertex 0) ∷ Asked (vertex 0) ∷ Published (vertex 0) ∷ []) ≡ Some (7, 8)
unfolding depth
ready_first = refl

wrong_sink : found 1 (Asked (vertex 0) ∷ []) ≡ Some (7, 6)
unfolding depth
wrong_sink = refl

one_left : found 0 (Settled (vertex 0) ∷ Finished ∷ []) ≡ Some (7, 7)
unfolding depth
one_left = refl

all_there : found 1 (Settled (vertex 1) ∷ Finished ∷ Purged ∷ []) ≡ None
unfolding depth
all_there = refl

-- a commit is found in the step of an open, with no fewer sinks than the trace tells of
found_late : found 0 (Asked (vertex 0) ∷ Committing 0 ∷ []) ≡ Some (7, 7)
unfolding depth
found_late = refl

found_fewer : found 0 (Settled (vertex 0) ∷ Stopped Store ∷ Opened (record { 0 = 2 }) ∷ Committing 0 ∷ []) ≡ Some (7, 9)
unfolding depth
found_fewer = refl

-- a ready sink of a vertex that is not done, and a commit with a sink that is not ready since the open
ready_undone : broken two_sinks by (Opened (record { 0 = 1 }) ∷ Stands (vertex 0) 1 1 ∷ Stands (vertex 1) 1 1 ∷ Kept (try 0 0 0) ∷ Ready (vertex 0) ∷ []) ≡ Some (7, 4)
unfolding depth
ready_undone = refl

abbrev closed : List Entry → Option (ℕ × ℕ)
closed es = broken two_sinks by (Opened (record { 0 = 1 }) ∷ Stands (vertex 0) 1 1 ∷ Stands (vertex 1) 1 1 ∷ Kept (try 0 0 0) ∷ Kept (try 1 0 0) ∷ es)

commit_unready : closed (Ready (vertex 0) ∷ CommitStarted ∷ []) ≡ Some (7, 6)
unfolding depth
commit_unready = refl

commit_rerun : closed (Ready (vertex 0) ∷ Ready (vertex 1) ∷ Rerun (try 0 0 0) ∷ Queued (try 0 0 1) ∷ CommitStarted ∷ []) ≡ Some (7, 9)
unfolding depth
commit_rerun = refl

-- where no commit is open nothing of it comes, and a stop closes it
publish_closed : closed (Published (vertex 0) ∷ []) ≡ Some (7, 5)
unfolding depth
publish_closed = refl

settled_closed : closed (Settled (vertex 0) ∷ []) ≡ Some (7, 5)
unfolding depth
settled_closed = refl

ask_closed : closed (Asked (vertex 0) ∷ []) ≡ Some (7, 5)
unfolding depth
ask_closed = refl

finish_closed : closed (Finished ∷ []) ≡ Some (7, 5)
unfolding depth
finish_closed = refl

closed_by_stop : found 0 (Stopped Store ∷ Opened (record { 0 = 2 }) ∷ Asked (vertex 0) ∷ []) ≡ Some (7, 8)
unfolding depth
closed_by_stop = refl

-- a sink twice, both ways, and a sink after a later one
settled_twice : found 0 (Settled (vertex 0) ∷ Settled (vertex 0) ∷ []) ≡ Some (7, 7)
unfolding depth
settled_twice = refl

published_then_settled : found 0 (Asked (vertex 0) ∷ Ready (vertex 0) ∷ Published (vertex 0) ∷ Settled (vertex 0) ∷ []) ≡ Some (7, 9)
unfolding depth
published_then_settled = refl

settled_backwards : found 0 (Asked (vertex 0) ∷ Settled (vertex 1) ∷ Settled (vertex 0) ∷ []) ≡ Some (7, 8)
unfolding depth
settled_backwards = refl

-- the next one is not the one that it waits for
settled_other : found 0 (Settled (vertex 1) ∷ []) ≡ Some (7, 6)
unfolding depth
settled_other = refl

published_other : found 0 (Ready (vertex 1) ∷ Published (vertex 1) ∷ []) ≡ Some (7, 7)
unfolding depth
published_other = refl

-- what was asked and readied before another open found the commit does not count
asked_before : found 0 (Asked (vertex 0) ∷ Ready (vertex 0) ∷ Stopped Store ∷ Opened (record { 0 = 2 }) ∷ Committing 0 ∷ Published (vertex 0) ∷ []) ≡ Some (7, 11)
unfolding depth
asked_before = refl

-- a stop came after the first sink was recorded and before the trace told so
stopped_between :
    found 0 (Stopped Store ∷ Opened (record { 0 = 2 }) ∷ Stands (vertex 0) 1 1 ∷ Stands (vertex 1) 1 1 ∷ Kept (try 0 0 0) ∷ Kept (try 1 0 0) ∷ Committing 1
    ∷ Asked (vertex 1) ∷ Ready (vertex 1) ∷ Published (vertex 1) ∷ Finished ∷ Purged ∷ []) ≡ None
unfolding depth
stopped_between = refl

purged_early : found 2 (Purged ∷ []) ≡ Some (7, 6)
unfolding depth
purged_early = refl
