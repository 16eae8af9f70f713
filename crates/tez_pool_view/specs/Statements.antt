-- What the laws say of the pool after a history.
use Rattle.std.specs.Prelude.{◌≡◌, ◌≤◌, ◌<◌, ℕ, Bool, List, IsTrue, true, [], Option, Some, None, is_some, false, IfSome, IfNone, position, slice_get}
use Rattle.std.specs.List.{find, filter_map}
use Rattle.std.specs.Option.{option_map}
use Rattle.tez_ids.specs.declared.AttemptId.{AttemptId}
use Rattle.tez_ids.specs.declared.VertexId.{VertexId}
use Rattle.tez_plan.specs.Dag.{Dag}
use Rattle.tez_plan.specs.Faults.{IsValid}
use Rattle.tez_conf.specs.declared.values.ConfValues.{ConfValues}
use Rattle.tez_events.specs.declared.StopCause.{StopCause}
use Rattle.tez_events.specs.declared.CoreEvent.{CoreEvent}
use Rattle.tez_history.specs.History.{Past, extend, stage, holder, container_of, life, is_up, is_committing}
use Rattle.tez_history.specs.Shape.{numbers_below, places}
use Rattle.tez_history.specs.Derived.{is_processing, is_free as is_free_after, any_free, queued_attempts, places_on}
use Rattle.tez_history.specs.Steps.{enabled, is_running, some_place, some_preempt, by_depth, entries_of, done_entries}
use Rattle.tez_history.specs.Rules.{is_at_start}
use Rattle.tez_history.specs.Follows.{IsMade}
use Rattle.tez_history.specs.Runs.{Run, Found, Happening, opened_by, stopped, run, not_begun}
use Rattle.tez_laws.specs.Laws.{answered}
use Rattle.tez_pool.specs.Table.{who, is_free, place_held, place_of, container_given, held_on, after_place, after_sent, after_release, after_loss, after_clear}
use Rattle.tez_pool.specs.Victim.{IsGreatest, candidates}
use Rattle.tez_pool_view.specs.Elsewhere.{IsElsewhere}
use Rattle.tez_pool_view.specs.View.{pool_view, place_for, standing, IsLeastQueued, IsWholeAtCommit}
use Rattle.tez_events.specs.declared.CoreEvent.TheVariants as core_event

-- ---- place is given

-- a queued attempt that is given a place holds none before
abbrev pub HoldsNoneBefore : Dag → ConfValues → Past → AttemptId → ℕ → Type 0
HoldsNoneBefore g c past a p = IsMade g c past → enabled g c past (core_event.Place a p) ≡ true → place_held (pool_view c past).places a ≡ None

-- the container that the pool answers is that of the entry
abbrev pub GivesContainer : Dag → ConfValues → Past → AttemptId → ℕ → Type 0
GivesContainer g c past a p =
    enabled g c past (core_event.Place a p) ≡ true → container_given (pool_view c past).places p ≡ Some (record { 0 = container_of c p past })

-- then the attempt holds the place, and its order did not go out
abbrev pub PlaceIsHeld : Dag → ConfValues → Past → AttemptId → ℕ → Type 0
PlaceIsHeld g c past a p =
    IsMade g c past → enabled g c past (core_event.Place a p) ≡ true
    → after_place (pool_view c past) a p ≡ pool_view c (extend past (entries_of g c past (core_event.Place a p)))

-- ---- order goes out

-- the order of a waiting attempt goes out, and it stays at its place
abbrev pub OrderIsOut : Dag → ConfValues → Past → AttemptId → Type 0
OrderIsOut g c past a =
    enabled g c past (core_event.Send a) ≡ true → after_sent (pool_view c past) a ≡ pool_view c (extend past (entries_of g c past (core_event.Send a)))

-- ---- place is freed

-- where an attempt gives way its place is free, with a new container unless containers are used again
abbrev pub PreemptFrees : Dag → ConfValues → Past → AttemptId → Type 0
PreemptFrees g c past a =
    IsMade g c past → enabled g c past (core_event.Preempt a) ≡ true
    → after_release (pool_view c past) a ≡ pool_view c (extend past (entries_of g c past (core_event.Preempt a)))

-- so it is where an attempt fails
abbrev pub FailureFrees : Dag → ConfValues → Past → AttemptId → Type 0
FailureFrees g c past a =
    IsMade g c past → enabled g c past (core_event.Fail a) ≡ true
    → after_release (pool_view c past) a ≡ pool_view c (extend past (entries_of g c past (core_event.Fail a)))

-- and where it reports; that a task is queued again concerns no place
abbrev pub ReportFrees : Dag → ConfValues → Past → AttemptId → Type 0
ReportFrees g c past a =
    (made : List (ℕ × ℕ)) → IsMade g c past → IsTrue (is_processing (stage a past))
    → after_release (pool_view c past) a ≡ pool_view c (extend past (done_entries a made))

-- ---- node is lost

-- who held a place of a lost node is killed and queued again, and its winners are withdrawn, all in one
abbrev pub LossFrees : Dag → ConfValues → Past → ℕ → Type 0
LossFrees g c past slot =
    IsMade g c past → IsWholeAtCommit g past → enabled g c past (core_event.LoseNode slot) ≡ true
    → after_loss (pool_view c past) slot ≡ pool_view c (extend past (entries_of g c past (core_event.LoseNode slot)))

-- ---- nobody holds a place in the commit

-- once the commit has started nobody holds a place
abbrev pub NobodyHolds : Dag → ConfValues → Past → Type 0
NobodyHolds g c past = IsMade g c past → IsWholeAtCommit g past → is_up past ≡ true → is_committing past ≡ true → (p : ℕ) → holder p past ≡ None

-- each event keeps it so that from the commit on every task has a winner
abbrev pub EventKeepsWhole : Dag → ConfValues → Past → CoreEvent → Type 0
EventKeepsWhole g c past e =
    IsValid g → IsMade g c past → IsWholeAtCommit g past → enabled g c past e ≡ true → IsWholeAtCommit g (extend past (entries_of g c past e))

-- so does each report
abbrev pub ReportKeepsWhole : Dag → ConfValues → Past → AttemptId → Type 0
ReportKeepsWhole g c past a =
    (made : List (ℕ × ℕ)) → IsMade g c past → IsWholeAtCommit g past → IsTrue (is_processing (stage a past))
    → IsWholeAtCommit g (extend past (done_entries a made))

-- and each stop
abbrev pub StopKeepsWhole : Dag → ConfValues → Run → StopCause → Type 0
StopKeepsWhole g c r cause = IsWholeAtCommit g (stopped c r cause).past

-- and each start
abbrev pub StartKeepsWhole : Dag → ConfValues → Run → Found → Type 0
StartKeepsWhole g c r found = IsTrue (is_at_start r.past) → IsWholeAtCommit g r.past → IsWholeAtCommit g (opened_by g c r found).past

-- so it is of every run of a valid plan
abbrev pub RunIsWhole : Dag → ConfValues → List Happening → Type 0
RunIsWhole g c hs = IsValid g → 1 ≤ c.max_failed → IsWholeAtCommit g (run g c not_begun hs).past

-- ---- pool is left

-- every other event leaves the pool as it is
abbrev pub LeavesPool : Dag → ConfValues → Past → CoreEvent → Type 0
LeavesPool g c past e =
    IsElsewhere e → IsMade g c past → enabled g c past e ≡ true → pool_view c (extend past (entries_of g c past e)) ≡ pool_view c past

-- and so does what the store answers of a sink
abbrev pub AnswerLeaves : ConfValues → Past → VertexId → Type 0
AnswerLeaves c past v = (there : Bool) → pool_view c (answered past v there) ≡ pool_view c past

-- ---- masters change

-- a stop frees every place
abbrev pub StopFrees : ConfValues → Run → StopCause → Type 0
StopFrees c r cause = after_clear (pool_view c r.past) ≡ pool_view c (stopped c r cause).past

-- a new master leaves the pool as it is, whatever it finds
abbrev pub StartLeavesPool : Dag → ConfValues → Run → Found → Type 0
StartLeavesPool g c r found = IsTrue (is_at_start r.past) → pool_view c (opened_by g c r found).past ≡ pool_view c r.past

-- ---- readings agree

-- the least free place is the model's first
abbrev pub FreeIsFirst : ConfValues → Past → Type 0
FreeIsFirst c past = position is_free (pool_view c past).places ≡ find (is_free_after past) (numbers_below (places c))

-- a place is free where the model has one
abbrev pub SomeIsFree : ConfValues → Past → Type 0
SomeIsFree c past = any_free c past ≡ is_some (position is_free (pool_view c past).places)

-- an attempt is where the model has it
abbrev pub PlaceIsTold : Dag → ConfValues → Past → AttemptId → Type 0
PlaceIsTold g c past a = IsMade g c past → place_of (pool_view c past).places a ≡ standing (stage a past)

-- a place has the model's container
abbrev pub ContainerIsTold : ConfValues → Past → ℕ → Type 0
ContainerIsTold c past p =
    p < places c → option_map (λ x. x.container) (slice_get (pool_view c past).places p) ≡ Some (record { 0 = container_of c p past })

-- and its holder
abbrev pub HolderIsTold : ConfValues → Past → ℕ → Type 0
HolderIsTold c past p = p < places c → option_map who (slice_get (pool_view c past).places p) ≡ Some (holder p past)

-- a node has the model's life
abbrev pub LifeIsTold : ConfValues → Past → ℕ → Type 0
LifeIsTold c past slot = slot < c.nodes → slice_get (pool_view c past).lives slot ≡ Some (life slot past)

-- and who holds its places
abbrev pub HoldersAreTold : ConfValues → Past → ℕ → Type 0
HoldersAreTold c past slot = slot < c.nodes → held_on (pool_view c past) slot ≡ filter_map (λ p. holder p past) (places_on c slot)

-- ---- victim gives way

-- the model's first event of those that make an attempt give way is that of the pool's victim, for the least depth of a queued attempt
abbrev pub VictimGivesWay : Dag → ConfValues → Past → ℕ → Type 0
VictimGivesWay g c past d =
    (victim : Option AttemptId) → IsValid g → IsMade g c past → is_running past ≡ true → any_free c past ≡ false → IsLeastQueued g past d
    → IfSome victim (IsGreatest g (candidates g d (pool_view c past).places)) → IfNone victim (candidates g d (pool_view c past).places ≡ [])
    → find (enabled g c past) (some_preempt g past) ≡ option_map core_event.Preempt victim

-- where a place is free there is none
abbrev pub NoneGivesWayToFree : Dag → ConfValues → Past → Type 0
NoneGivesWayToFree g c past = any_free c past ≡ true → find (enabled g c past) (some_preempt g past) ≡ None

-- nor where no attempt is queued
abbrev pub NoneGivesWayToNone : Dag → ConfValues → Past → Type 0
NoneGivesWayToNone g c past = queued_attempts g past ≡ [] → find (enabled g c past) (some_preempt g past) ≡ None

-- ---- free place is given

-- the model's first event of those that give a place is that of the shallowest queued attempt at the pool's least free place
abbrev pub FreePlaceIsGiven : Dag → ConfValues → Past → Type 0
FreePlaceIsGiven g c past =
    is_running past ≡ true
    → find (enabled g c past) (some_place g c past) ≡ place_for (by_depth g (queued_attempts g past)) (position is_free (pool_view c past).places)
