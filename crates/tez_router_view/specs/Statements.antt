-- What the laws say of the router after a history.
use Rattle.std.specs.Prelude.{◌≡◌, ◌==◌, ◌<◌, ◌≤◌, ◌∷◌, ◌++◌, [], ℕ, Bool, List, map, suc, slice_get, IsTrue, true, false, not, ◌&&◌, is_some, None, Some, if◌then◌else◌}
use Rattle.std.specs.List.{find, filter, flat_map}
use Rattle.std.specs.Option.{option_map}
use Rattle.tez_ids.specs.declared.TaskId.{TaskId}
use Rattle.tez_ids.specs.declared.VertexId.{VertexId}
use Rattle.tez_ids.specs.declared.EdgeId.{EdgeId}
use Rattle.tez_ids.specs.declared.AttemptId.{AttemptId}
use Rattle.tez_lists.specs.Numbers.{In}
use Rattle.tez_plan.specs.Dag.{Dag, target_of, tasks_of as planned}
use Rattle.tez_plan.specs.Faults.{IsValid}
use Rattle.tez_conf.specs.declared.values.ConfValues.{ConfValues}
use Rattle.tez_vman.specs.declared.seen.Config.{Config}
use Rattle.tez_events.specs.declared.StopCause.{StopCause}
use Rattle.tez_events.specs.declared.Entry.{Entry}
use Rattle.tez_events.specs.declared.Entry.TheVariants.{Stands, Carried, Kept, Committing, NodeLost, ReadError, Stopped}
use Rattle.tez_events.specs.declared.CoreEvent.{CoreEvent}
use Rattle.tez_events.specs.declared.CoreEvent.TheVariants.{Configure, Queue, Place, Fetch, Send, Preempt, Fail, LoseNode, LoseOutput, Ready, CommitStart, Publish, Finish, Purge}
use Rattle.tez_history.specs.History.{Past, extend, stage, winner, life, is_fetched, is_committing}
use Rattle.tez_history.specs.Runs.{Standing, opened_at, standing_entries}
use Rattle.tez_history.specs.Derived.{starts_epoch, Input, is_task, inputs, waiting_attempts, is_waiting, is_processing, is_on_shelf, all_fetched, notices}
use Rattle.tez_history.specs.Steps.{enabled, entries_of, done_entries, withdrawal, winner_behind, is_running, some_fetch, some_send}
use Rattle.tez_history.specs.Follows.{IsMade, MayFollow}
use Rattle.tez_laws.specs.Laws.{answered, taken_up}
use Rattle.tez_router.specs.Planned.{planned_router}
use Rattle.tez_router.specs.Table.{after_announce, after_withdraw, after_admit, after_dismiss, after_fetched, source_in, fetched_in, missing_in, notices_in, without, fetches_in, first_complete}
use Rattle.tez_router_view.specs.View.{router_view, links_view, FitsPlan}
use Rattle.tez_router.specs.Configure.{after_set_edges, CanSetEdges}
use Rattle.tez_router_view.specs.Events.{links_at, after_announces, after_withdraws, holders_on, winners_on, withdrawal_lines, kill_lines, fetch_event, after_stop, FitsEntry}
use Rattle.tez_master_model.specs.Entries.{notice_entry}

-- ---- router begins

-- with the first entry of a master the router is that of the plan
abbrev pub StartIsPlanned : Dag → Past → Entry → Type 0
StartIsPlanned g past e = starts_epoch e ≡ true → router_view g (e ∷ past) ≡ planned_router g

-- after a stop nothing is won, and nobody is admitted
abbrev pub StopEmpties : Dag → Past → StopCause → Type 0
StopEmpties g past cause = router_view g (Stopped cause ∷ past) ≡ after_stop (router_view g past)

-- ---- master opens

-- the managers of what stands can be set
abbrev pub OpenCanSetEdges : Dag → ConfValues → Past → Standing → Type 0
OpenCanSetEdges g c past s =
    IsMade g c (opened_at s past) → (later : Past) → later ≡ extend (opened_at s past) (standing_entries g (opened_at s past) s)
    → CanSetEdges (planned_router g) (links_view g later)

-- then the router has them, and the winners that are kept are announced
abbrev pub OpenSetsAndAnnounces : Dag → ConfValues → Past → Standing → Type 0
OpenSetsAndAnnounces g c past s =
    IsMade g c (opened_at s past) → (later : Past) → later ≡ extend (opened_at s past) (standing_entries g (opened_at s past) s)
    → router_view g later ≡ after_announces (after_set_edges (planned_router g) (links_view g later)) (filter (λ w. is_task g later w.task) s.kept)

-- ---- winners come and go

-- a report announces its winner
abbrev pub DoneAnnounces : Dag → ConfValues → Past → AttemptId → Type 0
DoneAnnounces g c past a =
    (made : List (ℕ × ℕ)) → IsMade g c past → IsTrue (is_processing (stage a past))
    → after_announce (router_view g past) a ≡ router_view g (extend past (done_entries a made))

-- so does a winner that is kept
abbrev pub KeptAnnounces : Dag → ConfValues → Past → AttemptId → Type 0
KeptAnnounces g c past a = IsMade g c past → MayFollow g c past (Kept a) → after_announce (router_view g past) a ≡ router_view g (Kept a ∷ past)

-- a winner that is withdrawn is taken away
abbrev pub WithdrawalTells : Dag → ConfValues → Past → AttemptId → Type 0
WithdrawalTells g c past w =
    IsMade g c past → winner w.task past ≡ Some w → after_withdraw (router_view g past) w.task ≡ router_view g (extend past (withdrawal g past w))

-- its entries are the notices of the router and the queued task
abbrev pub WithdrawalLines : Dag → ConfValues → Past → AttemptId → Type 0
WithdrawalLines g c past w =
    IsMade g c past → FitsPlan g past → winner w.task past ≡ Some w → withdrawal g past w ≡ withdrawal_lines (router_view g past) past w

-- ---- attempts come and go

-- an attempt that takes a place is admitted
abbrev pub PlaceAdmits : Dag → ConfValues → Past → AttemptId → ℕ → Type 0
PlaceAdmits g c past a p =
    IsMade g c past → enabled g c past (Place a p) ≡ true
    → after_admit (router_view g past) a ≡ router_view g (extend past (entries_of g c past (Place a p)))

-- one whose order goes out is dismissed
abbrev pub SendDismisses : Dag → ConfValues → Past → AttemptId → Type 0
SendDismisses g c past a =
    IsMade g c past → enabled g c past (Send a) ≡ true
    → after_dismiss (router_view g past) a ≡ router_view g (extend past (entries_of g c past (Send a)))

-- so is one that gives way
abbrev pub PreemptDismisses : Dag → ConfValues → Past → AttemptId → Type 0
PreemptDismisses g c past a =
    IsMade g c past → enabled g c past (Preempt a) ≡ true
    → after_dismiss (router_view g past) a ≡ router_view g (extend past (entries_of g c past (Preempt a)))

-- ---- inputs are fetched

-- an input whose piece is found is fetched
abbrev pub FoundIsFetched : Dag → ConfValues → Past → AttemptId → Type 0
FoundIsFetched g c past a =
    (e : EdgeId) (i : ℕ) (w : AttemptId) → winner_behind g past a e.0 i ≡ Some w → is_on_shelf g c past w ≡ true
    → after_fetched (router_view g past) a e.0 i ≡ router_view g (extend past (entries_of g c past (Fetch a e i)))

-- where it is not, the winner is withdrawn
abbrev pub MissedWithdraws : Dag → ConfValues → Past → AttemptId → Type 0
MissedWithdraws g c past a =
    (e : EdgeId) (i : ℕ) (w : AttemptId) → IsMade g c past → enabled g c past (Fetch a e i) ≡ true → winner_behind g past a e.0 i ≡ Some w
    → is_on_shelf g c past w ≡ false → after_withdraw (router_view g past) w.task ≡ router_view g (extend past (entries_of g c past (Fetch a e i)))

-- with the entries of a withdrawal after the read error
abbrev pub MissedLines : Dag → ConfValues → Past → AttemptId → EdgeId → Type 0
MissedLines g c past a e =
    (i : ℕ) (w : AttemptId) → IsMade g c past → FitsPlan g past → enabled g c past (Fetch a e i) ≡ true → winner_behind g past a e.0 i ≡ Some w
    → is_on_shelf g c past w ≡ false → entries_of g c past (Fetch a e i) ≡ ReadError a e i w ∷ withdrawal_lines (router_view g past) past w

-- ---- vertex is configured

-- the managers of a vertex that is configured can be set
abbrev pub ConfigureCanSetEdges : Dag → ConfValues → Past → VertexId → Type 0
ConfigureCanSetEdges g c past v =
    IsMade g c past → enabled g c past (Configure v) ≡ true → FitsPlan g (extend past (entries_of g c past (Configure v)))
    → CanSetEdges (router_view g past) (links_at g v.0 (extend past (entries_of g c past (Configure v))))

-- then the router has them
abbrev pub ConfigureSetsEdges : Dag → ConfValues → Past → VertexId → Type 0
ConfigureSetsEdges g c past v =
    IsMade g c past → enabled g c past (Configure v) ≡ true → FitsPlan g (extend past (entries_of g c past (Configure v)))
    → after_set_edges (router_view g past) (links_at g v.0 (extend past (entries_of g c past (Configure v)))) ≡ router_view g (extend past (entries_of g c past (Configure v)))

-- so it is of a vertex that stands again
abbrev pub StandsCanSetEdges : Dag → ConfValues → Past → VertexId → Type 0
StandsCanSetEdges g c past v =
    (n b : ℕ) → IsMade g c past → MayFollow g c past (Stands v n b) → FitsPlan g (Stands v n b ∷ past)
    → CanSetEdges (router_view g past) (links_at g v.0 (Stands v n b ∷ past))

-- which has its managers then
abbrev pub StandsSetsEdges : Dag → ConfValues → Past → VertexId → Type 0
StandsSetsEdges g c past v =
    (n b : ℕ) → IsMade g c past → MayFollow g c past (Stands v n b) → FitsPlan g (Stands v n b ∷ past)
    → after_set_edges (router_view g past) (links_at g v.0 (Stands v n b ∷ past)) ≡ router_view g (Stands v n b ∷ past)

-- ---- node is lost

-- with a lost node those that held its places are dismissed, and then its winners are withdrawn
abbrev pub LossDismissesAndWithdraws : Dag → ConfValues → Past → ℕ → Type 0
LossDismissesAndWithdraws g c past slot =
    IsMade g c past → slot < c.nodes → is_committing past ≡ false
    → router_view g (extend past (entries_of g c past (LoseNode slot))) ≡ after_withdraws (without (router_view g past) (holders_on c past slot)) (winners_on g c past slot)

-- its entries are the kills, and then the withdrawals with the notices of the router
abbrev pub LossLines : Dag → ConfValues → Past → ℕ → Type 0
LossLines g c past slot =
    IsMade g c past → FitsPlan g past → slot < c.nodes → is_committing past ≡ false
    → entries_of g c past (LoseNode slot) ≡ NodeLost slot (suc (life slot past)) ∷ (flat_map (kill_lines past) (holders_on c past slot) ++ flat_map (withdrawal_lines (without (router_view g past) (holders_on c past slot)) past) (winners_on g c past slot))

-- once the commit has started a loss leaves the router as it is
abbrev pub LateLossLeaves : Dag → ConfValues → Past → ℕ → Type 0
LateLossLeaves g c past slot = is_committing past ≡ true → router_view g (extend past (entries_of g c past (LoseNode slot))) ≡ router_view g past

-- ---- others leave it

-- that a task is queued leaves the router as it is
abbrev pub QueueLeaves : Dag → ConfValues → Past → TaskId → Type 0
QueueLeaves g c past t =
    IsMade g c past → enabled g c past (Queue t) ≡ true → router_view g (extend past (entries_of g c past (Queue t))) ≡ router_view g past

-- so does a failure
abbrev pub FailureLeaves : Dag → ConfValues → Past → AttemptId → Type 0
FailureLeaves g c past a =
    IsMade g c past → enabled g c past (Fail a) ≡ true → router_view g (extend past (entries_of g c past (Fail a))) ≡ router_view g past

-- a lost output
abbrev pub OutputLossLeaves : Dag → ConfValues → Past → TaskId → Type 0
OutputLossLeaves g c past t = router_view g (extend past (entries_of g c past (LoseOutput t))) ≡ router_view g past

-- a sink that is put aside
abbrev pub ReadyLeaves : Dag → ConfValues → Past → VertexId → Type 0
ReadyLeaves g c past v = router_view g (extend past (entries_of g c past (Ready v))) ≡ router_view g past

-- the start of the commit
abbrev pub CommitLeaves : Dag → ConfValues → Past → Type 0
CommitLeaves g c past = router_view g (extend past (entries_of g c past CommitStart)) ≡ router_view g past

-- what the store answers of a sink
abbrev pub AnswerLeaves : Dag → Past → VertexId → Type 0
AnswerLeaves g past v = (there : Bool) → router_view g (answered past v there) ≡ router_view g past

-- a sink that is published
abbrev pub PublishLeaves : Dag → ConfValues → Past → VertexId → Type 0
PublishLeaves g c past v = router_view g (extend past (entries_of g c past (Publish v))) ≡ router_view g past

-- the end of the job
abbrev pub FinishLeaves : Dag → ConfValues → Past → Type 0
FinishLeaves g c past = router_view g (extend past (entries_of g c past Finish)) ≡ router_view g past

-- the purge
abbrev pub PurgeLeaves : Dag → ConfValues → Past → Type 0
PurgeLeaves g c past = router_view g (extend past (entries_of g c past Purge)) ≡ router_view g past

-- failures that are carried over
abbrev pub CarriedLeaves : Dag → Past → TaskId → ℕ → Type 0
CarriedLeaves g past t n = router_view g (Carried t n ∷ past) ≡ router_view g past

-- and a commit that is taken up
abbrev pub CommittingLeaves : Dag → Past → ℕ → Type 0
CommittingLeaves g past n = router_view g (Committing n ∷ past) ≡ router_view g past

-- ---- tasks fit the plan

-- each entry keeps it so that no vertex has more tasks than the plan gives
abbrev pub EntryFits : Dag → ConfValues → Past → Entry → Type 0
EntryFits g c past e = IsValid g → MayFollow g c past e → FitsEntry g e → FitsPlan g past → FitsPlan g (e ∷ past)

-- so does each event
abbrev pub EventFits : Dag → ConfValues → Past → CoreEvent → Type 0
EventFits g c past e = IsValid g → IsMade g c past → enabled g c past e ≡ true → FitsPlan g past → FitsPlan g (extend past (entries_of g c past e))

-- and an open that finds no more tasks than that
abbrev pub OpenFits : Dag → Past → Standing → Type 0
OpenFits g past s =
    ((x : ℕ × Config) → In x s.configured → x.1.tasks ≤ planned g x.0)
    → FitsPlan g (extend (opened_at s past) (standing_entries g (opened_at s past) s))

-- also where it takes up a commit
abbrev pub TakenUpFits : Dag → Past → Standing → ℕ → Type 0
TakenUpFits g past s n = ((x : ℕ × Config) → In x s.configured → x.1.tasks ≤ planned g x.0) → FitsPlan g (taken_up g past s n)

-- and each report
abbrev pub ReportFits : Dag → Past → AttemptId → List (ℕ × ℕ) → Type 0
ReportFits g past a made = FitsPlan g past → FitsPlan g (extend past (done_entries a made))

-- ---- router answers

-- the notices of a winner that is withdrawn are the model's
abbrev pub NoticesAreTold : Dag → ConfValues → Past → AttemptId → Type 0
NoticesAreTold g c past w =
    IsMade g c past → FitsPlan g past → winner w.task past ≡ Some w → map notice_entry (notices_in (router_view g past) w.task) ≡ notices g past w

-- of a task without a winner there are none
abbrev pub NoneIsTold : Dag → ConfValues → Past → TaskId → Type 0
NoneIsTold g c past t = IsMade g c past → FitsPlan g past → winner t past ≡ None → notices_in (router_view g past) t ≡ []

-- the winner behind an input is the model's
abbrev pub SourceIsTold : Dag → ConfValues → Past → Type 0
SourceIsTold g c past =
    IsMade g c past → FitsPlan g past → (a : AttemptId) (e i : ℕ)
    → winner_behind g past a e i ≡ (if target_of g e == a.task.vertex.0 then source_in (router_view g past) a e i else None)

-- whether an input of a waiting attempt was fetched is as the model says
abbrev pub FetchedIsTold : Dag → Past → AttemptId → Input → Type 0
FetchedIsTold g past a k =
    In a (waiting_attempts g past) → In k (inputs g past a) → fetched_in (router_view g past) a k.0 k.2 ≡ is_fetched a k.0 k.2 past

-- so it is of an input that has a winner behind it
abbrev pub FetchedBehindIsTold : Dag → Past → AttemptId → ℕ → ℕ → Type 0
FetchedBehindIsTold g past a e i =
    (w : AttemptId) → In a (waiting_attempts g past) → winner_behind g past a e i ≡ Some w
    → fetched_in (router_view g past) a e i ≡ is_fetched a e i past

-- an attempt misses no input where the model has all of them fetched
abbrev pub MissingIsTold : Dag → Past → AttemptId → Type 0
MissingIsTold g past a = In a (waiting_attempts g past) → (missing_in (router_view g past) a == 0) ≡ all_fetched g past a

-- ---- router tests

-- an attempt that waits is one of those that wait
abbrev pub WaitingIsListed : Dag → ConfValues → Past → AttemptId → Type 0
WaitingIsListed g c past a = IsMade g c past → is_waiting (stage a past) ≡ true → In a (waiting_attempts g past)

-- an input may be fetched where the attempt waits, has not fetched it, and a winner is behind it
abbrev pub FetchIsTested : Dag → ConfValues → Past → Type 0
FetchIsTested g c past =
    IsMade g c past → FitsPlan g past → (a : AttemptId) (e : EdgeId) (i : ℕ)
    → enabled g c past (Fetch a e i) ≡ (is_running past && (is_waiting (stage a past) && (not (fetched_in (router_view g past) a e.0 i) && is_some (if target_of g e.0 == a.task.vertex.0 then source_in (router_view g past) a e.0 i else None))))

-- an order may go out where the attempt waits and misses no input
abbrev pub SendIsTested : Dag → ConfValues → Past → AttemptId → Type 0
SendIsTested g c past a =
    IsMade g c past → enabled g c past (Send a) ≡ (is_running past && (is_waiting (stage a past) && (missing_in (router_view g past) a == 0)))

-- ---- router chooses

-- the fetches of the router are those that the model enables, in its order
abbrev pub FetchesAreEnabled : Dag → ConfValues → Past → Type 0
FetchesAreEnabled g c past =
    IsMade g c past → FitsPlan g past → is_running past ≡ true
    → map fetch_event (fetches_in (router_view g past)) ≡ filter (enabled g c past) (some_fetch g past)

-- its first is the model's first
abbrev pub FetchIsChosen : Dag → ConfValues → Past → Type 0
FetchIsChosen g c past =
    IsMade g c past → FitsPlan g past → is_running past ≡ true
    → option_map fetch_event (slice_get (fetches_in (router_view g past)) 0) ≡ find (enabled g c past) (some_fetch g past)

-- so is its first order
abbrev pub SendIsChosen : Dag → ConfValues → Past → Type 0
SendIsChosen g c past =
    is_running past ≡ true → option_map Send (first_complete (router_view g past).admitted) ≡ find (enabled g c past) (some_send g past)
