-- What each event makes of the seats of all places.
use Rattle.std.specs.Prelude.{◌≡◌, ℕ, zero, suc, ◌+◌, nat_le, ◌<◌, ◌==◌, Bool, true, false, if◌then◌else◌, List, [], ◌∷◌, ◌++◌, map, replicate, slice_set, Option, Some, None, unwrap_or, refl}
use Rattle.std.specs.List.{fold}
use Rattle.std.proofs.Common.{ap, sym, ◌∙◌, subst, zero-add}
use Rattle.std.proofs.lemmas.Bool.{eqb-true}
use Rattle.tez_ids.specs.declared.AttemptId.{AttemptId}
use Rattle.tez_ids.specs.declared.EdgeId.{EdgeId}
use Rattle.tez_ids.specs.declared.VertexId.{VertexId}
use Rattle.tez_ids.specs.declared.ContainerId.{ContainerId}
use Rattle.tez_lists.specs.Numbers.{numbers_from}
use Rattle.tez_lists.proofs.Tables.{map_below, get_each, set_each}
use Rattle.tez_plan.specs.Dag.{Dag, edge}
use Rattle.tez_conf.specs.declared.values.ConfValues.{ConfValues}
use Rattle.tez_events.specs.declared.KillCause.TheVariants.{Node, Preempt as Preempted}
use Rattle.tez_events.specs.declared.Entry.{Entry}
use Rattle.tez_events.specs.declared.Entry.TheVariants.{Placed, Fetched, ReadError, Ordered, Succeeded, Made, Failed, Killed, NodeLost, Stopped}
use Rattle.tez_events.specs.declared.StopCause.{StopCause}
use Rattle.tez_events.specs.declared.CoreEvent.{CoreEvent}
use Rattle.tez_events.specs.declared.CoreEvent.TheVariants.{Open, Configure, Queue, Place, Fetch, Send, Preempt, Fail, LoseNode, LoseOutput, Restart, Ready, CommitStart, Ask, Publish, Finish, Purge}
use Rattle.tez_history.specs.Shape.{edges_to, places}
use Rattle.tez_history.specs.History.{Past, extend, Waits, Runs, stage, holder, container_of, life, winner, failures, is_up, is_committing}
use Rattle.tez_history.specs.Derived.{is_processing, places_on, is_on_shelf}
use Rattle.tez_history.specs.Steps.{enabled, entries_of, each_after, requeue, withdrawal, killed_by_node, kill_at, fetch_entries, winner_behind, output_lost_entries, node_kills, node_withdrawals, node_loss_entries, done_entries}
use Rattle.tez_history.specs.Follows.{IsMade, AllMayFollow}
use Rattle.tez_laws.specs.Laws.{place_in, answered}
use Rattle.tez_laws.proofs.Places.{held, stands, in_place}
use Rattle.tez_laws.proofs.StepLaw.{both, event_may, done_may, kill_may, made-extend}
use Rattle.tez_laws.proofs.Going.{extend-append}
use Rattle.tez_pool_view.specs.View.{IsWholeAtCommit}
use Rattle.tez_pool_view.proofs.Committing.{none_holds}
use Rattle.tez_meaning.specs.Jobs.{Job}
use Rattle.tez_contents.specs.Contents.{made, piece_over}
use Rattle.tez_orders.specs.Orders.{OrderParts}
use Rattle.tez_inflight.specs.Seats.{Seat, Vacant, Gathers, Out, seat_at, gathering}
use Rattle.tez_work_view.specs.Holdings.{order_view, seat_view, seats_view}
use Rattle.tez_work_view.specs.Events.{KeepsSeats, vacate}
use Rattle.tez_work_view.proofs.EntryKinds.{AllOf, HasWithdrawals, all_withdrawal, all_withdrawals, all_made}
use Rattle.tez_work_view.proofs.SeatSteps.{Leaves, leave_seat, answer_seat, seat_placed, seat_fetched, seat_ordered, seat_succeeded, seat_failed, seat_killed, seat_nobody}

-- ---- the seats by place

same_seats : (job : Job) (c : ConfValues) (past later : Past) → ((p : ℕ) → seat_view job later p ≡ seat_view job past p) → seats_view job c later ≡ seats_view job c past
same_seats job c past later same = map_below (seat_view job later) (seat_view job past) 0 (places c) (λ p _ _. same p)

set_seat : (job : Job) (c : ConfValues) (past later : Past) (p : ℕ) (d : Seat) → ((q : ℕ) → seat_view job later q ≡ (if p == q then d else seat_view job past q)) → seats_view job c later ≡ slice_set (seats_view job c past) p d
set_seat job c past later p d same =
    map_below (seat_view job later) (λ q. if (0 + p) == q then d else seat_view job past q) 0 (places c) (λ q _ _. same q ∙ ap (λ n. if n == q then d else seat_view job past q) (sym (zero-add p)))
    ∙ sym (set_each (seat_view job past) d 0 (places c) p)

get_seat : (job : Job) (c : ConfValues) (past : Past) (p : ℕ) → p < places c → seat_at (seats_view job c past) p ≡ seat_view job past p
get_seat job c past p low = ap (λ o. unwrap_or o Vacant) (get_each (seat_view job past) 0 (places c) p low) ∙ ap (seat_view job past) (zero-add p)

leave_all : (job : Job) (c : ConfValues) (past : Past) (es : List Entry) → IsMade job.plan c past → AllMayFollow job.plan c past es → AllOf Leaves es → (p : ℕ) → seat_view job (extend past es) p ≡ seat_view job past p
leave_all job c past [] m f h p = refl
leave_all job c past (e ∷ es) m f h p = leave_all job c (e ∷ past) es (f.0, m) f.1 h.1 p ∙ leave_seat job c past e m f.0 h.0 p

-- the first entry changes a seat, the others leave them
then_leave : (job : Job) (c : ConfValues) (past : Past) (e : Entry) (es : List Entry) (ds : List Seat) → IsMade job.plan c past → AllMayFollow job.plan c past (e ∷ es) → AllOf Leaves es
    → seats_view job c (e ∷ past) ≡ ds → seats_view job c (extend past (e ∷ es)) ≡ ds
then_leave job c past e es ds m f h is = same_seats job c (e ∷ past) (extend (e ∷ past) es) (leave_all job c (e ∷ past) es (f.0, m) f.1 h) ∙ is

withdraws : HasWithdrawals Leaves
withdraws = record { rerun = λ w. tt; told = λ a e i w. tt; queued = λ a. tt }

-- ---- at the beginning and by one attempt

pub seats_placed : (job : Job) (c : ConfValues) (past : Past) (a : AttemptId) (p : ℕ) → IsMade job.plan c past → enabled job.plan c past (Place a p) ≡ true
    → seats_view job c (extend past (entries_of job.plan c past (Place a p))) ≡ slice_set (seats_view job c past) p (Gathers a (map (λ n. (n, [])) (map (λ e. e.0) (edges_to job.plan a.task.vertex.0))))
seats_placed job c past a p m on =
    let f = event_may job.plan c past (Place a p) m on in
    let k : ContainerId = record { 0 = container_of c p past } in
    set_seat job c past (Placed a k p ∷ past) p (Gathers a (map (λ n. (n, [])) (map (λ e. e.0) (edges_to job.plan a.task.vertex.0)))) (seat_placed job c past a k p m f.0)

pub seats_fetched : (job : Job) (c : ConfValues) (past : Past) (a : AttemptId) (e : EdgeId) (i p : ℕ) (w : AttemptId) → IsMade job.plan c past → stage a past ≡ Waits p → winner_behind job.plan past a e.0 i ≡ Some w → is_on_shelf job.plan c past w ≡ true
    → seats_view job c (extend past (entries_of job.plan c past (Fetch a e i))) ≡ slice_set (seats_view job c past) p (gathering e.0 (piece_over job.plan past e.0 a.task.index i (made job w past)) (seat_at (seats_view job c past) p))
seats_fetched job c past a e i p w m waits won there =
    let piece = piece_over job.plan past e.0 a.task.index i (made job w past) in
    let low = (stands job.plan c past m p a (ap place_in waits)).1 in
    ap (λ o. seats_view job c (extend past (fetch_entries job.plan c past a e.0 i o))) won
    ∙ ap (λ x. seats_view job c (extend past (if x then Fetched a (edge e.0) i w ∷ [] else ReadError a (edge e.0) i w ∷ withdrawal job.plan (ReadError a (edge e.0) i w ∷ past) w))) there
    ∙ set_seat job c past (Fetched a (edge e.0) i w ∷ past) p (gathering e.0 piece (seat_view job past p)) (seat_fetched job c past a (edge e.0) i w p m waits)
    ∙ ap (λ d. slice_set (seats_view job c past) p (gathering e.0 piece d)) (sym (get_seat job c past p low))

leave_missed : (g : Dag) (c : ConfValues) (past : Past) (a : AttemptId) (e i : ℕ) (w : AttemptId) (x : Bool) → x ≡ false
    → AllOf Leaves (if x then Fetched a (edge e) i w ∷ [] else ReadError a (edge e) i w ∷ withdrawal g (ReadError a (edge e) i w ∷ past) w)
leave_missed g c past a e i w true h = cc
leave_missed g c past a e i w false h = (tt, all_withdrawal Leaves withdraws g (ReadError a (edge e) i w ∷ past) w)

pub seats_missed : (job : Job) (c : ConfValues) (past : Past) (a : AttemptId) (e : EdgeId) (i : ℕ) (w : AttemptId) → IsMade job.plan c past → enabled job.plan c past (Fetch a e i) ≡ true → winner_behind job.plan past a e.0 i ≡ Some w → is_on_shelf job.plan c past w ≡ false
    → seats_view job c (extend past (entries_of job.plan c past (Fetch a e i))) ≡ seats_view job c past
seats_missed job c past a e i w m on won gone =
    same_seats job c past (extend past (entries_of job.plan c past (Fetch a e i)))
    (leave_all job c past (entries_of job.plan c past (Fetch a e i)) m (event_may job.plan c past (Fetch a e i) m on)
    (subst (λ o. AllOf Leaves (fetch_entries job.plan c past a e.0 i o)) (sym won) (leave_missed job.plan c past a e.0 i w (is_on_shelf job.plan c past w) gone)))

pub seats_sent : (job : Job) (c : ConfValues) (past : Past) (a : AttemptId) (p : ℕ) (o : OrderParts) → IsMade job.plan c past → stage a past ≡ Waits p → order_view job past a p ≡ Some o
    → seats_view job c (extend past (entries_of job.plan c past (Send a))) ≡ slice_set (seats_view job c past) p (Out o)
seats_sent job c past a p o m waits is = set_seat job c past (Ordered a ∷ past) p (Out o) (seat_ordered job c past a p o m waits is)

pub seats_preempted : (job : Job) (c : ConfValues) (past : Past) (a : AttemptId) (p : ℕ) → IsMade job.plan c past → enabled job.plan c past (Preempt a) ≡ true → stage a past ≡ Waits p
    → seats_view job c (extend past (entries_of job.plan c past (Preempt a))) ≡ slice_set (seats_view job c past) p Vacant
seats_preempted job c past a p m on waits =
    then_leave job c past (Killed a Preempted) (requeue past a.task) (slice_set (seats_view job c past) p Vacant) m (event_may job.plan c past (Preempt a) m on) (tt, tt)
    (set_seat job c past (Killed a Preempted ∷ past) p Vacant (seat_killed job c past a Preempted p m (ap place_in waits)))

leave_again : (past : Past) (a : AttemptId) (b : Bool) → AllOf Leaves (if b then [] else requeue past a.task)
leave_again past a true = tt
leave_again past a false = (tt, tt)

pub seats_failed : (job : Job) (c : ConfValues) (past : Past) (a : AttemptId) (p : ℕ) → IsMade job.plan c past → enabled job.plan c past (Fail a) ≡ true → stage a past ≡ Runs p
    → seats_view job c (extend past (entries_of job.plan c past (Fail a))) ≡ slice_set (seats_view job c past) p Vacant
seats_failed job c past a p m on runs =
    let spent = nat_le c.max_failed (suc (failures a.task past)) in
    then_leave job c past (Failed a) (if spent then [] else requeue past a.task) (slice_set (seats_view job c past) p Vacant) m (event_may job.plan c past (Fail a) m on) (leave_again past a spent)
    (set_seat job c past (Failed a ∷ past) p Vacant (seat_failed job c past a p m (ap place_in runs)))

pub seats_reported : (job : Job) (c : ConfValues) (past : Past) (a : AttemptId) (p : ℕ) (bytes : List (ℕ × ℕ)) → IsMade job.plan c past → stage a past ≡ Runs p
    → seats_view job c (extend past (done_entries a bytes)) ≡ slice_set (seats_view job c past) p Vacant
seats_reported job c past a p bytes m runs =
    then_leave job c past (Succeeded a) (map (λ x. Made a (edge x.0) x.1) bytes) (slice_set (seats_view job c past) p Vacant) m
    (done_may job.plan c past a bytes (ap is_processing runs)) (all_made Leaves (λ x e n. tt) a bytes)
    (set_seat job c past (Succeeded a ∷ past) p Vacant (seat_succeeded job c past a p m (ap place_in runs)))

-- ---- a node is lost

vacant_there : (job : Job) (past : Past) (p q : ℕ) → holder p past ≡ None → seat_view job past q ≡ (if p == q then Vacant else seat_view job past q)
vacant_there job past p q none = by (p == q) refl where
  by : (x : Bool) → (p == q) ≡ x → seat_view job past q ≡ (if x then Vacant else seat_view job past q)
  by true e = seat_nobody job past q (subst (λ n. holder n past ≡ None) (eqb-true p q e) none)
  by false e = refl

record IsVacated (job : Job) (c : ConfValues) (past later : Past) (p : ℕ) : Type 0 where
  pub made : IsMade job.plan c later
  pub seats : seats_view job c later ≡ vacate (seats_view job c past) p

one_kill : (job : Job) (c : ConfValues) (past : Past) (p : ℕ) (o : Option AttemptId) → IsMade job.plan c past → holder p past ≡ o → IsVacated job c past (extend past (killed_by_node past o)) p
one_kill job c past p None m h = record { made = m; seats = set_seat job c past past p Vacant (λ q. vacant_there job past p q h) }
one_kill job c past p (Some a) m h =
    let at = held job.plan c past m p a h in
    let f : AllMayFollow job.plan c past (Killed a Node ∷ requeue past a.task) = kill_may job.plan c past a Node m (in_place (stage a past) p at) in
    record {
      made = made-extend job.plan c past (Killed a Node ∷ requeue past a.task) m f;
      seats = then_leave job c past (Killed a Node) (requeue past a.task) (vacate (seats_view job c past) p) m f (tt, tt) (set_seat job c past (Killed a Node ∷ past) p Vacant (seat_killed job c past a Node p m at));
    }

record AreVacated (job : Job) (c : ConfValues) (past later : Past) (ps : List ℕ) : Type 0 where
  pub made : IsMade job.plan c later
  pub seats : seats_view job c later ≡ fold vacate (seats_view job c past) ps

all_kills : (job : Job) (c : ConfValues) (ps : List ℕ) (past : Past) → IsMade job.plan c past → AreVacated job c past (extend past (each_after kill_at past ps)) ps
all_kills job c [] past m = record { made = m; seats = refl }
all_kills job c (p ∷ ps) past m =
    let mid = extend past (kill_at past p) in
    let one = one_kill job c past p (holder p past) m refl in
    let rest = all_kills job c ps mid one.made in
    let made : IsMade job.plan c (extend mid (each_after kill_at mid ps)) = rest.made in
    let seats : seats_view job c (extend mid (each_after kill_at mid ps)) ≡ fold vacate (seats_view job c past) (p ∷ ps) = rest.seats ∙ ap (λ ds. fold vacate ds ps) one.seats in
    subst (λ y. AreVacated job c past y (p ∷ ps)) (sym (extend-append past (kill_at past p) (each_after kill_at mid ps))) (record { made = made; seats = seats })

nobody_there : (job : Job) (c : ConfValues) (past : Past) → ((p : ℕ) → holder p past ≡ None) → (ps : List ℕ) → seats_view job c past ≡ fold vacate (seats_view job c past) ps
nobody_there job c past none [] = refl
nobody_there job c past none (p ∷ ps) =
    nobody_there job c past none ps ∙ ap (λ ds. fold vacate ds ps) (set_seat job c past past p Vacant (λ q. vacant_there job past p q (none p)))

may_rest : (g : Dag) (c : ConfValues) (past : Past) (xs ys : List Entry) → AllMayFollow g c past (xs ++ ys) → AllMayFollow g c (extend past xs) ys
may_rest g c past [] ys h = h
may_rest g c past (x ∷ xs) ys h = may_rest g c (x ∷ past) xs ys h.1

pub seats_lost : (job : Job) (c : ConfValues) (past : Past) (slot : ℕ) → IsMade job.plan c past → IsWholeAtCommit job.plan past → enabled job.plan c past (LoseNode slot) ≡ true
    → seats_view job c (extend past (entries_of job.plan c past (LoseNode slot))) ≡ fold vacate (seats_view job c past) (places_on c slot)
seats_lost job c past slot m whole on = by (is_committing past) refl (event_may job.plan c past (LoseNode slot) m on) where
  by : (x : Bool) → is_committing past ≡ x → AllMayFollow job.plan c past (if x then NodeLost slot (suc (life slot past)) ∷ [] else node_loss_entries job.plan c past slot)
      → seats_view job c (extend past (if x then NodeLost slot (suc (life slot past)) ∷ [] else node_loss_entries job.plan c past slot)) ≡ fold vacate (seats_view job c past) (places_on c slot)
  by true e f =
      same_seats job c past (NodeLost slot (suc (life slot past)) ∷ past) (leave_seat job c past (NodeLost slot (suc (life slot past))) m f.0 tt)
      ∙ nobody_there job c past (none_holds job.plan c past m (whole.committing (both {x = is_up past} on).0 e)) (places_on c slot)
  by false e f =
      let at : Past = NodeLost slot (suc (life slot past)) ∷ past in
      let kills = node_kills c at slot in
      let mid = extend at kills in
      let rest = node_withdrawals job.plan c slot past mid in
      let gone = all_kills job c (places_on c slot) at (f.0, m) in
      ap (seats_view job c) (extend-append at kills rest)
      ∙ same_seats job c mid (extend mid rest) (leave_all job c mid rest gone.made (may_rest job.plan c at kills rest f.1) (all_withdrawals Leaves withdraws job.plan c slot past mid))
      ∙ gone.seats
      ∙ ap (λ ds. fold vacate ds (places_on c slot)) (same_seats job c past at (leave_seat job c past (NodeLost slot (suc (life slot past))) m f.0 tt))

-- ---- at the beginning and after a stop nobody is there

vacant_all : (n k : ℕ) → map {B = Seat} (λ p. Vacant) (numbers_from n k) ≡ replicate k Vacant
vacant_all n zero = refl
vacant_all n (suc k) = ap (λ (ds : List Seat). Vacant ∷ ds) (vacant_all (suc n) k)

pub seats_new : (job : Job) (c : ConfValues) → seats_view job c [] ≡ replicate (places c) Vacant
seats_new job c = vacant_all 0 (places c)

pub seats_stopped : (job : Job) (c : ConfValues) (past : Past) (cause : StopCause) → seats_view job c (Stopped cause ∷ past) ≡ replicate (places c) Vacant
seats_stopped job c past cause = vacant_all 0 (places c)

-- ---- the other events

leave_output : (o : Option AttemptId) → AllOf Leaves (output_lost_entries o)
leave_output None = tt
leave_output (Some w) = (tt, tt)

leave_event : (g : Dag) (c : ConfValues) (past : Past) (e : CoreEvent) → KeepsSeats e → AllOf Leaves (entries_of g c past e)
leave_event g c past Open h = tt
leave_event g c past (Configure v) h = (tt, tt)
leave_event g c past (Queue t) h = (tt, tt)
leave_event g c past (Place a p) h = absurd h
leave_event g c past (Fetch a e i) h = absurd h
leave_event g c past (Send a) h = absurd h
leave_event g c past (Preempt a) h = absurd h
leave_event g c past (Fail a) h = absurd h
leave_event g c past (LoseNode slot) h = absurd h
leave_event g c past (LoseOutput t) h = leave_output (winner t past)
leave_event g c past Restart h = absurd h
leave_event g c past (Ready v) h = (tt, tt)
leave_event g c past CommitStart h = (tt, tt)
leave_event g c past (Ask v) h = tt
leave_event g c past (Publish v) h = (tt, tt)
leave_event g c past Finish h = (tt, tt)
leave_event g c past Purge h = (tt, tt)

pub seats_left : (job : Job) (c : ConfValues) (past : Past) (e : CoreEvent) → KeepsSeats e → IsMade job.plan c past → enabled job.plan c past e ≡ true
    → seats_view job c (extend past (entries_of job.plan c past e)) ≡ seats_view job c past
seats_left job c past e k m on =
    same_seats job c past (extend past (entries_of job.plan c past e)) (leave_all job c past (entries_of job.plan c past e) m (event_may job.plan c past e m on) (leave_event job.plan c past e k))

pub seats_answered : (job : Job) (c : ConfValues) (past : Past) (v : VertexId) (there : Bool) → seats_view job c (answered past v there) ≡ seats_view job c past
seats_answered job c past v there = same_seats job c past (answered past v there) (answer_seat job past v there)
