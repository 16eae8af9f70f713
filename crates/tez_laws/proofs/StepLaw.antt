-- Each enabled event adds entries that may follow.
use Rattle.std.specs.Prelude.{◌≡◌, ℕ, suc, ◌<◌, nat_lt, nat_le, ⊤, Bool, true, false, IsTrue, not, ◌&&◌, ◌||◌, if◌then◌else◌, List, [], ◌∷◌, ◌++◌, map, Option, Some, None, is_none, is_some, unwrap_or, refl}
use Rattle.std.specs.List.{filter, flat_map}
use Rattle.std.proofs.Common.{sym, ap, ◌∙◌, arith, subst}
use Rattle.std.proofs.lemmas.Bool.Decides.{nat_tests}
use Rattle.tez_ids.specs.declared.TaskId.{TaskId}
use Rattle.tez_ids.specs.declared.VertexId.{VertexId}
use Rattle.tez_ids.specs.declared.AttemptId.{AttemptId}
use Rattle.tez_vman.specs.declared.seen.Config.{Config}
use Rattle.tez_vman.specs.Rules.{config as shape}
use Rattle.tez_events.specs.declared.KillCause.{KillCause}
use Rattle.tez_events.specs.declared.KillCause.TheVariants.{Node, Preempt as Preempted}
use Rattle.tez_events.specs.declared.Entry.{Entry}
use Rattle.tez_events.specs.declared.Entry.TheVariants.{Configured, Fetched, ReadError, InputFailed, Succeeded, Made, Failed, Killed, NodeLost, Rerun, Stopped}
use Rattle.tez_events.specs.declared.CoreEvent.{CoreEvent}
use Rattle.tez_events.specs.declared.CoreEvent.TheVariants.{Open, Configure, Queue, Place, Fetch, Send, Preempt, Fail, LoseNode, LoseOutput, Restart, Ready, CommitStart, Ask, Publish, Finish, Purge}
use Rattle.tez_ids.specs.Same.{same_task}
use Rattle.tez_plan.specs.Dag.{Dag, edge}
use Rattle.tez_conf.specs.declared.values.ConfValues.{ConfValues}
use Rattle.tez_history.specs.Shape.{is_vertex, places}
use Rattle.tez_history.specs.History.{Past, extend, Stage, Unknown, InQueue, Waits, Runs, Ended, stage, live, winner, freed, holder, is_up, life, failures, is_scheduled, is_fetched, is_committing, is_found, was_asked, config}
use Rattle.tez_history.specs.Derived.{is_task, Input, tasks, is_queued, is_waiting, is_processing, notices, notices_of, inputs, next_attempt, places_on, is_on_node, is_on_shelf, waiting_attempts, source_of_input, has_fetched, configures, any_free, next_sink, is_next}
use Rattle.tez_history.specs.Steps.{may_queue, enabled, is_running, entries_of, each_after, requeue, is_winner_on_shelf, withdrawal, killed_by_node, kill_at, withdrawn_if, withdraw_lost, node_kills, node_withdrawals, fetch_entries, winner_of_input, winner_behind, input_at, output_lost_entries, done_entries, asked_entries}
use Rattle.tez_history.specs.Follows.{IsAlive, IsOpen, MayBeAsked, MayFollow, IsMade, AllMayFollow}
use Rattle.tez_laws.proofs.Same.{same_task-refl, same_attempt-refl}
use Rattle.tez_laws.proofs.OneLive.{one_live, running_alive, placed_alive, killed_placed}
use Rattle.tez_laws.proofs.Tasks.{winner_task, unscheduled, no_both}
use Rattle.tez_laws.proofs.Ranges.{scheduled_is_task, live_scheduled, winner_scheduled}
use Rattle.tez_laws.proofs.Places.{held, in_place}

-- ---- lists of entries

pub may-append : (g : Dag) (c : ConfValues) (past : Past) (xs ys : List Entry) → AllMayFollow g c past xs → AllMayFollow g c (extend past xs) ys → AllMayFollow g c past (xs ++ ys)
may-append g c past [] ys h k = k
may-append g c past (x ∷ xs) ys h k = (h.0, may-append g c (x ∷ past) xs ys h.1 k)

pub made-extend : (g : Dag) (c : ConfValues) (past : Past) (es : List Entry) → IsMade g c past → AllMayFollow g c past es → IsMade g c (extend past es)
made-extend g c past [] m h = m
made-extend g c past (e ∷ es) m h = made-extend g c (e ∷ past) es (h.0, m) h.1

pub each_may : {X : Type 0} (g : Dag) (c : ConfValues) (part : Past → X → List Entry) → ((past : Past) (x : X) → IsMade g c past → AllMayFollow g c past (part past x))
    → (past : Past) (xs : List X) → IsMade g c past → AllMayFollow g c past (each_after part past xs)
each_may g c part ok past [] m = tt
each_may g c part ok past (x ∷ xs) m =
    may-append g c past (part past x) (each_after part (extend past (part past x)) xs) (ok past x m)
    (each_may g c part ok (extend past (part past x)) xs (made-extend g c past (part past x) m (ok past x m)))

-- ---- notices tell consumers, and change nothing else

abbrev pub AllNotices : List Entry → Type 0
AllNotices [] = ⊤
AllNotices (InputFailed _ _ _ _ ∷ es) = AllNotices es
AllNotices (_ ∷ es) = ⊥

AllNotices-append : (xs ys : List Entry) → AllNotices xs → AllNotices ys → AllNotices (xs ++ ys)
AllNotices-append [] ys h k = k
AllNotices-append (InputFailed _ _ _ _ ∷ xs) ys h k = AllNotices-append xs ys h k
AllNotices-append (_ ∷ xs) ys h k = absurd h

AllNotices-map : (lost a : AttemptId) (is : List Input) → AllNotices (map (λ i. InputFailed a (edge i.0) i.2 lost) is)
AllNotices-map lost a [] = tt
AllNotices-map lost a (i ∷ is) = AllNotices-map lost a is

AllNotices-flat : (f : AttemptId → List Entry) → ((a : AttemptId) → AllNotices (f a)) → (xs : List AttemptId) → AllNotices (flat_map f xs)
AllNotices-flat f h [] = tt
AllNotices-flat f h (x ∷ xs) = AllNotices-append (f x) (flat_map f xs) (h x) (AllNotices-flat f h xs)

pub notices_are : (g : Dag) (past : Past) (lost : AttemptId) → AllNotices (notices g past lost)
notices_are g past lost =
    AllNotices-flat (notices_of g past lost)
    (λ a. AllNotices-map lost a (filter (λ i. same_task (source_of_input g past a i) lost.task && not (has_fetched past a i)) (inputs g past a))) (waiting_attempts g past)

notices_may : (g : Dag) (c : ConfValues) (past : Past) (es : List Entry) → IsOpen past → AllNotices es → AllMayFollow g c past es
notices_may g c past [] o h = tt
notices_may g c past (InputFailed a e i w ∷ es) o h = (o, notices_may g c (InputFailed a e i w ∷ past) es refl h)
notices_may g c past (_ ∷ es) o h = absurd h

notices_open : (past : Past) (es : List Entry) → IsOpen past → AllNotices es → IsOpen (extend past es)
notices_open past [] o h = o
notices_open past (InputFailed a e i w ∷ es) o h = notices_open (InputFailed a e i w ∷ past) es refl h
notices_open past (_ ∷ es) o h = absurd h

-- a fact that notices do not touch
pub through : {A : Type 0} (fact : Past → A) → ((past : Past) (a : AttemptId) (e : _) (i : ℕ) (w : AttemptId) → fact (InputFailed a e i w ∷ past) ≡ fact past)
    → (past : Past) (es : List Entry) → AllNotices es → fact (extend past es) ≡ fact past
through fact same past [] h = refl
through fact same past (InputFailed a e i w ∷ es) h = through fact same (InputFailed a e i w ∷ past) es h ∙ same past a e i w
through fact same past (_ ∷ es) h = absurd h

-- ---- a task is queued again

none_by_winner : (l w : Option AttemptId) (a : AttemptId) → ((b : AttemptId) → l ≡ Some b → w ≡ None) → w ≡ Some a → l ≡ None
none_by_winner None w a h e = refl
none_by_winner (Some b) w a h e = let none : w ≡ None = h b refl in cc

unset : (a : AttemptId) (l : Option AttemptId) → (if same_task a.task a.task then None else l) ≡ None
unset a l = rw (same_task-refl a.task)

freed_itself : (a : AttemptId) (w : Option AttemptId) → w ≡ Some a → freed a w ≡ None
freed_itself a w e = ap (freed a) e ∙ rw (same_attempt-refl a)

left_holds : (x y : Bool) → x ≡ true → (x || y) ≡ true
left_holds x y e = rw e refl

right_holds : (x y : Bool) → y ≡ true → (x || y) ≡ true
right_holds true y e = refl
right_holds false y e = e

-- a winner is withdrawn
pub withdrawal_may : (g : Dag) (c : ConfValues) (past : Past) (w : AttemptId) → IsMade g c past → winner w.task past ≡ Some w → AllMayFollow g c past (withdrawal g past w)
withdrawal_may g c past w m won =
    let told = notices_are g past w in
    let lives : live w.task (extend (Rerun w ∷ past) (notices g past w)) ≡ live w.task past =
    through (λ p. live w.task p) (λ p a e i x. refl) (Rerun w ∷ past) (notices g past w) told in
    let wins : winner w.task (extend (Rerun w ∷ past) (notices g past w)) ≡ winner w.task (Rerun w ∷ past) =
    through (λ p. winner w.task p) (λ p a e i x. refl) (Rerun w ∷ past) (notices g past w) told in
    let next : next_attempt (extend (Rerun w ∷ past) (notices g past w)) w.task ≡ next_attempt past w.task =
    through (λ p. next_attempt p w.task) (λ p a e i x. refl) (Rerun w ∷ past) (notices g past w) told in
    let known : is_scheduled w.task past ≡ true = winner_scheduled g c past m w.task w won in
    let there : is_task g (extend (Rerun w ∷ past) (notices g past w)) w.task ≡ true =
    through (λ p. is_task g p w.task) (λ p a e i x. refl) (Rerun w ∷ past) (notices g past w) told ∙ scheduled_is_task g c past m w.task known in
    let again : is_scheduled w.task (extend (Rerun w ∷ past) (notices g past w)) ≡ true =
    through (λ p. is_scheduled w.task p) (λ p a e i x. refl) (Rerun w ∷ past) (notices g past w) told ∙ known in (
      won,
      may-append g c (Rerun w ∷ past) (notices g past w) (requeue past w.task) (notices_may g c (Rerun w ∷ past) (notices g past w) refl told) (
        (
          lives ∙ none_by_winner (live w.task past) (winner w.task past) w (no_both g c past m w.task) won,
          wins ∙ freed_itself w (winner w.task past) won,
          sym next,
          there,
          left_holds _ _ again,
          notices_open (Rerun w ∷ past) (notices g past w) refl told,
        ),
        tt,
      ),
    )

-- the task of a live attempt is there, and was scheduled
pub alive_task : (g : Dag) (c : ConfValues) (past : Past) (a : AttemptId) → IsMade g c past → IsAlive (stage a past) → (is_task g past a.task ≡ true) × (is_scheduled a.task past ≡ true)
alive_task g c past a m alive =
    let known = live_scheduled g c past m a.task a (one_live g c past m a alive) in (scheduled_is_task g c past m a.task known, known)

-- the live attempt ends, and its task is queued again
ended_may : (g : Dag) (c : ConfValues) (past : Past) (a : AttemptId) → IsMade g c past → IsAlive (stage a past) → winner a.task past ≡ None
ended_may g c past a m alive = no_both g c past m a.task a (one_live g c past m a alive)

pub kill_may : (g : Dag) (c : ConfValues) (past : Past) (a : AttemptId) (cause : KillCause) → IsMade g c past → MayFollow g c past (Killed a cause) → AllMayFollow g c past (Killed a cause ∷ requeue past a.task)
kill_may g c past a cause m may =
    let alive = placed_alive (stage a past) (killed_placed g c past a cause may) in
    let k = alive_task g c past a m alive in
    (may, ((unset a (live a.task past), ended_may g c past a m alive, refl, k.0, left_holds _ _ k.1, refl), tt))

fail_may : (g : Dag) (c : ConfValues) (past : Past) (a : AttemptId) (spent : Bool) → IsMade g c past → IsTrue (is_processing (stage a past))
    → AllMayFollow g c past (Failed a ∷ (if spent then [] else requeue past a.task))
fail_may g c past a true m runs = (runs, tt)
fail_may g c past a false m runs =
    let k = alive_task g c past a m (running_alive (stage a past) runs) in
    (runs, ((unset a (live a.task past), ended_may g c past a m (running_alive (stage a past) runs), refl, k.0, left_holds _ _ k.1, refl), tt))

-- ---- what the tests tell

pub both : {x y : Bool} → (x && y) ≡ true → (x ≡ true) × (y ≡ true)
both {x} {y} h = by x h where
  by : (b : Bool) → (b && y) ≡ true → (b ≡ true) × (y ≡ true)
  by true e = (refl, e)
  by false e = cc

queued_is : (s : Stage) → is_queued s ≡ true → s ≡ InQueue
queued_is InQueue h = refl
queued_is (Waits p) h = cc
queued_is (Runs p) h = cc
queued_is Unknown h = cc
queued_is Ended h = cc

none_is : (o : Option AttemptId) → is_none o ≡ true → o ≡ None
none_is None h = refl
none_is (Some a) h = cc

not_true : (b : Bool) → not b ≡ true → b ≡ false
not_true true h = cc
not_true false h = refl

pub below : (a b : ℕ) → nat_lt a b ≡ true → a < b
below a b h = grind (arith, nat_tests)

-- where the master is up, it is open
pub up_open : (past : Past) → is_up past ≡ true → IsOpen past
up_open [] h = cc
up_open (Stopped _ ∷ past) h = cc
up_open (_ ∷ past) h = refl

-- ---- the events

killed_may : (g : Dag) (c : ConfValues) (past : Past) (p : ℕ) (o : Option AttemptId) → holder p past ≡ o → IsMade g c past → AllMayFollow g c past (killed_by_node past o)
killed_may g c past p None h m = tt
killed_may g c past p (Some a) h m = kill_may g c past a Node m (in_place (stage a past) p (held g c past m p a h))

withdrawn_may : (g : Dag) (c : ConfValues) (slot : ℕ) (before past : Past) (t : TaskId) (o : Option AttemptId) → winner t past ≡ o → IsMade g c past
    → AllMayFollow g c past (withdrawn_if g c slot before past o)
withdrawn_may g c slot before past t None h m = tt
withdrawn_may g c slot before past t (Some w) h m = by (is_on_node g c before slot w) where
  won : winner w.task past ≡ Some w
  won = subst (λ u. winner u past ≡ Some w) (sym (winner_task past t w h)) h

  by : (b : Bool) → AllMayFollow g c past (if b then withdrawal g past w else [])
  by true = withdrawal_may g c past w m won
  by false = tt

pub loss_may : (g : Dag) (c : ConfValues) (past : Past) (slot : ℕ) (b : Bool) → IsMade g c past → slot < c.nodes → IsOpen past
    → AllMayFollow g c past (if b then NodeLost slot (suc (life slot past)) ∷ [] else
    (let lost = NodeLost slot (suc (life slot past)) in let kills = node_kills c (lost ∷ past) slot in
    lost ∷ (kills ++ node_withdrawals g c slot past (extend (lost ∷ past) kills))))
loss_may g c past slot true m there o = ((there, refl, o), tt)
loss_may g c past slot false m there o =
    let lost = NodeLost slot (suc (life slot past)) in
    let kills = node_kills c (lost ∷ past) slot in
    let kills_may : AllMayFollow g c (lost ∷ past) kills =
    each_may g c kill_at (λ p x h. killed_may g c p x (holder x p) refl h) (lost ∷ past) (places_on c slot) ((there, refl, o), m) in (
      (there, refl, o),
      may-append g c (lost ∷ past) kills (node_withdrawals g c slot past (extend (lost ∷ past) kills)) kills_may
          (each_may g c (withdraw_lost g c slot past) (λ p t h. withdrawn_may g c slot past p t (winner t p) refl h)
          (extend (lost ∷ past) kills) (tasks g past) (made-extend g c (lost ∷ past) kills ((there, refl, o), m) kills_may)),
    )

pub fetch_may : (g : Dag) (c : ConfValues) (past : Past) (a : AttemptId) (e i : ℕ) (k : Option Input) (o : Option AttemptId) → input_at g past a e i ≡ k → winner_of_input g past a k ≡ o → IsMade g c past
    → IsTrue (is_waiting (stage a past)) → is_fetched a e i past ≡ false → AllMayFollow g c past (fetch_entries g c past a e i o)
fetch_may g c past a e i k None at h m waits fresh = tt
fetch_may g c past a e i None (Some w) at h m waits fresh = cc
fetch_may g c past a e i (Some k) (Some w) at h m waits fresh = by (is_on_shelf g c past w) refl where
  behind : winner_behind g past a e i ≡ Some w
  behind = subst (λ x. winner_of_input g past a x ≡ Some w) (sym at) h

  won : winner w.task past ≡ Some w
  won = subst (λ u. winner u past ≡ Some w) (sym (winner_task past (source_of_input g past a k) w h)) h

  by : (b : Bool) → is_on_shelf g c past w ≡ b
      → AllMayFollow g c past (if b then Fetched a (edge e) i w ∷ [] else ReadError a (edge e) i w ∷ withdrawal g (ReadError a (edge e) i w ∷ past) w)
  by true there = ((waits, fresh, behind, there), tt)
  by false gone = ((waits, fresh, behind, gone), withdrawal_may g c (ReadError a (edge e) i w ∷ past) w ((waits, fresh, behind, gone), m) won)

output_may : (g : Dag) (c : ConfValues) (past : Past) (t : TaskId) (o : Option AttemptId) → winner t past ≡ o → is_winner_on_shelf g c past o ≡ true → AllMayFollow g c past (output_lost_entries o)
output_may g c past t None h s = tt
output_may g c past t (Some w) h s = ((subst (λ u. winner u past ≡ Some w) (sym (winner_task past t w h)) h, s), tt)

configure_may : (g : Dag) (c : ConfValues) (past : Past) (v : VertexId) (o : Option Config) → configures g c v.0 past ≡ o → is_some o ≡ true → config v.0 past ≡ None → is_vertex g v.0 ≡ true → IsOpen past
    → AllMayFollow g c past (Configured v (unwrap_or o (shape 0 0)).tasks (unwrap_or o (shape 0 0)).base ∷ [])
configure_may g c past v None h s free there o = cc
configure_may g c past v (Some x) h s free there o = ((free, h, there, o), tt)

queue_may : (g : Dag) (c : ConfValues) (past : Past) (t : TaskId) → IsMade g c past → may_queue g c past t ≡ true → IsOpen past → AllMayFollow g c past (requeue past t)
queue_may g c past t m h o =
    let k = both {x = is_task g past t} h in
    let l = both {x = not (is_scheduled t past)} k.1 in
    let free = unscheduled g c past m t (not_true (is_scheduled t past) l.0) in
    ((free.0, free.1, refl, k.0, right_holds _ _ l.1, o), tt)

no_config : (o : Option Config) → is_none o ≡ true → o ≡ None
no_config None h = refl
no_config (Some x) h = cc

no_sink : (o : Option ℕ) → is_none o ≡ true → o ≡ None
no_sink None h = refl
no_sink (Some v) h = cc

running_open : (past : Past) (x : Bool) → (is_running past && x) ≡ true → IsOpen past
running_open past x h = up_open past (both {x = is_up past} (both {x = is_running past} h).0).0

-- each enabled event but an open adds entries that may follow
pub event_may : (g : Dag) (c : ConfValues) (past : Past) (e : CoreEvent) → IsMade g c past → enabled g c past e ≡ true → AllMayFollow g c past (entries_of g c past e)
event_may g c past Open m h = tt
event_may g c past (Configure v) m h =
    let k = both (both h).1 in
    let l = both k.1 in
    configure_may g c past v (configures g c v.0 past) refl l.1 (no_config (config v.0 past) l.0) k.0 (running_open past _ h)
event_may g c past (Queue t) m h = queue_may g c past t m (both {x = is_running past} h).1 (running_open past _ h)
event_may g c past (Place a p) m h =
    let k = both (both h).1 in ((queued_is (stage a past) k.0, none_is (holder p past) (both k.1).1, below p (places c) (both k.1).0, refl), tt)
event_may g c past (Fetch a e i) m h =
    let k = both (both h).1 in
    fetch_may g c past a e.0 i (input_at g past a e.0 i) (winner_behind g past a e.0 i) refl refl m k.0 (not_true (is_fetched a e.0 i past) (both k.1).0)
event_may g c past (Send a) m h = let k = both (both h).1 in ((k.0, k.1), tt)
event_may g c past (Preempt a) m h =
    let k = both (both h).1 in kill_may g c past a Preempted m (k.0, not_true (any_free c past) (both k.1).0, (both k.1).1)
event_may g c past (Fail a) m h = fail_may g c past a (nat_le c.max_failed (suc (failures a.task past))) m (both h).1
event_may g c past (LoseNode slot) m h = loss_may g c past slot (is_committing past) m (below slot c.nodes (both h).1) (up_open past (both {x = is_up past} h).0)
event_may g c past (LoseOutput t) m h = output_may g c past t (winner t past) refl (both h).1
event_may g c past Restart m h = (tt, tt)
event_may g c past (Ready v) m h = let k = both (both h).1 in ((k.0, k.1, running_open past _ h), tt)
event_may g c past CommitStart m h = let k = both (both h).1 in ((not_true (is_committing past) k.0, k.1, running_open past _ h), tt)
event_may g c past (Ask v) m h = tt
event_may g c past (Publish v) m h = ((both h).1, tt)
event_may g c past Finish m h = let k = both (both h).1 in ((k.0, no_sink (next_sink g past) k.1), tt)
event_may g c past Purge m h = (((both h).1, up_open past (both {x = is_up past} h).0), tt)

-- a report of a processing attempt too
makes : (g : Dag) (c : ConfValues) (past : Past) (a : AttemptId) (made : List (ℕ × ℕ)) → IsOpen past → AllMayFollow g c past (map (λ m. Made a (edge m.0) m.1) made)
makes g c past a [] o = tt
makes g c past a (x ∷ xs) o = (o, makes g c (Made a (edge x.0) x.1 ∷ past) a xs refl)

pub done_may : (g : Dag) (c : ConfValues) (past : Past) (a : AttemptId) (made : List (ℕ × ℕ)) → IsTrue (is_processing (stage a past)) → AllMayFollow g c past (done_entries a made)
done_may g c past a made runs = (runs, makes g c (Succeeded a ∷ past) a made refl)

-- and what the store answers of a sink that the master may ask of
pub asked_may : (g : Dag) (c : ConfValues) (past : Past) (v : VertexId) (there : Bool) → enabled g c past (Ask v) ≡ true → AllMayFollow g c past (asked_entries v there)
asked_may g c past v there h = by there (let k = both {x = is_found past} (both {x = is_running past} h).1 in (k.0, (both {x = is_next g past v.0} k.1).0, not_true (was_asked v.0 past) (both {x = is_next g past v.0} k.1).1)) where
  by : (b : Bool) → MayBeAsked g past v.0 → AllMayFollow g c past (asked_entries v b)
  by true k = (k, tt)
  by false k = (k, tt)
