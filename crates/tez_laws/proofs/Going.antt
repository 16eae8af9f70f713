-- Between two steps each task that was kept or scheduled has a winner or a live attempt.
use Rattle.std.specs.Prelude.{◌≡◌, ℕ, suc, Bool, true, false, ◌||◌, if◌then◌else◌, List, [], ◌∷◌, ◌++◌, map, Option, Some, None, refl}
use Rattle.std.proofs.Common.{sym, ap, ◌∙◌, subst}
use Rattle.tez_ids.specs.declared.TaskId.{TaskId}
use Rattle.tez_ids.specs.declared.AttemptId.{AttemptId}
use Rattle.tez_ids.specs.declared.VertexId.{VertexId}
use Rattle.tez_events.specs.declared.Entry.{Entry}
use Rattle.tez_events.specs.declared.Entry.TheVariants.{Queued, Fetched, ReadError, InputFailed, Succeeded, Made, Failed, Killed, NodeLost, Rerun}
use Rattle.tez_events.specs.declared.CoreEvent.{CoreEvent}
use Rattle.tez_events.specs.declared.CoreEvent.TheVariants.{Open, Configure, Queue, Place, Fetch, Send, Preempt, Fail, LoseNode, LoseOutput, Restart, Ready, CommitStart, Ask, Publish, Finish, Purge}
use Rattle.tez_ids.specs.Same.{same_task, same_attempt}
use Rattle.tez_plan.specs.Dag.{Dag, edge}
use Rattle.tez_conf.specs.declared.values.ConfValues.{ConfValues}
use Rattle.tez_history.specs.History.{Past, extend, live, winner, freed, holder, life, is_scheduled, is_committing}
use Rattle.tez_history.specs.Derived.{tasks, notices, next_attempt, places_on, is_on_node, is_on_shelf}
use Rattle.tez_history.specs.Steps.{entries_of, each_after, requeue, withdrawal, killed_by_node, kill_at, withdrawn_if, withdraw_lost, node_kills, node_withdrawals, fetch_entries, winner_behind, output_lost_entries, done_entries}
use Rattle.tez_laws.specs.Laws.{GoesOn, SpendsNot, answered}
use Rattle.tez_laws.proofs.Same.{same_task-refl, same_attempt-true}
use Rattle.tez_laws.proofs.Tasks.{winner_task}
use Rattle.tez_laws.proofs.StepLaw.{AllNotices, notices_are, through}

-- ---- lists of entries, one after another

pub extend-append : (past : Past) (xs ys : List Entry) → extend past (xs ++ ys) ≡ extend (extend past xs) ys
extend-append past [] ys = refl
extend-append past (x ∷ xs) ys = extend-append (x ∷ past) xs ys

going-append : (past : Past) (xs ys : List Entry) → GoesOn (extend (extend past xs) ys) → GoesOn (extend past (xs ++ ys))
going-append past xs ys h = subst GoesOn (sym (extend-append past xs ys)) h

going-each : {X : Type 0} (part : Past → X → List Entry) → ((past : Past) (x : X) → GoesOn past → GoesOn (extend past (part past x))) → (past : Past) (xs : List X) → GoesOn past → GoesOn (extend past (each_after part past xs))
going-each part h past [] g = g
going-each part h past (x ∷ xs) g =
    going-append past (part past x) (each_after part (extend past (part past x)) xs) (going-each part h (extend past (part past x)) xs (h past x g))

going-notices : (past : Past) (es : List Entry) → AllNotices es → GoesOn past → GoesOn (extend past es)
going-notices past [] h g = g
going-notices past (InputFailed a e i w ∷ es) h g = going-notices (InputFailed a e i w ∷ past) es h g
going-notices past (_ ∷ es) h g = absurd h

-- ---- one task at a time

-- what a task is: its live attempt, its winner, and whether it was scheduled
abbrev IsFine : Option AttemptId → Option AttemptId → Bool → Type 0
IsFine l w s = l ≡ None → w ≡ None → s ≡ false

fine_queued : (same : Bool) (n : AttemptId) (l w : Option AttemptId) (s : Bool) → IsFine l w s → IsFine (if same then Some n else l) w (same || s)
fine_queued true n l w s h = λ e k. cc
fine_queued false n l w s h = h

fine_again : (same : Bool) (n : AttemptId) (l w : Option AttemptId) (s : Bool) → IsFine l w s → IsFine (if same then Some n else (if same then None else l)) w (same || s)
fine_again true n l w s h = λ e k. cc
fine_again false n l w s h = h

-- where the attempt that goes is not the winner of another task
fine_withdrawn : (same : Bool) (b n : AttemptId) (l w : Option AttemptId) (s : Bool) → (same ≡ false → freed b w ≡ w) → IsFine l w s → IsFine (if same then Some n else l) (freed b w) (same || s)
fine_withdrawn true b n l w s stays h = λ e k. cc
fine_withdrawn false b n l w s stays h = λ e k. h e (sym (stays refl) ∙ k)

stays_winner : (b : AttemptId) (u : TaskId) (w : Option AttemptId) → ((a : AttemptId) → w ≡ Some a → a.task ≡ u) → same_task b.task u ≡ false → freed b w ≡ w
stays_winner b u None of other = refl
stays_winner b u (Some x) of other = by (same_attempt b x) refl where
  by : (same : Bool) → same_attempt b x ≡ same → (if same then None else Some x) ≡ Some x
  by true e =
      let at : same_task b.task u ≡ true = subst (λ t. same_task b.task t ≡ true) (ap (λ a. a.task) (same_attempt-true b x e) ∙ of x refl) (same_task-refl b.task) in
      cc
  by false e = refl

fine_done : (same : Bool) (n : AttemptId) (l w : Option AttemptId) (s : Bool) → IsFine l w s → IsFine (if same then None else l) (if same then Some n else w) s
fine_done true n l w s h = λ e k. cc
fine_done false n l w s h = h

fine_kept : (same : Bool) (n : AttemptId) (l w : Option AttemptId) (s : Bool) → IsFine l w s → IsFine l (if same then Some n else w) (same || s)
fine_kept true n l w s h = λ e k. cc
fine_kept false n l w s h = h

queue_going : (past : Past) (t : TaskId) → GoesOn past → GoesOn (extend past (requeue past t))
queue_going past t g u = fine_queued (same_task t u) (next_attempt past t) (live u past) (winner u past) (is_scheduled u past) (g u)

killed_going : (past : Past) (a : AttemptId) (cause : _) → GoesOn past → GoesOn (extend past (Killed a cause ∷ requeue past a.task))
killed_going past a cause g u = fine_again (same_task a.task u) (next_attempt past a.task) (live u past) (winner u past) (is_scheduled u past) (g u)

failed_going : (past : Past) (a : AttemptId) → GoesOn past → GoesOn (extend past (Failed a ∷ requeue past a.task))
failed_going past a g u = fine_again (same_task a.task u) (next_attempt past a.task) (live u past) (winner u past) (is_scheduled u past) (g u)

-- notices tell, and the task is queued again
tell_going : (past : Past) (w n : AttemptId) (es : List Entry) → AllNotices es → n.task ≡ w.task → GoesOn past → GoesOn (Queued n ∷ extend (Rerun w ∷ past) es)
tell_going past w n es h of g u =
    let l : live u (extend (Rerun w ∷ past) es) ≡ live u past = through (λ p. live u p) (λ p a e i x. refl) (Rerun w ∷ past) es h in
    let k : winner u (extend (Rerun w ∷ past) es) ≡ freed w (winner u past) = through (λ p. winner u p) (λ p a e i x. refl) (Rerun w ∷ past) es h in
    let s : is_scheduled u (extend (Rerun w ∷ past) es) ≡ is_scheduled u past = through (λ p. is_scheduled u p) (λ p a e i x. refl) (Rerun w ∷ past) es h in
    rw (of, l, k, s) (fine_withdrawn (same_task w.task u) w (record { epoch = n.epoch; task = w.task; number = n.number }) (live u past) (winner u past) (is_scheduled u past)
    (stays_winner w u (winner u past) (winner_task past u)) (g u))

withdrawal_going : (g : Dag) (past : Past) (w : AttemptId) → GoesOn past → GoesOn (extend past (withdrawal g past w))
withdrawal_going g past w h =
    going-append (Rerun w ∷ past) (notices g past w) (requeue past w.task) (tell_going past w (next_attempt past w.task) (notices g past w) (notices_are g past w) refl h)

kill_going : (past : Past) (o : Option AttemptId) → GoesOn past → GoesOn (extend past (killed_by_node past o))
kill_going past None h = h
kill_going past (Some a) h = killed_going past a Rattle.tez_events.specs.declared.KillCause.TheVariants.Node h

withdrawn_going : (g : Dag) (c : ConfValues) (slot : ℕ) (before past : Past) (o : Option AttemptId) → GoesOn past → GoesOn (extend past (withdrawn_if g c slot before past o))
withdrawn_going g c slot before past None h = h
withdrawn_going g c slot before past (Some w) h = by (is_on_node g c before slot w) where
  by : (b : Bool) → GoesOn (extend past (if b then withdrawal g past w else []))
  by true = withdrawal_going g past w h
  by false = h

loss_going : (g : Dag) (c : ConfValues) (past : Past) (slot : ℕ) (b : Bool) → GoesOn past
    → GoesOn (extend past (if b then NodeLost slot (suc (life slot past)) ∷ [] else
    (let lost = NodeLost slot (suc (life slot past)) in let kills = node_kills c (lost ∷ past) slot in
    lost ∷ (kills ++ node_withdrawals g c slot past (extend (lost ∷ past) kills)))))
loss_going g c past slot true h = h
loss_going g c past slot false h =
    let lost = NodeLost slot (suc (life slot past)) in
    let kills = node_kills c (lost ∷ past) slot in
    going-append (lost ∷ past) kills (node_withdrawals g c slot past (extend (lost ∷ past) kills))
    (going-each (withdraw_lost g c slot past) (λ p t k. withdrawn_going g c slot past p (winner t p) k) (extend (lost ∷ past) kills) (tasks g past)
    (going-each kill_at (λ p x k. kill_going p (holder x p) k) (lost ∷ past) (places_on c slot) h))

fetch_going : (g : Dag) (c : ConfValues) (past : Past) (a : AttemptId) (e i : ℕ) (o : Option AttemptId) → GoesOn past → GoesOn (extend past (fetch_entries g c past a e i o))
fetch_going g c past a e i None h = h
fetch_going g c past a e i (Some w) h = by (is_on_shelf g c past w) where
  by : (b : Bool) → GoesOn (extend past (if b then Fetched a (edge e) i w ∷ [] else ReadError a (edge e) i w ∷ withdrawal g (ReadError a (edge e) i w ∷ past) w))
  by true = h
  by false = withdrawal_going g (ReadError a (edge e) i w ∷ past) w h

output_going : (past : Past) (o : Option AttemptId) → GoesOn past → GoesOn (extend past (output_lost_entries o))
output_going past None h = h
output_going past (Some w) h = h

made_going : (past : Past) (a : AttemptId) (made : List (ℕ × ℕ)) → GoesOn past → GoesOn (extend past (map (λ m. Made a (edge m.0) m.1) made))
made_going past a [] h = h
made_going past a (x ∷ xs) h = made_going (Made a (edge x.0) x.1 ∷ past) a xs h

pub done_going : (past : Past) (a : AttemptId) (made : List (ℕ × ℕ)) → GoesOn past → GoesOn (extend past (done_entries a made))
done_going past a made h =
    made_going (Succeeded a ∷ past) a made (λ u. fine_done (same_task a.task u) a (live u past) (winner u past) (is_scheduled u past) (h u))

pub event_going : (g : Dag) (c : ConfValues) (past : Past) (e : CoreEvent) → SpendsNot c past e → GoesOn past → GoesOn (extend past (entries_of g c past e))
event_going g c past (Configure v) n h = h
event_going g c past (Queue t) n h = queue_going past t h
event_going g c past (Place a p) n h = h
event_going g c past (Fetch a e i) n h = fetch_going g c past a e.0 i (winner_behind g past a e.0 i) h
event_going g c past (Send a) n h = h
event_going g c past (Preempt a) n h = killed_going past a Rattle.tez_events.specs.declared.KillCause.TheVariants.Preempt h
event_going g c past (Fail a) n h = subst (λ b. GoesOn (extend past (Failed a ∷ (if b then [] else requeue past a.task)))) (sym n) (failed_going past a h)
event_going g c past (LoseNode slot) n h = loss_going g c past slot (is_committing past) h
event_going g c past (LoseOutput t) n h = output_going past (winner t past) h
event_going g c past (Ready v) n h = h
event_going g c past CommitStart n h = h
event_going g c past (Ask v) n h = h
event_going g c past (Publish v) n h = h
event_going g c past Finish n h = h
event_going g c past Restart n h = λ u e k. refl
event_going g c past Purge n h = h
event_going g c past Open n h = h

pub asked_going : (past : Past) (v : VertexId) (there : Bool) → GoesOn past → GoesOn (answered past v there)
asked_going past v true h = h
asked_going past v false h = h
