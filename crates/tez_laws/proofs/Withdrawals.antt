-- After a withdrawal come exactly its notices and the new attempt, over every event.
use Rattle.std.specs.Prelude.{◌≡◌, ℕ, suc, nat_le, Bool, true, false, if◌then◌else◌, List, [], ◌∷◌, ◌++◌, map, Option, Some, None, refl}
use Rattle.std.proofs.Common.{ap, ◌∙◌}
use Rattle.std.proofs.lemmas.Bool.{eq-eqb}
use Rattle.tez_ids.specs.declared.AttemptId.{AttemptId}
use Rattle.tez_events.specs.declared.Entry.{Entry}
use Rattle.tez_events.specs.declared.Entry.TheVariants.{Queued, Fetched, ReadError, InputFailed, Succeeded, Made, Failed, Killed, NodeLost, OutputLost, Rerun, Asked, Settled}
use Rattle.tez_events.specs.declared.CoreEvent.{CoreEvent}
use Rattle.tez_events.specs.declared.CoreEvent.TheVariants.{Open, Fetch, Preempt, Fail, LoseNode, LoseOutput, Ask}
use Rattle.tez_plan.specs.Dag.{Dag, edge}
use Rattle.tez_conf.specs.declared.values.ConfValues.{ConfValues}
use Rattle.tez_history.specs.History.{Past, extend, winner, holder, life, failures, is_committing}
use Rattle.tez_history.specs.Derived.{tasks, notices, next_attempt, places_on, is_on_node, is_on_shelf}
use Rattle.tez_history.specs.Steps.{entries_of, each_after, requeue, withdrawal, killed_by_node, kill_at, withdrawn_if, withdraw_lost, node_kills, node_withdrawals, fetch_entries, winner_behind, output_lost_entries, done_entries}
use Rattle.tez_history.specs.Rules.{owed, rest_of, is_owed}
use Rattle.tez_laws.specs.Laws.{OwesRight, AnswersOweRight}
use Rattle.tez_laws.proofs.Same.{same_task-refl, same_attempt-refl}
use Rattle.tez_laws.proofs.StepLaw.{AllNotices, notices_are}

settled : (g : Dag) (past : Past) (es : List Entry) → OwesRight g past es → owed g (extend past es) ≡ []
settled g past [] h = h
settled g past (e ∷ es) h = settled g (e ∷ past) es h.1

owes-append : (g : Dag) (past : Past) (xs ys : List Entry) → OwesRight g past xs → (owed g (extend past xs) ≡ [] → OwesRight g (extend past xs) ys) → OwesRight g past (xs ++ ys)
owes-append g past [] ys h k = k h
owes-append g past (x ∷ xs) ys h k = (h.0, owes-append g (x ∷ past) xs ys h.1 k)

owes-each : {X : Type 0} (g : Dag) (part : Past → X → List Entry) → ((past : Past) (x : X) → owed g past ≡ [] → OwesRight g past (part past x))
    → (past : Past) (xs : List X) → owed g past ≡ [] → OwesRight g past (each_after part past xs)
owes-each g part ok past [] h = h
owes-each g part ok past (x ∷ xs) h = owes-append g past (part past x) (each_after part (extend past (part past x)) xs) (ok past x h) (owes-each g part ok (extend past (part past x)) xs)

-- where nothing is owed, anything may come
free : (g : Dag) (past : Past) (e : Entry) → owed g past ≡ [] → is_owed (owed g past) e ≡ true
free g past e h = ap (λ os. is_owed os e) h

-- what is owed is paid, one notice after another
pays : (g : Dag) (p : Past) (n : AttemptId) (es : List Entry) → AllNotices es → owed g p ≡ es ++ Queued n ∷ [] → OwesRight g p (es ++ Queued n ∷ [])
pays g p n [] h e = (ap (λ os. is_owed os (Queued n)) e ∙ same_task-refl n.task, refl)
pays g p n (InputFailed a d i w ∷ es) h e = (
  ap (λ os. is_owed os (InputFailed a d i w)) e ∙ rw (same_attempt-refl a, same_attempt-refl w, eq-eqb d.0 d.0 refl, eq-eqb i i refl) refl,
  pays g (InputFailed a d i w ∷ p) n es h (ap rest_of e),
)
pays g p n (_ ∷ es) h e = absurd h

withdrawal_owes : (g : Dag) (past : Past) (w : AttemptId) → owed g past ≡ [] → OwesRight g past (withdrawal g past w)
withdrawal_owes g past w h = (free g past (Rerun w) h, pays g (Rerun w ∷ past) (next_attempt past w.task) (notices g past w) (notices_are g past w) refl)

killed_owes : (g : Dag) (past : Past) (o : Option AttemptId) → owed g past ≡ [] → OwesRight g past (killed_by_node past o)
killed_owes g past None h = h
killed_owes g past (Some a) h = (free g past (Killed a Rattle.tez_events.specs.declared.KillCause.TheVariants.Node) h, (refl, refl))

withdrawn_owes : (g : Dag) (c : ConfValues) (slot : ℕ) (before past : Past) (o : Option AttemptId) → owed g past ≡ [] → OwesRight g past (withdrawn_if g c slot before past o)
withdrawn_owes g c slot before past None h = h
withdrawn_owes g c slot before past (Some w) h = by (is_on_node g c before slot w) where
  by : (b : Bool) → OwesRight g past (if b then withdrawal g past w else [])
  by true = withdrawal_owes g past w h
  by false = h

loss_owes : (g : Dag) (c : ConfValues) (past : Past) (slot : ℕ) (b : Bool) → owed g past ≡ []
    → OwesRight g past (if b then NodeLost slot (suc (life slot past)) ∷ [] else
    (let lost = NodeLost slot (suc (life slot past)) in let kills = node_kills c (lost ∷ past) slot in
    lost ∷ (kills ++ node_withdrawals g c slot past (extend (lost ∷ past) kills))))
loss_owes g c past slot true h = (free g past (NodeLost slot (suc (life slot past))) h, refl)
loss_owes g c past slot false h =
    let lost = NodeLost slot (suc (life slot past)) in
    let kills = node_kills c (lost ∷ past) slot in (
      free g past lost h,
      owes-append g (lost ∷ past) kills (node_withdrawals g c slot past (extend (lost ∷ past) kills))
          (owes-each g kill_at (λ p x k. killed_owes g p (holder x p) k) (lost ∷ past) (places_on c slot) refl)
          (owes-each g (withdraw_lost g c slot past) (λ p t k. withdrawn_owes g c slot past p (winner t p) k) (extend (lost ∷ past) kills) (tasks g past)),
    )

fetch_owes : (g : Dag) (c : ConfValues) (past : Past) (a : AttemptId) (e i : ℕ) (o : Option AttemptId) → owed g past ≡ [] → OwesRight g past (fetch_entries g c past a e i o)
fetch_owes g c past a e i None h = h
fetch_owes g c past a e i (Some w) h = by (is_on_shelf g c past w) where
  by : (b : Bool) → OwesRight g past (if b then Fetched a (edge e) i w ∷ [] else ReadError a (edge e) i w ∷ withdrawal g (ReadError a (edge e) i w ∷ past) w)
  by true = (free g past (Fetched a (edge e) i w) h, refl)
  by false = (free g past (ReadError a (edge e) i w) h, withdrawal_owes g (ReadError a (edge e) i w ∷ past) w refl)

fail_owes : (g : Dag) (past : Past) (a : AttemptId) (b : Bool) → owed g past ≡ [] → OwesRight g past (Failed a ∷ (if b then [] else requeue past a.task))
fail_owes g past a true h = (free g past (Failed a) h, refl)
fail_owes g past a false h = (free g past (Failed a) h, (refl, refl))

output_owes : (g : Dag) (past : Past) (o : Option AttemptId) → owed g past ≡ [] → OwesRight g past (output_lost_entries o)
output_owes g past None h = h
output_owes g past (Some w) h = (free g past (OutputLost w) h, refl)

pub event_owes : (g : Dag) (c : ConfValues) (past : Past) (e : CoreEvent) → owed g past ≡ [] → OwesRight g past (entries_of g c past e)
event_owes g c past (Fetch a e i) h = fetch_owes g c past a e.0 i (winner_behind g past a e.0 i) h
event_owes g c past (Fail a) h = fail_owes g past a (nat_le c.max_failed (suc (failures a.task past))) h
event_owes g c past (LoseNode slot) h = loss_owes g c past slot (is_committing past) h
event_owes g c past (LoseOutput t) h = output_owes g past (winner t past) h
event_owes g c past (Preempt a) h = (free g past (Killed a Rattle.tez_events.specs.declared.KillCause.TheVariants.Preempt) h, (refl, refl))
event_owes g c past Open h = h
event_owes g c past (Ask v) h = h
event_owes g c past e h = (free g past _ h, refl)

made_owes : (g : Dag) (past : Past) (a : AttemptId) (made : List (ℕ × ℕ)) → owed g past ≡ [] → OwesRight g past (map (λ m. Made a (edge m.0) m.1) made)
made_owes g past a [] h = h
made_owes g past a (x ∷ xs) h = (free g past (Made a (edge x.0) x.1) h, made_owes g (Made a (edge x.0) x.1 ∷ past) a xs refl)

pub done_owes : (g : Dag) (past : Past) (a : AttemptId) (made : List (ℕ × ℕ)) → owed g past ≡ [] → OwesRight g past (done_entries a made)
done_owes g past a made h = (free g past (Succeeded a) h, made_owes g (Succeeded a ∷ past) a made refl)

pub asked_owes : (g : Dag) (past : Past) → owed g past ≡ [] → AnswersOweRight g past
asked_owes g past h v true = (free g past (Settled v) h, refl)
asked_owes g past h v false = (free g past (Asked v) h, refl)
