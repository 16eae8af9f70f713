-- No event, no report and no answer adds a configuration or a winner that was found.
--     none_finds es                 none of these was found
--     finds_event, finds_report, finds_answer
use Rattle.std.specs.Prelude.{◌≡◌, ℕ, suc, ◌||◌, not, nat_le, Bool, true, false, if◌then◌else◌, List, [], ◌∷◌, ◌++◌, map, Option, Some, None, refl}
use Rattle.std.specs.List.{list_all}
use Rattle.tez_ids.specs.declared.AttemptId.{AttemptId}
use Rattle.tez_ids.specs.declared.VertexId.{VertexId}
use Rattle.tez_plan.specs.Dag.{Dag, edge}
use Rattle.tez_conf.specs.declared.values.ConfValues.{ConfValues}
use Rattle.tez_events.specs.declared.Entry.{Entry}
use Rattle.tez_events.specs.declared.Entry.TheVariants.{Fetched, ReadError, InputFailed, Made, Failed, NodeLost}
use Rattle.tez_events.specs.declared.CoreEvent.{CoreEvent}
use Rattle.tez_events.specs.declared.CoreEvent.TheVariants.{Open, Configure, Queue, Place, Fetch, Send, Preempt, Fail, LoseNode, LoseOutput, Restart, Ready, CommitStart, Ask, Publish, Finish, Purge}
use Rattle.tez_history.specs.History.{Past, extend, holder, winner, life, failures, is_committing}
use Rattle.tez_history.specs.Derived.{tasks, notices, places_on, is_on_node, is_on_shelf}
use Rattle.tez_history.specs.Steps.{entries_of, each_after, requeue, withdrawal, killed_by_node, kill_at, withdrawn_if, withdraw_lost, node_kills, node_withdrawals, fetch_entries, winner_behind, output_lost_entries, asked_entries}
use Rattle.tez_laws.proofs.StepLaw.{AllNotices, notices_are, both}
use Rattle.tez_progress.specs.Laws.{is_stands}
use Rattle.tez_progress.proofs.Members.{true_and}
use Rattle.tez_contents.specs.Laws.{is_kept}

abbrev pub finds : Entry → Bool
finds e = is_stands e || is_kept e

abbrev pub none_finds : List Entry → Bool
none_finds es = list_all (λ e. not (finds e)) es

finds-append : (xs ys : List Entry) → none_finds xs ≡ true → none_finds ys ≡ true → none_finds (xs ++ ys) ≡ true
finds-append [] ys h k = k
finds-append (x ∷ xs) ys h k = let s = both {x = not (finds x)} h in true_and s.0 (finds-append xs ys s.1 k)

finds_notices : (es : List Entry) → AllNotices es → none_finds es ≡ true
finds_notices [] h = refl
finds_notices (InputFailed _ _ _ _ ∷ es) h = finds_notices es h
finds_notices (_ ∷ es) h = absurd h

finds_each : {X : Type 0} (part : Past → X → List Entry) → ((past : Past) (x : X) → none_finds (part past x) ≡ true) → (past : Past) (xs : List X) → none_finds (each_after part past xs) ≡ true
finds_each part h past [] = refl
finds_each part h past (x ∷ xs) = finds-append (part past x) (each_after part (extend past (part past x)) xs) (h past x) (finds_each part h (extend past (part past x)) xs)

finds_withdrawal : (g : Dag) (past : Past) (w : AttemptId) → none_finds (withdrawal g past w) ≡ true
finds_withdrawal g past w = finds-append (notices g past w) (requeue past w.task) (finds_notices (notices g past w) (notices_are g past w)) refl

finds_kill : (past : Past) (o : Option AttemptId) → none_finds (killed_by_node past o) ≡ true
finds_kill past None = refl
finds_kill past (Some a) = refl

finds_withdrawn : (g : Dag) (c : ConfValues) (slot : ℕ) (before past : Past) (o : Option AttemptId) → none_finds (withdrawn_if g c slot before past o) ≡ true
finds_withdrawn g c slot before past None = refl
finds_withdrawn g c slot before past (Some w) = by (is_on_node g c before slot w) where
  by : (b : Bool) → none_finds (if b then withdrawal g past w else []) ≡ true
  by true = finds_withdrawal g past w
  by false = refl

finds_loss : (g : Dag) (c : ConfValues) (past : Past) (slot : ℕ) (b : Bool)
    → none_finds (if b then NodeLost slot (suc (life slot past)) ∷ [] else
    (let lost = NodeLost slot (suc (life slot past)) in let kills = node_kills c (lost ∷ past) slot in
    lost ∷ (kills ++ node_withdrawals g c slot past (extend (lost ∷ past) kills)))) ≡ true
finds_loss g c past slot true = refl
finds_loss g c past slot false =
    let lost = NodeLost slot (suc (life slot past)) in
    let kills = node_kills c (lost ∷ past) slot in
    finds-append kills (node_withdrawals g c slot past (extend (lost ∷ past) kills))
    (finds_each kill_at (λ p x. finds_kill p (holder x p)) (lost ∷ past) (places_on c slot))
    (finds_each (withdraw_lost g c slot past) (λ p t. finds_withdrawn g c slot past p (winner t p)) (extend (lost ∷ past) kills) (tasks g past))

finds_fetch : (g : Dag) (c : ConfValues) (past : Past) (a : AttemptId) (e i : ℕ) (o : Option AttemptId) → none_finds (fetch_entries g c past a e i o) ≡ true
finds_fetch g c past a e i None = refl
finds_fetch g c past a e i (Some w) = by (is_on_shelf g c past w) where
  by : (b : Bool) → none_finds (if b then Fetched a (edge e) i w ∷ [] else ReadError a (edge e) i w ∷ withdrawal g (ReadError a (edge e) i w ∷ past) w) ≡ true
  by true = refl
  by false = finds_withdrawal g (ReadError a (edge e) i w ∷ past) w

finds_output : (o : Option AttemptId) → none_finds (output_lost_entries o) ≡ true
finds_output None = refl
finds_output (Some w) = refl

finds_failed : (past : Past) (a : AttemptId) (b : Bool) → none_finds (Failed a ∷ (if b then [] else requeue past a.task)) ≡ true
finds_failed past a true = refl
finds_failed past a false = refl

pub finds_event : (g : Dag) (c : ConfValues) (past : Past) (e : CoreEvent) → none_finds (entries_of g c past e) ≡ true
finds_event g c past (Configure v) = refl
finds_event g c past (Queue t) = refl
finds_event g c past (Place a p) = refl
finds_event g c past (Fetch a e i) = finds_fetch g c past a e.0 i (winner_behind g past a e.0 i)
finds_event g c past (Send a) = refl
finds_event g c past (Preempt a) = refl
finds_event g c past (Fail a) = finds_failed past a (nat_le c.max_failed (suc (failures a.task past)))
finds_event g c past (LoseNode slot) = finds_loss g c past slot (is_committing past)
finds_event g c past (LoseOutput t) = finds_output (winner t past)
finds_event g c past (Ready v) = refl
finds_event g c past CommitStart = refl
finds_event g c past (Ask v) = refl
finds_event g c past (Publish v) = refl
finds_event g c past Finish = refl
finds_event g c past Restart = refl
finds_event g c past Purge = refl
finds_event g c past Open = refl

pub finds_report : (a : AttemptId) (made : List (ℕ × ℕ)) → none_finds (map (λ m. Made a (edge m.0) m.1) made) ≡ true
finds_report a [] = refl
finds_report a (x ∷ xs) = finds_report a xs

pub finds_answer : (v : VertexId) (there : Bool) → none_finds (asked_entries v there) ≡ true
finds_answer v true = refl
finds_answer v false = refl
