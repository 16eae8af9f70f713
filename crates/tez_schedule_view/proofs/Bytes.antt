-- Bytes are told only of attempts that were queued and are not alive any more.
use Rattle.std.specs.Prelude.{◌≡◌, ℕ, suc, nat_le, ⊤, Bool, true, false, ◌&&◌, ◌||◌, ◌==◌, if◌then◌else◌, List, [], ◌∷◌, ◌++◌, map, Option, Some, None, is_none, IsTrue, refl}
use Rattle.std.proofs.Common.{ap, sym, ◌∙◌, subst}
use Rattle.tez_ids.specs.declared.EdgeId.{EdgeId}
use Rattle.tez_ids.specs.declared.TaskId.{TaskId}
use Rattle.tez_ids.specs.declared.VertexId.{VertexId}
use Rattle.tez_ids.specs.declared.AttemptId.{AttemptId}
use Rattle.tez_ids.specs.Same.{same_attempt}
use Rattle.tez_plan.specs.Dag.{Dag, edge, vertex}
use Rattle.tez_conf.specs.declared.values.ConfValues.{ConfValues}
use Rattle.tez_vman.specs.declared.seen.Config.{Config}
use Rattle.tez_events.specs.declared.StopCause.{StopCause}
use Rattle.tez_events.specs.declared.Entry.{Entry}
use Rattle.tez_events.specs.declared.Entry.TheVariants.{Opened, Over, Stands, Carried, Kept, Queued, Placed, Fetched, ReadError, InputFailed, Ordered, Succeeded, Made, Failed, Killed, NodeLost, Stopped, Committing}
use Rattle.tez_events.specs.declared.CoreEvent.{CoreEvent}
use Rattle.tez_events.specs.declared.CoreEvent.TheVariants.{Open, Configure, Queue, Place, Fetch, Send, Preempt, Fail, LoseNode, LoseOutput, Restart, Ready, CommitStart, Ask, Publish, Finish, Purge}
use Rattle.tez_history.specs.Shape.{is_vertex}
use Rattle.tez_history.specs.History.{Past, extend, Stage, InQueue, Waits, Ended, stage, config, winner, holder, life, failures, made_bytes, is_committing, recorded}
use Rattle.tez_history.specs.Derived.{notices, tasks, is_task, is_processing, is_on_shelf, is_on_node, places_on, all_done}
use Rattle.tez_history.specs.Steps.{enabled, entries_of, done_entries, each_after, requeue, withdrawal, killed_by_node, kill_at, withdrawn_if, withdraw_lost, node_kills, node_withdrawals, node_loss_entries, fetch_entries, output_lost_entries, winner_behind}
use Rattle.tez_history.specs.Follows.{IsMade, IsAlive, MayFollow, AllMayFollow}
use Rattle.tez_history.specs.Runs.{Standing, opened_at, standing_entries, stands_if, kept_if, carried_entries, committing_if}
use Rattle.tez_laws.specs.Laws.{was_ever_queued, answered, taken_up}
use Rattle.tez_laws.proofs.Same.{same_attempt-true, same_attempt-refl}
use Rattle.tez_laws.proofs.OneLive.{running_alive, sent_alive}
use Rattle.tez_laws.proofs.Going.{extend-append}
use Rattle.tez_laws.proofs.Fresh.{never_queued}
use Rattle.tez_laws.proofs.StepLaw.{AllNotices, notices_are, event_may}
use Rattle.tez_schedule_view.specs.Events.{HasNoBytes, TellsInTime}

pub first_tells : TellsInTime []
first_tells = record { alive = λ a h e. refl; unknown = λ a h e. refl }

-- ---- one entry

alive_through : (b : Bool) (s t : Stage) → (b ≡ true → IsAlive s → IsAlive t) → IsAlive (if b then s else t) → IsAlive t
alive_through true s t f h = f refl h
alive_through false s t f h = h

right_too : (x y : Bool) → y ≡ true → (x || y) ≡ true
right_too true y h = refl
right_too false y h = h

right_not : (x y : Bool) → (x || y) ≡ false → y ≡ false
right_not true y h = cc
right_not false y h = h

placed_alive : (past : Past) (a b : AttemptId) → stage b past ≡ InQueue → same_attempt b a ≡ true → IsAlive (stage a past)
placed_alive past a b at same = subst (λ x. IsAlive (stage x past)) (same_attempt-true b a same) (subst IsAlive (sym at) tt)

-- what lives was queued
alive_queued : (g : Dag) (c : ConfValues) (past : Past) → IsMade g c past → (a : AttemptId) → IsAlive (stage a past) → was_ever_queued a past ≡ true
alive_queued g c [] m a h = absurd h
alive_queued g c (Opened _ ∷ past) m a h = absurd h
alive_queued g c (Over ∷ past) m a h = absurd h
alive_queued g c (Stopped _ ∷ past) m a h = absurd h
alive_queued g c (Queued b ∷ past) m a h = by (same_attempt b a) h (alive_queued g c past m.1 a) where
  by : (x : Bool) → IsAlive (if x then InQueue else stage a past) → (IsAlive (stage a past) → was_ever_queued a past ≡ true) → (x || was_ever_queued a past) ≡ true
  by true k ih = refl
  by false k ih = ih k
alive_queued g c (Placed b k p ∷ past) m a h = alive_queued g c past m.1 a (alive_through (same_attempt b a) (Waits p) (stage a past) (λ s _. placed_alive past a b m.0.0 s) h)
alive_queued g c (Ordered b ∷ past) m a h = alive_queued g c past m.1 a (sent_alive (same_attempt b a) (stage a past) h)
alive_queued g c (Succeeded b ∷ past) m a h = alive_queued g c past m.1 a (alive_through (same_attempt b a) Ended (stage a past) (λ _ k. absurd k) h)
alive_queued g c (Failed b ∷ past) m a h = alive_queued g c past m.1 a (alive_through (same_attempt b a) Ended (stage a past) (λ _ k. absurd k) h)
alive_queued g c (Killed b _ ∷ past) m a h = alive_queued g c past m.1 a (alive_through (same_attempt b a) Ended (stage a past) (λ _ k. absurd k) h)
alive_queued g c (_ ∷ past) m a h = alive_queued g c past m.1 a h

abbrev IsUntold : Entry → Type 0
IsUntold (Made _ _ _) = ⊥
IsUntold _ = ⊤

next_tells : (g : Dag) (c : ConfValues) (past : Past) (e : Entry) → IsMade g c past → MayFollow g c past e → IsUntold e → TellsInTime past → TellsInTime (e ∷ past)
next_tells g c past (Made _ _ _) m may u t = absurd u
next_tells g c past (Opened _) m may u t = record { alive = λ a h x. absurd h; unknown = t.unknown }
next_tells g c past Over m may u t = record { alive = λ a h x. absurd h; unknown = t.unknown }
next_tells g c past (Stopped _) m may u t = record { alive = λ a h x. absurd h; unknown = t.unknown }
next_tells g c past (Queued b) m may u t = record { alive = λ a h. by a (same_attempt b a) refl h; unknown = λ a h. t.unknown a (right_not (same_attempt b a) (was_ever_queued a past) h) } where
  fresh : was_ever_queued b past ≡ false
  fresh = subst (λ x. was_ever_queued x past ≡ false) (sym may.2) (never_queued g c past m b.task)

  by : (a : AttemptId) (x : Bool) → same_attempt b a ≡ x → IsAlive (if x then InQueue else stage a past) → HasNoBytes past a
  by a true e h = subst (HasNoBytes past) (same_attempt-true b a e) (t.unknown b fresh)
  by a false e h = t.alive a h
next_tells g c past (Placed b k p) m may u t = record { alive = λ a h. t.alive a (alive_through (same_attempt b a) (Waits p) (stage a past) (λ s _. placed_alive past a b may.0 s) h); unknown = t.unknown }
next_tells g c past (Ordered b) m may u t = record { alive = λ a h. t.alive a (sent_alive (same_attempt b a) (stage a past) h); unknown = t.unknown }
next_tells g c past (Succeeded b) m may u t = record { alive = λ a h. t.alive a (alive_through (same_attempt b a) Ended (stage a past) (λ _ k. absurd k) h); unknown = t.unknown }
next_tells g c past (Failed b) m may u t = record { alive = λ a h. t.alive a (alive_through (same_attempt b a) Ended (stage a past) (λ _ k. absurd k) h); unknown = t.unknown }
next_tells g c past (Killed b _) m may u t = record { alive = λ a h. t.alive a (alive_through (same_attempt b a) Ended (stage a past) (λ _ k. absurd k) h); unknown = t.unknown }
next_tells g c past _ m may u t = record { alive = t.alive; unknown = t.unknown }

abbrev AllUntold : List Entry → Type 0
AllUntold [] = ⊤
AllUntold (e ∷ es) = IsUntold e × AllUntold es

entries_tell : (g : Dag) (c : ConfValues) (past : Past) (es : List Entry) → IsMade g c past → AllMayFollow g c past es → AllUntold es → TellsInTime past → TellsInTime (extend past es)
entries_tell g c past [] m may u t = t
entries_tell g c past (e ∷ es) m may u t = entries_tell g c (e ∷ past) es (may.0, m) may.1 u.1 (next_tells g c past e m may.0 u.0 t)

-- ---- no event tells bytes

untold-append : (xs ys : List Entry) → AllUntold xs → AllUntold ys → AllUntold (xs ++ ys)
untold-append [] ys h k = k
untold-append (x ∷ xs) ys h k = (h.0, untold-append xs ys h.1 k)

untold_notices : (es : List Entry) → AllNotices es → AllUntold es
untold_notices [] h = tt
untold_notices (InputFailed _ _ _ _ ∷ es) h = (tt, untold_notices es h)
untold_notices (_ ∷ es) h = absurd h

untold_each : {X : Type 0} (part : Past → X → List Entry) → ((past : Past) (x : X) → AllUntold (part past x)) → (past : Past) (xs : List X) → AllUntold (each_after part past xs)
untold_each part ok past [] = tt
untold_each part ok past (x ∷ xs) = untold-append (part past x) (each_after part (extend past (part past x)) xs) (ok past x) (untold_each part ok (extend past (part past x)) xs)

untold_withdrawal : (g : Dag) (past : Past) (w : AttemptId) → AllUntold (withdrawal g past w)
untold_withdrawal g past w = (tt, untold-append (notices g past w) (requeue past w.task) (untold_notices (notices g past w) (notices_are g past w)) (tt, tt))

untold_kill : (past : Past) (p : ℕ) → AllUntold (kill_at past p)
untold_kill past p = by (holder p past) where
  by : (o : Option AttemptId) → AllUntold (killed_by_node past o)
  by None = tt
  by (Some a) = (tt, (tt, tt))

untold_lost : (g : Dag) (c : ConfValues) (slot : ℕ) (before past : Past) (t : TaskId) → AllUntold (withdraw_lost g c slot before past t)
untold_lost g c slot before past t = by (winner t past) where
  if_there : (w : AttemptId) (b : Bool) → AllUntold (if b then withdrawal g past w else [])
  if_there w true = untold_withdrawal g past w
  if_there w false = tt

  by : (o : Option AttemptId) → AllUntold (withdrawn_if g c slot before past o)
  by None = tt
  by (Some w) = if_there w (is_on_node g c before slot w)

untold_loss : (g : Dag) (c : ConfValues) (past : Past) (slot : ℕ) → AllUntold (node_loss_entries g c past slot)
untold_loss g c past slot =
    let lost : Past = NodeLost slot (suc (life slot past)) ∷ past in
    let kills : List Entry = node_kills c lost slot in
    (tt, untold-append kills (node_withdrawals g c slot past (extend lost kills)) (untold_each kill_at untold_kill lost (places_on c slot)) (untold_each (withdraw_lost g c slot past) (untold_lost g c slot past) (extend lost kills) (tasks g past)))

untold_fetch : (g : Dag) (c : ConfValues) (past : Past) (a : AttemptId) (e i : ℕ) (o : Option AttemptId) → AllUntold (fetch_entries g c past a e i o)
untold_fetch g c past a e i None = tt
untold_fetch g c past a e i (Some w) = by (is_on_shelf g c past w) where
  by : (b : Bool) → AllUntold (if b then Fetched a (edge e) i w ∷ [] else ReadError a (edge e) i w ∷ withdrawal g (ReadError a (edge e) i w ∷ past) w)
  by true = (tt, tt)
  by false = (tt, untold_withdrawal g (ReadError a (edge e) i w ∷ past) w)

untold_event : (g : Dag) (c : ConfValues) (past : Past) (e : CoreEvent) → AllUntold (entries_of g c past e)
untold_event g c past Open = tt
untold_event g c past (Configure v) = (tt, tt)
untold_event g c past (Queue t) = (tt, tt)
untold_event g c past (Place a p) = (tt, tt)
untold_event g c past (Fetch a e i) = untold_fetch g c past a e.0 i (winner_behind g past a e.0 i)
untold_event g c past (Send a) = (tt, tt)
untold_event g c past (Preempt a) = (tt, (tt, tt))
untold_event g c past (Fail a) = by (nat_le c.max_failed (suc (failures a.task past))) where
  by : (b : Bool) → AllUntold (Failed a ∷ (if b then [] else requeue past a.task))
  by true = (tt, tt)
  by false = (tt, (tt, tt))
untold_event g c past (LoseNode slot) = by (is_committing past) where
  by : (b : Bool) → AllUntold (if b then NodeLost slot (suc (life slot past)) ∷ [] else node_loss_entries g c past slot)
  by true = (tt, tt)
  by false = untold_loss g c past slot
untold_event g c past (LoseOutput t) = by (winner t past) where
  by : (o : Option AttemptId) → AllUntold (output_lost_entries o)
  by None = tt
  by (Some w) = (tt, tt)
untold_event g c past Restart = (tt, tt)
untold_event g c past (Ready v) = (tt, tt)
untold_event g c past CommitStart = (tt, tt)
untold_event g c past (Ask v) = tt
untold_event g c past (Publish v) = (tt, tt)
untold_event g c past Finish = (tt, tt)
untold_event g c past Purge = (tt, tt)

pub event_tells : (g : Dag) (c : ConfValues) (past : Past) (e : CoreEvent) → IsMade g c past → enabled g c past e ≡ true → TellsInTime past → TellsInTime (extend past (entries_of g c past e))
event_tells g c past e m h t = entries_tell g c past (entries_of g c past e) m (event_may g c past e m h) (untold_event g c past e) t

-- ---- a report tells bytes of an attempt that is done

not_of : (past : Past) (a b : AttemptId) (d : EdgeId) (n e : ℕ) → same_attempt a b ≡ false → made_bytes b e past ≡ 0 → made_bytes b e (Made a d n ∷ past) ≡ 0
not_of past a b d n e other none = ap (λ x. if x && (d.0 == e) then n else made_bytes b e past) other ∙ none

ended_dead : (s : Stage) → s ≡ Ended → IsAlive s → ⊥
ended_dead s e h = subst IsAlive e h

not_both : (b : Bool) → b ≡ true → b ≡ false → ⊥
not_both b h k = cc

made_tells : (past : Past) (a : AttemptId) (made : List (ℕ × ℕ)) → stage a past ≡ Ended → was_ever_queued a past ≡ true → TellsInTime past → TellsInTime (extend past (map (λ m. Made a (edge m.0) m.1) made))
made_tells past a [] over was t = t
made_tells past a (x ∷ xs) over was t =
    made_tells (Made a (edge x.0) x.1 ∷ past) a xs over was
    (record {
      alive = λ b h e. not_of past a b (edge x.0) x.1 e (other b (λ s. ended_dead (stage b past) (subst (λ y. stage y past ≡ Ended) s over) h)) (t.alive b h e);
      unknown = λ b h e. not_of past a b (edge x.0) x.1 e (other b (λ s. not_both (was_ever_queued b past) (subst (λ y. was_ever_queued y past ≡ true) s was) h)) (t.unknown b h e);
    })
  where
    other : (b : AttemptId) → (a ≡ b → ⊥) → same_attempt a b ≡ false
    other b f = by (same_attempt a b) refl where
      by : (y : Bool) → same_attempt a b ≡ y → same_attempt a b ≡ false
      by true e = absurd (f (same_attempt-true a b e))
      by false e = e

pub report_keeps : (g : Dag) (c : ConfValues) (past : Past) (a : AttemptId) (made : List (ℕ × ℕ)) → IsMade g c past → IsTrue (is_processing (stage a past)) → TellsInTime past → TellsInTime (extend past (done_entries a made))
report_keeps g c past a made m runs t =
    made_tells (Succeeded a ∷ past) a made (ap (λ b. if b then Ended else stage a past) (same_attempt-refl a)) (alive_queued g c past m a (running_alive (stage a past) runs)) (next_tells g c past (Succeeded a) m runs tt t)

pub nothing_told : (past : Past) (a : AttemptId) → TellsInTime past → IsTrue (is_processing (stage a past)) → HasNoBytes past a
nothing_told past a t runs = t.alive a (running_alive (stage a past) runs)

pub answer_keeps : (past : Past) (v : VertexId) (there : Bool) → TellsInTime past → TellsInTime (answered past v there)
answer_keeps past v true t = record { alive = t.alive; unknown = t.unknown }
answer_keeps past v false t = record { alive = t.alive; unknown = t.unknown }

-- ---- masters change

pub stop_keeps : (past : Past) (cause : StopCause) → TellsInTime past → TellsInTime (Stopped cause ∷ past)
stop_keeps past cause t = record { alive = λ a h x. absurd h; unknown = t.unknown }

pub over_keeps : (past : Past) → TellsInTime past → TellsInTime (Over ∷ past)
over_keeps past t = record { alive = λ a h x. absurd h; unknown = t.unknown }

-- what a new master finds
abbrev IsFound : Entry → Type 0
IsFound (Stands _ _ _) = ⊤
IsFound (Carried _ _) = ⊤
IsFound (Kept _) = ⊤
IsFound (Committing _) = ⊤
IsFound _ = ⊥

abbrev AllFound : List Entry → Type 0
AllFound [] = ⊤
AllFound (e ∷ es) = IsFound e × AllFound es

found_tell : (past : Past) (es : List Entry) → AllFound es → TellsInTime past → TellsInTime (extend past es)
found_tell past [] h t = t
found_tell past (Stands v n b ∷ es) h t = found_tell (Stands v n b ∷ past) es h.1 (record { alive = t.alive; unknown = t.unknown })
found_tell past (Carried s n ∷ es) h t = found_tell (Carried s n ∷ past) es h.1 (record { alive = t.alive; unknown = t.unknown })
found_tell past (Kept a ∷ es) h t = found_tell (Kept a ∷ past) es h.1 (record { alive = t.alive; unknown = t.unknown })
found_tell past (Committing n ∷ es) h t = found_tell (Committing n ∷ past) es h.1 (record { alive = t.alive; unknown = t.unknown })
found_tell past (_ ∷ es) h t = absurd h.0

found-append : (xs ys : List Entry) → AllFound xs → AllFound ys → AllFound (xs ++ ys)
found-append [] ys h k = k
found-append (x ∷ xs) ys h k = (h.0, found-append xs ys h.1 k)

found_each : {X : Type 0} (part : Past → X → List Entry) → ((past : Past) (x : X) → AllFound (part past x)) → (past : Past) (xs : List X) → AllFound (each_after part past xs)
found_each part ok past [] = tt
found_each part ok past (x ∷ xs) = found-append (part past x) (each_after part (extend past (part past x)) xs) (ok past x) (found_each part ok (extend past (part past x)) xs)

found_carried : (xs : List (TaskId × ℕ)) → AllFound (carried_entries xs)
found_carried [] = tt
found_carried (x ∷ xs) = (tt, found_carried xs)

found_stands : (g : Dag) (past : Past) (x : ℕ × Config) → AllFound (stands_if g past x)
found_stands g past x = by (is_none (config x.0 past) && is_vertex g x.0) where
  by : (b : Bool) → AllFound (if b then Stands (vertex x.0) x.1.tasks x.1.base ∷ [] else [])
  by true = (tt, tt)
  by false = tt

found_kept : (g : Dag) (past : Past) (a : AttemptId) → AllFound (kept_if g past a)
found_kept g past a = by (is_task g past a.task) where
  by : (b : Bool) → AllFound (if b then Kept a ∷ [] else [])
  by true = (tt, tt)
  by false = tt

found_committing : (g : Dag) (past : Past) (n : ℕ) → AllFound (committing_if g past n)
found_committing g past n = by (all_done g past && nat_le (recorded past) n) where
  by : (b : Bool) → AllFound (if b then Committing n ∷ [] else [])
  by true = (tt, tt)
  by false = tt

pub opened_keeps : (g : Dag) (past : Past) (s : Standing) → TellsInTime past → TellsInTime (extend (opened_at s past) (standing_entries g (opened_at s past) s))
opened_keeps g past s t =
    let new : Past = opened_at s past in
    let stands : List Entry = each_after (stands_if g) new s.configured in
    let carried : List Entry = carried_entries s.failed in
    let kept : List Entry = each_after (kept_if g) (extend (extend new stands) carried) s.kept in
    found_tell new (standing_entries g new s)
    (found-append stands (carried ++ kept) (found_each (stands_if g) (found_stands g) new s.configured)
    (found-append carried kept (found_carried s.failed) (found_each (kept_if g) (found_kept g) (extend (extend new stands) carried) s.kept)))
    (record { alive = λ a h x. absurd h; unknown = t.unknown })

pub taken_up_keeps : (g : Dag) (past : Past) (s : Standing) (n : ℕ) → TellsInTime past → TellsInTime (taken_up g past s n)
taken_up_keeps g past s n t =
    let new : Past = opened_at s past in
    let stands : List Entry = standing_entries g new s in
    let stood : Past = extend new stands in
    subst TellsInTime (sym (extend-append new stands (committing_if g stood n)))
    (found_tell stood (committing_if g stood n) (found_committing g stood n) (opened_keeps g past s t))
