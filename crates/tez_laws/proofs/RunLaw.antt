-- Every run is sound.
use Rattle.std.specs.Prelude.{◌≡◌, ℕ, suc, ◌+◌, ◌<◌, ◌≤◌, nat_le, max, ⊤, Bool, true, false, IsTrue, not, ◌&&◌, ◌||◌, if◌then◌else◌, List, [], ◌∷◌, ◌++◌, map, Option, Some, None, is_some, is_none, refl}
use Rattle.std.specs.List.{find}
use Rattle.std.proofs.Common.{inl, inr, subst, ap, arith, lt-ltb}
use Rattle.std.proofs.Math.Nat.{le-max_right}
use Rattle.std.proofs.lemmas.Bool.Decides.{nat_tests}
use Rattle.tez_ids.specs.declared.TaskId.{TaskId}
use Rattle.tez_ids.specs.declared.AttemptId.{AttemptId}
use Rattle.tez_ids.specs.declared.VertexId.{VertexId}
use Rattle.tez_ids.specs.Same.{same_task}
use Rattle.tez_plan.specs.Dag.{Dag, edge, vertex}
use Rattle.tez_conf.specs.declared.values.ConfValues.{ConfValues}
use Rattle.tez_vman.specs.declared.seen.Config.{Config}
use Rattle.tez_events.specs.declared.StopCause.{StopCause}
use Rattle.tez_events.specs.declared.StopCause.TheVariants.{Script}
use Rattle.tez_events.specs.declared.Entry.{Entry}
use Rattle.tez_events.specs.declared.Entry.TheVariants.{Opened, Over, Stands, Carried, Kept, Queued, Fetched, ReadError, InputFailed, Made, Failed, NodeLost, Rerun, Stopped, Committing, Purged}
use Rattle.tez_events.specs.declared.CoreEvent.{CoreEvent}
use Rattle.tez_events.specs.declared.CoreEvent.TheVariants.{Open, Configure, Queue, Place, Fetch, Send, Preempt, Fail, LoseNode, LoseOutput, Restart, Ready, CommitStart, Ask, Publish, Finish, Purge}
use Rattle.tez_history.specs.Shape.{is_vertex}
use Rattle.tez_history.specs.History.{Past, epoch, config, extend, stage, live, winner, holder, is_up, life, failures, is_scheduled, is_committing, recorded}
use Rattle.tez_history.specs.Derived.{is_task, tasks, is_processing, all_done, notices, places_on, is_on_node, is_on_shelf}
use Rattle.tez_history.specs.Steps.{enabled, is_running, entries_of, each_after, requeue, withdrawal, killed_by_node, kill_at, withdrawn_if, withdraw_lost, node_kills, node_withdrawals, fetch_entries, winner_behind, output_lost_entries, done_entries, asked_entries}
use Rattle.tez_history.specs.Rules.{is_at_start, is_start, is_opening_step, withdrawals_right, withdraws_there, owed}
use Rattle.tez_history.specs.Follows.{IsOpen, MayFollow, IsMade, AllMayFollow}
use Rattle.tez_history.specs.Runs.{Standing, stands_if, kept_if, carried_entries, opened_at, Run, Verdict, Found, Unfinished, AllDone, Committed, Begun, Happening, Event, Report, Answer, Stop, Start, standing_entries, committing_if, committed_entries, spent_in, opened_unless, committed_unless, opened_by, going_on, ended_by, stopped, stepped, took, happens_to, happens, run, not_begun, IsBetween}
use Rattle.tez_laws.specs.Laws.{Obeys, OwesRight, GoesOn, SpendsNot, FewFailures, spent_right, start_alone, IsSound}
use Rattle.tez_laws.proofs.StepLaw.{may-append, made-extend, event_may, done_may, asked_may, AllNotices, notices_are, both, up_open}
use Rattle.tez_laws.proofs.Same.{same_task-true}
use Rattle.tez_laws.proofs.Opening.{all_hold, winner_there}
use Rattle.tez_laws.proofs.Withdrawals.{event_owes, done_owes, asked_owes}
use Rattle.tez_laws.proofs.Going.{event_going, done_going, asked_going}

-- ---- tests along a list of entries

abbrev pub Passes : (Dag → ConfValues → Past → Entry → Bool) → Dag → ConfValues → Past → List Entry → Type 0
Passes rule g c past [] = ⊤
Passes rule g c past (e ∷ es) = (rule g c past e ≡ true) × Passes rule g c (e ∷ past) es

pub passes-append : (rule : Dag → ConfValues → Past → Entry → Bool) (g : Dag) (c : ConfValues) (past : Past) (xs ys : List Entry) → Passes rule g c past xs → Passes rule g c (extend past xs) ys → Passes rule g c past (xs ++ ys)
passes-append rule g c past [] ys h k = k
passes-append rule g c past (x ∷ xs) ys h k = (h.0, passes-append rule g c (x ∷ past) xs ys h.1 k)

pub obeys-extend : (rule : Dag → ConfValues → Past → Entry → Bool) (g : Dag) (c : ConfValues) (past : Past) (es : List Entry) → Obeys rule g c past → Passes rule g c past es → Obeys rule g c (extend past es)
obeys-extend rule g c past [] o p = o
obeys-extend rule g c past (e ∷ es) o p = obeys-extend rule g c (e ∷ past) es (p.0, o) p.1

-- what is withdrawn is there
withdraws_follow : (g : Dag) (c : ConfValues) (past : Past) (e : Entry) → IsMade g c past → MayFollow g c past e → withdraws_there g past e ≡ true
withdraws_follow g c past (Rerun w) made m = winner_there g c past w.task w made m
withdraws_follow g c past _ made m = refl

owes-passes : (g : Dag) (c : ConfValues) (past : Past) (es : List Entry) → IsMade g c past → AllMayFollow g c past es → OwesRight g past es → Passes withdrawals_right g c past es
owes-passes g c past [] made may h = tt
owes-passes g c past (e ∷ es) made may h = (all_hold _ _ h.0 (withdraws_follow g c past e made may.0), owes-passes g c (e ∷ past) es (may.0, made) may.1 h.1)

pub owes-settled : (g : Dag) (past : Past) (es : List Entry) → OwesRight g past es → owed g (extend past es) ≡ []
owes-settled g past [] h = h
owes-settled g past (e ∷ es) h = owes-settled g (e ∷ past) es h.1

-- ---- entries that leave the master up, with no failure and nothing that a new master found

abbrev pub AllQuiet : List Entry → Type 0
AllQuiet [] = ⊤
AllQuiet (Opened _ ∷ es) = ⊥
AllQuiet (Over ∷ es) = ⊥
AllQuiet (Stands _ _ _ ∷ es) = ⊥
AllQuiet (Stopped _ ∷ es) = ⊥
AllQuiet (Purged ∷ es) = ⊥
AllQuiet (Failed _ ∷ es) = ⊥
AllQuiet (Carried _ _ ∷ es) = ⊥
AllQuiet (_ ∷ es) = AllQuiet es

alone_up : (g : Dag) (c : ConfValues) (past : Past) (e : Entry) → is_up past ≡ true → start_alone g c past e ≡ true
alone_up g c past e up = ap (λ b. not b || is_start e) (up_open past up)

-- what quiet entries keep: the master up, few failures, and two rules
pub record Stays (g : Dag) (c : ConfValues) (past : Past) (es : List Entry) : Type 0 where
  pub up : is_up (extend past es) ≡ true
  pub few : FewFailures c (extend past es)
  pub unspent : Passes spent_right g c past es
  pub alone : Passes start_alone g c past es

unspent_by : (g : Dag) (c : ConfValues) (past : Past) (e : Entry) → FewFailures c past → spent_right g c past e ≡ true
unspent_by g c past (Queued a) few = lt-ltb (failures a.task past) c.max_failed (few a.task)
unspent_by g c past _ few = refl

stays_after : (g : Dag) (c : ConfValues) (past : Past) (e : Entry) (es : List Entry) → is_up past ≡ true → FewFailures c past → Stays g c (e ∷ past) es → Stays g c past (e ∷ es)
stays_after g c past e es up few s =
    record { up = s.up; few = s.few; unspent = (unspent_by g c past e few, s.unspent); alone = (alone_up g c past e up, s.alone) }

stays_none : (g : Dag) (c : ConfValues) (past : Past) → is_up past ≡ true → FewFailures c past → Stays g c past []
stays_none g c past up few = record { up = up; few = few; unspent = tt; alone = tt }

quiet_stays : (g : Dag) (c : ConfValues) (past : Past) (es : List Entry) → is_up past ≡ true → FewFailures c past → AllQuiet es → Stays g c past es
quiet_stays g c past [] up few h = stays_none g c past up few
quiet_stays g c past (Opened _ ∷ es) up few h = absurd h
quiet_stays g c past (Over ∷ es) up few h = absurd h
quiet_stays g c past (Stands _ _ _ ∷ es) up few h = absurd h
quiet_stays g c past (Stopped _ ∷ es) up few h = absurd h
quiet_stays g c past (Purged ∷ es) up few h = absurd h
quiet_stays g c past (Failed _ ∷ es) up few h = absurd h
quiet_stays g c past (Carried _ _ ∷ es) up few h = absurd h
quiet_stays g c past (e ∷ es) up few h = stays_after g c past e es up few (quiet_stays g c (e ∷ past) es up few h)

quiet-append : (xs ys : List Entry) → AllQuiet xs → AllQuiet ys → AllQuiet (xs ++ ys)
quiet-append [] ys h k = k
quiet-append (Opened _ ∷ xs) ys h k = absurd h
quiet-append (Over ∷ xs) ys h k = absurd h
quiet-append (Stands _ _ _ ∷ xs) ys h k = absurd h
quiet-append (Stopped _ ∷ xs) ys h k = absurd h
quiet-append (Purged ∷ xs) ys h k = absurd h
quiet-append (Failed _ ∷ xs) ys h k = absurd h
quiet-append (Carried _ _ ∷ xs) ys h k = absurd h
quiet-append (_ ∷ xs) ys h k = quiet-append xs ys h k

quiet_notices : (es : List Entry) → AllNotices es → AllQuiet es
quiet_notices [] h = tt
quiet_notices (InputFailed _ _ _ _ ∷ es) h = quiet_notices es h
quiet_notices (_ ∷ es) h = absurd h

quiet_each : {X : Type 0} (part : Past → X → List Entry) → ((past : Past) (x : X) → AllQuiet (part past x)) → (past : Past) (xs : List X) → AllQuiet (each_after part past xs)
quiet_each part h past [] = tt
quiet_each part h past (x ∷ xs) = quiet-append (part past x) (each_after part (extend past (part past x)) xs) (h past x) (quiet_each part h (extend past (part past x)) xs)

quiet_withdrawal : (g : Dag) (past : Past) (w : AttemptId) → AllQuiet (withdrawal g past w)
quiet_withdrawal g past w = quiet-append (notices g past w) (requeue past w.task) (quiet_notices (notices g past w) (notices_are g past w)) tt

quiet_kill : (past : Past) (o : Option AttemptId) → AllQuiet (killed_by_node past o)
quiet_kill past None = tt
quiet_kill past (Some a) = tt

quiet_withdrawn : (g : Dag) (c : ConfValues) (slot : ℕ) (before past : Past) (o : Option AttemptId) → AllQuiet (withdrawn_if g c slot before past o)
quiet_withdrawn g c slot before past None = tt
quiet_withdrawn g c slot before past (Some w) = by (is_on_node g c before slot w) where
  by : (b : Bool) → AllQuiet (if b then withdrawal g past w else [])
  by true = quiet_withdrawal g past w
  by false = tt

quiet_loss : (g : Dag) (c : ConfValues) (past : Past) (slot : ℕ) (b : Bool)
    → AllQuiet (if b then NodeLost slot (suc (life slot past)) ∷ [] else
    (let lost = NodeLost slot (suc (life slot past)) in let kills = node_kills c (lost ∷ past) slot in
    lost ∷ (kills ++ node_withdrawals g c slot past (extend (lost ∷ past) kills))))
quiet_loss g c past slot true = tt
quiet_loss g c past slot false =
    let lost = NodeLost slot (suc (life slot past)) in
    let kills = node_kills c (lost ∷ past) slot in
    quiet-append kills (node_withdrawals g c slot past (extend (lost ∷ past) kills))
    (quiet_each kill_at (λ p x. quiet_kill p (holder x p)) (lost ∷ past) (places_on c slot))
    (quiet_each (withdraw_lost g c slot past) (λ p t. quiet_withdrawn g c slot past p (winner t p)) (extend (lost ∷ past) kills) (tasks g past))

quiet_fetch : (g : Dag) (c : ConfValues) (past : Past) (a : AttemptId) (e i : ℕ) (o : Option AttemptId) → AllQuiet (fetch_entries g c past a e i o)
quiet_fetch g c past a e i None = tt
quiet_fetch g c past a e i (Some w) = by (is_on_shelf g c past w) where
  by : (b : Bool) → AllQuiet (if b then Fetched a (edge e) i w ∷ [] else ReadError a (edge e) i w ∷ withdrawal g (ReadError a (edge e) i w ∷ past) w)
  by true = tt
  by false = quiet_withdrawal g (ReadError a (edge e) i w ∷ past) w

quiet_output : (o : Option AttemptId) → AllQuiet (output_lost_entries o)
quiet_output None = tt
quiet_output (Some w) = tt

-- events that neither stop nor end the master, nor count a failure
abbrev pub IsQuiet : CoreEvent → Type 0
IsQuiet Restart = ⊥
IsQuiet Purge = ⊥
IsQuiet Open = ⊥
IsQuiet (Fail a) = ⊥
IsQuiet _ = ⊤

pub quiet_event : (g : Dag) (c : ConfValues) (past : Past) (e : CoreEvent) → IsQuiet e → AllQuiet (entries_of g c past e)
quiet_event g c past (Configure v) h = tt
quiet_event g c past (Queue t) h = tt
quiet_event g c past (Place a p) h = tt
quiet_event g c past (Fetch a e i) h = quiet_fetch g c past a e.0 i (winner_behind g past a e.0 i)
quiet_event g c past (Send a) h = tt
quiet_event g c past (Preempt a) h = tt
quiet_event g c past (Fail a) h = absurd h
quiet_event g c past (LoseNode slot) h = quiet_loss g c past slot (is_committing past)
quiet_event g c past (LoseOutput t) h = quiet_output (winner t past)
quiet_event g c past (Ready v) h = tt
quiet_event g c past CommitStart h = tt
quiet_event g c past (Ask v) h = tt
quiet_event g c past (Publish v) h = tt
quiet_event g c past Finish h = tt
quiet_event g c past Restart h = absurd h
quiet_event g c past Purge h = absurd h
quiet_event g c past Open h = absurd h

pub quiet_made : (a : AttemptId) (made : List (ℕ × ℕ)) → AllQuiet (map (λ m. Made a (edge m.0) m.1) made)
quiet_made a [] = tt
quiet_made a (x ∷ xs) = quiet_made a xs

pub quiet_asked : (v : VertexId) (there : Bool) → AllQuiet (asked_entries v there)
quiet_asked v true = tt
quiet_asked v false = tt

-- ---- a failure

more_failures : (a : AttemptId) (t : TaskId) (n m max : ℕ) → m < max → (same_task a.task t ≡ true → suc n ≤ max) → (same_task a.task t ≡ true → suc m < max) → (if same_task a.task t then 1 else 0) + m < max
more_failures a t n m max few at next = by (same_task a.task t) refl where
  by : (b : Bool) → same_task a.task t ≡ b → (if b then 1 else 0) + m < max
  by true e = let k : suc m < max = next e in omega arith
  by false e = omega arith

pub few_failed : (c : ConfValues) (past : Past) (a : AttemptId) → FewFailures c past → suc (failures a.task past) < c.max_failed → FewFailures c (Failed a ∷ past)
few_failed c past a few next t =
    more_failures a t 0 (failures t past) c.max_failed (few t) (λ e. (let k : failures t past < c.max_failed = few t in omega arith))
    (λ e. subst (λ u. suc (failures u past) < c.max_failed) (same_task-true a.task t e) next)

pub not_spent : (n max : ℕ) → nat_le max n ≡ false → n < max
not_spent n max h = grind (arith, nat_tests)

-- ---- runs

-- what a step of an up master that goes on leaves
sound_step : (g : Dag) (c : ConfValues) (r : Run) (es : List Entry) → IsSound g c r → AllMayFollow g c r.past es → OwesRight g r.past es → GoesOn (extend r.past es) → Stays g c r.past es
    → IsSound g c (going_on r.past es)
sound_step g c r es s may owes goes stays =
    record {
      made = made-extend g c r.past es s.made may;
      withdrawals = obeys-extend withdrawals_right g c r.past es s.withdrawals (owes-passes g c r.past es s.made may owes);
      settled = owes-settled g r.past es owes;
      unspent = obeys-extend spent_right g c r.past es s.unspent stays.unspent;
      starts = obeys-extend start_alone g c r.past es s.starts stays.alone;
      between = λ v. inl stays.up;
      goes_on = λ v. goes;
      few = λ v. stays.few;
    }

-- the last step of a run
sound_end : (g : Dag) (c : ConfValues) (r : Run) (v : Verdict) (es : List Entry) → IsSound g c r → AllMayFollow g c r.past es → OwesRight g r.past es → Passes spent_right g c r.past es → Passes start_alone g c r.past es
    → IsSound g c (record { past = extend r.past es; verdict = Some v })
sound_end g c r v es s may owes unspent alone =
    record {
      made = made-extend g c r.past es s.made may;
      withdrawals = obeys-extend withdrawals_right g c r.past es s.withdrawals (owes-passes g c r.past es s.made may owes);
      settled = owes-settled g r.past es owes;
      unspent = obeys-extend spent_right g c r.past es s.unspent unspent;
      starts = obeys-extend start_alone g c r.past es s.starts alone;
      between = λ e. cc;
      goes_on = λ e. cc;
      few = λ e. cc;
    }

sound_ended : (g : Dag) (c : ConfValues) (r : Run) (v : Verdict) → IsSound g c r → IsSound g c (ended_by r v)
sound_ended g c r v s =
    record { made = s.made; withdrawals = s.withdrawals; settled = s.settled; unspent = s.unspent; starts = s.starts; between = λ e. cc; goes_on = λ e. cc; few = λ e. cc }

up_of : (g : Dag) (c : ConfValues) (past : Past) (e : CoreEvent) → IsQuiet e → enabled g c past e ≡ true → is_up past ≡ true
up_of g c past (Configure v) q h = (both (both h).0).0
up_of g c past (Queue t) q h = (both (both h).0).0
up_of g c past (Place a p) q h = (both (both h).0).0
up_of g c past (Fetch a e i) q h = (both (both h).0).0
up_of g c past (Send a) q h = (both (both h).0).0
up_of g c past (Preempt a) q h = (both (both h).0).0
up_of g c past (Fail a) q h = absurd q
up_of g c past (LoseNode slot) q h = (both h).0
up_of g c past (LoseOutput t) q h = (both h).0
up_of g c past (Ready v) q h = (both (both h).0).0
up_of g c past CommitStart q h = (both (both h).0).0
up_of g c past (Ask v) q h = (both (both h).0).0
up_of g c past (Publish v) q h = (both (both h).0).0
up_of g c past Finish q h = (both (both h).0).0
up_of g c past Restart q h = absurd q
up_of g c past Purge q h = absurd q
up_of g c past Open q h = absurd q

quiet_sound : (g : Dag) (c : ConfValues) (r : Run) (e : CoreEvent) → IsQuiet e → SpendsNot c r.past e → IsSound g c r → r.verdict ≡ None → enabled g c r.past e ≡ true
    → IsSound g c (going_on r.past (entries_of g c r.past e))
quiet_sound g c r e q n s v h =
    sound_step g c r (entries_of g c r.past e) s (event_may g c r.past e s.made h) (event_owes g c r.past e s.settled) (event_going g c r.past e n (s.goes_on v))
    (quiet_stays g c r.past (entries_of g c r.past e) (up_of g c r.past e q h) (s.few v) (quiet_event g c r.past e q))

fail_sound : (g : Dag) (c : ConfValues) (r : Run) (a : AttemptId) → IsSound g c r → r.verdict ≡ None → enabled g c r.past (Fail a) ≡ true → IsSound g c (stepped g c r (Fail a))
fail_sound g c r a s v h = by (nat_le c.max_failed (suc (failures a.task r.past))) refl may owes where
  may : AllMayFollow g c r.past (Failed a ∷ (if nat_le c.max_failed (suc (failures a.task r.past)) then [] else requeue r.past a.task))
  may = event_may g c r.past (Fail a) s.made h

  owes : OwesRight g r.past (Failed a ∷ (if nat_le c.max_failed (suc (failures a.task r.past)) then [] else requeue r.past a.task))
  owes = event_owes g c r.past (Fail a) s.settled

  up : is_up r.past ≡ true
  up = (both {x = is_up r.past} (both {x = is_running r.past} h).0).0

  spends : AllMayFollow g c r.past (Failed a ∷ []) → OwesRight g r.past (Failed a ∷ []) → IsSound g c (record { past = Failed a ∷ r.past; verdict = Some (Verdict.AttemptsSpent a.task) })
  spends m o = sound_end g c r (Verdict.AttemptsSpent a.task) (Failed a ∷ []) s m o (refl, tt) (alone_up g c r.past (Failed a) up, tt)

  goes : nat_le c.max_failed (suc (failures a.task r.past)) ≡ false → AllMayFollow g c r.past (Failed a ∷ requeue r.past a.task) → OwesRight g r.past (Failed a ∷ requeue r.past a.task)
      → IsSound g c (going_on r.past (Failed a ∷ requeue r.past a.task))
  goes e m o =
      let few : FewFailures c (Failed a ∷ r.past) = few_failed c r.past a (s.few v) (not_spent (suc (failures a.task r.past)) c.max_failed e) in
      sound_step g c r (Failed a ∷ requeue r.past a.task) s m o (subst (λ b. GoesOn (extend r.past (Failed a ∷ (if b then [] else requeue r.past a.task)))) e (event_going g c r.past (Fail a) e (s.goes_on v)))
      (stays_after g c r.past (Failed a) (requeue r.past a.task) up (s.few v) (quiet_stays g c (Failed a ∷ r.past) (requeue r.past a.task) up few tt))

  by : (b : Bool) → nat_le c.max_failed (suc (failures a.task r.past)) ≡ b → AllMayFollow g c r.past (Failed a ∷ (if b then [] else requeue r.past a.task)) → OwesRight g r.past (Failed a ∷ (if b then [] else requeue r.past a.task))
      → IsSound g c (record { past = extend r.past (Failed a ∷ (if b then [] else requeue r.past a.task)); verdict = if b then Some (Verdict.AttemptsSpent a.task) else None })
  by true e m o = spends m o
  by false e m o = goes e m o

-- ---- a new master

abbrev pub AllOpening : ConfValues → List Entry → Type 0
AllOpening c [] = ⊤
AllOpening c (Stands _ _ _ ∷ es) = AllOpening c es
AllOpening c (Carried t n ∷ es) = (n < c.max_failed) × AllOpening c es
AllOpening c (Kept _ ∷ es) = AllOpening c es
AllOpening c (Committing _ ∷ es) = AllOpening c es
AllOpening c (_ ∷ es) = ⊥

opening-append : (c : ConfValues) (xs ys : List Entry) → AllOpening c xs → AllOpening c ys → AllOpening c (xs ++ ys)
opening-append c [] ys h k = k
opening-append c (Stands _ _ _ ∷ xs) ys h k = opening-append c xs ys h k
opening-append c (Carried _ _ ∷ xs) ys h k = (h.0, opening-append c xs ys h.1 k)
opening-append c (Kept _ ∷ xs) ys h k = opening-append c xs ys h k
opening-append c (Committing _ ∷ xs) ys h k = opening-append c xs ys h k
opening-append c (_ ∷ xs) ys h k = absurd h

opening_stand : (g : Dag) (c : ConfValues) (past : Past) (x : ℕ × Config) → AllOpening c (stands_if g past x)
opening_stand g c past x = by (is_none (config x.0 past) && is_vertex g x.0) where
  by : (b : Bool) → AllOpening c (if b then Stands (vertex x.0) x.1.tasks x.1.base ∷ [] else [])
  by true = tt
  by false = tt

opening_stands : (g : Dag) (c : ConfValues) (past : Past) (xs : List (ℕ × Config)) → AllOpening c (each_after (stands_if g) past xs)
opening_stands g c past [] = tt
opening_stands g c past (x ∷ xs) =
    opening-append c (stands_if g past x) (each_after (stands_if g) (extend past (stands_if g past x)) xs) (opening_stand g c past x) (opening_stands g c (extend past (stands_if g past x)) xs)

opening_keep : (g : Dag) (c : ConfValues) (past : Past) (a : AttemptId) → AllOpening c (kept_if g past a)
opening_keep g c past a = by (is_task g past a.task) where
  by : (b : Bool) → AllOpening c (if b then Kept a ∷ [] else [])
  by true = tt
  by false = tt

opening_kept : (g : Dag) (c : ConfValues) (past : Past) (xs : List AttemptId) → AllOpening c (each_after (kept_if g) past xs)
opening_kept g c past [] = tt
opening_kept g c past (a ∷ xs) =
    opening-append c (kept_if g past a) (each_after (kept_if g) (extend past (kept_if g past a)) xs) (opening_keep g c past a) (opening_kept g c (extend past (kept_if g past a)) xs)

-- a master that was opened stays so
opening_open : (c : ConfValues) (past : Past) (es : List Entry) → IsOpen past → AllOpening c es → IsOpen (extend past es)
opening_open c past [] o h = o
opening_open c past (Stands v t b ∷ es) o h = opening_open c (Stands v t b ∷ past) es refl h
opening_open c past (Carried t n ∷ es) o h = opening_open c (Carried t n ∷ past) es refl h.1
opening_open c past (Kept a ∷ es) o h = opening_open c (Kept a ∷ past) es refl h
opening_open c past (Committing n ∷ es) o h = opening_open c (Committing n ∷ past) es refl h
opening_open c past (_ ∷ es) o h = absurd h

pub opening_carried : (c : ConfValues) (xs : List (TaskId × ℕ)) → find (λ x. nat_le c.max_failed x.1) xs ≡ None → AllOpening c (map (λ x. Carried x.0 x.1) xs)
opening_carried c [] h = tt
opening_carried c (x ∷ xs) h = by (nat_le c.max_failed x.1) refl h (λ k. opening_carried c xs k) where
  by : (b : Bool) → nat_le c.max_failed x.1 ≡ b → (if b then Some x else find (λ x. nat_le c.max_failed x.1) xs) ≡ None
      → (find (λ x. nat_le c.max_failed x.1) xs ≡ None → AllOpening c (map (λ x. Carried x.0 x.1) xs)) → (x.1 < c.max_failed) × AllOpening c (map (λ x. Carried x.0 x.1) xs)
  by true e k ih = cc
  by false e k ih = (not_spent x.1 c.max_failed e, ih k)

abbrev pub NoLive : Past → Type 0
NoLive past = (t : TaskId) → live t past ≡ None

opening_idle : (c : ConfValues) (past : Past) (es : List Entry) → NoLive past → AllOpening c es → NoLive (extend past es)
opening_idle c past [] none h = none
opening_idle c past (Stands v t b ∷ es) none h = opening_idle c (Stands v t b ∷ past) es none h
opening_idle c past (Carried t n ∷ es) none h = opening_idle c (Carried t n ∷ past) es none h.1
opening_idle c past (Kept a ∷ es) none h = opening_idle c (Kept a ∷ past) es none h
opening_idle c past (Committing n ∷ es) none h = opening_idle c (Committing n ∷ past) es none h
opening_idle c past (_ ∷ es) none h = absurd h

stand_may : (g : Dag) (c : ConfValues) (past : Past) (x : ℕ × Config) → IsOpen past → AllMayFollow g c past (stands_if g past x)
stand_may g c past x o = by (config x.0 past) (is_vertex g x.0) refl refl where
  by : (f : Option Config) (b : Bool) → config x.0 past ≡ f → is_vertex g x.0 ≡ b → AllMayFollow g c past (if is_none f && b then Stands (vertex x.0) x.1.tasks x.1.base ∷ [] else [])
  by None true e k = ((e, k, o), tt)
  by None false e k = tt
  by (Some s) b e k = tt

stands_may : (g : Dag) (c : ConfValues) (past : Past) (xs : List (ℕ × Config)) → IsOpen past → AllMayFollow g c past (each_after (stands_if g) past xs)
stands_may g c past [] o = tt
stands_may g c past (x ∷ xs) o =
    may-append g c past (stands_if g past x) (each_after (stands_if g) (extend past (stands_if g past x)) xs) (stand_may g c past x o)
    (stands_may g c (extend past (stands_if g past x)) xs (opening_open c past (stands_if g past x) o (opening_stand g c past x)))

carried_may : (g : Dag) (c : ConfValues) (past : Past) (xs : List (TaskId × ℕ)) → IsOpen past → AllMayFollow g c past (carried_entries xs)
carried_may g c past [] o = tt
carried_may g c past (x ∷ xs) o = (o, carried_may g c (Carried x.0 x.1 ∷ past) xs refl)

kept_idle : (g : Dag) (past : Past) (a : AttemptId) → NoLive past → NoLive (extend past (kept_if g past a))
kept_idle g past a none = by (is_task g past a.task) where
  by : (b : Bool) → NoLive (extend past (if b then Kept a ∷ [] else []))
  by true = none
  by false = none

kept_may : (g : Dag) (c : ConfValues) (past : Past) (xs : List AttemptId) → NoLive past → IsOpen past → AllMayFollow g c past (each_after (kept_if g) past xs)
kept_may g c past [] none o = tt
kept_may g c past (a ∷ xs) none o =
    may-append g c past (kept_if g past a) (each_after (kept_if g) (extend past (kept_if g past a)) xs) (by (is_task g past a.task) refl)
    (kept_may g c (extend past (kept_if g past a)) xs (kept_idle g past a none) (opening_open c past (kept_if g past a) o (opening_keep g c past a))) where
      by : (b : Bool) → is_task g past a.task ≡ b → AllMayFollow g c past (if b then Kept a ∷ [] else [])
      by true e = ((none a.task, e, o), tt)
      by false e = tt

pub opening_may : (g : Dag) (c : ConfValues) (past : Past) (s : Standing) → NoLive past → IsOpen past → AllOpening c (carried_entries s.failed) → AllMayFollow g c past (standing_entries g past s)
opening_may g c past s none o few =
    let stands = each_after (stands_if g) past s.configured in
    let carried = carried_entries s.failed in
    let idle = opening_idle c (extend past stands) carried (opening_idle c past stands none (opening_stands g c past s.configured)) few in
    let stood = opening_open c past stands o (opening_stands g c past s.configured) in
    may-append g c past stands (carried ++ each_after (kept_if g) (extend (extend past stands) carried) s.kept) (stands_may g c past s.configured o)
    (may-append g c (extend past stands) carried (each_after (kept_if g) (extend (extend past stands) carried) s.kept) (carried_may g c (extend past stands) s.failed stood)
    (kept_may g c (extend (extend past stands) carried) s.kept idle (opening_open c (extend past stands) carried stood few)))

pub opening_owes : (g : Dag) (c : ConfValues) (past : Past) (es : List Entry) → owed g past ≡ [] → AllOpening c es → OwesRight g past es
opening_owes g c past [] o h = o
opening_owes g c past (Stands v t b ∷ es) o h = (ap (λ os. Rattle.tez_history.specs.Rules.is_owed os (Stands v t b)) o, opening_owes g c (Stands v t b ∷ past) es refl h)
opening_owes g c past (Carried t n ∷ es) o h = (ap (λ os. Rattle.tez_history.specs.Rules.is_owed os (Carried t n)) o, opening_owes g c (Carried t n ∷ past) es refl h.1)
opening_owes g c past (Kept a ∷ es) o h = (ap (λ os. Rattle.tez_history.specs.Rules.is_owed os (Kept a)) o, opening_owes g c (Kept a ∷ past) es refl h)
opening_owes g c past (Committing n ∷ es) o h = (ap (λ os. Rattle.tez_history.specs.Rules.is_owed os (Committing n)) o, opening_owes g c (Committing n ∷ past) es refl h)
opening_owes g c past (_ ∷ es) o h = absurd h

kept_goes : (past : Past) (a : AttemptId) → GoesOn past → GoesOn (Kept a ∷ past)
kept_goes past a h t = by (same_task a.task t) (h t) where
  by : (b : Bool) → (live t past ≡ None → winner t past ≡ None → is_scheduled t past ≡ false)
      → live t past ≡ None → (if b then Some a else winner t past) ≡ None → (b || is_scheduled t past) ≡ false
  by true k l w = cc
  by false k l w = k l w

pub opening_goes : (c : ConfValues) (past : Past) (es : List Entry) → GoesOn past → AllOpening c es → GoesOn (extend past es)
opening_goes c past [] o h = o
opening_goes c past (Stands v t b ∷ es) o h = opening_goes c (Stands v t b ∷ past) es o h
opening_goes c past (Carried t n ∷ es) o h = opening_goes c (Carried t n ∷ past) es o h.1
opening_goes c past (Kept a ∷ es) o h = opening_goes c (Kept a ∷ past) es (kept_goes past a o) h
opening_goes c past (Committing n ∷ es) o h = opening_goes c (Committing n ∷ past) es o h
opening_goes c past (_ ∷ es) o h = absurd h

few_carried : (c : ConfValues) (past : Past) (s : TaskId) (n : ℕ) → FewFailures c past → n < c.max_failed → FewFailures c (Carried s n ∷ past)
few_carried c past s n few below t = by (same_task s t) where
  by : (b : Bool) → (if b then n else failures t past) < c.max_failed
  by true = below
  by false = few t

pub opening_stays : (g : Dag) (c : ConfValues) (past : Past) (es : List Entry) → is_up past ≡ true → FewFailures c past → AllOpening c es → Stays g c past es
opening_stays g c past [] up few h = stays_none g c past up few
opening_stays g c past (Stands v t b ∷ es) up few h = stays_after g c past (Stands v t b) es up few (opening_stays g c (Stands v t b ∷ past) es up few h)
opening_stays g c past (Carried t n ∷ es) up few h = stays_after g c past (Carried t n) es up few (opening_stays g c (Carried t n ∷ past) es up (few_carried c past t n few h.0) h.1)
opening_stays g c past (Kept a ∷ es) up few h = stays_after g c past (Kept a) es up few (opening_stays g c (Kept a ∷ past) es up few h)
opening_stays g c past (Committing n ∷ es) up few h = stays_after g c past (Committing n) es up few (opening_stays g c (Committing n ∷ past) es up few h)
opening_stays g c past (_ ∷ es) up few h = absurd h

-- a first entry that starts the master, and those that follow it
start_sound : (g : Dag) (c : ConfValues) (r : Run) (first : Entry) (es : List Entry) → IsSound g c r → IsTrue (is_at_start r.past)
    → AllMayFollow g c r.past (first ∷ es) → OwesRight g r.past (first ∷ es) → GoesOn (extend (first ∷ r.past) es) → is_start first ≡ true → spent_right g c r.past first ≡ true → Stays g c (first ∷ r.past) es
    → IsSound g c (going_on (first ∷ r.past) es)
start_sound g c r first es s at may owes goes starts unspent stays =
    record {
      made = made-extend g c r.past (first ∷ es) s.made may;
      withdrawals = obeys-extend withdrawals_right g c r.past (first ∷ es) s.withdrawals (owes-passes g c r.past (first ∷ es) s.made may owes);
      settled = owes-settled g r.past (first ∷ es) owes;
      unspent = obeys-extend spent_right g c (first ∷ r.past) es (unspent, s.unspent) stays.unspent;
      starts = obeys-extend start_alone g c (first ∷ r.past) es (starting (is_at_start r.past) (is_start first) starts, s.starts) stays.alone;
      between = λ v. inl stays.up;
      goes_on = λ v. goes;
      few = λ v. stays.few;
    } where
      starting : (x y : Bool) → y ≡ true → (not x || y) ≡ true
      starting true y e = e
      starting false y e = refl

down_start : (past : Past) → not (is_up past) ≡ true → IsBetween past → IsTrue (is_at_start past)
down_start past down (inl up) = let h : not true ≡ true = subst (λ b. not b ≡ true) up down in cc
down_start past down (inr s) = s

pub none_failed : (c : ConfValues) → 1 ≤ c.max_failed → 0 < c.max_failed
none_failed c h = omega arith

-- the epoch of a new master is above the last one
pub above_both : (m n : ℕ) → n < suc (max m n)
above_both m n = let k : n ≤ max m n = le-max_right m n in omega arith

-- what a new master adds where no task is spent
pub standing_opening : (g : Dag) (c : ConfValues) (past : Past) (x : Standing) → spent_in c x ≡ None → AllOpening c (standing_entries g past x)
standing_opening g c past x e =
    let stands = each_after (stands_if g) past x.configured in
    let carried = carried_entries x.failed in
    let kept = each_after (kept_if g) (extend (extend past stands) carried) x.kept in
    opening-append c stands (carried ++ kept) (opening_stands g c past x.configured)
    (opening-append c carried kept (opening_carried c x.failed e) (opening_kept g c (extend (extend past stands) carried) x.kept))

-- ---- a commit that is taken up

-- what the standing of a journal gives tells of no commit
abbrev AllFound : List Entry → Type 0
AllFound [] = ⊤
AllFound (Stands _ _ _ ∷ es) = AllFound es
AllFound (Carried _ _ ∷ es) = AllFound es
AllFound (Kept _ ∷ es) = AllFound es
AllFound (_ ∷ es) = ⊥

found-append : (xs ys : List Entry) → AllFound xs → AllFound ys → AllFound (xs ++ ys)
found-append [] ys h k = k
found-append (Stands _ _ _ ∷ xs) ys h k = found-append xs ys h k
found-append (Carried _ _ ∷ xs) ys h k = found-append xs ys h k
found-append (Kept _ ∷ xs) ys h k = found-append xs ys h k
found-append (_ ∷ xs) ys h k = absurd h

found_each : {X : Type 0} (part : Past → X → List Entry) → ((past : Past) (x : X) → AllFound (part past x)) → (past : Past) (xs : List X) → AllFound (each_after part past xs)
found_each part h past [] = tt
found_each part h past (x ∷ xs) = found-append (part past x) (each_after part (extend past (part past x)) xs) (h past x) (found_each part h (extend past (part past x)) xs)

found_if : (b : Bool) (e : Entry) → AllFound (e ∷ []) → AllFound (if b then e ∷ [] else [])
found_if true e h = h
found_if false e h = tt

found_carried : (xs : List (TaskId × ℕ)) → AllFound (carried_entries xs)
found_carried [] = tt
found_carried (x ∷ xs) = found_carried xs

standing_found : (g : Dag) (past : Past) (x : Standing) → AllFound (standing_entries g past x)
standing_found g past x =
    let stands = each_after (stands_if g) past x.configured in
    let carried = carried_entries x.failed in
    found-append stands (carried ++ each_after (kept_if g) (extend (extend past stands) carried) x.kept)
    (found_each (stands_if g) (λ p y. found_if (is_none (config y.0 p) && is_vertex g y.0) (Stands (vertex y.0) y.1.tasks y.1.base) tt) past x.configured)
    (found-append carried (each_after (kept_if g) (extend (extend past stands) carried) x.kept) (found_carried x.failed)
    (found_each (kept_if g) (λ p a. found_if (is_task g p a.task) (Kept a) tt) (extend (extend past stands) carried) x.kept))

found_step : (past : Past) (es : List Entry) → is_opening_step past ≡ true → AllFound es → is_opening_step (extend past es) ≡ true
found_step past [] o h = o
found_step past (Stands v t b ∷ es) o h = found_step (Stands v t b ∷ past) es o h
found_step past (Carried t n ∷ es) o h = found_step (Carried t n ∷ past) es o h
found_step past (Kept a ∷ es) o h = found_step (Kept a ∷ past) es o h
found_step past (_ ∷ es) o h = absurd h

at_most : (m n : ℕ) → nat_le m n ≡ true → m ≤ n
at_most m n h = grind (arith, nat_tests)

committing_may : (g : Dag) (c : ConfValues) (past : Past) (n : ℕ) → is_opening_step past ≡ true → AllMayFollow g c past (committing_if g past n)
committing_may g c past n o = by (all_done g past) (nat_le (recorded past) n) refl refl where
  by : (x y : Bool) → all_done g past ≡ x → nat_le (recorded past) n ≡ y → AllMayFollow g c past (if x && y then Committing n ∷ [] else [])
  by true true d k = ((o, at_most (recorded past) n k, d), tt)
  by true false d k = tt
  by false y d k = tt

opening_committing : (g : Dag) (c : ConfValues) (past : Past) (n : ℕ) → AllOpening c (committing_if g past n)
opening_committing g c past n = by (all_done g past && nat_le (recorded past) n) where
  by : (b : Bool) → AllOpening c (if b then Committing n ∷ [] else [])
  by true = tt
  by false = tt

pub committed_opening : (g : Dag) (c : ConfValues) (past : Past) (x : Standing) (n : ℕ) → spent_in c x ≡ None → AllOpening c (committed_entries g past x n)
committed_opening g c past x n e =
    let es = standing_entries g past x in
    opening-append c es (committing_if g (extend past es) n) (standing_opening g c past x e) (opening_committing g c (extend past es) n)

pub committed_may : (g : Dag) (c : ConfValues) (past : Past) (x : Standing) (n : ℕ) → NoLive past → is_opening_step past ≡ true → IsOpen past → AllOpening c (carried_entries x.failed)
    → AllMayFollow g c past (committed_entries g past x n)
committed_may g c past x n none step o few =
    let es = standing_entries g past x in
    may-append g c past es (committing_if g (extend past es) n) (opening_may g c past x none o few) (committing_may g c (extend past es) n (found_step past es step (standing_found g past x)))

opened_sound : (g : Dag) (c : ConfValues) (r : Run) (found : Found) → 1 ≤ c.max_failed → IsSound g c r → IsTrue (is_at_start r.past) → IsSound g c (opened_by g c r found)
opened_sound g c r Begun some s at = sound_ended g c r Verdict.CommitOpen s
opened_sound g c r AllDone some s at =
    start_sound g c r Over [] s at (at, tt) (ap (λ os. Rattle.tez_history.specs.Rules.is_owed os Over) s.settled, refl) (λ t l w. refl) refl refl
    (stays_none g c (Over ∷ r.past) refl (λ t. none_failed c some))
opened_sound g c r (Committed x n) some s at = by (spent_in c x) refl where
  by : (o : Option (TaskId × ℕ)) → spent_in c x ≡ o → IsSound g c (committed_unless g r x n o)
  by (Some y) e = sound_ended g c r (Verdict.AttemptsSpent y.0) s
  by None e =
      let first = Opened (record { 0 = suc (max x.epoch (epoch r.past)) }) in
      let p = opened_at x r.past in
      let es = committed_entries g p x n in
      start_sound g c r first es s at
      ((at, above_both x.epoch (epoch r.past)), committed_may g c p x n (λ t. refl) refl refl (opening_carried c x.failed e))
      (ap (λ os. Rattle.tez_history.specs.Rules.is_owed os first) s.settled, opening_owes g c p es refl (committed_opening g c p x n e))
      (opening_goes c p es (λ t l w. refl) (committed_opening g c p x n e)) refl refl
      (opening_stays g c p es refl (λ t. none_failed c some) (committed_opening g c p x n e))
opened_sound g c r (Unfinished x) some s at = by (spent_in c x) refl where
  by : (o : Option (TaskId × ℕ)) → spent_in c x ≡ o → IsSound g c (opened_unless g r x o)
  by (Some y) e = sound_ended g c r (Verdict.AttemptsSpent y.0) s
  by None e =
      let first = Opened (record { 0 = suc (max x.epoch (epoch r.past)) }) in
      let es = standing_entries g (opened_at x r.past) x in
      start_sound g c r first es s at
      ((at, above_both x.epoch (epoch r.past)), opening_may g c (opened_at x r.past) x (λ t. refl) refl (opening_carried c x.failed e))
      (ap (λ os. Rattle.tez_history.specs.Rules.is_owed os first) s.settled, opening_owes g c (opened_at x r.past) es refl (standing_opening g c (opened_at x r.past) x e))
      (opening_goes c (opened_at x r.past) es (λ t l w. refl) (standing_opening g c (opened_at x r.past) x e)) refl refl
      (opening_stays g c (opened_at x r.past) es refl (λ t. none_failed c some) (standing_opening g c (opened_at x r.past) x e))

-- ---- a stop

stopped_sound : (g : Dag) (c : ConfValues) (r : Run) (cause : StopCause) → IsSound g c r → r.verdict ≡ None → IsSound g c (stopped c r cause)
stopped_sound g c r cause s v =
    record {
      made = (tt, s.made);
      withdrawals = (all_hold _ _ (ap (λ os. Rattle.tez_history.specs.Rules.is_owed os (Stopped cause)) s.settled) refl, s.withdrawals);
      settled = refl;
      unspent = (refl, s.unspent);
      starts = (starting (is_at_start r.past), s.starts);
      between = λ e. inr refl;
      goes_on = λ e t l w. refl;
      few = λ e. s.few v;
    } where
      starting : (x : Bool) → (not x || true) ≡ true
      starting true = refl
      starting false = refl

-- ---- what happens

took_sound : (g : Dag) (c : ConfValues) (r : Run) (e : CoreEvent) → IsSound g c r → r.verdict ≡ None → enabled g c r.past e ≡ true → IsSound g c (took g c r e)
took_sound g c r Restart s v h = stopped_sound g c r Script s v
took_sound g c r Open s v h = s
took_sound g c r (Ask v) s _ h = s
took_sound g c r Purge s v h =
    sound_end g c r Verdict.Whole (Purged ∷ []) s (event_may g c r.past Purge s.made h) (event_owes g c r.past Purge s.settled) (refl, tt) (alone_up g c r.past Purged (both {x = is_up r.past} h).0, tt)
took_sound g c r (Fail a) s v h = fail_sound g c r a s v h
took_sound g c r e s v h = quiet_sound g c r e tt tt s v h

report_sound : (g : Dag) (c : ConfValues) (r : Run) (a : AttemptId) (made : List (ℕ × ℕ)) → IsSound g c r → r.verdict ≡ None → (is_up r.past && is_processing (stage a r.past)) ≡ true
    → IsSound g c (going_on r.past (done_entries a made))
report_sound g c r a made s v h =
    sound_step g c r (done_entries a made) s (done_may g c r.past a made (both h).1) (done_owes g r.past a made s.settled) (done_going r.past a made (s.goes_on v))
    (quiet_stays g c r.past (done_entries a made) (both h).0 (s.few v) (quiet_made a made))

answer_sound : (g : Dag) (c : ConfValues) (r : Run) (v : VertexId) (there : Bool) → IsSound g c r → r.verdict ≡ None → enabled g c r.past (Ask v) ≡ true
    → IsSound g c (going_on r.past (asked_entries v there))
answer_sound g c r v there s none h =
    sound_step g c r (asked_entries v there) s (asked_may g c r.past v there h) (asked_owes g r.past s.settled v there) (asked_going r.past v there (s.goes_on none))
    (quiet_stays g c r.past (asked_entries v there) (both {x = is_up r.past} (both {x = is_running r.past} h).0).0 (s.few none) (quiet_asked v there))

happens_to_sound : (g : Dag) (c : ConfValues) (r : Run) (x : Happening) → 1 ≤ c.max_failed → IsSound g c r → r.verdict ≡ None → IsSound g c (happens_to g c r x)
happens_to_sound g c r (Event e) some s v = by (enabled g c r.past e) refl where
  by : (b : Bool) → enabled g c r.past e ≡ b → IsSound g c (if b then took g c r e else r)
  by true h = took_sound g c r e s v h
  by false h = s
happens_to_sound g c r (Report a made) some s v = by (is_up r.past && is_processing (stage a r.past)) refl where
  by : (b : Bool) → (is_up r.past && is_processing (stage a r.past)) ≡ b → IsSound g c (if b then going_on r.past (done_entries a made) else r)
  by true h = report_sound g c r a made s v h
  by false h = s
happens_to_sound g c r (Answer v there) some s none = by (enabled g c r.past (Ask v)) refl where
  by : (b : Bool) → enabled g c r.past (Ask v) ≡ b → IsSound g c (if b then going_on r.past (asked_entries v there) else r)
  by true h = answer_sound g c r v there s none h
  by false h = s
happens_to_sound g c r (Stop cause) some s v = stopped_sound g c r cause s v
happens_to_sound g c r (Start found) some s v = by (not (is_up r.past)) refl where
  by : (b : Bool) → not (is_up r.past) ≡ b → IsSound g c (if b then opened_by g c r found else r)
  by true h = opened_sound g c r found some s (down_start r.past h (s.between v))
  by false h = s

not_ended : (o : Option Verdict) → is_some o ≡ false → o ≡ None
not_ended None h = refl
not_ended (Some v) h = cc

happens_sound : (g : Dag) (c : ConfValues) (r : Run) (x : Happening) → 1 ≤ c.max_failed → IsSound g c r → IsSound g c (happens g c r x)
happens_sound g c r x some s = by (is_some r.verdict) refl where
  by : (b : Bool) → is_some r.verdict ≡ b → IsSound g c (if b then r else happens_to g c r x)
  by true e = s
  by false e = happens_to_sound g c r x some s (not_ended r.verdict e)

sound_from : (g : Dag) (c : ConfValues) (r : Run) (xs : List Happening) → 1 ≤ c.max_failed → IsSound g c r → IsSound g c (run g c r xs)
sound_from g c r [] some s = s
sound_from g c r (x ∷ xs) some s = sound_from g c (happens g c r x) xs some (happens_sound g c r x some s)

pub run_sound : (g : Dag) (c : ConfValues) (xs : List Happening) → 1 ≤ c.max_failed → IsSound g c (run g c not_begun xs)
run_sound g c xs some =
    sound_from g c not_begun xs some
    (record { made = tt; withdrawals = tt; settled = refl; unspent = tt; starts = tt; between = λ _. inr refl; goes_on = λ _ t l w. refl; few = λ _ t. none_failed c some })
