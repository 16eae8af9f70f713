-- Every run stops at most as often as masters are allowed, and its opens and stops obey their rule.
use Rattle.std.specs.Prelude.{◌≡◌, ℕ, suc, ◌<◌, ◌≤◌, nat_le, ⊤, Bool, true, false, not, ◌&&◌, if◌then◌else◌, List, [], ◌∷◌, Option, Some, None, is_some, refl}
use Rattle.std.proofs.Common.{arith, lt-ltb}
use Rattle.std.proofs.lemmas.Bool.Decides.{nat_tests}
use Rattle.tez_ids.specs.declared.TaskId.{TaskId}
use Rattle.tez_plan.specs.Dag.{Dag}
use Rattle.tez_conf.specs.declared.values.ConfValues.{ConfValues}
use Rattle.tez_events.specs.declared.StopCause.{StopCause}
use Rattle.tez_events.specs.declared.StopCause.TheVariants.{Script}
use Rattle.tez_events.specs.declared.Entry.{Entry}
use Rattle.tez_events.specs.declared.Entry.TheVariants.{Opened, Over, Stands, Carried, Kept, Failed, Stopped, Committing, Purged}
use Rattle.tez_events.specs.declared.CoreEvent.{CoreEvent}
use Rattle.tez_events.specs.declared.CoreEvent.TheVariants.{Open, Fail, Restart, Ask, Purge}
use Rattle.tez_history.specs.History.{Past, epoch, extend, stage, is_up, failures, stops}
use Rattle.tez_history.specs.Derived.{is_processing}
use Rattle.tez_history.specs.Steps.{enabled, entries_of, requeue, done_entries, asked_entries}
use Rattle.tez_history.specs.Rules.{is_above_last_epoch, start_right, stops_right}
use Rattle.tez_history.specs.Follows.{MayFollow, IsMade}
use Rattle.tez_history.specs.Runs.{Run, Verdict, Found, Unfinished, AllDone, Committed, Begun, Happening, Event, Report, Answer, Stop, Start, opened_at, standing_entries, committed_entries, spent_in, opened_unless, committed_unless, opened_by, going_on, stopped, took, happens_to, happens, run, not_begun}
use Rattle.tez_laws.specs.Laws.{Obeys}
use Rattle.tez_laws.proofs.Opening.{all_hold, starts_follow}
use Rattle.tez_laws.proofs.RunLaw.{AllQuiet, quiet_event, quiet_made, quiet_asked, AllOpening, standing_opening, committed_opening, run_sound}

-- ---- entries that are no stops

abbrev AllUnstopped : List Entry → Type 0
AllUnstopped [] = ⊤
AllUnstopped (Stopped _ ∷ es) = ⊥
AllUnstopped (_ ∷ es) = AllUnstopped es

unstopped_same : (past : Past) (es : List Entry) → AllUnstopped es → stops (extend past es) ≡ stops past
unstopped_same past [] h = refl
unstopped_same past (Stopped _ ∷ es) h = absurd h
unstopped_same past (e ∷ es) h = unstopped_same (e ∷ past) es h

quiet_unstopped : (es : List Entry) → AllQuiet es → AllUnstopped es
quiet_unstopped [] h = tt
quiet_unstopped (Opened _ ∷ es) h = absurd h
quiet_unstopped (Over ∷ es) h = absurd h
quiet_unstopped (Stands _ _ _ ∷ es) h = absurd h
quiet_unstopped (Stopped _ ∷ es) h = absurd h
quiet_unstopped (Purged ∷ es) h = absurd h
quiet_unstopped (Failed _ ∷ es) h = absurd h
quiet_unstopped (Carried _ _ ∷ es) h = absurd h
quiet_unstopped (_ ∷ es) h = quiet_unstopped es h

opening_unstopped : (c : ConfValues) (es : List Entry) → AllOpening c es → AllUnstopped es
opening_unstopped c [] h = tt
opening_unstopped c (Stands _ _ _ ∷ es) h = opening_unstopped c es h
opening_unstopped c (Carried _ _ ∷ es) h = opening_unstopped c es h.1
opening_unstopped c (Kept _ ∷ es) h = opening_unstopped c es h
opening_unstopped c (Committing _ ∷ es) h = opening_unstopped c es h
opening_unstopped c (_ ∷ es) h = absurd h

abbrev IsNoStop : CoreEvent → Type 0
IsNoStop Restart = ⊥
IsNoStop _ = ⊤

event_unstopped : (g : Dag) (c : ConfValues) (past : Past) (e : CoreEvent) → IsNoStop e → AllUnstopped (entries_of g c past e)
event_unstopped g c past Restart h = absurd h
event_unstopped g c past Open h = tt
event_unstopped g c past (Ask v) h = tt
event_unstopped g c past Purge h = tt
event_unstopped g c past (Fail a) h = by (nat_le c.max_failed (suc (failures a.task past))) where
  by : (b : Bool) → AllUnstopped (Failed a ∷ (if b then [] else requeue past a.task))
  by true = tt
  by false = tt
event_unstopped g c past e h = quiet_unstopped (entries_of g c past e) (quiet_event g c past e tt)

-- ---- runs

-- the stops are at most the masters allowed, and fewer as long as the run has not ended
abbrev Counted : ConfValues → Run → Type 0
Counted c r = (stops r.past ≤ c.max_masters) × (r.verdict ≡ None → stops r.past < c.max_masters)

counted_same : (c : ConfValues) (n m : ℕ) (o : Option Verdict) → n ≡ m → m < c.max_masters → (n ≤ c.max_masters) × (o ≡ None → n < c.max_masters)
counted_same c n m o same low = (omega arith, λ _. omega arith)

counted_after : (c : ConfValues) (r : Run) (o : Option Verdict) (es : List Entry) → AllUnstopped es → Counted c r → r.verdict ≡ None → Counted c (record { past = extend r.past es; verdict = o })
counted_after c r o es un k v = counted_same c (stops (extend r.past es)) (stops r.past) o (unstopped_same r.past es un) (k.1 v)

counted_stop : (c : ConfValues) (r : Run) (cause : StopCause) → Counted c r → r.verdict ≡ None → Counted c (stopped c r cause)
counted_stop c r cause k v =
    let low : stops r.past < c.max_masters = k.1 v in
    (omega arith, by (nat_le c.max_masters (suc (stops r.past))) refl) where
      by : (b : Bool) → nat_le c.max_masters (suc (stops r.past)) ≡ b → (if b then Some Verdict.MastersSpent else None) ≡ None → suc (stops r.past) < c.max_masters
      by true e h = cc
      by false e h = grind (arith, nat_tests)

counted_took : (g : Dag) (c : ConfValues) (r : Run) (e : CoreEvent) → Counted c r → r.verdict ≡ None → Counted c (took g c r e)
counted_took g c r Restart k v = counted_stop c r Script k v
counted_took g c r Open k v = k
counted_took g c r (Ask _) k v = k
counted_took g c r e k v = counted_after c r _ (entries_of g c r.past e) (event_unstopped g c r.past e tt) k v

counted_opened : (g : Dag) (c : ConfValues) (r : Run) (found : Found) → Counted c r → r.verdict ≡ None → Counted c (opened_by g c r found)
counted_opened g c r Begun k v = (k.0, λ e. cc)
counted_opened g c r AllDone k v = (k.0, λ e. k.1 v)
counted_opened g c r (Committed x n) k v = by (spent_in c x) refl where
  by : (o : Option (TaskId × ℕ)) → spent_in c x ≡ o → Counted c (committed_unless g r x n o)
  by (Some y) e = (k.0, λ f. cc)
  by None e =
      let p = opened_at x r.past in
      let es = committed_entries g p x n in
      counted_same c (stops (extend p es)) (stops r.past) None (unstopped_same p es (opening_unstopped c es (committed_opening g c p x n e))) (k.1 v)
counted_opened g c r (Unfinished x) k v = by (spent_in c x) refl where
  by : (o : Option (TaskId × ℕ)) → spent_in c x ≡ o → Counted c (opened_unless g r x o)
  by (Some y) e = (k.0, λ f. cc)
  by None e =
      let es = standing_entries g (opened_at x r.past) x in
      counted_same c (stops (extend (opened_at x r.past) es)) (stops r.past) None (unstopped_same (opened_at x r.past) es (opening_unstopped c es (standing_opening g c (opened_at x r.past) x e))) (k.1 v)

counted_happens_to : (g : Dag) (c : ConfValues) (r : Run) (x : Happening) → Counted c r → r.verdict ≡ None → Counted c (happens_to g c r x)
counted_happens_to g c r (Event e) k v = by (enabled g c r.past e) where
  by : (b : Bool) → Counted c (if b then took g c r e else r)
  by true = counted_took g c r e k v
  by false = k
counted_happens_to g c r (Report a made) k v = by (is_up r.past && is_processing (stage a r.past)) where
  by : (b : Bool) → Counted c (if b then going_on r.past (done_entries a made) else r)
  by true = counted_after c r None (done_entries a made) (quiet_unstopped (done_entries a made) (quiet_made a made)) k v
  by false = k
counted_happens_to g c r (Answer v there) k none = by (enabled g c r.past (Ask v)) where
  by : (b : Bool) → Counted c (if b then going_on r.past (asked_entries v there) else r)
  by true = counted_after c r None (asked_entries v there) (quiet_unstopped (asked_entries v there) (quiet_asked v there)) k none
  by false = k
counted_happens_to g c r (Stop cause) k v = counted_stop c r cause k v
counted_happens_to g c r (Start found) k v = by (not (is_up r.past)) where
  by : (b : Bool) → Counted c (if b then opened_by g c r found else r)
  by true = counted_opened g c r found k v
  by false = k

no_verdict : (o : Option Verdict) → is_some o ≡ false → o ≡ None
no_verdict None h = refl
no_verdict (Some v) h = cc

counted_happens : (g : Dag) (c : ConfValues) (r : Run) (x : Happening) → Counted c r → Counted c (happens g c r x)
counted_happens g c r x k = by (is_some r.verdict) refl where
  by : (b : Bool) → is_some r.verdict ≡ b → Counted c (if b then r else happens_to g c r x)
  by true e = k
  by false e = counted_happens_to g c r x k (no_verdict r.verdict e)

counted_run : (g : Dag) (c : ConfValues) (r : Run) (xs : List Happening) → Counted c r → Counted c (run g c r xs)
counted_run g c r [] k = k
counted_run g c r (x ∷ xs) k = counted_run g c (happens g c r x) xs (counted_happens g c r x k)

pub stops_counted : (g : Dag) (c : ConfValues) (xs : List Happening) → 1 ≤ c.max_masters → stops (run g c not_begun xs).past ≤ c.max_masters
stops_counted g c xs some = (counted_run g c not_begun xs (omega arith, λ _. omega arith)).0

-- ---- the rule

epoch_above : (n : ℕ) (past : Past) → epoch past < n → is_above_last_epoch n past ≡ true
epoch_above n [] h = refl
epoch_above n (Opened e ∷ past) h = lt-ltb e.0 n h
epoch_above n (Over ∷ past) h = epoch_above n past (omega arith)
epoch_above n (_ ∷ past) h = epoch_above n past h

start_follows : (g : Dag) (c : ConfValues) (past : Past) (e : Entry) → MayFollow g c past e → stops (e ∷ past) ≤ c.max_masters → start_right c past e ≡ true
start_follows g c past (Opened e) m h = epoch_above e.0 past m.1
start_follows g c past (Stopped cause) m h = lt-ltb (stops past) c.max_masters (omega arith)
start_follows g c past _ m h = refl

fewer : (past : Past) (e : Entry) (n : ℕ) → stops (e ∷ past) ≤ n → stops past ≤ n
fewer past (Stopped _) n h = omega arith
fewer past _ n h = h

pub stops_obeyed : (g : Dag) (c : ConfValues) (past : Past) → IsMade g c past → stops past ≤ c.max_masters → Obeys stops_right g c past
stops_obeyed g c [] m h = tt
stops_obeyed g c (e ∷ past) m h =
    (all_hold _ _ (starts_follow g c past e m.0) (start_follows g c past e m.0 h), stops_obeyed g c past m.1 (fewer past e c.max_masters h))

pub run_stops : (g : Dag) (c : ConfValues) (xs : List Happening) → 1 ≤ c.max_failed → 1 ≤ c.max_masters → Obeys stops_right g c (run g c not_begun xs).past
run_stops g c xs some masters = stops_obeyed g c (run g c not_begun xs).past (run_sound g c xs some).made (stops_counted g c xs masters)
