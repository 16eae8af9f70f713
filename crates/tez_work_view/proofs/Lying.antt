-- An attempt whose pieces lie somewhere has gone: it was queued before, and so it is never queued again.
use Rattle.std.specs.Prelude.{◌≡◌, ℕ, suc, Bool, true, false, IsTrue, if◌then◌else◌, [], ◌∷◌, refl, ⊤}
use Rattle.std.proofs.Common.{inr, ap, arith, subst}
use Rattle.tez_ids.specs.declared.AttemptId.{AttemptId}
use Rattle.tez_ids.specs.Same.{same_task, same_attempt}
use Rattle.tez_plan.specs.Dag.{Dag}
use Rattle.tez_conf.specs.declared.values.ConfValues.{ConfValues}
use Rattle.tez_events.specs.declared.Entry.TheVariants.{Opened, Over, Kept, Queued, Placed, Ordered, Succeeded, Failed, Killed, NodeLost, OutputLost, Stopped}
use Rattle.tez_history.specs.History.{Past, Stage, Unknown, InQueue, Waits, Runs, Ended, Location, Nowhere, On, InQuestion, stage, sent, epoch, attempts, location, put_by, questioned, kept_there, lost_on}
use Rattle.tez_history.specs.Derived.{is_waiting, next_attempt}
use Rattle.tez_history.specs.Follows.{IsMade}
use Rattle.tez_laws.proofs.Same.{same_attempt-true}
use Rattle.tez_laws.proofs.Places.{IsCounted, known, running_known}
use Rattle.tez_laws.proofs.Fresh.{IsOld, old_opened, old_queued, new_never}

abbrev pub is_somewhere : Location → Bool
is_somewhere Nowhere = false
is_somewhere (On slot) = true
is_somewhere (InQuestion slot) = true

questioned_lay : (l : Location) → is_somewhere (questioned l) ≡ true → is_somewhere l ≡ true
questioned_lay Nowhere h = h
questioned_lay (On slot) h = refl
questioned_lay (InQuestion slot) h = refl

kept_lay : (b : Bool) (l : Location) → is_somewhere (kept_there b l) ≡ true → is_somewhere l ≡ true
kept_lay true Nowhere h = h
kept_lay true (On slot) h = refl
kept_lay true (InQuestion slot) h = refl
kept_lay false l h = h

lost_lay : (slot : ℕ) (l : Location) → is_somewhere (lost_on slot l) ≡ true → is_somewhere l ≡ true
lost_lay slot Nowhere h = h
lost_lay slot (On s) h = refl
lost_lay slot (InQuestion s) h = refl

dropped_lay : (b : Bool) (l : Location) → is_somewhere (if b then Nowhere else l) ≡ true → is_somewhere l ≡ true
dropped_lay true l h = cc
dropped_lay false l h = h

-- ---- it was queued

lay_old : (g : Dag) (c : ConfValues) (past : Past) → IsMade g c past → (a : AttemptId) → is_somewhere (location c a past) ≡ true → IsOld a (epoch past) (attempts a.task past)
lay_old g c [] m a h = cc
lay_old g c (Opened n ∷ past) m a h = old_opened a (epoch past) n.0 (attempts a.task past) 0 (lay_old g c past m.1 a (questioned_lay (location c a past) h)) m.0.1
lay_old g c (Over ∷ past) m a h = old_opened a (epoch past) (suc (epoch past)) (attempts a.task past) 0 (lay_old g c past m.1 a h) (omega arith)
lay_old g c (Queued b ∷ past) m a h = old_queued a (epoch past) (attempts a.task past) (if same_task b.task a.task then 1 else 0) (lay_old g c past m.1 a h)
lay_old g c (Succeeded b ∷ past) m a h = by (same_attempt b a) refl h (lay_old g c past m.1 a) where
  by : (x : Bool) → same_attempt b a ≡ x → is_somewhere (if x then put_by c (stage a past) else location c a past) ≡ true → (is_somewhere (location c a past) ≡ true → IsOld a (epoch past) (attempts a.task past)) → IsOld a (epoch past) (attempts a.task past)
  by true e k ih = inr (subst (λ x. IsCounted x (epoch past) (attempts x.task past)) (same_attempt-true b a e) (known g c past m.1 b (running_known (stage b past) m.0)))
  by false e k ih = ih k
lay_old g c (OutputLost b ∷ past) m a h = lay_old g c past m.1 a (dropped_lay (same_attempt b a) (location c a past) h)
lay_old g c (NodeLost slot l ∷ past) m a h = lay_old g c past m.1 a (lost_lay slot (location c a past) h)
lay_old g c (Kept b ∷ past) m a h = lay_old g c past m.1 a (kept_lay (same_attempt b a) (location c a past) h)
lay_old g c (_ ∷ past) m a h = lay_old g c past m.1 a h

-- ---- it has gone

abbrev pub HasGone : Stage → Type 0
HasGone Unknown = ⊤
HasGone InQueue = ⊥
HasGone (Waits p) = ⊥
HasGone (Runs p) = ⊥
HasGone Ended = ⊤

gone_sent : (b : Bool) (s : Stage) → HasGone s → HasGone (sent b s)
gone_sent true Unknown h = tt
gone_sent true InQueue h = h
gone_sent true (Waits p) h = h
gone_sent true (Runs p) h = h
gone_sent true Ended h = tt
gone_sent false s h = h

gone_ended : (b : Bool) (s : Stage) → HasGone s → HasGone (if b then Ended else s)
gone_ended true s h = tt
gone_ended false s h = h

pub lay_gone : (g : Dag) (c : ConfValues) (past : Past) → IsMade g c past → (a : AttemptId) → is_somewhere (location c a past) ≡ true → HasGone (stage a past)
lay_gone g c [] m a h = cc
lay_gone g c (Opened _ ∷ past) m a h = tt
lay_gone g c (Over ∷ past) m a h = tt
lay_gone g c (Stopped _ ∷ past) m a h = tt
lay_gone g c (Queued b ∷ past) m a h = by (same_attempt b a) refl (lay_gone g c past m.1 a h) where
  by : (x : Bool) → same_attempt b a ≡ x → HasGone (stage a past) → HasGone (if x then InQueue else stage a past)
  by true e was = new_never past a (subst (λ x. x ≡ next_attempt past x.task) (same_attempt-true b a e) m.0.2) (lay_old g c past m.1 a h)
  by false e was = was
lay_gone g c (Placed b k p ∷ past) m a h = by (same_attempt b a) refl (lay_gone g c past m.1 a h) where
  by : (x : Bool) → same_attempt b a ≡ x → HasGone (stage a past) → HasGone (if x then Waits p else stage a past)
  by true e was = subst HasGone (subst (λ x. stage x past ≡ InQueue) (same_attempt-true b a e) m.0.0) was
  by false e was = was
lay_gone g c (Ordered b ∷ past) m a h = gone_sent (same_attempt b a) (stage a past) (lay_gone g c past m.1 a h)
lay_gone g c (Succeeded b ∷ past) m a h = by (same_attempt b a) h (lay_gone g c past m.1 a) where
  by : (x : Bool) → is_somewhere (if x then put_by c (stage a past) else location c a past) ≡ true → (is_somewhere (location c a past) ≡ true → HasGone (stage a past)) → HasGone (if x then Ended else stage a past)
  by true k ih = tt
  by false k ih = ih k
lay_gone g c (Failed b ∷ past) m a h = gone_ended (same_attempt b a) (stage a past) (lay_gone g c past m.1 a h)
lay_gone g c (Killed b _ ∷ past) m a h = gone_ended (same_attempt b a) (stage a past) (lay_gone g c past m.1 a h)
lay_gone g c (OutputLost b ∷ past) m a h = lay_gone g c past m.1 a (dropped_lay (same_attempt b a) (location c a past) h)
lay_gone g c (NodeLost slot l ∷ past) m a h = lay_gone g c past m.1 a (lost_lay slot (location c a past) h)
lay_gone g c (Kept b ∷ past) m a h = lay_gone g c past m.1 a (kept_lay (same_attempt b a) (location c a past) h)
lay_gone g c (_ ∷ past) m a h = lay_gone g c past m.1 a h

-- ---- so who is there has nothing on a shelf

pub is_nowhere : (g : Dag) (c : ConfValues) (past : Past) (a : AttemptId) → IsMade g c past → (HasGone (stage a past) → ⊥) → location c a past ≡ Nowhere
is_nowhere g c past a m here = by (location c a past) refl where
  by : (l : Location) → location c a past ≡ l → l ≡ Nowhere
  by Nowhere e = refl
  by (On slot) e = absurd (here (lay_gone g c past m a (ap is_somewhere e)))
  by (InQuestion slot) e = absurd (here (lay_gone g c past m a (ap is_somewhere e)))

pub waits_here : (s : Stage) → IsTrue (is_waiting s) → HasGone s → ⊥
waits_here (Waits p) w h = h
waits_here InQueue w h = h
waits_here (Runs p) w h = h
waits_here Unknown w h = cc
waits_here Ended w h = cc
