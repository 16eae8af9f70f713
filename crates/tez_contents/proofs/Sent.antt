-- What the latest entries leave: who was sent to its container, and what stands while a new master finds configurations.
--     runs_ordered         an attempt that is processing was sent
--     opening_winner ..    nothing happens while configurations are found
use Rattle.std.specs.Prelude.{◌≡◌, ℕ, ◌||◌, Bool, true, false, if◌then◌else◌, [], ◌∷◌, None, refl}
use Rattle.tez_ids.specs.declared.TaskId.{TaskId}
use Rattle.tez_ids.specs.declared.AttemptId.{AttemptId}
use Rattle.tez_ids.specs.Same.{same_attempt}
use Rattle.tez_events.specs.declared.Entry.TheVariants.{Opened, Over, Stands, Queued, Placed, Ordered, Succeeded, Failed, Killed, Stopped}
use Rattle.tez_history.specs.History.{Past, Stage, InQueue, Waits, Ended, stage, sent, winner, is_fetched}
use Rattle.tez_history.specs.Derived.{is_processing}
use Rattle.tez_contents.specs.Contents.{is_ordered}
use Rattle.tez_contents.specs.Laws.{is_opening}

-- ---- what was sent

sent_runs : (b : Bool) (s : Stage) (was : Bool) → (is_processing s ≡ true → was ≡ true) → is_processing (sent b s) ≡ true → (b || was) ≡ true
sent_runs true s was ih h = refl
sent_runs false s was ih h = ih h

moved_runs : (b : Bool) (x s : Stage) (was : Bool) → is_processing x ≡ false → (is_processing s ≡ true → was ≡ true) → is_processing (if b then x else s) ≡ true → was ≡ true
moved_runs true x s was none ih h = cc
moved_runs false x s was none ih h = ih h

pub runs_ordered : (a : AttemptId) (past : Past) → is_processing (stage a past) ≡ true → is_ordered a past ≡ true
runs_ordered a [] h = cc
runs_ordered a (Opened _ ∷ past) h = cc
runs_ordered a (Over ∷ past) h = cc
runs_ordered a (Stopped _ ∷ past) h = cc
runs_ordered a (Queued b ∷ past) h = moved_runs (same_attempt b a) InQueue (stage a past) (is_ordered a past) refl (runs_ordered a past) h
runs_ordered a (Placed b k p ∷ past) h = moved_runs (same_attempt b a) (Waits p) (stage a past) (is_ordered a past) refl (runs_ordered a past) h
runs_ordered a (Ordered b ∷ past) h = sent_runs (same_attempt b a) (stage a past) (is_ordered a past) (runs_ordered a past) h
runs_ordered a (Succeeded b ∷ past) h = moved_runs (same_attempt b a) Ended (stage a past) (is_ordered a past) refl (runs_ordered a past) h
runs_ordered a (Failed b ∷ past) h = moved_runs (same_attempt b a) Ended (stage a past) (is_ordered a past) refl (runs_ordered a past) h
runs_ordered a (Killed b _ ∷ past) h = moved_runs (same_attempt b a) Ended (stage a past) (is_ordered a past) refl (runs_ordered a past) h
runs_ordered a (_ ∷ past) h = runs_ordered a past h

-- ---- nothing happens while configurations are found

pub opening_winner : (past : Past) (t : TaskId) → is_opening past ≡ true → winner t past ≡ None
opening_winner [] t h = cc
opening_winner (Opened _ ∷ past) t h = refl
opening_winner (Stands _ _ _ ∷ past) t h = opening_winner past t h
opening_winner (_ ∷ past) t h = cc

pub opening_ordered : (past : Past) (a : AttemptId) → is_opening past ≡ true → is_ordered a past ≡ false
opening_ordered [] a h = cc
opening_ordered (Opened _ ∷ past) a h = refl
opening_ordered (Stands _ _ _ ∷ past) a h = opening_ordered past a h
opening_ordered (_ ∷ past) a h = cc

pub opening_fetched : (past : Past) (a : AttemptId) (n i : ℕ) → is_opening past ≡ true → is_fetched a n i past ≡ false
opening_fetched [] a n i h = cc
opening_fetched (Opened _ ∷ past) a n i h = refl
opening_fetched (Stands _ _ _ ∷ past) a n i h = opening_fetched past a n i h
opening_fetched (_ ∷ past) a n i h = cc
