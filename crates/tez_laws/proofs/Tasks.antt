-- What always holds of the live attempts, the winners and the places of a made history.
use Rattle.std.specs.Prelude.{◌≡◌, ℕ, Bool, true, false, ◌||◌, if◌then◌else◌, [], ◌∷◌, Option, Some, None, refl}
use Rattle.std.proofs.Common.{sym, ap, arith, subst}
use Rattle.tez_ids.specs.declared.TaskId.{TaskId}
use Rattle.tez_ids.specs.declared.AttemptId.{AttemptId}
use Rattle.tez_events.specs.declared.Entry.TheVariants.{Opened, Over, Kept, Queued, Placed, Ordered, Succeeded, Failed, Killed, Rerun, Stopped}
use Rattle.tez_ids.specs.Same.{same_task, same_attempt}
use Rattle.tez_plan.specs.Dag.{Dag}
use Rattle.tez_conf.specs.declared.values.ConfValues.{ConfValues}
use Rattle.tez_history.specs.History.{Past, Stage, Unknown, InQueue, Waits, Runs, Ended, stage, live, winner, freed, sent, is_scheduled}
use Rattle.tez_history.specs.Follows.{IsAlive, IsMade}
use Rattle.tez_laws.specs.Laws.{OneLive}
use Rattle.tez_laws.proofs.Same.{same_task-true, same_task-refl, same_attempt-true, same_attempt-refl}
use Rattle.tez_laws.proofs.OneLive.{one_live, running_alive}

-- ---- the live attempt and the winner are of the task

set_task : (b a : AttemptId) (t : TaskId) (l : Option AttemptId) → (l ≡ Some a → a.task ≡ t) → (if same_task b.task t then Some b else l) ≡ Some a → a.task ≡ t
set_task b a t l ih h = grind (arith, same_task-true)

unset_task : (b a : AttemptId) (t : TaskId) (l : Option AttemptId) → (l ≡ Some a → a.task ≡ t) → (if same_task b.task t then None else l) ≡ Some a → a.task ≡ t
unset_task b a t l ih h = grind arith

freed_task : (b a : AttemptId) (t : TaskId) (w : Option AttemptId) → (w ≡ Some a → a.task ≡ t) → freed b w ≡ Some a → a.task ≡ t
freed_task b a t None ih h = cc
freed_task b a t (Some x) ih h = grind arith

pub live_task : (past : Past) (t : TaskId) (a : AttemptId) → live t past ≡ Some a → a.task ≡ t
live_task [] t a h = cc
live_task (Opened _ ∷ past) t a h = cc
live_task (Over ∷ past) t a h = cc
live_task (Stopped _ ∷ past) t a h = cc
live_task (Queued b ∷ past) t a h = set_task b a t (live t past) (live_task past t a) h
live_task (Succeeded b ∷ past) t a h = unset_task b a t (live t past) (live_task past t a) h
live_task (Failed b ∷ past) t a h = unset_task b a t (live t past) (live_task past t a) h
live_task (Killed b _ ∷ past) t a h = unset_task b a t (live t past) (live_task past t a) h
live_task (_ ∷ past) t a h = live_task past t a h

pub winner_task : (past : Past) (t : TaskId) (a : AttemptId) → winner t past ≡ Some a → a.task ≡ t
winner_task [] t a h = cc
winner_task (Opened _ ∷ past) t a h = cc
winner_task (Over ∷ past) t a h = cc
winner_task (Stopped _ ∷ past) t a h = cc
winner_task (Kept b ∷ past) t a h = set_task b a t (winner t past) (winner_task past t a) h
winner_task (Succeeded b ∷ past) t a h = set_task b a t (winner t past) (winner_task past t a) h
winner_task (Rerun b ∷ past) t a h = freed_task b a t (winner t past) (winner_task past t a) h
winner_task (_ ∷ past) t a h = winner_task past t a h

-- ---- a task that was neither kept nor queued has neither

unscheduled_queued : (b : AttemptId) (t : TaskId) (s : Bool) (l w : Option AttemptId) → (s ≡ false → (l ≡ None) × (w ≡ None))
    → (same_task b.task t || s) ≡ false → ((if same_task b.task t then Some b else l) ≡ None) × (w ≡ None)
unscheduled_queued b t s l w ih h = grind arith

unscheduled_kept : (b : AttemptId) (t : TaskId) (s : Bool) (l w : Option AttemptId) → (s ≡ false → (l ≡ None) × (w ≡ None))
    → (same_task b.task t || s) ≡ false → (l ≡ None) × ((if same_task b.task t then Some b else w) ≡ None)
unscheduled_kept b t s l w ih h = grind arith

unscheduled_ended : (b : AttemptId) (t : TaskId) (s : Bool) (l w : Option AttemptId) → (s ≡ false → (l ≡ None) × (w ≡ None))
    → s ≡ false → ((if same_task b.task t then None else l) ≡ None) × (w ≡ None)
unscheduled_ended b t s l w ih h = grind arith

unscheduled_done : (b : AttemptId) (t : TaskId) (s : Bool) (l w : Option AttemptId) → (s ≡ false → (l ≡ None) × (w ≡ None)) → (same_task b.task t ≡ true → l ≡ Some b)
    → s ≡ false → ((if same_task b.task t then None else l) ≡ None) × ((if same_task b.task t then Some b else w) ≡ None)
unscheduled_done b t s l w ih was h = grind arith

unscheduled_rerun : (b : AttemptId) (s : Bool) (l w : Option AttemptId) → (s ≡ false → (l ≡ None) × (w ≡ None))
    → s ≡ false → (l ≡ None) × (freed b w ≡ None)
unscheduled_rerun b s l w ih h = ((ih h).0, ap (freed b) (ih h).1)

pub live_same : (past : Past) (b : AttemptId) (t : TaskId) → OneLive past → IsAlive (stage b past) → same_task b.task t ≡ true → live t past ≡ Some b
live_same past b t one alive same = subst (λ u. live u past ≡ Some b) (same_task-true b.task t same) (one b alive)

pub unscheduled : (g : Dag) (c : ConfValues) (past : Past) → IsMade g c past → (t : TaskId) → is_scheduled t past ≡ false → (live t past ≡ None) × (winner t past ≡ None)
unscheduled g c [] m t h = (refl, refl)
unscheduled g c (Opened _ ∷ past) m t h = (refl, refl)
unscheduled g c (Over ∷ past) m t h = (refl, refl)
unscheduled g c (Stopped _ ∷ past) m t h = (refl, refl)
unscheduled g c (Queued b ∷ past) m t h = unscheduled_queued b t (is_scheduled t past) (live t past) (winner t past) (unscheduled g c past m.1 t) h
unscheduled g c (Kept b ∷ past) m t h = unscheduled_kept b t (is_scheduled t past) (live t past) (winner t past) (unscheduled g c past m.1 t) h
unscheduled g c (Failed b ∷ past) m t h = unscheduled_ended b t (is_scheduled t past) (live t past) (winner t past) (unscheduled g c past m.1 t) h
unscheduled g c (Killed b _ ∷ past) m t h = unscheduled_ended b t (is_scheduled t past) (live t past) (winner t past) (unscheduled g c past m.1 t) h
unscheduled g c (Succeeded b ∷ past) m t h =
    unscheduled_done b t (is_scheduled t past) (live t past) (winner t past) (unscheduled g c past m.1 t)
    (live_same past b t (one_live g c past m.1) (running_alive (stage b past) m.0)) h
unscheduled g c (Rerun b ∷ past) m t h = unscheduled_rerun b (is_scheduled t past) (live t past) (winner t past) (unscheduled g c past m.1 t) h
unscheduled g c (_ ∷ past) m t h = unscheduled g c past m.1 t h

-- ---- a task with a live attempt has no winner

both_queued : (b a : AttemptId) (t : TaskId) (l w : Option AttemptId) → (l ≡ Some a → w ≡ None) → (same_task b.task t ≡ true → w ≡ None)
    → (if same_task b.task t then Some b else l) ≡ Some a → w ≡ None
both_queued b a t l w ih none h = grind arith

both_kept : (b a : AttemptId) (t : TaskId) (l w : Option AttemptId) → (l ≡ Some a → w ≡ None) → (same_task b.task t ≡ true → l ≡ None)
    → l ≡ Some a → (if same_task b.task t then Some b else w) ≡ None
both_kept b a t l w ih none h = grind arith

both_ended : (b a : AttemptId) (t : TaskId) (l w : Option AttemptId) → (l ≡ Some a → w ≡ None)
    → (if same_task b.task t then None else l) ≡ Some a → w ≡ None
both_ended b a t l w ih h = grind arith

both_done : (b a : AttemptId) (t : TaskId) (l w : Option AttemptId) → (l ≡ Some a → w ≡ None)
    → (if same_task b.task t then None else l) ≡ Some a → (if same_task b.task t then Some b else w) ≡ None
both_done b a t l w ih h = grind arith

both_rerun : (b a : AttemptId) (l w : Option AttemptId) → (l ≡ Some a → w ≡ None) → l ≡ Some a → freed b w ≡ None
both_rerun b a l w ih h = ap (freed b) (ih h)

same_none : (f : TaskId → Option AttemptId) (s t : TaskId) → f s ≡ None → same_task s t ≡ true → f t ≡ None
same_none f s t none same = subst (λ u. f u ≡ None) (same_task-true s t same) none

pub no_both : (g : Dag) (c : ConfValues) (past : Past) → IsMade g c past → (t : TaskId) (a : AttemptId) → live t past ≡ Some a → winner t past ≡ None
no_both g c [] m t a h = cc
no_both g c (Opened _ ∷ past) m t a h = cc
no_both g c (Over ∷ past) m t a h = cc
no_both g c (Stopped _ ∷ past) m t a h = cc
no_both g c (Queued b ∷ past) m t a h = both_queued b a t (live t past) (winner t past) (no_both g c past m.1 t a) (same_none (λ u. winner u past) b.task t m.0.1) h
no_both g c (Kept b ∷ past) m t a h = both_kept b a t (live t past) (winner t past) (no_both g c past m.1 t a) (same_none (λ u. live u past) b.task t m.0.0) h
no_both g c (Failed b ∷ past) m t a h = both_ended b a t (live t past) (winner t past) (no_both g c past m.1 t a) h
no_both g c (Killed b _ ∷ past) m t a h = both_ended b a t (live t past) (winner t past) (no_both g c past m.1 t a) h
no_both g c (Succeeded b ∷ past) m t a h = both_done b a t (live t past) (winner t past) (no_both g c past m.1 t a) h
no_both g c (Rerun b ∷ past) m t a h = both_rerun b a (live t past) (winner t past) (no_both g c past m.1 t a) h
no_both g c (_ ∷ past) m t a h = no_both g c past m.1 t a h

-- ---- the live attempt is alive

pub alive_sent : (b : Bool) (s : Stage) → IsAlive s → IsAlive (sent b s)
alive_sent true InQueue h = tt
alive_sent true (Waits p) h = tt
alive_sent true (Runs p) h = tt
alive_sent true Unknown h = h
alive_sent true Ended h = h
alive_sent false s h = h

alive_queued : (b a : AttemptId) (t : TaskId) (s : Stage) (l : Option AttemptId) → (l ≡ Some a → IsAlive s)
    → (if same_task b.task t then Some b else l) ≡ Some a → IsAlive (if same_attempt b a then InQueue else s)
alive_queued b a t s l ih h = by (same_attempt b a) refl where
  by : (x : Bool) → same_attempt b a ≡ x → IsAlive (if x then InQueue else s)
  by true e = tt
  by false e = ih (grind (arith, same_attempt-refl))

alive_placed : (b a : AttemptId) (p : ℕ) (s : Stage) → IsAlive s → IsAlive (if same_attempt b a then Waits p else s)
alive_placed b a p s h = by (same_attempt b a) where
  by : (x : Bool) → IsAlive (if x then Waits p else s)
  by true = tt
  by false = h

not_ended : (b a : AttemptId) (t : TaskId) (l : Option AttemptId) → (l ≡ Some a → a.task ≡ t) → (if same_task b.task t then None else l) ≡ Some a → same_attempt b a ≡ false
not_ended b a t l of h = grind (arith, same_attempt-true, same_task-refl)

alive_ended : (b a : AttemptId) (t : TaskId) (s : Stage) (l : Option AttemptId) → (l ≡ Some a → a.task ≡ t) → (l ≡ Some a → IsAlive s)
    → (if same_task b.task t then None else l) ≡ Some a → IsAlive (if same_attempt b a then Ended else s)
alive_ended b a t s l of ih h =
    let other : same_attempt b a ≡ false = not_ended b a t l of h in
    let was : l ≡ Some a = grind arith in
    subst (λ x. IsAlive (if x then Ended else s)) (sym other) (ih was)

pub live_alive : (past : Past) (t : TaskId) (a : AttemptId) → live t past ≡ Some a → IsAlive (stage a past)
live_alive [] t a h = cc
live_alive (Opened _ ∷ past) t a h = cc
live_alive (Over ∷ past) t a h = cc
live_alive (Stopped _ ∷ past) t a h = cc
live_alive (Queued b ∷ past) t a h = alive_queued b a t (stage a past) (live t past) (live_alive past t a) h
live_alive (Placed b k p ∷ past) t a h = alive_placed b a p (stage a past) (live_alive past t a h)
live_alive (Ordered b ∷ past) t a h = alive_sent (same_attempt b a) (stage a past) (live_alive past t a h)
live_alive (Succeeded b ∷ past) t a h = alive_ended b a t (stage a past) (live t past) (live_task past t a) (live_alive past t a) h
live_alive (Failed b ∷ past) t a h = alive_ended b a t (stage a past) (live t past) (live_task past t a) (live_alive past t a) h
live_alive (Killed b _ ∷ past) t a h = alive_ended b a t (stage a past) (live t past) (live_task past t a) (live_alive past t a) h
live_alive (_ ∷ past) t a h = live_alive past t a h
