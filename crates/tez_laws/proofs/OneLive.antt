-- A task never has two live attempts.
use Rattle.std.specs.Prelude.{◌≡◌, ℕ, Bool, true, false, IsTrue, if◌then◌else◌, [], ◌∷◌, Option, Some, None}
use Rattle.std.proofs.Common.{sym, arith, subst}
use Rattle.tez_ids.specs.declared.AttemptId.{AttemptId}
use Rattle.tez_events.specs.declared.KillCause.{KillCause}
use Rattle.tez_events.specs.declared.KillCause.TheVariants.{Node, Preempt}
use Rattle.tez_events.specs.declared.Entry.TheVariants.{Opened, Over, Queued, Placed, Ordered, Succeeded, Failed, Killed, Stopped}
use Rattle.tez_ids.specs.Same.{same_task, same_attempt}
use Rattle.tez_plan.specs.Dag.{Dag}
use Rattle.tez_conf.specs.declared.values.ConfValues.{ConfValues}
use Rattle.tez_history.specs.History.{Past, Stage, Unknown, InQueue, Waits, Runs, Ended, stage, live, sent}
use Rattle.tez_history.specs.Derived.{is_waiting, is_processing}
use Rattle.tez_history.specs.Follows.{IsAlive, IsPlaced, MayFollow, IsMade}
use Rattle.tez_laws.specs.Laws.{OneLive}
use Rattle.tez_laws.proofs.Same.{same_task-true, same_task-refl, same_attempt-true, same_attempt-refl}

-- what waits, runs or is placed is alive
pub waiting_alive : (s : Stage) → IsTrue (is_waiting s) → IsAlive s
waiting_alive InQueue h = tt
waiting_alive (Waits p) h = tt
waiting_alive (Runs p) h = tt
waiting_alive Unknown h = cc
waiting_alive Ended h = cc

pub waits_placed : (s : Stage) → is_waiting s ≡ true → IsPlaced s
waits_placed (Waits p) h = tt
waits_placed InQueue h = cc
waits_placed (Runs p) h = cc
waits_placed Unknown h = cc
waits_placed Ended h = cc

pub running_alive : (s : Stage) → IsTrue (is_processing s) → IsAlive s
running_alive InQueue h = tt
running_alive (Waits p) h = tt
running_alive (Runs p) h = tt
running_alive Unknown h = cc
running_alive Ended h = cc

pub placed_alive : (s : Stage) → IsPlaced s → IsAlive s
placed_alive InQueue h = tt
placed_alive (Waits p) h = tt
placed_alive (Runs p) h = tt
placed_alive Unknown h = h
placed_alive Ended h = h

-- who is killed was placed
pub killed_placed : (g : Dag) (c : ConfValues) (past : Past) (a : AttemptId) (cause : KillCause) → MayFollow g c past (Killed a cause) → IsPlaced (stage a past)
killed_placed g c past a Node m = m
killed_placed g c past a Preempt m = waits_placed (stage a past) m.0

pub sent_alive : (b : Bool) (s : Stage) → IsAlive (sent b s) → IsAlive s
sent_alive true InQueue h = tt
sent_alive true (Waits p) h = tt
sent_alive true (Runs p) h = tt
sent_alive true Unknown h = h
sent_alive true Ended h = h
sent_alive false s h = h

-- a queued attempt is the live one of its task, which had none before
queued_case : (b a : AttemptId) (s : Stage) (l : Option AttemptId) → (IsAlive s → l ≡ Some a) → (same_task b.task a.task ≡ true → l ≡ None)
    → IsAlive (if same_attempt b a then InQueue else s) → (if same_task b.task a.task then Some b else l) ≡ Some a
queued_case b a s l ih free h = grind (arith, same_task-true, same_attempt-true, same_task-refl)

-- one that is placed was alive before
placed_case : (b a : AttemptId) (p : ℕ) (s : Stage) (l : Option AttemptId) → (IsAlive s → l ≡ Some a) → (b ≡ a → IsAlive s)
    → IsAlive (if same_attempt b a then Waits p else s) → l ≡ Some a
placed_case b a p s l ih before h = grind (arith, same_attempt-true)

-- where the live attempt ends, no other of its task is alive
ended_case : (b a : AttemptId) (s : Stage) (l : Option AttemptId) → (IsAlive s → l ≡ Some a) → (same_task b.task a.task ≡ true → l ≡ Some b)
    → IsAlive (if same_attempt b a then Ended else s) → (if same_task b.task a.task then None else l) ≡ Some a
ended_case b a s l ih was h = grind (arith, same_task-true, same_attempt-true, same_task-refl, same_attempt-refl)

live_at : (past : Past) (b a : AttemptId) → OneLive past → IsAlive (stage b past) → same_task b.task a.task ≡ true → live a.task past ≡ Some b
live_at past b a one alive same = subst (λ t. live t past ≡ Some b) (same_task-true b.task a.task same) (one b alive)

none_at : (past : Past) (b a : AttemptId) → live b.task past ≡ None → same_task b.task a.task ≡ true → live a.task past ≡ None
none_at past b a none same = subst (λ t. live t past ≡ None) (same_task-true b.task a.task same) none

pub one_live : (g : Dag) (c : ConfValues) (past : Past) → IsMade g c past → OneLive past
one_live g c [] m a h = absurd h
one_live g c (Opened _ ∷ past) m a h = absurd h
one_live g c (Over ∷ past) m a h = absurd h
one_live g c (Stopped _ ∷ past) m a h = absurd h
one_live g c (Queued b ∷ past) m a h =
    queued_case b a (stage a past) (live a.task past) (one_live g c past m.1 a) (none_at past b a m.0.0) h
one_live g c (Placed b k p ∷ past) m a h =
    placed_case b a p (stage a past) (live a.task past) (one_live g c past m.1 a)
    (λ same. subst (λ x. IsAlive (stage x past)) same (subst IsAlive (sym m.0.0) tt)) h
one_live g c (Ordered b ∷ past) m a h = one_live g c past m.1 a (sent_alive (same_attempt b a) (stage a past) h)
one_live g c (Succeeded b ∷ past) m a h =
    ended_case b a (stage a past) (live a.task past) (one_live g c past m.1 a)
    (live_at past b a (one_live g c past m.1) (running_alive (stage b past) m.0)) h
one_live g c (Failed b ∷ past) m a h =
    ended_case b a (stage a past) (live a.task past) (one_live g c past m.1 a)
    (live_at past b a (one_live g c past m.1) (running_alive (stage b past) m.0)) h
one_live g c (Killed b cause ∷ past) m a h =
    ended_case b a (stage a past) (live a.task past) (one_live g c past m.1 a)
    (live_at past b a (one_live g c past m.1) (placed_alive (stage b past) (killed_placed g c past b cause m.0))) h
one_live g c (_ ∷ past) m a h = one_live g c past m.1 a h
