-- Where no master is open, nothing but a start may follow; and what is there and was scheduled.
use Rattle.std.specs.Prelude.{◌≡◌, Bool, true, false, not, ◌&&◌, ◌||◌, [], ◌∷◌, Some, refl}
use Rattle.std.proofs.Common.{ap, sym, subst}
use Rattle.tez_ids.specs.declared.TaskId.{TaskId}
use Rattle.tez_ids.specs.declared.AttemptId.{AttemptId}
use Rattle.tez_ids.specs.Same.{same_task}
use Rattle.tez_plan.specs.Dag.{Dag}
use Rattle.tez_conf.specs.declared.values.ConfValues.{ConfValues}
use Rattle.tez_events.specs.declared.KillCause.TheVariants.{Node, Preempt}
use Rattle.tez_events.specs.declared.Entry.{Entry}
use Rattle.tez_events.specs.declared.Entry.TheVariants.{Opened, Over, Stands, Carried, Kept, Configured, Queued, Placed, Fetched, ReadError, InputFailed, Ordered, Succeeded, Made, Failed, Killed, NodeLost, OutputLost, Rerun, Stopped, Committing, Ready, Asked, Settled, Published, CommitStarted, Finished, Purged}
use Rattle.tez_history.specs.Shape.{is_vertex}
use Rattle.tez_history.specs.History.{Past, stage, winner, is_scheduled, is_committing, is_found}
use Rattle.tez_history.specs.Derived.{is_task, is_configured}
use Rattle.tez_history.specs.Rules.{is_at_start, is_start, is_opening_step, is_there, was_scheduled}
use Rattle.tez_history.specs.Follows.{IsAlive, IsOpen, MayFollow, IsMade}
use Rattle.tez_laws.specs.Laws.{start_alone}
use Rattle.tez_laws.proofs.OneLive.{waiting_alive, running_alive, placed_alive, killed_placed}
use Rattle.tez_laws.proofs.Ranges.{configured_is_vertex, winner_scheduled, scheduled_is_task}
use Rattle.tez_laws.proofs.StepLaw.{both, alive_task}

pub all_hold : (x y : Bool) → x ≡ true → y ≡ true → x && y ≡ true
all_hold true y e k = k
all_hold false y e k = cc

-- ---- open

alive_open : (past : Past) (a : AttemptId) → IsAlive (stage a past) → IsOpen past
alive_open [] a h = absurd h
alive_open (Stopped _ ∷ past) a h = absurd h
alive_open (_ ∷ past) a h = refl

winner_open : (past : Past) (t : TaskId) (w : AttemptId) → winner t past ≡ Some w → IsOpen past
winner_open [] t w h = cc
winner_open (Stopped _ ∷ past) t w h = cc
winner_open (_ ∷ past) t w h = refl

committing_open : (past : Past) → is_committing past ≡ true → IsOpen past
committing_open [] h = cc
committing_open (Stopped _ ∷ past) h = cc
committing_open (_ ∷ past) h = refl

found_open : (past : Past) → is_found past ≡ true → IsOpen past
found_open [] h = cc
found_open (Stopped _ ∷ past) h = cc
found_open (_ ∷ past) h = refl

step_open : (past : Past) → is_opening_step past ≡ true → IsOpen past
step_open [] h = cc
step_open (Stopped _ ∷ past) h = cc
step_open (_ ∷ past) h = refl

pub open_before : (g : Dag) (c : ConfValues) (past : Past) (e : Entry) → MayFollow g c past e → is_start e ≡ false → IsOpen past
open_before g c past (Opened _) m s = cc
open_before g c past Over m s = cc
open_before g c past (Stopped _) m s = cc
open_before g c past (Stands v n b) m s = m.2
open_before g c past (Carried t n) m s = m
open_before g c past (Kept a) m s = m.2
open_before g c past (Configured v n b) m s = m.3
open_before g c past (Queued a) m s = m.5
open_before g c past (Placed a k p) m s = alive_open past a (subst IsAlive (sym m.0) tt)
open_before g c past (Fetched a e i w) m s = alive_open past a (waiting_alive (stage a past) m.0)
open_before g c past (ReadError a e i w) m s = alive_open past a (waiting_alive (stage a past) m.0)
open_before g c past (InputFailed a e i w) m s = m
open_before g c past (Ordered a) m s = alive_open past a (waiting_alive (stage a past) m.0)
open_before g c past (Succeeded a) m s = alive_open past a (running_alive (stage a past) m)
open_before g c past (Made a e n) m s = m
open_before g c past (Failed a) m s = alive_open past a (running_alive (stage a past) m)
open_before g c past (Killed a Node) m s = alive_open past a (placed_alive (stage a past) (killed_placed g c past a Node m))
open_before g c past (Killed a Preempt) m s = alive_open past a (placed_alive (stage a past) (killed_placed g c past a Preempt m))
open_before g c past (NodeLost slot l) m s = m.2
open_before g c past (OutputLost w) m s = winner_open past w.task w m.0
open_before g c past (Rerun w) m s = winner_open past w.task w m
open_before g c past (Committing n) m s = step_open past m.0
open_before g c past (Ready v) m s = m.2
open_before g c past (Asked v) m s = found_open past m.0
open_before g c past (Settled v) m s = found_open past m.0
open_before g c past (Published v) m s = committing_open past (both {x = is_committing past} m).0
open_before g c past CommitStarted m s = m.2
open_before g c past Finished m s = committing_open past m.0
open_before g c past Purged m s = m.1

-- where a master starts, nothing but a start follows
pub starts_follow : (g : Dag) (c : ConfValues) (past : Past) (e : Entry) → MayFollow g c past e → start_alone g c past e ≡ true
starts_follow g c past e m = by (is_start e) refl where
  or_true : (x : Bool) → (not x || true) ≡ true
  or_true true = refl
  or_true false = refl

  by : (b : Bool) → is_start e ≡ b → (not (is_at_start past) || b) ≡ true
  by true h = or_true (is_at_start past)
  by false h = ap (λ x. not x || false) (open_before g c past e m h)

-- while a master is open, what was scheduled since the last open is scheduled
pub was_is : (g : Dag) (c : ConfValues) (past : Past) → IsMade g c past → IsOpen past → (t : TaskId) → was_scheduled t past ≡ is_scheduled t past
was_is g c [] m o t = refl
was_is g c (Opened _ ∷ past) m o t = refl
was_is g c (Over ∷ past) m o t = refl
was_is g c (Stopped _ ∷ past) m o t = cc
was_is g c (Kept a ∷ past) m o t = ap (λ b. same_task a.task t || b) (was_is g c past m.1 m.0.2 t)
was_is g c (Queued a ∷ past) m o t = ap (λ b. same_task a.task t || b) (was_is g c past m.1 m.0.5 t)
was_is g c (e ∷ past) m o t = was_is g c past m.1 (open_before g c past e m.0 refl) t

-- ---- what is there

pub task_there : (g : Dag) (c : ConfValues) (past : Past) (t : TaskId) → IsMade g c past → is_task g past t ≡ true → is_there g past t ≡ true
task_there g c past t m h =
    let k = both {x = is_configured t.vertex.0 past} h in
    all_hold (is_vertex g t.vertex.0) _ (configured_is_vertex g c past m t.vertex.0 k.0) k.1

pub alive_there : (g : Dag) (c : ConfValues) (past : Past) (a : AttemptId) → IsMade g c past → IsAlive (stage a past) → is_there g past a.task ≡ true
alive_there g c past a m alive = task_there g c past a.task m (alive_task g c past a m alive).0

pub winner_there : (g : Dag) (c : ConfValues) (past : Past) (t : TaskId) (w : AttemptId) → IsMade g c past → winner t past ≡ Some w → is_there g past t ≡ true
winner_there g c past t w m won = task_there g c past t m (scheduled_is_task g c past m t (winner_scheduled g c past m t w won))
