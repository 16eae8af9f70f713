-- The task that an entry concerns takes the event of its machine.
use Rattle.std.specs.Prelude.{◌≡◌, ℕ, ◌+◌, ◌<◌, nat_le, Bool, true, false, if◌then◌else◌, ◌∷◌, Option, Some, None, refl}
use Rattle.std.specs.Option.{option_map}
use Rattle.std.proofs.Common.{ap, sym, ◌∙◌, subst, arith}
use Rattle.std.proofs.lemmas.Bool.Decides.{nat_tests}
use Rattle.tez_ids.specs.declared.TaskId.{TaskId}
use Rattle.tez_ids.specs.declared.AttemptId.{AttemptId}
use Rattle.tez_ids.specs.declared.ContainerId.{ContainerId}
use Rattle.tez_ids.specs.Same.{attempt, same_task, same_attempt}
use Rattle.tez_plan.specs.Dag.{Dag}
use Rattle.tez_conf.specs.declared.values.ConfValues.{ConfValues}
use Rattle.tez_events.specs.declared.KillCause.{KillCause}
use Rattle.tez_events.specs.declared.Entry.TheVariants.{Queued, Placed, InputFailed, Ordered, Succeeded, Failed, Killed, Rerun}
use Rattle.tez_attempt.specs.declared.AttemptState.{AttemptState}
use Rattle.tez_attempt.specs.declared.AttemptState.TheVariants as at_state
use Rattle.tez_task.specs.declared.Live.{Live}
use Rattle.tez_task.specs.declared.TaskEvent.{TaskEvent}
use Rattle.tez_task.specs.declared.TaskEvent.TheVariants as task_event
use Rattle.tez_task.specs.declared.TaskTook.{TaskTook}
use Rattle.tez_task.specs.declared.TaskTook.TheVariants.{Moved, Again, Spent}
use Rattle.tez_task.specs.TaskState.{TaskState}
use Rattle.tez_task.specs.Table.{task_after, task_took}
use Rattle.tez_vertex.specs.Table.{is_ignored}
use Rattle.tez_history.specs.History.{Past, Stage, InQueue, Waits, Runs, Ended, stage, sent, live, winner, freed, attempts, failures, epoch, config, extend, Unknown}
use Rattle.tez_history.specs.Derived.{next_attempt, notices}
use Rattle.tez_history.specs.Steps.{requeue}
use Rattle.tez_history.specs.Follows.{IsMade, IsPlaced, IsAlive}
use Rattle.tez_laws.specs.Laws.{FewFailures}
use Rattle.tez_laws.proofs.OneLive.{one_live, placed_alive}
use Rattle.tez_laws.proofs.Tasks.{live_task, winner_task, no_both}
use Rattle.tez_laws.proofs.Places.{known, alive_known}
use Rattle.tez_laws.proofs.Same.{same_task-refl, same_attempt-true, same_attempt-refl}
use Rattle.tez_laws.proofs.StepLaw.{notices_are, through}
use Rattle.tez_vertex_view.specs.View.{machine_at, live_view, task_view}
use Rattle.tez_vertex_view.proofs.Taking.{TakesOne}

-- ---- a task by its fields

abbrev pub state : TaskId → ℕ → ℕ → Option Live → Option AttemptId → ℕ → ℕ → Bool → TaskState
state t ep max l w q f s = record { task = t; epoch = ep; max_failed = max; live = l; winner = w; queued = q; failures = f; spent = s }

abbrev pub living : AttemptId → AttemptState → Option Live
living a m = Some (record { attempt = a; machine = m })

pub same_state : (t : TaskId) (ep ep' max : ℕ) (l l' : Option Live) (w w' : Option AttemptId) (q q' f f' : ℕ) (s s' : Bool) → ep ≡ ep' → l ≡ l' → w ≡ w' → q ≡ q' → f ≡ f' → s ≡ s' → state t ep max l w q f s ≡ state t ep' max l' w' q' f' s'
same_state t ep ep' max l l' w w' q q' f f' s s' a b c d e g = cc

pub live_fact : (past : Past) (t : TaskId) (a : AttemptId) (s : Stage) → live t past ≡ Some a → stage a past ≡ s → live_view t past ≡ living a (machine_at s)
live_fact past t a s e f = ap (option_map (λ b. record { attempt = b; machine = machine_at (stage b past) })) e ∙ ap (λ x. living a (machine_at x)) f

pub none_fact : (past : Past) (t : TaskId) → live t past ≡ None → live_view t past ≡ None
none_fact past t e = ap (option_map (λ b. record { attempt = b; machine = machine_at (stage b past) })) e

pub unspent : (max n : ℕ) → n < max → nat_le max n ≡ false
unspent max n h = grind (arith, nat_tests)

-- the view of a task with a live attempt
pub alive_view : (c : ConfValues) (past : Past) (a : AttemptId) (s : Stage) → FewFailures c past → live a.task past ≡ Some a → stage a past ≡ s
    → task_view c a.task past ≡ state a.task (epoch past) c.max_failed (living a (machine_at s)) (winner a.task past) (attempts a.task past) (failures a.task past) false
alive_view c past a s few e f =
    same_state a.task (epoch past) (epoch past) c.max_failed (live_view a.task past) (living a (machine_at s)) (winner a.task past) (winner a.task past) (attempts a.task past) (attempts a.task past) (failures a.task past) (failures a.task past)
    (nat_le c.max_failed (failures a.task past)) false refl (live_fact past a.task a s e f) refl refl refl (unspent c.max_failed (failures a.task past) (few a.task))

-- ---- tasks that an entry does not concern

pub apart : (a b : AttemptId) (u : TaskId) → same_task a.task u ≡ false → b.task ≡ u → same_attempt a b ≡ false
apart a b u h e = by (same_attempt a b) refl where
  by : (x : Bool) → same_attempt a b ≡ x → same_attempt a b ≡ false
  by false s = s
  by true s = let never_so : false ≡ true = sym h ∙ subst (λ v. same_task a.task v ≡ true) (ap (λ y. y.task) (same_attempt-true a b s) ∙ e) (same_task-refl a.task) in cc

other_live : (past later : Past) (u : TaskId) → live u later ≡ live u past → ((b : AttemptId) → b.task ≡ u → stage b later ≡ stage b past) → live_view u later ≡ live_view u past
other_live past later u e s = ap (option_map (λ b. record { attempt = b; machine = machine_at (stage b later) })) e ∙ by (live u past) refl where
  by : (o : Option AttemptId) → live u past ≡ o → option_map (λ b. let l : Live = record { attempt = b; machine = machine_at (stage b later) } in l) o ≡ option_map (λ b. record { attempt = b; machine = machine_at (stage b past) }) o
  by None h = refl
  by (Some b) h = ap (λ x. living b (machine_at x)) (s b (live_task past u b h))

pub other_view : (c : ConfValues) (past later : Past) (u : TaskId) → epoch later ≡ epoch past → live u later ≡ live u past → ((b : AttemptId) → b.task ≡ u → stage b later ≡ stage b past) → winner u later ≡ winner u past → attempts u later ≡ attempts u past
    → failures u later ≡ failures u past → task_view c u later ≡ task_view c u past
other_view c past later u ep l s w q f =
    same_state u (epoch later) (epoch past) c.max_failed (live_view u later) (live_view u past) (winner u later) (winner u past) (attempts u later) (attempts u past) (failures u later) (failures u past)
    (nat_le c.max_failed (failures u later)) (nat_le c.max_failed (failures u past)) ep (other_live past later u l s) w q f (ap (nat_le c.max_failed) f)

if_other : {X : Type 0} (b : Bool) (x y : X) → b ≡ false → (if b then x else y) ≡ y
if_other b x y h = ap (λ z. if z then x else y) h

if_same : {X : Type 0} (b : Bool) (x y : X) → b ≡ true → (if b then x else y) ≡ x
if_same b x y h = ap (λ z. if z then x else y) h

-- ---- the tables

placed_after : (t : TaskId) (ep max : ℕ) (w : Option AttemptId) (q f : ℕ) (a : AttemptId)
    → task_after (state t ep max (living a at_state.Queued) w q f false) (task_event.Place a) ≡ state t ep max (living a at_state.Placed) w q f false
placed_after t ep max w q f a = rw (same_attempt-refl a) refl

pub placed_took : (t : TaskId) (ep max : ℕ) (w : Option AttemptId) (q f : ℕ) (a : AttemptId) → task_took (state t ep max (living a at_state.Queued) w q f false) (task_event.Place a) ≡ Moved
placed_took t ep max w q f a = rw (same_attempt-refl a) refl

sent_after : (t : TaskId) (ep max : ℕ) (w : Option AttemptId) (q f : ℕ) (a : AttemptId)
    → task_after (state t ep max (living a at_state.Placed) w q f false) (task_event.Send a) ≡ state t ep max (living a at_state.Processing) w q f false
sent_after t ep max w q f a = rw (same_attempt-refl a) refl

pub sent_took : (t : TaskId) (ep max : ℕ) (w : Option AttemptId) (q f : ℕ) (a : AttemptId) → task_took (state t ep max (living a at_state.Placed) w q f false) (task_event.Send a) ≡ Moved
sent_took t ep max w q f a = rw (same_attempt-refl a) refl

done_after : (t : TaskId) (ep max : ℕ) (w : Option AttemptId) (q f : ℕ) (a : AttemptId)
    → task_after (state t ep max (living a at_state.Processing) w q f false) (task_event.Succeed a) ≡ state t ep max None (Some a) q f false
done_after t ep max w q f a = rw (same_attempt-refl a) refl

pub done_took : (t : TaskId) (ep max : ℕ) (w : Option AttemptId) (q f : ℕ) (a : AttemptId) → task_took (state t ep max (living a at_state.Processing) w q f false) (task_event.Succeed a) ≡ Moved
done_took t ep max w q f a = rw (same_attempt-refl a) refl

-- a stage at which an attempt is killed
pub killed_after : (t : TaskId) (ep max : ℕ) (w : Option AttemptId) (q f : ℕ) (a : AttemptId) (s : Stage) → IsPlaced s
    → task_after (state t ep max (living a (machine_at s)) w q f false) (task_event.Kill a) ≡ state t ep max (living (attempt ep t q) at_state.Queued) None (q + 1) f false
killed_after t ep max w q f a (Waits p) h = rw (same_attempt-refl a) refl
killed_after t ep max w q f a (Runs p) h = rw (same_attempt-refl a) refl
killed_after t ep max w q f a InQueue h = absurd h
killed_after t ep max w q f a Unknown h = absurd h
killed_after t ep max w q f a Ended h = absurd h

pub killed_took : (t : TaskId) (ep max : ℕ) (w : Option AttemptId) (q f : ℕ) (a : AttemptId) (s : Stage) → IsPlaced s
    → task_took (state t ep max (living a (machine_at s)) w q f false) (task_event.Kill a) ≡ Again (attempt ep t q)
killed_took t ep max w q f a (Waits p) h = rw (same_attempt-refl a) refl
killed_took t ep max w q f a (Runs p) h = rw (same_attempt-refl a) refl
killed_took t ep max w q f a InQueue h = absurd h
killed_took t ep max w q f a Unknown h = absurd h
killed_took t ep max w q f a Ended h = absurd h

failed_last : (t : TaskId) (ep max : ℕ) (w : Option AttemptId) (q f : ℕ) (a : AttemptId) → nat_le max (f + 1) ≡ true
    → task_after (state t ep max (living a at_state.Processing) w q f false) (task_event.Fail a) ≡ state t ep max None w q (f + 1) true
failed_last t ep max w q f a h = rw (same_attempt-refl a, h) refl

failed_again : (t : TaskId) (ep max : ℕ) (w : Option AttemptId) (q f : ℕ) (a : AttemptId) → nat_le max (f + 1) ≡ false
    → task_after (state t ep max (living a at_state.Processing) w q f false) (task_event.Fail a) ≡ state t ep max (living (attempt ep t q) at_state.Queued) None (q + 1) (f + 1) false
failed_again t ep max w q f a h = rw (same_attempt-refl a, h) refl

pub failed_took_last : (t : TaskId) (ep max : ℕ) (w : Option AttemptId) (q f : ℕ) (a : AttemptId) → nat_le max (f + 1) ≡ true → task_took (state t ep max (living a at_state.Processing) w q f false) (task_event.Fail a) ≡ Spent
failed_took_last t ep max w q f a h = rw (same_attempt-refl a, h) refl

pub failed_took_again : (t : TaskId) (ep max : ℕ) (w : Option AttemptId) (q f : ℕ) (a : AttemptId) → nat_le max (f + 1) ≡ false
    → task_took (state t ep max (living a at_state.Processing) w q f false) (task_event.Fail a) ≡ Again (attempt ep t q)
failed_took_again t ep max w q f a h = rw (same_attempt-refl a, h) refl

lost_after : (t : TaskId) (ep max : ℕ) (l : Option Live) (q f : ℕ) (w : AttemptId)
    → task_after (state t ep max l (Some w) q f false) (task_event.Lose w) ≡ state t ep max (living (attempt ep t q) at_state.Queued) None (q + 1) f false
lost_after t ep max l q f w = rw (same_attempt-refl w) refl

pub lost_took : (t : TaskId) (ep max : ℕ) (l : Option Live) (q f : ℕ) (w : AttemptId) → task_took (state t ep max l (Some w) q f false) (task_event.Lose w) ≡ Again (attempt ep t q)
lost_took t ep max l q f w = rw (same_attempt-refl w) refl

not_ignored : (x y : TaskTook) → x ≡ y → is_ignored y ≡ false → is_ignored x ≡ false
not_ignored x y e h = ap is_ignored e ∙ h

-- ---- what an attempt that is alive tells

pub lives : (g : Dag) (c : ConfValues) (past : Past) (a : AttemptId) → IsMade g c past → IsAlive (stage a past) → live a.task past ≡ Some a
lives g c past a m h = one_live g c past m a h

counted : (g : Dag) (c : ConfValues) (past : Past) (a : AttemptId) → IsMade g c past → IsAlive (stage a past) → 0 < attempts a.task past
counted g c past a m h = let k = (known g c past m a (alive_known (stage a past) h)).1 in omega (arith, k)

-- ---- placed and sent

pub placed_takes : (g : Dag) (c : ConfValues) (past : Past) (a : AttemptId) (k : ContainerId) (p : ℕ) → IsMade g c past → FewFailures c past → stage a past ≡ InQueue → TakesOne c past (Placed a k p ∷ past) a.task (task_event.Place a)
placed_takes g c past a k p m few s =
    let alive : IsAlive (stage a past) = subst IsAlive (sym s) tt in
    let l = lives g c past a m alive in
    let was = alive_view c past a InQueue few l s in
    let now = alive_view c (Placed a k p ∷ past) a (Waits p) few l (if_same (same_attempt a a) (Waits p) (stage a past) (same_attempt-refl a)) in
    record {
      configs = λ v. refl;
      epochs = refl;
      this = now ∙ sym (ap (λ x. task_after x (task_event.Place a)) was ∙ placed_after a.task (epoch past) c.max_failed (winner a.task past) (attempts a.task past) (failures a.task past) a);
      others = λ u h. other_view c past (Placed a k p ∷ past) u refl refl (λ b e. if_other (same_attempt a b) (Waits p) (stage b past) (apart a b u h e)) refl refl refl;
      queued = counted g c past a m alive;
      took = not_ignored _ Moved (ap (λ x. task_took x (task_event.Place a)) was ∙ placed_took a.task (epoch past) c.max_failed (winner a.task past) (attempts a.task past) (failures a.task past) a) refl;
    }

pub sent_takes : (g : Dag) (c : ConfValues) (past : Past) (a : AttemptId) (p : ℕ) → IsMade g c past → FewFailures c past → stage a past ≡ Waits p → TakesOne c past (Ordered a ∷ past) a.task (task_event.Send a)
sent_takes g c past a p m few s =
    let alive : IsAlive (stage a past) = subst IsAlive (sym s) tt in
    let l = lives g c past a m alive in
    let was = alive_view c past a (Waits p) few l s in
    let now = alive_view c (Ordered a ∷ past) a (Runs p) few l (ap (λ b. sent b (stage a past)) (same_attempt-refl a) ∙ ap (sent true) s) in
    record {
      configs = λ v. refl;
      epochs = refl;
      this = now ∙ sym (ap (λ x. task_after x (task_event.Send a)) was ∙ sent_after a.task (epoch past) c.max_failed (winner a.task past) (attempts a.task past) (failures a.task past) a);
      others = λ u h. other_view c past (Ordered a ∷ past) u refl refl (λ b e. ap (λ x. sent x (stage b past)) (apart a b u h e)) refl refl refl;
      queued = counted g c past a m alive;
      took = not_ignored _ Moved (ap (λ x. task_took x (task_event.Send a)) was ∙ sent_took a.task (epoch past) c.max_failed (winner a.task past) (attempts a.task past) (failures a.task past) a) refl;
    }

-- ---- done

pub done_takes : (g : Dag) (c : ConfValues) (past : Past) (a : AttemptId) (p : ℕ) → IsMade g c past → FewFailures c past → stage a past ≡ Runs p → TakesOne c past (Succeeded a ∷ past) a.task (task_event.Succeed a)
done_takes g c past a p m few s =
    let alive : IsAlive (stage a past) = subst IsAlive (sym s) tt in
    let l = lives g c past a m alive in
    let was = alive_view c past a (Runs p) few l s in
    let same = same_task-refl a.task in
    let now : task_view c a.task (Succeeded a ∷ past) ≡ state a.task (epoch past) c.max_failed None (Some a) (attempts a.task past) (failures a.task past) false =
    same_state a.task (epoch past) (epoch past) c.max_failed (live_view a.task (Succeeded a ∷ past)) None (winner a.task (Succeeded a ∷ past)) (Some a) (attempts a.task past) (attempts a.task past) (failures a.task past) (failures a.task past)
    (nat_le c.max_failed (failures a.task past)) false refl (none_fact (Succeeded a ∷ past) a.task (if_same (same_task a.task a.task) None (live a.task past) same)) (if_same (same_task a.task a.task) (Some a) (winner a.task past) same) refl refl
    (unspent c.max_failed (failures a.task past) (few a.task)) in
    record {
      configs = λ v. refl;
      epochs = refl;
      this = now ∙ sym (ap (λ x. task_after x (task_event.Succeed a)) was ∙ done_after a.task (epoch past) c.max_failed (winner a.task past) (attempts a.task past) (failures a.task past) a);
      others = λ u h. other_view c past (Succeeded a ∷ past) u refl (if_other (same_task a.task u) None (live u past) h) (λ b e. if_other (same_attempt a b) Ended (stage b past) (apart a b u h e)) (if_other (same_task a.task u) (Some a) (winner u past) h) refl refl;
      queued = counted g c past a m alive;
      took = not_ignored _ Moved (ap (λ x. task_took x (task_event.Succeed a)) was ∙ done_took a.task (epoch past) c.max_failed (winner a.task past) (attempts a.task past) (failures a.task past) a) refl;
    }

-- ---- a task is queued

one_more : (b : Bool) (n : ℕ) → b ≡ true → (if b then 1 else 0) + n ≡ n + 1
one_more true n h = omega arith
one_more false n h = cc

no_more : (b : Bool) (n : ℕ) → b ≡ false → (if b then 1 else 0) + n ≡ n
no_more false n h = omega arith
no_more true n h = cc

-- the next attempt is queued on top of a moment at which the task has neither a live attempt nor a winner
queued_view : (c : ConfValues) (mid : Past) (t : TaskId) → winner t mid ≡ None → failures t mid < c.max_failed
    → task_view c t (Queued (next_attempt mid t) ∷ mid) ≡ state t (epoch mid) c.max_failed (living (next_attempt mid t) at_state.Queued) None (attempts t mid + 1) (failures t mid) false
queued_view c mid t w few =
    let n = next_attempt mid t in
    same_state t (epoch mid) (epoch mid) c.max_failed (live_view t (Queued n ∷ mid)) (living n at_state.Queued) (winner t mid) None (attempts t (Queued n ∷ mid)) (attempts t mid + 1) (failures t mid) (failures t mid) (nat_le c.max_failed (failures t mid)) false
    refl (live_fact (Queued n ∷ mid) t n InQueue (if_same (same_task t t) (Some n) (live t mid) (same_task-refl t)) (if_same (same_attempt n n) InQueue (stage n mid) (same_attempt-refl n))) w (one_more (same_task t t) (attempts t mid) (same_task-refl t)) refl
    (unspent c.max_failed (failures t mid) few)

queued_other : (c : ConfValues) (mid : Past) (t u : TaskId) → same_task t u ≡ false → task_view c u (Queued (next_attempt mid t) ∷ mid) ≡ task_view c u mid
queued_other c mid t u h =
    let n = next_attempt mid t in
    other_view c mid (Queued n ∷ mid) u refl (if_other (same_task t u) (Some n) (live u mid) h) (λ b e. if_other (same_attempt n b) InQueue (stage b mid) (apart n b u h e)) refl (no_more (same_task t u) (attempts u mid) h) refl

more_queued : (mid : Past) (t : TaskId) → 0 < attempts t (Queued (next_attempt mid t) ∷ mid)
more_queued mid t = by (same_task t t) (same_task-refl t) where
  by : (b : Bool) → b ≡ true → 0 < (if b then 1 else 0) + attempts t mid
  by true h = omega arith
  by false h = cc

-- what stands between a history and the moment at which a task is queued again
pub record Between (c : ConfValues) (past mid : Past) (t : TaskId) : Type 0 where
  pub configs : (v : ℕ) → config v mid ≡ config v past
  pub epochs : epoch mid ≡ epoch past
  pub others : (u : TaskId) → same_task t u ≡ false → task_view c u mid ≡ task_view c u past
  pub none : winner t mid ≡ None
  pub attempts : attempts t mid ≡ attempts t past

same_next : (e f q r : ℕ) (t : TaskId) → e ≡ f → q ≡ r → attempt e t q ≡ attempt f t r
same_next e f q r t h k = cc

-- it takes an event that queues the next attempt
pub again_takes : (c : ConfValues) (past mid : Past) (t : TaskId) (e : TaskEvent) (f : ℕ) → Between c past mid t → failures t mid ≡ f → f < c.max_failed
    → task_after (task_view c t past) e ≡ state t (epoch past) c.max_failed (living (next_attempt past t) at_state.Queued) None (attempts t past + 1) f false
    → task_took (task_view c t past) e ≡ Again (next_attempt past t) → TakesOne c past (Queued (next_attempt mid t) ∷ mid) t e
again_takes c past mid t e f b fail few after took =
    let next : next_attempt mid t ≡ next_attempt past t = same_next (epoch mid) (epoch past) (attempts t mid) (attempts t past) t b.epochs b.attempts in
    let same : state t (epoch mid) c.max_failed (living (next_attempt mid t) at_state.Queued) None (attempts t mid + 1) (failures t mid) false
    ≡ state t (epoch past) c.max_failed (living (next_attempt past t) at_state.Queued) None (attempts t past + 1) f false =
    same_state t (epoch mid) (epoch past) c.max_failed (living (next_attempt mid t) at_state.Queued) (living (next_attempt past t) at_state.Queued) None None (attempts t mid + 1) (attempts t past + 1) (failures t mid) f false false
    b.epochs (ap (λ n. living n at_state.Queued) next) refl (ap (λ n. n + 1) b.attempts) fail refl in
    record {
      configs = b.configs;
      epochs = b.epochs;
      this = queued_view c mid t b.none (subst (λ n. n < c.max_failed) (sym fail) few) ∙ same ∙ sym after;
      others = λ u h. queued_other c mid t u h ∙ b.others u h;
      queued = more_queued mid t;
      took = not_ignored _ (Again (next_attempt past t)) took refl;
    }

-- the first attempt of a task
pub first_view : (c : ConfValues) (past : Past) (t : TaskId) → FewFailures c past → live t past ≡ None → winner t past ≡ None
    → task_view c t past ≡ state t (epoch past) c.max_failed None None (attempts t past) (failures t past) false
first_view c past t few l w =
    same_state t (epoch past) (epoch past) c.max_failed (live_view t past) None (winner t past) None (attempts t past) (attempts t past) (failures t past) (failures t past) (nat_le c.max_failed (failures t past)) false
    refl (none_fact past t l) w refl refl (unspent c.max_failed (failures t past) (few t))

pub first_takes : (c : ConfValues) (past : Past) (t : TaskId) → FewFailures c past → live t past ≡ None → winner t past ≡ None → TakesOne c past (Queued (next_attempt past t) ∷ past) t task_event.Queue
first_takes c past t few l w =
    let was = first_view c past t few l w in
    again_takes c past past t task_event.Queue (failures t past) (record { configs = λ v. refl; epochs = refl; others = λ u h. refl; none = w; attempts = refl }) refl (few t)
    (ap (λ x. task_after x task_event.Queue) was) (ap (λ x. task_took x task_event.Queue) was)

-- ---- an attempt ends, and its task is queued again

killed_between : (c : ConfValues) (past : Past) (a : AttemptId) (cause : KillCause) → winner a.task past ≡ None → Between c past (Killed a cause ∷ past) a.task
killed_between c past a cause w = record {
  configs = λ v. refl;
  epochs = refl;
  others = λ u h. other_view c past (Killed a cause ∷ past) u refl (if_other (same_task a.task u) None (live u past) h) (λ b e. if_other (same_attempt a b) Ended (stage b past) (apart a b u h e)) refl refl refl;
  none = w;
  attempts = refl;
}

pub killed_takes : (g : Dag) (c : ConfValues) (past : Past) (a : AttemptId) (cause : KillCause) → IsMade g c past → FewFailures c past → IsPlaced (stage a past)
    → TakesOne c past (extend past (Killed a cause ∷ requeue past a.task)) a.task (task_event.Kill a)
killed_takes g c past a cause m few placed =
    let l = lives g c past a m (placed_alive (stage a past) placed) in
    let was = alive_view c past a (stage a past) few l refl in
    again_takes c past (Killed a cause ∷ past) a.task (task_event.Kill a) (failures a.task past) (killed_between c past a cause (no_both g c past m a.task a l)) refl (few a.task)
    (ap (λ x. task_after x (task_event.Kill a)) was ∙ killed_after a.task (epoch past) c.max_failed (winner a.task past) (attempts a.task past) (failures a.task past) a (stage a past) placed)
    (ap (λ x. task_took x (task_event.Kill a)) was ∙ killed_took a.task (epoch past) c.max_failed (winner a.task past) (attempts a.task past) (failures a.task past) a (stage a past) placed)

failed_other : (c : ConfValues) (past : Past) (a : AttemptId) (u : TaskId) → same_task a.task u ≡ false → task_view c u (Failed a ∷ past) ≡ task_view c u past
failed_other c past a u h =
    other_view c past (Failed a ∷ past) u refl (if_other (same_task a.task u) None (live u past) h) (λ b e. if_other (same_attempt a b) Ended (stage b past) (apart a b u h e)) refl refl (no_more (same_task a.task u) (failures u past) h)

pub failed_takes_again : (g : Dag) (c : ConfValues) (past : Past) (a : AttemptId) (p : ℕ) → IsMade g c past → FewFailures c past → stage a past ≡ Runs p → nat_le c.max_failed (failures a.task past + 1) ≡ false
    → TakesOne c past (extend past (Failed a ∷ requeue past a.task)) a.task (task_event.Fail a)
failed_takes_again g c past a p m few s less =
    let alive : IsAlive (stage a past) = subst IsAlive (sym s) tt in
    let l = lives g c past a m alive in
    let was = alive_view c past a (Runs p) few l s in
    again_takes c past (Failed a ∷ past) a.task (task_event.Fail a) (failures a.task past + 1)
    (record { configs = λ v. refl; epochs = refl; others = failed_other c past a; none = no_both g c past m a.task a l; attempts = refl })
    (one_more (same_task a.task a.task) (failures a.task past) (same_task-refl a.task)) (below c.max_failed (failures a.task past + 1) less)
    (ap (λ x. task_after x (task_event.Fail a)) was ∙ failed_again a.task (epoch past) c.max_failed (winner a.task past) (attempts a.task past) (failures a.task past) a less)
    (ap (λ x. task_took x (task_event.Fail a)) was ∙ failed_took_again a.task (epoch past) c.max_failed (winner a.task past) (attempts a.task past) (failures a.task past) a less)
  where
    below : (max n : ℕ) → nat_le max n ≡ false → n < max
    below max n h = grind (arith, nat_tests)

pub failed_takes_last : (g : Dag) (c : ConfValues) (past : Past) (a : AttemptId) (p : ℕ) → IsMade g c past → FewFailures c past → stage a past ≡ Runs p → nat_le c.max_failed (failures a.task past + 1) ≡ true
    → TakesOne c past (Failed a ∷ past) a.task (task_event.Fail a)
failed_takes_last g c past a p m few s all =
    let alive : IsAlive (stage a past) = subst IsAlive (sym s) tt in
    let l = lives g c past a m alive in
    let was = alive_view c past a (Runs p) few l s in
    let same = same_task-refl a.task in
    let count = one_more (same_task a.task a.task) (failures a.task past) same in
    let now : task_view c a.task (Failed a ∷ past) ≡ state a.task (epoch past) c.max_failed None (winner a.task past) (attempts a.task past) (failures a.task past + 1) true =
    same_state a.task (epoch past) (epoch past) c.max_failed (live_view a.task (Failed a ∷ past)) None (winner a.task past) (winner a.task past) (attempts a.task past) (attempts a.task past) (failures a.task (Failed a ∷ past)) (failures a.task past + 1)
    (nat_le c.max_failed (failures a.task (Failed a ∷ past))) true refl (none_fact (Failed a ∷ past) a.task (if_same (same_task a.task a.task) None (live a.task past) same)) refl refl count (ap (nat_le c.max_failed) count ∙ all) in
    record {
      configs = λ v. refl;
      epochs = refl;
      this = now ∙ sym (ap (λ x. task_after x (task_event.Fail a)) was ∙ failed_last a.task (epoch past) c.max_failed (winner a.task past) (attempts a.task past) (failures a.task past) a all);
      others = failed_other c past a;
      queued = counted g c past a m alive;
      took = not_ignored _ Spent (ap (λ x. task_took x (task_event.Fail a)) was ∙ failed_took_last a.task (epoch past) c.max_failed (winner a.task past) (attempts a.task past) (failures a.task past) a all) refl;
    }

-- ---- a winner is withdrawn

unlike : (w b : AttemptId) (u : TaskId) → same_task w.task u ≡ false → b.task ≡ u → same_attempt w b ≡ false
unlike w b u h e = grind arith

freed_other : (w : AttemptId) (u : TaskId) (o : Option AttemptId) → same_task w.task u ≡ false → ((b : AttemptId) → o ≡ Some b → b.task ≡ u) → freed w o ≡ o
freed_other w u None h of = refl
freed_other w u (Some b) h of = ap (λ x. if x then None else Some b) (unlike w b u h (of b refl))

-- the winners of other tasks stay, and it is gone
pub winner_stays : (past : Past) (w : AttemptId) (u : TaskId) → same_task w.task u ≡ false → winner u (Rerun w ∷ past) ≡ winner u past
winner_stays past w u h = freed_other w u (winner u past) h (winner_task past u)

winner_goes : (past : Past) (w : AttemptId) → winner w.task past ≡ Some w → winner w.task (Rerun w ∷ past) ≡ None
winner_goes past w won = ap (freed w) won ∙ ap (λ x. if x then None else Some w) (same_attempt-refl w)

rerun_other : (c : ConfValues) (past : Past) (w : AttemptId) (u : TaskId) → same_task w.task u ≡ false → task_view c u (Rerun w ∷ past) ≡ task_view c u past
rerun_other c past w u h = other_view c past (Rerun w ∷ past) u refl refl (λ b e. refl) (winner_stays past w u h) refl refl

pub none_by_winner : (l w : Option AttemptId) (a : AttemptId) → ((b : AttemptId) → l ≡ Some b → w ≡ None) → w ≡ Some a → l ≡ None
none_by_winner None w a h e = refl
none_by_winner (Some b) w a h e = let none : w ≡ None = h b refl in cc

-- a fact that notices leave alone
told : {A : Type 0} (g : Dag) (past : Past) (w : AttemptId) (fact : Past → A) → ((p : Past) (a : AttemptId) (e : _) (i : ℕ) (x : AttemptId) → fact (InputFailed a e i x ∷ p) ≡ fact p) → fact (extend (Rerun w ∷ past) (notices g past w)) ≡ fact (Rerun w ∷ past)
told g past w fact same = through fact same (Rerun w ∷ past) (notices g past w) (notices_are g past w)

pub lost_takes : (g : Dag) (c : ConfValues) (past : Past) (w : AttemptId) → IsMade g c past → FewFailures c past → winner w.task past ≡ Some w
    → TakesOne c past (Queued (next_attempt past w.task) ∷ extend (Rerun w ∷ past) (notices g past w)) w.task (task_event.Lose w)
lost_takes g c past w m few won =
    let mid = extend (Rerun w ∷ past) (notices g past w) in
    let b : Between c past mid w.task = record {
      configs = λ v. told g past w (λ p. config v p) (λ p a e i x. refl);
      epochs = told g past w (λ p. epoch p) (λ p a e i x. refl);
      others = λ u h. told g past w (λ p. task_view c u p) (λ p a e i x. refl) ∙ rerun_other c past w u h;
      none = told g past w (λ p. winner w.task p) (λ p a e i x. refl) ∙ winner_goes past w won;
      attempts = told g past w (λ p. attempts w.task p) (λ p a e i x. refl);
    } in
    let next : next_attempt mid w.task ≡ next_attempt past w.task = same_next (epoch mid) (epoch past) (attempts w.task mid) (attempts w.task past) w.task b.epochs b.attempts in
    let none = none_fact past w.task (none_by_winner (live w.task past) (winner w.task past) w (no_both g c past m w.task) won) in
    let was : task_view c w.task past ≡ state w.task (epoch past) c.max_failed None (Some w) (attempts w.task past) (failures w.task past) false =
    same_state w.task (epoch past) (epoch past) c.max_failed (live_view w.task past) None (winner w.task past) (Some w) (attempts w.task past) (attempts w.task past) (failures w.task past) (failures w.task past)
    (nat_le c.max_failed (failures w.task past)) false refl none won refl refl (unspent c.max_failed (failures w.task past) (few w.task)) in
    subst (λ n. TakesOne c past (Queued n ∷ mid) w.task (task_event.Lose w)) next
    (again_takes c past mid w.task (task_event.Lose w) (failures w.task past) b (told g past w (λ p. failures w.task p) (λ p a e i x. refl)) (few w.task)
    (ap (λ x. task_after x (task_event.Lose w)) was ∙ lost_after w.task (epoch past) c.max_failed None (attempts w.task past) (failures w.task past) w)
    (ap (λ x. task_took x (task_event.Lose w)) was ∙ lost_took w.task (epoch past) c.max_failed None (attempts w.task past) (failures w.task past) w))
