-- What the answer to an event says of the task and the vertex.
use Rattle.std.specs.Prelude.{◌≡◌, ℕ, zero, suc, ◌+◌, ◌||◌, not, Bool, true, false, if◌then◌else◌, List, [], ◌∷◌, slice_get, Option, Some, None, is_some, refl}
use Rattle.std.proofs.Common.{ap, sym, ◌∙◌, set}
use Rattle.std.proofs.lemmas.Option.{same_Some}
use Rattle.tez_ids.specs.declared.AttemptId.{AttemptId}
use Rattle.tez_attempt.specs.declared.AttemptState.{AttemptState}
use Rattle.tez_attempt.specs.declared.AttemptEvent.TheVariants as attempt_event
use Rattle.tez_task.specs.declared.TaskEvent.{TaskEvent}
use Rattle.tez_task.specs.declared.TaskEvent.TheVariants.{Queue, Place, Send, Succeed, Fail, Kill, Lose}
use Rattle.tez_task.specs.declared.TaskTook.{TaskTook}
use Rattle.tez_task.specs.declared.TaskTook.TheVariants.{Again, Spent, Ignored}
use Rattle.tez_task.specs.TaskState.{TaskState}
use Rattle.tez_task.specs.Table.{next_of, moved_live, is_winner, queued_again, advanced, succeeded, moved_or_ignored, is_last, failed, took_fail, killed, took_kill, after_event, took_event, task_after, task_took}
use Rattle.tez_vertex.specs.Vertex.{Vertex, is_spent}
use Rattle.tez_vertex.specs.Table.{has_failed, is_ignored, is_last_failure, take_by, after_take}
use Rattle.tez_vertex.proofs.VertexLemmas.{vertex, any_from, any_set, stays_spent}

or_false : (b : Bool) → b ≡ (b || false)
or_false true = refl
or_false false = refl

or_true : (b : Bool) → true ≡ (b || true)
or_true true = refl
or_true false = refl

-- ---- a task is spent exactly where it was or the answer says so

by_queue : (t : TaskState) (b : Bool) → (let s : TaskState = if b then t else queued_again t in s).spent ≡ (t.spent || is_last_failure (if b then Ignored else Again (next_of t)))
by_queue t true = or_false t.spent
by_queue t false = or_false t.spent

by_advance : (t : TaskState) (a : AttemptId) (o : Option AttemptState) → (advanced t a o).spent ≡ (t.spent || is_last_failure (moved_or_ignored o))
by_advance t a None = or_false t.spent
by_advance t a (Some s) = or_false t.spent

by_success : (t : TaskState) (a : AttemptId) (o : Option AttemptState) → (succeeded t a o).spent ≡ (t.spent || is_last_failure (moved_or_ignored o))
by_success t a None = or_false t.spent
by_success t a (Some s) = or_false t.spent

by_last : (t : TaskState) (b : Bool)
    → (let s : TaskState = if b then record t { live = None; failures = t.failures + 1; spent = true } else queued_again (record t { failures = t.failures + 1 }) in s).spent
    ≡ (t.spent || is_last_failure (if b then Spent else Again (next_of t)))
by_last t true = or_true t.spent
by_last t false = or_false t.spent

by_fail : (t : TaskState) (o : Option AttemptState) → (failed t o).spent ≡ (t.spent || is_last_failure (took_fail t o))
by_fail t None = or_false t.spent
by_fail t (Some s) = by_last t (is_last t)

by_kill : (t : TaskState) (o : Option AttemptState) → (killed t o).spent ≡ (t.spent || is_last_failure (took_kill t o))
by_kill t None = or_false t.spent
by_kill t (Some s) = or_false t.spent

by_loss : (t : TaskState) (b : Bool) → (let s : TaskState = if b then queued_again t else t in s).spent ≡ (t.spent || is_last_failure (if b then Again (next_of t) else Ignored))
by_loss t true = or_false t.spent
by_loss t false = or_false t.spent

by_event : (t : TaskState) (e : TaskEvent) → (after_event t e).spent ≡ (t.spent || is_last_failure (took_event t e))
by_event t Queue = by_queue t (is_some t.live || is_some t.winner)
by_event t (Place a) = by_advance t a (moved_live t.live a attempt_event.Place)
by_event t (Send a) = by_advance t a (moved_live t.live a attempt_event.Send)
by_event t (Succeed a) = by_success t a (moved_live t.live a attempt_event.Succeed)
by_event t (Fail a) = by_fail t (moved_live t.live a attempt_event.Fail)
by_event t (Kill a) = by_kill t (moved_live t.live a attempt_event.Kill)
by_event t (Lose a) = by_loss t (is_winner t.winner a)

spent_after : (t : TaskState) (e : TaskEvent) → (task_after t e).spent ≡ (t.spent || is_last_failure (task_took t e))
spent_after t e = by t.spent where
  by : (b : Bool) → (let s : TaskState = if b then t else after_event t e in s).spent ≡ (t.spent || is_last_failure (if b then Ignored else took_event t e))
  by true = or_false t.spent
  by false = by_event t e

counted_once : (a b c : Bool) → (b ≡ true → a ≡ true) → (a || (b || c)) ≡ (a || c)
counted_once true b c h = refl
counted_once false true c h = absurd (false_true (h refl)) where
  false_true : false ≡ true → ⊥
  false_true e = cc
counted_once false false c h = refl

pub failed_after : (s : Vertex) (i : ℕ) (t : TaskState) (e : TaskEvent) → slice_get s.tasks i ≡ Some t → has_failed (after_take s i e) ≡ (has_failed s || is_last_failure (task_took t e))
failed_after s i t e g =
    ap (λ o. has_failed (take_by s i e o)) g ∙ any_set is_spent s.tasks i t (task_after t e) g (stays_spent t e) ∙ ap (λ b. has_failed s || b) (spent_after t e)
    ∙ counted_once (has_failed s) t.spent (is_last_failure (task_took t e)) (λ h. any_from is_spent s.tasks i t g h)

-- ---- what is ignored changes nothing

same_queue : (t : TaskState) (b : Bool) → (let k : TaskTook = if b then Ignored else Again (next_of t) in k) ≡ Ignored → (let s : TaskState = if b then t else queued_again t in s) ≡ t
same_queue t true h = refl
same_queue t false h = cc

same_advance : (t : TaskState) (a : AttemptId) (o : Option AttemptState) → moved_or_ignored o ≡ Ignored → advanced t a o ≡ t
same_advance t a None h = refl
same_advance t a (Some s) h = cc

same_success : (t : TaskState) (a : AttemptId) (o : Option AttemptState) → moved_or_ignored o ≡ Ignored → succeeded t a o ≡ t
same_success t a None h = refl
same_success t a (Some s) h = cc

not_ignored : (t : TaskState) (b : Bool) → (let k : TaskTook = if b then Spent else Again (next_of t) in k) ≡ Ignored → ⊥
not_ignored t true h = cc
not_ignored t false h = cc

same_fail : (t : TaskState) (o : Option AttemptState) → took_fail t o ≡ Ignored → failed t o ≡ t
same_fail t None h = refl
same_fail t (Some s) h = absurd (not_ignored t (is_last t) h)

same_kill : (t : TaskState) (o : Option AttemptState) → took_kill t o ≡ Ignored → killed t o ≡ t
same_kill t None h = refl
same_kill t (Some s) h = cc

same_loss : (t : TaskState) (b : Bool) → (let k : TaskTook = if b then Again (next_of t) else Ignored in k) ≡ Ignored → (let s : TaskState = if b then queued_again t else t in s) ≡ t
same_loss t true h = cc
same_loss t false h = refl

same_event : (t : TaskState) (e : TaskEvent) → took_event t e ≡ Ignored → after_event t e ≡ t
same_event t Queue = same_queue t (is_some t.live || is_some t.winner)
same_event t (Place a) = same_advance t a (moved_live t.live a attempt_event.Place)
same_event t (Send a) = same_advance t a (moved_live t.live a attempt_event.Send)
same_event t (Succeed a) = same_success t a (moved_live t.live a attempt_event.Succeed)
same_event t (Fail a) = same_fail t (moved_live t.live a attempt_event.Fail)
same_event t (Kill a) = same_kill t (moved_live t.live a attempt_event.Kill)
same_event t (Lose a) = same_loss t (is_winner t.winner a)

same_task : (t : TaskState) (e : TaskEvent) → task_took t e ≡ Ignored → task_after t e ≡ t
same_task t e = by t.spent where
  by : (b : Bool) → (let k : TaskTook = if b then Ignored else took_event t e in k) ≡ Ignored → (let s : TaskState = if b then t else after_event t e in s) ≡ t
  by true h = refl
  by false h = same_event t e h

set_same : {X : Type 0} (xs : List X) (i : ℕ) (x : X) → slice_get xs i ≡ Some x → set xs i x ≡ xs
set_same [] i x e = refl
set_same (y ∷ ys) zero x e = ap (λ z. z ∷ ys) (sym (same_Some y x e))
set_same (y ∷ ys) (suc i) x e = ap (λ zs. y ∷ zs) (set_same ys i x e)

pub unchanged : (s : Vertex) (i : ℕ) (t : TaskState) (e : TaskEvent) → slice_get s.tasks i ≡ Some t → task_took t e ≡ Ignored → after_take s i e ≡ s
unchanged s i t e g h =
    ap (take_by s i e) g
    ∙ ap (λ ts. vertex s.vertex s.epoch s.max_failed s.configured ts (s.moved || not (is_ignored (task_took t e)))) (ap (set s.tasks i) (same_task t e h) ∙ set_same s.tasks i t g)
    ∙ ap (λ k. vertex s.vertex s.epoch s.max_failed s.configured s.tasks (s.moved || not (is_ignored k))) h
    ∙ ap (vertex s.vertex s.epoch s.max_failed s.configured s.tasks) (sym (or_false s.moved))
