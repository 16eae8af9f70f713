-- An event of a task changes this task alone, and keeps what a task keeps.
use Rattle.std.specs.Prelude.{◌≡◌, ℕ, ◌+◌, ◌≤◌, ◌==◌, ◌&&◌, ◌||◌, Bool, true, false, if◌then◌else◌, List, length, slice_get, slice_set, Option, Some, None, is_some, refl, option_and_then}
use Rattle.std.specs.Option.{option_map, option_map_or}
use Rattle.std.proofs.Common.{ap, sym, ◌∙◌, subst, arith, inl, inr, ◌⊎◌, length-set}
use Rattle.std.proofs.lemmas.Bool.Decides.{nat_tests}
use Rattle.std.proofs.lemmas.Option.{same_Some}
use Rattle.tez_ids.specs.declared.TaskId.{TaskId}
use Rattle.tez_ids.specs.declared.AttemptId.{AttemptId}
use Rattle.tez_ids.specs.Same.{task, same_task, same_attempt}
use Rattle.tez_ids.proofs.Sameness.{same_attempt-true}
use Rattle.tez_plan.specs.Dag.{Dag, tasks_of as planned}
use Rattle.tez_attempt.specs.declared.AttemptState.{AttemptState}
use Rattle.tez_attempt.specs.declared.AttemptEvent.{AttemptEvent}
use Rattle.tez_attempt.specs.declared.AttemptEvent.TheVariants as attempt_event
use Rattle.tez_attempt.specs.Table.{moved_to}
use Rattle.tez_task.specs.declared.Live.{Live}
use Rattle.tez_task.specs.declared.TaskEvent.{TaskEvent}
use Rattle.tez_task.specs.declared.TaskEvent.TheVariants.{Queue, Place, Send, Succeed, Fail, Kill, Lose}
use Rattle.tez_task.specs.TaskState.{TaskState}
use Rattle.tez_task.specs.Table.{moved_live, is_winner, is_last, queued_again, advanced, succeeded, failed, killed, after_event, task_after}
use Rattle.tez_vertex.specs.Vertex.{Vertex}
use Rattle.tez_vertex.specs.Table.{task_of, take_by, after_take}
use Rattle.tez_master_model.specs.Vertices.{change, change_by, take_in}
use Rattle.tez_core.specs.Parts.{task_at}
use Rattle.tez_lead.specs.Kept.{IsTask, IsVertex, AreVertices}
use Rattle.tez_lead.proofs.Lists.{tells, set_here, set_elsewhere}

-- ---- one vertex of several

pub change_none : (vs : List Vertex) (v : ℕ) (f : Vertex → Vertex) → slice_get vs v ≡ None → change vs v f ≡ vs
change_none vs v f e = ap (change_by vs v f) e

pub change_here : (vs : List Vertex) (v : ℕ) (f : Vertex → Vertex) (x : Vertex) → slice_get vs v ≡ Some x → slice_get (change vs v f) v ≡ Some (f x)
change_here vs v f x e = ap (λ o. slice_get (change_by vs v f o) v) e ∙ set_here vs v x (f x) e

pub change_elsewhere : (vs : List Vertex) (v w : ℕ) (f : Vertex → Vertex) → (v ≡ w → ⊥) → slice_get (change vs v f) w ≡ slice_get vs w
change_elsewhere vs v w f ne = by (slice_get vs v) where
  by : (o : Option Vertex) → slice_get (change_by vs v f o) w ≡ slice_get vs w
  by None = refl
  by (Some x) = set_elsewhere vs v w (f x) ne

pub change_long : (vs : List Vertex) (v : ℕ) (f : Vertex → Vertex) → length (change vs v f) ≡ length vs
change_long vs v f = by (slice_get vs v) where
  by : (o : Option Vertex) → length (change_by vs v f o) ≡ length vs
  by None = refl
  by (Some x) = length-set vs v (f x)

-- ---- one task of a vertex

after_elsewhere : (x : Vertex) (i j : ℕ) (e : TaskEvent) → (i ≡ j → ⊥) → task_of (after_take x i e) j ≡ task_of x j
after_elsewhere x i j e ne = by (task_of x i) where
  by : (o : Option TaskState) → task_of (take_by x i e o) j ≡ task_of x j
  by None = refl
  by (Some s) = set_elsewhere x.tasks i j (task_after s e) ne

after_here : (x : Vertex) (i : ℕ) (e : TaskEvent) → task_of (after_take x i e) i ≡ option_map (λ s. task_after s e) (task_of x i)
after_here x i e = by (task_of x i) refl where
  by : (o : Option TaskState) → task_of x i ≡ o → task_of (take_by x i e o) i ≡ option_map (λ s. task_after s e) o
  by None h = h
  by (Some s) h = set_here x.tasks i s (task_after s e) h

pub after_long : (x : Vertex) (i : ℕ) (e : TaskEvent) → length (after_take x i e).tasks ≡ length x.tasks
after_long x i e = by (task_of x i) where
  by : (o : Option TaskState) → length (take_by x i e o).tasks ≡ length x.tasks
  by None = refl
  by (Some s) = length-set x.tasks i (task_after s e)

-- ---- one task of all

pub at_vertex : (vs : List Vertex) (u : TaskId) (x : Vertex) → slice_get vs u.vertex.0 ≡ Some x → task_at vs u ≡ task_of x u.index
at_vertex vs u x h = ap (option_and_then (λ y. task_of y u.index)) h

not_both : (a b c d : ℕ) → a ≡ c → b ≡ d → ((a == c) && (b == d)) ≡ false → ⊥
not_both a b c d e f n = grind (arith, nat_tests)

-- a change of one task of a vertex changes no other
pub changed_elsewhere : (vs : List Vertex) (t u : TaskId) (f : Vertex → Vertex) → ((x : Vertex) (j : ℕ) → (t.index ≡ j → ⊥) → task_of (f x) j ≡ task_of x j)
    → same_task t u ≡ false → task_at (change vs t.vertex.0 f) u ≡ task_at vs u
changed_elsewhere vs t u f rest ne = by (tells t.vertex.0 u.vertex.0) where
  at : t.vertex.0 ≡ u.vertex.0 → (o : Option Vertex) → slice_get vs u.vertex.0 ≡ o → task_at (change vs t.vertex.0 f) u ≡ task_at vs u
  at q None h = ap (λ ws. task_at ws u) (change_none vs t.vertex.0 f (ap (slice_get vs) q ∙ h))
  at q (Some x) h =
      let new : slice_get (change vs t.vertex.0 f) u.vertex.0 ≡ Some (f x) = ap (slice_get (change vs t.vertex.0 f)) (sym q) ∙ change_here vs t.vertex.0 f x (ap (slice_get vs) q ∙ h) in
      at_vertex (change vs t.vertex.0 f) u (f x) new
      ∙ rest x u.index (λ i. not_both t.vertex.0 t.index u.vertex.0 u.index q i ne)
      ∙ sym (at_vertex vs u x h)

  by : (t.vertex.0 ≡ u.vertex.0) ⊎ (t.vertex.0 ≡ u.vertex.0 → ⊥) → task_at (change vs t.vertex.0 f) u ≡ task_at vs u
  by (inl q) = at q (slice_get vs u.vertex.0) refl
  by (inr n) = ap (option_and_then (λ x. task_of x u.index)) (change_elsewhere vs t.vertex.0 u.vertex.0 f n)

pub took_elsewhere : (vs : List Vertex) (t u : TaskId) (e : TaskEvent) → same_task t u ≡ false → task_at (take_in vs t e) u ≡ task_at vs u
took_elsewhere vs t u e ne = changed_elsewhere vs t u (λ s. after_take s t.index e) (λ x j n. after_elsewhere x t.index j e n) ne

pub took_here : (vs : List Vertex) (t : TaskId) (e : TaskEvent) → task_at (take_in vs t e) t ≡ option_map (λ s. task_after s e) (task_at vs t)
took_here vs t e = by (slice_get vs t.vertex.0) refl where
  f : Vertex → Vertex
  f s = after_take s t.index e

  by : (o : Option Vertex) → slice_get vs t.vertex.0 ≡ o → task_at (take_in vs t e) t ≡ option_map (λ s. task_after s e) (task_at vs t)
  by None h =
      let none : task_at vs t ≡ None = ap (option_and_then (λ y. task_of y t.index)) h in
      ap (λ ws. task_at ws t) (change_none vs t.vertex.0 f h) ∙ none ∙ sym (ap (option_map (λ s. task_after s e)) none)
  by (Some x) h =
      at_vertex (take_in vs t e) t (after_take x t.index e) (change_here vs t.vertex.0 f x h)
      ∙ after_here x t.index e
      ∙ sym (ap (option_map (λ s. task_after s e)) (at_vertex vs t x h))

-- ---- what a task keeps

named_by : (s : TaskState) (l : Live) (a : AttemptId) (ev : AttemptEvent) (state : AttemptState) (b : Bool) → s.live ≡ Some l → same_attempt l.attempt a ≡ b
    → option_and_then (λ x. moved_to x ev) (if b then Some l.machine else None) ≡ Some state → (k : Live) × (s.live ≡ Some k) × (k.attempt ≡ a)
named_by s l a ev state true e q h = (l, e, same_attempt-true l.attempt a q)
named_by s l a ev state false e q h = cc

-- an event that moves the live attempt names it
pub named : (s : TaskState) (a : AttemptId) (ev : AttemptEvent) (state : AttemptState) → moved_live s.live a ev ≡ Some state → (k : Live) × (s.live ≡ Some k) × (k.attempt ≡ a)
named s a ev state h = by s.live refl h where
  by : (o : Option Live) → s.live ≡ o → moved_live o a ev ≡ Some state → (k : Live) × (s.live ≡ Some k) × (k.attempt ≡ a)
  by None e g = cc
  by (Some l) e g = named_by s l a ev state (same_attempt l.attempt a) e refl g

again_keeps : (t : TaskId) (s : TaskState) → s.task ≡ t → IsTask t (queued_again s)
again_keeps t s is = record {
  task_is = is;
  live_is = λ l h. ap (λ (o : Option Live). option_map_or (λ (k : Live). k.attempt.task) o t) (sym h) ∙ is;
  winner_is = λ w h. cc;
  one = λ l h. refl;
  begun = λ l h. omega arith;
}

advanced_keeps : (t : TaskId) (s : TaskState) (a : AttemptId) (ev : AttemptEvent) → IsTask t s → IsTask t (advanced s a (moved_live s.live a ev))
advanced_keeps t s a ev k = by (moved_live s.live a ev) refl where
  by : (o : Option AttemptState) → moved_live s.live a ev ≡ o → IsTask t (advanced s a o)
  by None h = k
  by (Some state) h =
      let n = named s a ev state h in
      record {
        task_is = k.task_is;
        live_is = λ l g. ap (λ (o : Option Live). option_map_or (λ (m : Live). m.attempt.task) o t) (sym g) ∙ ap (λ (b : AttemptId). b.task) (sym n.2) ∙ k.live_is n.0 n.1;
        winner_is = k.winner_is;
        one = λ l g. k.one n.0 n.1;
        begun = λ l g. k.begun n.0 n.1;
      }

succeeded_keeps : (t : TaskId) (s : TaskState) (a : AttemptId) (ev : AttemptEvent) → IsTask t s → IsTask t (succeeded s a (moved_live s.live a ev))
succeeded_keeps t s a ev k = by (moved_live s.live a ev) refl where
  by : (o : Option AttemptState) → moved_live s.live a ev ≡ o → IsTask t (succeeded s a o)
  by None h = k
  by (Some state) h =
      let n = named s a ev state h in
      record {
        task_is = k.task_is;
        live_is = λ l g. cc;
        winner_is = λ w g. ap (λ (b : AttemptId). b.task) (same_Some w a (sym g)) ∙ ap (λ (b : AttemptId). b.task) (sym n.2) ∙ k.live_is n.0 n.1;
        one = λ l g. cc;
        begun = λ l g. cc;
      }

failed_keeps : (t : TaskId) (s : TaskState) (o : Option AttemptState) → IsTask t s → IsTask t (failed s o)
failed_keeps t s None k = k
failed_keeps t s (Some state) k = by (is_last s) where
  by : (b : Bool) → IsTask t (if b then record s { live = None; failures = s.failures + 1; spent = true } else queued_again (record s { failures = s.failures + 1 }))
  by true = record { task_is = k.task_is; live_is = λ l g. cc; winner_is = k.winner_is; one = λ l g. cc; begun = λ l g. cc }
  by false = again_keeps t (record s { failures = s.failures + 1 }) k.task_is

killed_keeps : (t : TaskId) (s : TaskState) (o : Option AttemptState) → IsTask t s → IsTask t (killed s o)
killed_keeps t s None k = k
killed_keeps t s (Some state) k = again_keeps t s k.task_is

event_keeps : (t : TaskId) (s : TaskState) (e : TaskEvent) → IsTask t s → IsTask t (after_event s e)
event_keeps t s Queue k = by (is_some s.live || is_some s.winner) where
  by : (b : Bool) → IsTask t (if b then s else queued_again s)
  by true = k
  by false = again_keeps t s k.task_is
event_keeps t s (Place a) k = advanced_keeps t s a attempt_event.Place k
event_keeps t s (Send a) k = advanced_keeps t s a attempt_event.Send k
event_keeps t s (Succeed a) k = succeeded_keeps t s a attempt_event.Succeed k
event_keeps t s (Fail a) k = failed_keeps t s (moved_live s.live a attempt_event.Fail) k
event_keeps t s (Kill a) k = killed_keeps t s (moved_live s.live a attempt_event.Kill) k
event_keeps t s (Lose a) k = by (is_winner s.winner a) where
  by : (b : Bool) → IsTask t (if b then queued_again s else s)
  by true = again_keeps t s k.task_is
  by false = k

task_keeps : (t : TaskId) (s : TaskState) (e : TaskEvent) → IsTask t s → IsTask t (task_after s e)
task_keeps t s e k = by s.spent where
  by : (b : Bool) → IsTask t (if b then s else after_event s e)
  by true = k
  by false = event_keeps t s e k

-- ---- what vertices keep

vertex_keeps : (n v : ℕ) (x : Vertex) (i : ℕ) (e : TaskEvent) → IsVertex n v x → IsVertex n v (after_take x i e)
vertex_keeps n v x i e k = by (task_of x i) refl where
  at : (s : TaskState) → task_of x i ≡ Some s → (j : ℕ) (r : TaskState) → slice_get (slice_set x.tasks i (task_after s e)) j ≡ Some r → (i ≡ j) ⊎ (i ≡ j → ⊥) → IsTask (task v j) r
  at s h j r g (inl q) =
      let is : task_after s e ≡ r = same_Some (task_after s e) r (sym (ap (slice_get (slice_set x.tasks i (task_after s e))) (sym q) ∙ set_here x.tasks i s (task_after s e) h) ∙ g) in
      subst (λ m. IsTask (task v m) r) q (subst (IsTask (task v i)) is (task_keeps (task v i) s e (k.tasks i s h)))
  at s h j r g (inr ne) = k.tasks j r (sym (set_elsewhere x.tasks i j (task_after s e) ne) ∙ g)

  by : (o : Option TaskState) → task_of x i ≡ o → IsVertex n v (take_by x i e o)
  by None h = k
  by (Some s) h = record {
    number = k.number;
    few = subst (λ m. m ≤ n) (sym (length-set x.tasks i (task_after s e))) k.few;
    unconfigured = λ u. length-set x.tasks i (task_after s e) ∙ k.unconfigured u;
    tasks = λ j r g. at s h j r g (tells i j);
  }

pub vertices_change : (g : Dag) (vs : List Vertex) (v : ℕ) (f : Vertex → Vertex) → ((x : Vertex) → slice_get vs v ≡ Some x → IsVertex (planned g v) v x → IsVertex (planned g v) v (f x)) → AreVertices g vs → AreVertices g (change vs v f)
vertices_change g vs v f keeps k = record {
  sized = change_long vs v f ∙ k.sized;
  each = λ w x h. by w x h (tells v w);
} where
  at : (x : Vertex) → slice_get (change vs v f) v ≡ Some x → (o : Option Vertex) → slice_get vs v ≡ o → IsVertex (planned g v) v x
  at x h None e = k.each v x (sym (ap (λ ws. slice_get ws v) (change_none vs v f e)) ∙ h)
  at x h (Some y) e = subst (IsVertex (planned g v) v) (same_Some (f y) x (sym (change_here vs v f y e) ∙ h)) (keeps y e (k.each v y e))

  by : (w : ℕ) (x : Vertex) → slice_get (change vs v f) w ≡ Some x → (v ≡ w) ⊎ (v ≡ w → ⊥) → IsVertex (planned g w) w x
  by w x h (inl q) = subst (λ u. IsVertex (planned g u) u x) q (at x (ap (slice_get (change vs v f)) q ∙ h) (slice_get vs v) refl)
  by w x h (inr ne) = k.each w x (sym (change_elsewhere vs v w f ne) ∙ h)

pub took_vertices : (g : Dag) (vs : List Vertex) (t : TaskId) (e : TaskEvent) → AreVertices g vs → AreVertices g (take_in vs t e)
took_vertices g vs t e k = vertices_change g vs t.vertex.0 (λ s. after_take s t.index e) (λ x _ m. vertex_keeps (planned g t.vertex.0) t.vertex.0 x t.index e m) k

-- a task that is there stands at its number
pub task_there : (g : Dag) (vs : List Vertex) (t : TaskId) (s : TaskState) → AreVertices g vs → task_at vs t ≡ Some s → IsTask t s
task_there g vs t s k h = by (slice_get vs t.vertex.0) refl where
  by : (o : Option Vertex) → slice_get vs t.vertex.0 ≡ o → IsTask t s
  by None e = let none : task_at vs t ≡ None = ap (option_and_then (λ y. task_of y t.index)) e in cc
  by (Some x) e = (k.each t.vertex.0 x e).tasks t.index s (sym (at_vertex vs t x e) ∙ h)

-- ---- the winner of a task outlives a kill, and its count of attempts rises by one at most

pub kill_winner : (t : TaskId) (s : TaskState) (a : AttemptId) → IsTask t s → (task_after s (Kill a)).winner ≡ s.winner
kill_winner t s a k = by s.spent where
  at : (o : Option AttemptState) → moved_live s.live a attempt_event.Kill ≡ o → (killed s o).winner ≡ s.winner
  at None h = refl
  at (Some state) h = let n = named s a attempt_event.Kill state h in sym (k.one n.0 n.1)

  by : (b : Bool) → (if b then s else after_event s (Kill a)).winner ≡ s.winner
  by true = refl
  by false = at (moved_live s.live a attempt_event.Kill) refl

count_event : (s : TaskState) (e : TaskEvent) → (after_event s e).queued ≤ s.queued + 1
count_event s Queue = by (is_some s.live || is_some s.winner) where
  by : (b : Bool) → (if b then s else queued_again s).queued ≤ s.queued + 1
  by true = omega arith
  by false = omega arith
count_event s (Place a) = by (moved_live s.live a attempt_event.Place) where
  by : (o : Option AttemptState) → (advanced s a o).queued ≤ s.queued + 1
  by None = omega arith
  by (Some x) = omega arith
count_event s (Send a) = by (moved_live s.live a attempt_event.Send) where
  by : (o : Option AttemptState) → (advanced s a o).queued ≤ s.queued + 1
  by None = omega arith
  by (Some x) = omega arith
count_event s (Succeed a) = by (moved_live s.live a attempt_event.Succeed) where
  by : (o : Option AttemptState) → (succeeded s a o).queued ≤ s.queued + 1
  by None = omega arith
  by (Some x) = omega arith
count_event s (Fail a) = by (moved_live s.live a attempt_event.Fail) where
  at : (b : Bool) → (if b then record s { live = None; failures = s.failures + 1; spent = true } else queued_again (record s { failures = s.failures + 1 })).queued ≤ s.queued + 1
  at true = omega arith
  at false = omega arith

  by : (o : Option AttemptState) → (failed s o).queued ≤ s.queued + 1
  by None = omega arith
  by (Some x) = at (is_last s)
count_event s (Kill a) = by (moved_live s.live a attempt_event.Kill) where
  by : (o : Option AttemptState) → (killed s o).queued ≤ s.queued + 1
  by None = omega arith
  by (Some x) = omega arith
count_event s (Lose a) = by (is_winner s.winner a) where
  by : (b : Bool) → (if b then queued_again s else s).queued ≤ s.queued + 1
  by true = omega arith
  by false = omega arith

pub count_after : (s : TaskState) (e : TaskEvent) → (task_after s e).queued ≤ s.queued + 1
count_after s e = by s.spent where
  by : (b : Bool) → (if b then s else after_event s e).queued ≤ s.queued + 1
  by true = omega arith
  by false = count_event s e
