-- What a vertex whose sources are done finds: its configuration, a task to queue, and a winner behind each input.
--     ready              its manager configures it, and all its tasks are to be scheduled
--     queue_ready        where a task was not scheduled, one may be queued
--     input_ready        each input of its live attempts has a winner
use Rattle.std.specs.Prelude.{◌≡◌, ◌⊎◌, ℕ, ◌+◌, ◌<◌, ◌≤◌, nat_lt, max, not, true, false, if◌then◌else◌, List, [], ◌∷◌, ◌++◌, map, length, Option, Some, None, is_some, unwrap_or, refl}
use Rattle.std.specs.List.{flat_map, list_all}
use Rattle.std.proofs.Common.{inl, inr, ap, sym, ◌∙◌, arith, subst}
use Rattle.std.proofs.lemmas.Bool.{eqb-true}
use Rattle.std.proofs.lemmas.Bool.Decides.{nat_tests}
use Rattle.tez_ids.specs.declared.TaskId.{TaskId}
use Rattle.tez_ids.specs.declared.AttemptId.{AttemptId}
use Rattle.tez_ids.specs.Same.{task}
use Rattle.tez_lists.specs.Numbers.{In}
use Rattle.tez_lists.proofs.Members.{in_map, in_flat_map}
use Rattle.tez_plan.specs.Dag.{Dag, from, is_broadcast, tasks_of as planned}
use Rattle.tez_plan.specs.Faults.{IsValid}
use Rattle.tez_conf.specs.declared.values.ConfValues.{ConfValues}
use Rattle.tez_conf.specs.Ranges.{IsInRange}
use Rattle.tez_vman.specs.declared.seen.Config.{Config}
use Rattle.tez_vman.specs.Rules.{config as shape}
use Rattle.tez_history.specs.Shape.{Edge, vertices, numbers_below, edges_to, Feed, ByFile, ByVertex, ByPartitions, feed}
use Rattle.tez_history.specs.History.{Past, config, winner, is_scheduled}
use Rattle.tez_history.specs.Derived.{Input, inputs, input_count, source_of_input, input_winner, tasks, tasks_if, task_count, is_configured, is_vertex_done, winners_of, to_schedule, greatest_to_schedule, scheduled_count, starts_epoch}
use Rattle.tez_history.specs.Steps.{is_first_without, is_next_task, may_queue, may_queue_by}
use Rattle.tez_laws.specs.Laws.{SourcesDone, IsReady}
use Rattle.tez_laws.proofs.StepLaw.{both}
use Rattle.tez_laws.proofs.Feeding.{sources_done, inputs_inside}
use Rattle.tez_progress.specs.Laws.{IsFed, IsFitted, AllSourcesDone}
use Rattle.tez_progress.proofs.Members.{clash, true_and, filter_in, in_numbers, numbers_in, first_or, first_fails, count-lt, found_each, all_at}
use Rattle.tez_progress.proofs.Plans.{fed}
use Rattle.tez_progress.proofs.Configured.{sees_sources}

pub ready : (g : Dag) (c : ConfValues) (v : ℕ) (past : Past) → IsValid g → IsInRange c → IsFitted g past → v < length g.vertices → SourcesDone g v past → IsReady g c v past
ready g c v past valid range fits h done = sources_done g c v past range.sources range.thousandths (sees_sources g c v past valid fits h) done

pub primary_done : (g : Dag) (v : ℕ) (past : Past) → AllSourcesDone g v past → SourcesDone g v past
primary_done g v past done e h = done e (filter_in (λ e. not (is_broadcast e.1)) e (edges_to g v) h).0

-- ---- tasks

pub in_vertices : (g : Dag) (v : ℕ) → v < length g.vertices → In v (vertices g)
in_vertices g v h = in_numbers 0 (length g.vertices) v (omega arith) (omega arith)

pub vertices_in : (g : Dag) (v : ℕ) → In v (vertices g) → v < length g.vertices
vertices_in g v h = let k : v < 0 + length g.vertices = numbers_in 0 (length g.vertices) v h in omega arith

pub in_tasks : (g : Dag) (past : Past) (v i : ℕ) → v < length g.vertices → is_configured v past ≡ true → i < task_count g v past → In (task v i) (tasks g past)
in_tasks g past v i h conf inside = in_flat_map (λ v. tasks_if (config v past) v) v (task v i) (vertices g) (in_vertices g v h) (by (config v past) conf inside) where
  by : (o : Option Config) → is_some o ≡ true → i < (unwrap_or o (shape (planned g v) 1)).tasks → In (task v i) (tasks_if o v)
  by (Some s) k l = in_map (task v) i (numbers_below s.tasks) (in_numbers 0 s.tasks i (omega arith) (omega arith))
  by None k l = cc

pub lt_true : (a b : ℕ) → a < b → nat_lt a b ≡ true
lt_true a b h = grind (arith, nat_tests)

pub lt_from : (a b : ℕ) → nat_lt a b ≡ true → a < b
lt_from a b h = grind (arith, nat_tests)

-- ---- a task to queue

greatest_now : (g : Dag) (c : ConfValues) (v : ℕ) (past : Past) → to_schedule g c v past ≤ greatest_to_schedule g c v past
greatest_now g c v [] = omega arith
greatest_now g c v (e ∷ past) = most (to_schedule g c v (e ∷ past)) (if starts_epoch e then 0 else greatest_to_schedule g c v past) where
  most : (a b : ℕ) → a ≤ max a b
  most a b = omega arith

-- the next task that a manager schedules
next_ready : (g : Dag) (c : ConfValues) (v i : ℕ) (past : Past) → to_schedule g c v past ≡ task_count g v past → i < task_count g v past → is_scheduled (task v i) past ≡ false
    → (k : ℕ) × (k < task_count g v past) × (is_scheduled (task v k) past ≡ false) × (is_next_task g c past (task v k) ≡ true)
next_ready g c v i past full inside none = by (first_or (λ i. is_scheduled (task v i) past) (numbers_below (task_count g v past))) where
  fewer : scheduled_count g v past < greatest_to_schedule g c v past
  fewer =
      let few : scheduled_count g v past < task_count g v past = count-lt (λ i. is_scheduled (task v i) past) 0 (task_count g v past) i (omega arith) (omega arith) none in
      let most = greatest_now g c v past in
      omega (arith, full)

  by : (list_all (λ i. is_scheduled (task v i) past) (numbers_below (task_count g v past)) ≡ true)
      ⊎ ((k : ℕ) × In k (numbers_below (task_count g v past)) × (is_first_without (λ i. is_scheduled (task v i) past) (numbers_below (task_count g v past)) k ≡ true))
      → (k : ℕ) × (k < task_count g v past) × (is_scheduled (task v k) past ≡ false) × (is_next_task g c past (task v k) ≡ true)
  by (inl all) = clash (all_at (λ i. is_scheduled (task v i) past) i (numbers_below (task_count g v past)) all (in_numbers 0 (task_count g v past) i (omega arith) (omega arith))) none
  by (inr r) =
      let below : r.0 < 0 + task_count g v past = numbers_in 0 (task_count g v past) r.0 r.1 in
      (r.0, omega arith, first_fails (λ i. is_scheduled (task v i) past) (numbers_below (task_count g v past)) r.0 r.2, true_and r.2 (lt_true _ _ fewer))

won_all : (g : Dag) (u i : ℕ) (past : Past) → is_vertex_done g u past ≡ true → i < task_count g u past → is_some (winner (task u i) past) ≡ true
won_all g u i past done inside =
    let k = both {x = is_configured u past} done in
    found_each (λ i. winner (task u i) past) 0 (task_count g u past) i (eqb-true (length (winners_of u (task_count g u past) past)) (task_count g u past) k.1) (omega arith) (omega arith)

is_queueable : (g : Dag) (c : ConfValues) (v k : ℕ) (past : Past) → is_configured v past ≡ true → k < task_count g v past → is_scheduled (task v k) past ≡ false
    → may_queue_by g c (feed g v) past (task v k) ≡ true → may_queue g c past (task v k) ≡ true
is_queueable g c v k past conf inside none may = true_and (true_and conf (lt_true k (task_count g v past) inside)) (true_and (ap not none) may)

-- a task that may be queued
Queueable : Dag → ConfValues → Past → Type 0
Queueable g c past = (t : TaskId) × In t (tasks g past) × (may_queue g c past t ≡ true)

queueable : (g : Dag) (c : ConfValues) (v k : ℕ) (past : Past) → v < length g.vertices → is_configured v past ≡ true → k < task_count g v past → is_scheduled (task v k) past ≡ false
    → may_queue_by g c (feed g v) past (task v k) ≡ true → Queueable g c past
unfolding Queueable
queueable g c v k past h conf inside none may = (task v k, in_tasks g past v k h conf inside, is_queueable g c v k past conf inside none may)

-- the feeder has as many tasks
feeder_count : (g : Dag) (past : Past) (v u : ℕ) → IsFitted g past → feed g v ≡ ByVertex u → is_configured v past ≡ true → task_count g u past ≡ task_count g v past
feeder_count g past v u fits f conf = by (config v past) refl conf where
  by : (o : Option Config) → config v past ≡ o → is_some o ≡ true → task_count g u past ≡ (unwrap_or o (shape (planned g v) 1)).tasks
  by (Some s) e k = let d = fits.step v u s f e in ap (λ o. (unwrap_or o (shape (planned g u) 1)).tasks) d.1 ∙ d.2
  by None e k = cc

queue_by : (g : Dag) (c : ConfValues) (v i : ℕ) (past : Past) → v < length g.vertices → IsFitted g past → SourcesDone g v past → to_schedule g c v past ≡ task_count g v past
    → is_configured v past ≡ true → i < task_count g v past → is_scheduled (task v i) past ≡ false → (f : Feed) → feed g v ≡ f → IsFed g v f → Queueable g c past
queue_by g c v i past h fits done full conf inside none ByFile e how =
    let k = next_ready g c v i past full inside none in
    queueable g c v k.0 past h conf k.1 k.2 (subst (λ f. may_queue_by g c f past (task v k.0) ≡ true) (sym e) k.3)
queue_by g c v i past h fits done full conf inside none (ByVertex u) e how =
    let fed_done = subst (λ x. is_vertex_done g x past ≡ true) how.2 (done how.0 (subst (λ xs. In how.0 xs) (sym how.1) (inl refl))) in
    let won = won_all g u i past fed_done (omega (arith, inside, feeder_count g past v u fits e conf)) in
    queueable g c v i past h conf inside none (subst (λ f. may_queue_by g c f past (task v i) ≡ true) (sym e) won)
queue_by g c v i past h fits done full conf inside none ByPartitions e how =
    let k = next_ready g c v i past full inside none in
    queueable g c v k.0 past h conf k.1 k.2 (subst (λ f. may_queue_by g c f past (task v k.0) ≡ true) (sym e) k.3)

pub queue_ready : (g : Dag) (c : ConfValues) (v i : ℕ) (past : Past) → IsValid g → v < length g.vertices → IsFitted g past → SourcesDone g v past → to_schedule g c v past ≡ task_count g v past
    → is_configured v past ≡ true → i < task_count g v past → is_scheduled (task v i) past ≡ false → (t : TaskId) × In t (tasks g past) × (may_queue g c past t ≡ true)
unfolding Queueable
queue_ready g c v i past valid h fits done full conf inside none = queue_by g c v i past h fits done full conf inside none (feed g v) refl (fed g v valid h)

-- ---- inputs

from-append : {X : Type 0} (x : X) (xs ys : List X) → In x (xs ++ ys) → In x xs ⊎ In x ys
from-append x [] ys h = inr h
from-append x (y ∷ xs) ys (inl e) = inl (inl e)
from-append x (y ∷ xs) ys (inr h) = by (from-append x xs ys h) where
  by : In x xs ⊎ In x ys → In x (y ∷ xs) ⊎ In x ys
  by (inl k) = inl (inr k)
  by (inr k) = inr k

from-flat : {X Y : Type 0} (f : X → List Y) (y : Y) (xs : List X) → In y (flat_map f xs) → (x : X) × In x xs × In y (f x)
from-flat f y [] h = absurd h
from-flat {X} {Y} f y (x ∷ xs) h = by (λ m. from-flat f y xs m) (from-append y (f x) (flat_map f xs) h) where
  by : (In y (flat_map f xs) → (z : X) × In z xs × In y (f z)) → In y (f x) ⊎ In y (flat_map f xs) → (z : X) × In z (x ∷ xs) × In y (f z)
  by ih (inl k) = (x, inl refl, k)
  by ih (inr k) = let r = ih k in (r.0, inr r.1, r.2)

from-map : {X Y : Type 0} (f : X → Y) (y : Y) (xs : List X) → In y (map f xs) → (x : X) × In x xs × (y ≡ f x)
from-map f y [] h = absurd h
from-map f y (x ∷ xs) (inl e) = (x, inl refl, e)
from-map f y (x ∷ xs) (inr h) = let r = from-map f y xs h in (r.0, inr r.1, r.2)

-- the edge of an input
input_edge : (g : Dag) (past : Past) (a : AttemptId) (k : Input) → In k (inputs g past a) → (e : Edge) × In e (edges_to g a.task.vertex.0) × (k.1 ≡ e.1)
input_edge g past a k h =
    let r = from-flat (λ e. map (λ i. (e.0, e.1, i)) (numbers_below (input_count g past e.1 a.task.index))) k (edges_to g a.task.vertex.0) h in
    let q = from-map (λ i. (r.0.0, r.0.1, i)) k (numbers_below (input_count g past r.0.1 a.task.index)) r.2 in
    (r.0, r.1, ap (λ x. x.1) q.2)

pub input_ready : (g : Dag) (past : Past) (a : AttemptId) (k : Input) → AllSourcesDone g a.task.vertex.0 past → In k (inputs g past a) → is_some (input_winner g past a k) ≡ true
input_ready g past a k done h =
    let e = input_edge g past a k h in
    let source_done = subst (λ x. is_vertex_done g (from g x) past ≡ true) (sym e.2) (done e.0 e.1) in
    won_all g (from g k.1) (source_of_input g past a k).index past source_done (inputs_inside g past a k h)
