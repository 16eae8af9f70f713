-- The queue has the tasks of the queued attempts, and its first is that of the shallowest of them.
use Rattle.std.specs.Prelude.{◌≡◌, ℕ, zero, suc, ◌<◌, ◌≤◌, nat_lt, ◌==◌, Bool, true, false, if◌then◌else◌, List, [], ◌∷◌, ◌++◌, length, map, slice_get, Option, Some, None, is_some, refl, option_and_then}
use Rattle.std.specs.List.{filter, flat_map}
use Rattle.std.specs.Option.{option_map, option_map_or}
use Rattle.std.proofs.Common.{ap, sym, ◌∙◌, subst, arith, inl, inr, zero-add, eqb-true}
use Rattle.std.proofs.lemmas.Bool.Decides.{nat_tests}
use Rattle.std.proofs.lemmas.Option.{slice_get_past, slice_get_within, get_or_from_slice_get, same_Some}
use Rattle.tez_ids.specs.declared.TaskId.{TaskId}
use Rattle.tez_ids.specs.declared.AttemptId.{AttemptId}
use Rattle.tez_ids.specs.Same.{task}
use Rattle.tez_lists.specs.Numbers.{numbers_from, In}
use Rattle.tez_lists.proofs.Flat.{in-filter-out}
use Rattle.tez_lists.proofs.Members.{in_filter, in_flat_map}
use Rattle.tez_lists.proofs.Tables.{get_each, row_of as table_row}
use Rattle.tez_plan.specs.Dag.{Dag, tasks_of as planned}
use Rattle.tez_plan.specs.Order.{depth}
use Rattle.tez_plan.specs.Faults.{IsValid}
use Rattle.tez_task.specs.declared.Live.{Live}
use Rattle.tez_task.specs.TaskState.{TaskState}
use Rattle.tez_task.specs.Table.{state_of}
use Rattle.tez_vertex.specs.Vertex.{Vertex}
use Rattle.tez_vertex.specs.Table.{task_of}
use Rattle.tez_history.specs.Shape.{vertices}
use Rattle.tez_history.specs.Steps.{of_depth, by_depth}
use Rattle.tez_queue.specs.Queue.{Queue, row_of, flag, queued_of as queued_row, queued_tasks, first, IsQueueOf}
use Rattle.tez_queue.proofs.ListLemmas.{map-flat}
use Rattle.tez_queue.proofs.Shallowest.{shallowest}
use Rattle.tez_queue.proofs.DepthLemmas.{shallow}
use Rattle.tez_master_model.proofs.Pairs.{in-flat-out, in-filter-passes, in_numbers, in-numbers-out, any_in, any_none}
use Rattle.tez_master_model.specs.State.{MasterState}
use Rattle.tez_master_model.specs.Read.{is_in_queue, queued_of, queued_in, depth_in, is_shallower_queued}
use Rattle.tez_master_model.specs.Choice.{first_queued}
use Rattle.tez_core.specs.Choosing.{queued_one, queued_at}
use Rattle.tez_lead.specs.Kept.{IsTask, AreVertices, is_waiting, queue_of}
use Rattle.tez_lead.proofs.Lists.{long_map, by_number, cut_off, picked, filter_below, in_first, in_at, empty_first}
use Rattle.tez_lead.proofs.Tasks.{at_vertex}

-- ---- the first in order of depth

deep_from : (g : Dag) (xs : List AttemptId) (k n : ℕ) (b : AttemptId) → In b (flat_map (of_depth g xs) (numbers_from k n)) → k ≤ depth g b.task.vertex.0
deep_from g xs k n b m =
    let r = in-flat-out (of_depth g xs) b (numbers_from k n) m in
    let deep : depth g b.task.vertex.0 ≡ r.0 = eqb-true (depth g b.task.vertex.0) r.0 (in-filter-passes (λ a. depth g a.task.vertex.0 == r.0) b xs r.2) in
    let low = (in-numbers-out k n r.0 r.1).0 in
    omega (arith, deep, low)

first_least : (g : Dag) (xs : List AttemptId) (k n : ℕ) (a b : AttemptId) → slice_get (flat_map (of_depth g xs) (numbers_from k n)) 0 ≡ Some a
    → In b (flat_map (of_depth g xs) (numbers_from k n)) → depth g a.task.vertex.0 ≤ depth g b.task.vertex.0
first_least g xs k zero a b h m = absurd m
first_least g xs k (suc n) a b h m = by (λ e i. first_least g xs (suc k) n a b e i) (of_depth g xs k) refl h m where
  low : k ≤ depth g b.task.vertex.0
  low = deep_from g xs k (suc n) b m

  by : (slice_get (flat_map (of_depth g xs) (numbers_from (suc k) n)) 0 ≡ Some a → In b (flat_map (of_depth g xs) (numbers_from (suc k) n)) → depth g a.task.vertex.0 ≤ depth g b.task.vertex.0)
      → (os : List AttemptId) → of_depth g xs k ≡ os → slice_get (os ++ flat_map (of_depth g xs) (numbers_from (suc k) n)) 0 ≡ Some a → In b (os ++ flat_map (of_depth g xs) (numbers_from (suc k) n)) → depth g a.task.vertex.0 ≤ depth g b.task.vertex.0
  by ih [] e f i = ih f i
  by ih (y ∷ ys) e f i =
      let same : y ≡ a = same_Some y a f in
      let there : In y (of_depth g xs k) = subst (In y) (sym e) (inl refl) in
      let deep : depth g y.task.vertex.0 ≡ k = eqb-true (depth g y.task.vertex.0) k (in-filter-passes (λ a. depth g a.task.vertex.0 == k) y xs there) in
      let here : depth g y.task.vertex.0 ≡ depth g a.task.vertex.0 = ap (λ (c : AttemptId). depth g c.task.vertex.0) same in
      omega (arith, low, deep, here)

least_of : (g : Dag) (xs : List AttemptId) (a b : AttemptId) → slice_get (by_depth g xs) 0 ≡ Some a → In b (by_depth g xs) → depth g a.task.vertex.0 ≤ depth g b.task.vertex.0
least_of g xs a b h m = first_least g xs 0 (length g.vertices) a b h m

not_below : (a b d : ℕ) → a ≤ b → nat_lt a d ≡ false → nat_lt b d ≡ false
not_below a b d l h = grind (arith, nat_tests)

same_number : (a : ℕ) → (a == a) ≡ true
same_number a = grind (arith, nat_tests)

in_depth : (g : Dag) (a : AttemptId) (xs : List AttemptId) → In a xs → depth g a.task.vertex.0 < length g.vertices → In a (by_depth g xs)
in_depth g a xs m h =
    in_flat_map (of_depth g xs) (depth g a.task.vertex.0) a (vertices g) (in_numbers 0 (length g.vertices) (depth g a.task.vertex.0) (omega arith) (omega arith))
    (in_filter (λ b. depth g b.task.vertex.0 == depth g a.task.vertex.0) a xs m (same_number (depth g a.task.vertex.0)))

-- ---- one task

-- those of a live attempt that pass a test
abbrev live_if : (AttemptId → Bool) → Option Live → List AttemptId
live_if p o = filter p (option_map_or (λ a. a ∷ []) (option_map (λ (l : Live). l.attempt) o) [])

one_task : (t : TaskId) (s : TaskState) → IsTask t s → (if is_some (queued_one s) then t ∷ [] else []) ≡ map (λ (a : AttemptId). a.task) (queued_of s)
one_task t s k = by s.live refl where
  test : AttemptId → Bool
  test a = is_in_queue (state_of s.live a)

  at : (l : Live) → s.live ≡ Some l → (b : Bool) → (if is_some (slice_get (if b then l.attempt ∷ [] else []) 0) then t ∷ [] else []) ≡ map (λ (a : AttemptId). a.task) (if b then l.attempt ∷ [] else [])
  at l e true = ap (λ u. u ∷ []) (sym (k.live_is l e))
  at l e false = refl

  by : (o : Option Live) → s.live ≡ o → (if is_some (slice_get (live_if test o) 0) then t ∷ [] else []) ≡ map (λ (a : AttemptId). a.task) (live_if test o)
  by None e = refl
  by (Some l) e = at l e (test l.attempt)

-- the queued attempt of a task is the only one
in_one : (t : TaskId) (s : TaskState) (a : AttemptId) → IsTask t s → In a (queued_of s) → (queued_one s ≡ Some a) × (a.task ≡ t)
in_one t s a k h = by s.live refl h where
  test : AttemptId → Bool
  test b = is_in_queue (state_of s.live b)

  at : (l : Live) → s.live ≡ Some l → (b : Bool) → In a (if b then l.attempt ∷ [] else []) → (slice_get (if b then l.attempt ∷ [] else []) 0 ≡ Some a) × (a.task ≡ t)
  at l e true (inl i) = (ap Some (sym i), ap (λ (b : AttemptId). b.task) i ∙ k.live_is l e)
  at l e true (inr i) = absurd i
  at l e false i = absurd i

  by : (o : Option Live) → s.live ≡ o → In a (live_if test o) → (slice_get (live_if test o) 0 ≡ Some a) × (a.task ≡ t)
  by None e i = absurd i
  by (Some l) e i = at l e (test l.attempt) i

module _ (m : MasterState) (k : AreVertices m.plan m.vertices) where
  vs : List Vertex
  vs = m.vertices

  rows : List (List Bool)
  rows = (queue_of m.plan m.vertices).queued

  -- ---- one vertex

  there : (v : ℕ) (x : Vertex) → slice_get m.vertices v ≡ Some x → v < length m.plan.vertices
  there v x e = subst (λ n. v < n) k.sized (slice_get_within m.vertices v x e)

  row_read : (v : ℕ) → v < length m.plan.vertices → queued_row (queue_of m.plan m.vertices).queued v ≡ map (task v) (filter (is_waiting m.vertices v) (numbers_from 0 (planned m.plan v)))
  row_read v l =
      let n = planned m.plan v in
      let row = map (is_waiting m.vertices v) (numbers_from 0 n) in
      let is : row_of (queue_of m.plan m.vertices).queued v ≡ map (is_waiting m.vertices v) (numbers_from 0 (planned m.plan v)) =
      get_or_from_slice_get (queue_of m.plan m.vertices).queued v (map (is_waiting m.vertices v) (numbers_from 0 (planned m.plan v))) [] (table_row (is_waiting m.vertices) (planned m.plan) (length m.plan.vertices) v l) in
      ap (λ (r : List Bool). map (task v) (filter (flag r) (numbers_from 0 (length r)))) is
      ∙ ap (λ c. map (task v) (filter (flag row) (numbers_from 0 c))) (long_map (is_waiting m.vertices v) 0 n)
      ∙ ap (map (task v)) (filter_below (flag row) (is_waiting m.vertices v) 0 n
      (λ i _ h. get_or_from_slice_get row i (is_waiting m.vertices v i) false (get_each (is_waiting m.vertices v) 0 n i (subst (λ c. i < c) (zero-add n) h) ∙ ap (λ j. Some (is_waiting m.vertices v j)) (zero-add i))))

  waiting_read : (v i : ℕ) (x : Vertex) → slice_get m.vertices v ≡ Some x → queued_at m.vertices (task v i) ≡ option_and_then queued_one (task_of x i)
  waiting_read v i x e = ap (option_and_then queued_one) (at_vertex m.vertices (task v i) x e)

  vertex_read : (v : ℕ) (x : Vertex) → slice_get m.vertices v ≡ Some x
      → map (task v) (filter (is_waiting m.vertices v) (numbers_from 0 (planned m.plan v))) ≡ map (λ (a : AttemptId). a.task) (flat_map queued_of x.tasks)
  vertex_read v x e =
      let h = λ (i : ℕ). if is_waiting m.vertices v i then task v i ∷ [] else [] in
      let n = planned m.plan v in
      let here = k.each v x e in
      sym (picked (task v) (is_waiting m.vertices v) (numbers_from 0 n))
      ∙ cut_off h 0 (length x.tasks) n here.few
      (λ i g. ap (λ o. if is_some o then task v i ∷ [] else []) (waiting_read v i x e ∙ ap (option_and_then queued_one) (slice_get_past x.tasks i (subst (λ c. c ≤ i) (zero-add (length x.tasks)) g))))
      ∙ by_number (λ s. map (λ (a : AttemptId). a.task) (queued_of s)) h x.tasks 0
      (λ i s g. ap h (zero-add i) ∙ ap (λ o. if is_some o then task v i ∷ [] else []) (waiting_read v i x e ∙ ap (option_and_then queued_one) g) ∙ one_task (task v i) s (here.tasks i s g))
      ∙ sym (map-flat (λ (a : AttemptId). a.task) queued_of x.tasks)

  -- ---- the queue

  long_rows : length (queue_of m.plan m.vertices).queued ≡ length m.plan.vertices
  long_rows = long_map (λ v. map (is_waiting m.vertices v) (numbers_from 0 (planned m.plan v))) 0 (length m.plan.vertices)

  tasks_read : map (λ (a : AttemptId). a.task) (queued_in m) ≡ queued_tasks (queue_of m.plan m.vertices)
  tasks_read =
      map-flat (λ (a : AttemptId). a.task) (λ (x : Vertex). flat_map queued_of x.tasks) m.vertices
      ∙ sym (by_number (λ (x : Vertex). map (λ (a : AttemptId). a.task) (flat_map queued_of x.tasks)) (queued_row (queue_of m.plan m.vertices).queued) m.vertices 0
      (λ v x e. ap (queued_row (queue_of m.plan m.vertices).queued) (zero-add v) ∙ row_read v (there v x e) ∙ vertex_read v x e))
      ∙ ap (λ n. flat_map (queued_row (queue_of m.plan m.vertices).queued) (numbers_from 0 n)) (k.sized ∙ sym long_rows)

  pub queue_is : IsQueueOf m.plan (queue_of m.plan m.vertices) (queued_in m)
  queue_is = record { depths_are = refl; rows_are = long_rows; attempts_are = tasks_read }

  -- ---- who is queued

  pub queued_read : (a : AttemptId) → In a (queued_in m) → (queued_at m.vertices a.task ≡ Some a) × (a.task.vertex.0 < length m.plan.vertices)
  queued_read a i =
      let x = in-flat-out (λ (x : Vertex). flat_map queued_of x.tasks) a m.vertices i in
      let s = in-flat-out queued_of a x.0.tasks x.2 in
      let v = in_at x.0 m.vertices x.1 in
      let j = in_at s.0 x.0.tasks s.1 in
      let one = in_one (task v.0 j.0) s.0 a ((k.each v.0 x.0 v.1).tasks j.0 s.0 j.1) s.2 in (
        ap (queued_at m.vertices) one.1 ∙ waiting_read v.0 j.0 x.0 v.1 ∙ ap (option_and_then queued_one) j.1 ∙ one.0,
        subst (λ (t : TaskId). t.vertex.0 < length m.plan.vertices) (sym one.1) (there v.0 x.0 v.1),
      )

  in_queued : (a : AttemptId) → In a (by_depth m.plan (queued_in m)) → In a (queued_in m)
  in_queued a i =
      let d = in-flat-out (of_depth m.plan (queued_in m)) a (vertices m.plan) i in
      in-filter-out (λ b. depth m.plan b.task.vertex.0 == d.0) a (queued_in m) d.2

  pub first_read : (q : Queue) → q ≡ queue_of m.plan m.vertices → option_and_then (queued_at m.vertices) (first q) ≡ first_queued m
  first_read q e = ap (λ p. option_and_then (queued_at m.vertices) (first p)) e ∙ ap (option_and_then (queued_at m.vertices)) (sym (shallowest m.plan (queue_of m.plan m.vertices) (queued_in m) queue_is)) ∙ by (first_queued m) refl where
    by : (o : Option AttemptId) → first_queued m ≡ o → option_and_then (queued_at m.vertices) (option_map (λ (a : AttemptId). a.task) o) ≡ o
    by None h = refl
    by (Some a) h = (queued_read a (in_queued a (in_first a (by_depth m.plan (queued_in m)) h))).0

  -- ---- the first is the shallowest

  pub shallower_read : IsValid m.plan → (d : ℕ) → is_shallower_queued m d ≡ option_map_or (λ a. nat_lt (depth_in m a) d) (first_queued m) false
  shallower_read valid d = by (first_queued m) refl where
    in_order : (b : AttemptId) → In b (queued_in m) → In b (by_depth m.plan (queued_in m))
    in_order b i = in_depth m.plan b (queued_in m) i (shallow m.plan valid b.task.vertex.0 (queued_read b i).1)

    at : (a : AttemptId) → first_queued m ≡ Some a → (b : Bool) → nat_lt (depth_in m a) d ≡ b → is_shallower_queued m d ≡ b
    at a h true t = any_in (λ b. nat_lt (depth_in m b) d) a (queued_in m) (in_queued a (in_first a (by_depth m.plan (queued_in m)) h)) t
    at a h false t = any_none (λ b. nat_lt (depth_in m b) d) (queued_in m) (λ b i. let l = least_of m.plan (queued_in m) a b h (in_order b i) in not_below (depth_in m a) (depth_in m b) d l t)

    by : (o : Option AttemptId) → first_queued m ≡ o → is_shallower_queued m d ≡ option_map_or (λ a. nat_lt (depth_in m a) d) o false
    by None h = any_none (λ b. nat_lt (depth_in m b) d) (queued_in m) (λ b i. absurd (subst (In b) (empty_first (by_depth m.plan (queued_in m)) h) (in_order b i)))
    by (Some a) h = at a h (nat_lt (depth_in m a) d) refl
