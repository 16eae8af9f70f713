-- The queued attempts that a master finds, and the first of them by depth.
use Rattle.std.specs.Prelude.{◌≡◌, ℕ, zero, suc, ◌<◌, ◌≤◌, ◌==◌, Bool, true, false, if◌then◌else◌, List, [], ◌∷◌, ◌++◌, map, length, Option, Some, None, refl}
use Rattle.std.specs.List.{filter, filter_map, flat_map, cons_option}
use Rattle.std.specs.Option.{option_map_or}
use Rattle.std.proofs.Common.{ap, sym, ◌∙◌, subst, inl, arith, eqb-true}
use Rattle.tez_ids.specs.declared.TaskId.{TaskId}
use Rattle.tez_ids.specs.declared.AttemptId.{AttemptId}
use Rattle.tez_ids.specs.Same.{task}
use Rattle.tez_lists.specs.Numbers.{numbers_from, In}
use Rattle.tez_lists.proofs.Flat.{flat_same, flat_map-map, flat-append, in-filter-out}
use Rattle.tez_plan.specs.Dag.{Dag}
use Rattle.tez_plan.specs.Order.{depth}
use Rattle.tez_plan.specs.Faults.{IsValid}
use Rattle.tez_conf.specs.declared.values.ConfValues.{ConfValues}
use Rattle.tez_vman.specs.declared.seen.Config.{Config}
use Rattle.tez_task.specs.Table.{state_of}
use Rattle.tez_history.specs.Shape.{numbers_below, vertices}
use Rattle.tez_history.specs.History.{Past, Stage, Unknown, InQueue, Waits, Runs, Ended, stage, live, config}
use Rattle.tez_history.specs.Derived.{is_queued, tasks, tasks_if, live_attempts, queued_attempts}
use Rattle.tez_history.specs.Steps.{of_depth, by_depth}
use Rattle.tez_history.specs.Follows.{IsMade, IsAlive}
use Rattle.tez_laws.proofs.Tasks.{live_task}
use Rattle.tez_pool.specs.Victim.{depth_of}
use Rattle.tez_pool_view.specs.View.{IsLeastQueued}
use Rattle.tez_master_model.proofs.Pairs.{in-flat-out, in-filter-passes, in-numbers-out}
use Rattle.tez_progress.proofs.Plans.{ranks}
use Rattle.tez_progress.proofs.Stalled.{in_depth}
use Rattle.tez_vertex_view.specs.View.{come, task_view, tasks_in, vertex_view}
use Rattle.tez_vertex_view.proofs.Answering.{read_live}
use Rattle.tez_vertex_view.proofs.Telling.{read_state, read_there, alive_there}
use Rattle.tez_master_model.specs.Read.{is_in_queue, queued_of, queued_in}
use Rattle.tez_master_view.specs.View.{master_view}

-- ---- the queued attempts of the tasks

abbrev one_of : {X : Type 0} → Option X → List X
one_of o = option_map_or (λ x. x ∷ []) o []

flat_flat : {X Y Z : Type 0} (f : Y → List Z) (h : X → List Y) (xs : List X) → flat_map f (flat_map h xs) ≡ flat_map (λ x. flat_map f (h x)) xs
flat_flat f h [] = refl
flat_flat f h (x ∷ xs) = flat-append f (h x) (flat_map h xs) ∙ ap (λ r. flat_map f (h x) ++ r) (flat_flat f h xs)

passing_each : {X Y : Type 0} (q : Y → Bool) (f : X → Option Y) (xs : List X) → flat_map (λ x. filter q (one_of (f x))) xs ≡ filter q (filter_map f xs)
passing_each q f [] = refl
passing_each {X} {Y} q f (x ∷ xs) = by (passing_each q f xs) (f x) where
  one : flat_map (λ x. filter q (one_of (f x))) xs ≡ filter q (filter_map f xs) → (y : Y) (b : Bool)
      → (if b then y ∷ [] else []) ++ flat_map (λ x. filter q (one_of (f x))) xs ≡ (if b then y ∷ filter q (filter_map f xs) else filter q (filter_map f xs))
  one ih y true = ap (λ r. y ∷ r) ih
  one ih y false = ih

  by : flat_map (λ x. filter q (one_of (f x))) xs ≡ filter q (filter_map f xs) → (o : Option Y)
      → filter q (one_of o) ++ flat_map (λ x. filter q (one_of (f x))) xs ≡ filter q (cons_option o (filter_map f xs))
  by ih None = ih
  by ih (Some y) = one ih y (q y)

come_queued : (s : Stage) → is_in_queue (come s) ≡ is_queued s
come_queued InQueue = refl
come_queued (Waits p) = refl
come_queued (Runs p) = refl
come_queued Unknown = refl
come_queued Ended = refl

abbrev queued_at : Past → TaskId → List AttemptId
queued_at past t = filter (λ a. is_queued (stage a past)) (one_of (live t past))

queued_task : (g : Dag) (c : ConfValues) (past : Past) → IsMade g c past → (t : TaskId) → queued_of (task_view c t past) ≡ queued_at past t
queued_task g c past m t =
    ap (λ o. filter (λ a. is_in_queue (state_of (task_view c t past).live a)) (one_of o)) (read_live c past t) ∙ by (live t past) refl
  where
    state_is : (a : AttemptId) → live t past ≡ Some a → is_in_queue (state_of (task_view c t past).live a) ≡ is_queued (stage a past)
    state_is a e =
        subst (λ s. is_in_queue (state_of (task_view c s past).live a) ≡ is_queued (stage a past)) (live_task past t a e)
        (ap is_in_queue (read_state g c past a m) ∙ come_queued (stage a past))

    by : (o : Option AttemptId) → live t past ≡ o → filter (λ a. is_in_queue (state_of (task_view c t past).live a)) (one_of o) ≡ filter (λ a. is_queued (stage a past)) (one_of o)
    by None e = refl
    by (Some a) e = ap (λ b. if b then a ∷ [] else []) (state_is a e)

queued_row : (g : Dag) (c : ConfValues) (past : Past) → IsMade g c past → (v : ℕ) (o : Option Config)
    → flat_map queued_of (map (λ i. task_view c (task v i) past) (numbers_below (tasks_in o))) ≡ flat_map (queued_at past) (tasks_if o v)
queued_row g c past m v None = refl
queued_row g c past m v (Some s) =
    flat_map-map queued_of (λ i. task_view c (task v i) past) (numbers_below s.tasks)
    ∙ flat_same (λ i. queued_of (task_view c (task v i) past)) (λ i. queued_at past (task v i)) (numbers_below s.tasks) (λ i _. queued_task g c past m (task v i))
    ∙ sym (flat_map-map (queued_at past) (task v) (numbers_below s.tasks))

pub queued_same : (g : Dag) (c : ConfValues) (past : Past) → IsMade g c past → queued_in (master_view g c past) ≡ queued_attempts g past
queued_same g c past m =
    flat_map-map (λ x. flat_map queued_of x.tasks) (λ v. vertex_view c v past) (vertices g)
    ∙ flat_same (λ v. flat_map queued_of (vertex_view c v past).tasks) (λ v. flat_map (queued_at past) (tasks_if (config v past) v)) (vertices g)
    (λ v _. queued_row g c past m v (config v past))
    ∙ sym (flat_flat (queued_at past) (λ v. tasks_if (config v past) v) (vertices g))
    ∙ passing_each (λ a. is_queued (stage a past)) (λ t. live t past) (tasks g past)

-- ---- the first by depth

deep_from : (g : Dag) (xs : List AttemptId) (k n : ℕ) (b : AttemptId) → In b (flat_map (of_depth g xs) (numbers_from k n)) → k ≤ depth_of g b
deep_from g xs k n b m =
    let r = in-flat-out (of_depth g xs) b (numbers_from k n) m in
    let deep : depth_of g b ≡ r.0 = eqb-true (depth_of g b) r.0 (in-filter-passes (λ a. depth g a.task.vertex.0 == r.0) b xs r.2) in
    let low = (in-numbers-out k n r.0 r.1).0 in
    omega (arith, deep, low)

first_least : (g : Dag) (xs : List AttemptId) (k n : ℕ) (a : AttemptId) (rest : List AttemptId) → flat_map (of_depth g xs) (numbers_from k n) ≡ a ∷ rest
    → (b : AttemptId) → In b (flat_map (of_depth g xs) (numbers_from k n)) → depth_of g a ≤ depth_of g b
first_least g xs k zero a rest h b m = absurd m
first_least g xs k (suc n) a rest h b m = by (λ e i. first_least g xs (suc k) n a rest e b i) (of_depth g xs k) refl h m where
  low : k ≤ depth_of g b
  low = deep_from g xs k (suc n) b m

  by : (flat_map (of_depth g xs) (numbers_from (suc k) n) ≡ a ∷ rest → In b (flat_map (of_depth g xs) (numbers_from (suc k) n)) → depth_of g a ≤ depth_of g b)
      → (os : List AttemptId) → of_depth g xs k ≡ os → os ++ flat_map (of_depth g xs) (numbers_from (suc k) n) ≡ a ∷ rest → In b (os ++ flat_map (of_depth g xs) (numbers_from (suc k) n)) → depth_of g a ≤ depth_of g b
  by ih [] e f i = ih f i
  by ih (y ∷ ys) e f i =
      let same : y ≡ a = cc in
      let there : In y (of_depth g xs k) = subst (In y) (sym e) (inl refl) in
      let deep : depth_of g y ≡ k = eqb-true (depth_of g y) k (in-filter-passes (λ a. depth g a.task.vertex.0 == k) y xs there) in
      let here : depth_of g y ≡ depth_of g a = ap (depth_of g) same in
      omega (arith, low, deep, here)

queued_alive : (s : Stage) → is_queued s ≡ true → IsAlive s
queued_alive InQueue h = tt
queued_alive (Waits p) h = tt
queued_alive (Runs p) h = tt
queued_alive Unknown h = cc
queued_alive Ended h = cc

queued_there : (g : Dag) (c : ConfValues) (past : Past) (a : AttemptId) → IsMade g c past → In a (queued_attempts g past) → a.task.vertex.0 < length g.vertices
queued_there g c past a m i =
    (read_there g c past a.task m (alive_there g c past a m (queued_alive (stage a past) (in-filter-passes (λ b. is_queued (stage b past)) a (live_attempts g past) i)))).0

in_order_of_depth : (g : Dag) (c : ConfValues) (past : Past) (a : AttemptId) → IsValid g → IsMade g c past → In a (queued_attempts g past) → In a (by_depth g (queued_attempts g past))
in_order_of_depth g c past a valid m i = in_depth g a (queued_attempts g past) i ((ranks g valid).bounded a.task.vertex.0 (queued_there g c past a m i))

pub none_queued : (g : Dag) (c : ConfValues) (past : Past) → IsValid g → IsMade g c past → by_depth g (queued_attempts g past) ≡ [] → queued_attempts g past ≡ []
none_queued g c past valid m e = by (queued_attempts g past) (λ a i. subst (In a) e (in_order_of_depth g c past a valid m i)) where
  by : (xs : List AttemptId) → ((a : AttemptId) → In a xs → ⊥) → xs ≡ []
  by [] none = refl
  by (a ∷ xs) none = absurd (none a (inl refl))

pub first_is_least : (g : Dag) (c : ConfValues) (past : Past) (a : AttemptId) (rest : List AttemptId) → IsValid g → IsMade g c past → by_depth g (queued_attempts g past) ≡ a ∷ rest → IsLeastQueued g past (depth_of g a)
first_is_least g c past a rest valid m e =
    let there : In a (by_depth g (queued_attempts g past)) = subst (In a) (sym e) (inl refl) in
    let r = in-flat-out (of_depth g (queued_attempts g past)) a (vertices g) there in
    record {
      some = (a, in-filter-out (λ b. depth g b.task.vertex.0 == r.0) a (queued_attempts g past) r.2, refl);
      least = λ b i. first_least g (queued_attempts g past) 0 (length g.vertices) a rest e b (in_order_of_depth g c past b valid m i);
    }
