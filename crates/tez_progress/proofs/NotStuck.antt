-- A master that is up has a next event of its own, unless an attempt is processing: vertex by vertex, from the least deep, all are done.
use Rattle.std.specs.Prelude.{◌≡◌, ◌⊎◌, ℕ, zero, suc, ◌+◌, ◌*◌, ◌<◌, ◌≤◌, ◌==◌, nat_lt, true, false, ◌&&◌, length, Option, Some, None, is_some, is_none, refl}
use Rattle.std.specs.List.{list_all, list_any}
use Rattle.std.proofs.Common.{inl, inr, ap, sym, arith, subst}
use Rattle.std.proofs.lemmas.Bool.{eq-eqb, cases_lt}
use Rattle.tez_ids.specs.declared.TaskId.{TaskId}
use Rattle.tez_ids.specs.declared.AttemptId.{AttemptId}
use Rattle.tez_ids.specs.Same.{task}
use Rattle.tez_lists.specs.Numbers.{In}
use Rattle.tez_lists.proofs.Members.{in_filter}
use Rattle.tez_plan.specs.Dag.{Dag, from}
use Rattle.tez_plan.specs.Order.{depth}
use Rattle.tez_plan.specs.Faults.{IsValid}
use Rattle.tez_conf.specs.declared.values.ConfValues.{ConfValues}
use Rattle.tez_conf.specs.Ranges.{IsInRange}
use Rattle.tez_vman.specs.declared.seen.Config.{Config}
use Rattle.tez_history.specs.Shape.{Edge, places, vertices, numbers_below, edges_to}
use Rattle.tez_history.specs.History.{Past, Stage, Unknown, InQueue, Waits, Runs, Ended, stage, live, winner, holder, config}
use Rattle.tez_history.specs.Derived.{Input, tasks, task_count, is_task, is_configured, is_vertex_done, winners_of, live_attempts, waiting_attempts, queued_attempts, is_queued, is_waiting, is_processing, inputs, has_fetched, is_free}
use Rattle.tez_history.specs.Steps.{input_at, winner_behind, winner_of_input}
use Rattle.tez_history.specs.Follows.{IsAlive, IsPlaced, IsMade}
use Rattle.tez_laws.specs.Laws.{GoesOn}
use Rattle.tez_laws.proofs.StepLaw.{both}
use Rattle.tez_laws.proofs.OneLive.{one_live, waiting_alive}
use Rattle.tez_laws.proofs.Tasks.{live_task, live_alive}
use Rattle.tez_laws.proofs.Places.{held, in_place}
use Rattle.tez_laws.proofs.Ranges.{scheduled_is_task, live_scheduled, configured_is_vertex}
use Rattle.tez_progress.specs.Laws.{IsRanked, IsFitted, AllSourcesDone}
use Rattle.tez_progress.proofs.Members.{clash, true_and, in_filter_map, in_numbers, numbers_in, find_none, find_some, all_or, any_or, any_true, any_false, all_at, full_or}
use Rattle.tez_progress.proofs.Configured.{vertex_below}
use Rattle.tez_progress.proofs.Ready.{ready, primary_done, queue_ready, input_ready, in_tasks, lt_true, lt_from, vertices_in}
use Rattle.tez_progress.proofs.Stalled.{IsStalled, no_configure, no_queue, no_fetch, no_send, no_place, no_preempt, in_depth}

-- what holds of the history between two steps
pub record IsSteady (g : Dag) (c : ConfValues) (past : Past) : Type 0 where
  pub valid : IsValid g
  pub ranks : IsRanked g
  pub range : IsInRange c
  pub made : IsMade g c past
  pub fits : IsFitted g past
  pub goes_on : GoesOn past

-- ---- where attempts stand

waits_or_queued : (s : Stage) → IsAlive s → (is_processing s ≡ true → ⊥) → (s ≡ InQueue) ⊎ (is_waiting s ≡ true)
waits_or_queued InQueue h n = inl refl
waits_or_queued (Waits p) h n = inr refl
waits_or_queued (Runs p) h n = absurd (n refl)
waits_or_queued Unknown h n = absurd h
waits_or_queued Ended h n = absurd h

placed_waits : (s : Stage) → IsPlaced s → (is_processing s ≡ true → ⊥) → is_waiting s ≡ true
placed_waits InQueue h n = absurd h
placed_waits (Waits p) h n = refl
placed_waits (Runs p) h n = absurd (n refl)
placed_waits Unknown h n = absurd h
placed_waits Ended h n = absurd h

held_by : (o : Option AttemptId) → is_none o ≡ false → (b : AttemptId) × (o ≡ Some b)
held_by None h = cc
held_by (Some b) h = (b, refl)

some_place_is : (c : ConfValues) → IsInRange c → 0 < places c
some_place_is c r = product c.nodes c.per_node r.some_nodes r.some_places where
  product : (n m : ℕ) → 1 ≤ n → 1 ≤ m → 0 < n * m
  product (suc n) (suc m) h k = omega arith
  product zero m h k = absurd (omega arith)
  product (suc n) zero h k = absurd (omega arith)

-- ---- the argument

module _ (g : Dag) (c : ConfValues) (past : Past) (st : IsSteady g c past) (s : IsStalled g c past) where
  live_is_task : (t : TaskId) (a : AttemptId) → live t past ≡ Some a → is_task g past t ≡ true
  live_is_task t a h = scheduled_is_task g c past st.made t (live_scheduled g c past st.made t a h)

  -- a live attempt is of a vertex of the plan
  live_vertex : (a : AttemptId) → live a.task past ≡ Some a → a.task.vertex.0 < length g.vertices
  live_vertex a h =
      let k = both {x = is_configured a.task.vertex.0 past} (live_is_task a.task a h) in
      vertex_below g a.task.vertex.0 (configured_is_vertex g c past st.made a.task.vertex.0 k.0)

  in_live : (t : TaskId) (a : AttemptId) → live t past ≡ Some a → In a (live_attempts g past)
  in_live t a h =
      let k = both {x = is_configured t.vertex.0 past} (live_is_task t a h) in
      let v = vertex_below g t.vertex.0 (configured_is_vertex g c past st.made t.vertex.0 k.0) in
      let i : t.index < task_count g t.vertex.0 past = lt_from t.index (task_count g t.vertex.0 past) k.1 in
      in_filter_map (λ u. live u past) t a (tasks g past) (in_tasks g past t.vertex.0 t.index v k.0 i) h

  in_waiting : (a : AttemptId) → is_waiting (stage a past) ≡ true → In a (waiting_attempts g past)
  in_waiting a h = in_filter (λ b. is_waiting (stage b past)) a (live_attempts g past) (in_live a.task a (one_live g c past st.made a (waiting_alive (stage a past) h))) h

  in_queued : (t : TaskId) (a : AttemptId) → live t past ≡ Some a → stage a past ≡ InQueue → In a (queued_attempts g past)
  in_queued t a h q = in_filter (λ b. is_queued (stage b past)) a (live_attempts g past) (in_live t a h) (ap is_queued q)

  -- an input that is found by its numbers has a winner behind it
  behind : (a : AttemptId) (k : Input) → AllSourcesDone g a.task.vertex.0 past → In k (inputs g past a) → is_some (winner_behind g past a k.0 k.2) ≡ true
  behind a k done m = by (input_at g past a k.0 k.2) refl where
    by : (o : Option Input) → input_at g past a k.0 k.2 ≡ o → is_some (winner_of_input g past a o) ≡ true
    by None e = clash (true_and (eq-eqb k.0 k.0 refl) (eq-eqb k.2 k.2 refl)) (find_none (λ j. (j.0 == k.0) && (j.2 == k.2)) (inputs g past a) k e m)
    by (Some j) e = input_ready g past a j done (find_some (λ j. (j.0 == k.0) && (j.2 == k.2)) (inputs g past a) j e).0

  -- a waiting attempt has a fetch or goes to its container, once the sources of its vertex are done
  waiting_stuck : (a : AttemptId) → is_waiting (stage a past) ≡ true → AllSourcesDone g a.task.vertex.0 past → ⊥
  waiting_stuck a waits done = by (all_or (has_fetched past a) (inputs g past a)) where
    by : (list_all (has_fetched past a) (inputs g past a) ≡ true) ⊎ ((k : Input) × In k (inputs g past a) × (has_fetched past a k ≡ false)) → ⊥
    by (inl all) = no_send g c past s a (in_waiting a waits) waits all
    by (inr k) = no_fetch g c past s a k.0 (in_waiting a waits) k.1 waits k.2 (behind a k.0 done k.1)

  -- the vertices of lesser depth are done
  DoneBelow : ℕ → Type 0
  DoneBelow d = (v : ℕ) → v < length g.vertices → depth g v < d → is_vertex_done g v past ≡ true

  -- who holds a place while none is free gives way, unless its sources are done
  victim : (d : ℕ) (a b : AttemptId) → In a (queued_attempts g past) → depth g a.task.vertex.0 ≤ d → DoneBelow d → list_any (is_free past) (numbers_below (places c)) ≡ false → is_waiting (stage b past) ≡ true → ⊥
  unfolding DoneBelow
  victim d a b queued shallow below full waits = by (all_or (λ e. is_vertex_done g (from g e.1) past) (edges_to g b.task.vertex.0)) where
    bounded : depth g b.task.vertex.0 < length g.vertices
    bounded = st.ranks.bounded b.task.vertex.0 (live_vertex b (one_live g c past st.made b (waiting_alive (stage b past) waits)))

    by_edge : (e : Edge) → In e (edges_to g b.task.vertex.0) → is_vertex_done g (from g e.1) past ≡ false → (depth g (from g e.1) < d) ⊎ (d ≤ depth g (from g e.1)) → ⊥
    by_edge e m undone (inl lt) = clash (below (from g e.1) (st.ranks.inside b.task.vertex.0 e m) lt) undone
    by_edge e m undone (inr ge) =
        let deeper = st.ranks.deeper b.task.vertex.0 e m in
        let lesser : nat_lt (depth g a.task.vertex.0) (depth g b.task.vertex.0) ≡ true = lt_true (depth g a.task.vertex.0) (depth g b.task.vertex.0) (omega arith) in
        no_preempt g c past s b (in_depth g b (waiting_attempts g past) (in_waiting b waits) bounded) waits full
        (any_true (λ x. nat_lt (depth g x.task.vertex.0) (depth g b.task.vertex.0)) a (queued_attempts g past) queued lesser)

    by : (list_all (λ e. is_vertex_done g (from g e.1) past) (edges_to g b.task.vertex.0) ≡ true) ⊎ ((e : Edge) × In e (edges_to g b.task.vertex.0) × (is_vertex_done g (from g e.1) past ≡ false)) → ⊥
    by (inl all) = waiting_stuck b waits (λ e m. all_at (λ e. is_vertex_done g (from g e.1) past) e (edges_to g b.task.vertex.0) all m)
    by (inr e) = by_edge e.0 e.1 e.2 (cases_lt (depth g (from g e.0.1)) d)

  -- a queued attempt has a free place, or a deeper victim
  queue_stuck : (d : ℕ) (t : TaskId) (a : AttemptId) → live t past ≡ Some a → stage a past ≡ InQueue → a.task.vertex.0 < length g.vertices → depth g a.task.vertex.0 ≤ d → DoneBelow d → ⊥
  queue_stuck d t a lives queued inside shallow below = by (any_or (is_free past) (numbers_below (places c))) where
    room : 0 < places c
    room = some_place_is c st.range

    by : ((p : ℕ) × In p (numbers_below (places c)) × (is_free past p ≡ true)) ⊎ (list_any (is_free past) (numbers_below (places c)) ≡ false) → ⊥
    by (inl p) =
        let low : p.0 < 0 + places c = numbers_in 0 (places c) p.0 p.1 in
        no_place g c past s a p.0 (in_depth g a (queued_attempts g past) (in_queued t a lives queued) (st.ranks.bounded a.task.vertex.0 inside)) p.1 (ap is_queued queued) (omega arith) p.2
    by (inr full) =
        let b = held_by (holder 0 past) (any_false (is_free past) 0 (numbers_below (places c)) full (in_numbers 0 (places c) 0 (omega arith) (omega (arith, room)))) in
        let placed = in_place (stage b.0 past) 0 (held g c past st.made 0 b.0 b.1) in
        victim d a b.0 (in_queued t a lives queued) shallow below full (placed_waits (stage b.0 past) placed (s.idle b.0))

  -- what a task without a winner, of a vertex whose sources are done, would do
  task_stuck : (v i : ℕ) → v < length g.vertices → AllSourcesDone g v past → DoneBelow (depth g v) → is_configured v past ≡ true → i < task_count g v past
      → winner (task v i) past ≡ None → (o : Option AttemptId) → live (task v i) past ≡ o → ⊥
  task_stuck v i h done below conf inside none None l =
      let all = (ready g c v past st.valid st.range st.fits h (primary_done g v past done)).1 conf in
      let q = queue_ready g c v i past st.valid h st.fits (primary_done g v past done) all conf inside (st.goes_on (task v i) l none) in
      no_queue g c past s q.0 q.1 q.2
  task_stuck v i h done below conf inside none (Some a) l =
      by_stage (waits_or_queued (stage a past) (live_alive past (task v i) a l) (s.idle a)) where
        vertex_is : a.task.vertex.0 ≡ v
        vertex_is = ap (λ t. t.vertex.0) (live_task past (task v i) a l)

        by_stage : (stage a past ≡ InQueue) ⊎ (is_waiting (stage a past) ≡ true) → ⊥
        by_stage (inl q) =
            queue_stuck (depth g v) (task v i) a l q (subst (λ u. u < length g.vertices) (sym vertex_is) h) (subst (λ u. depth g u ≤ depth g v) (sym vertex_is) (omega arith)) below
        by_stage (inr w) = waiting_stuck a w (subst (λ u. AllSourcesDone g u past) (sym vertex_is) done)

  vertex_done : (v : ℕ) → v < length g.vertices → AllSourcesDone g v past → DoneBelow (depth g v) → is_vertex_done g v past ≡ true
  vertex_done v h done below = by_config (config v past) refl where
    by_tasks : is_configured v past ≡ true → (length (winners_of v (task_count g v past) past) ≡ task_count g v past) ⊎ ((i : ℕ) × (0 ≤ i) × (i < 0 + task_count g v past) × (winner (task v i) past ≡ None)) → is_vertex_done g v past ≡ true
    by_tasks conf (inl all) = true_and conf (eq-eqb (length (winners_of v (task_count g v past) past)) (task_count g v past) all)
    by_tasks conf (inr i) = absurd (task_stuck v i.0 h done below conf (omega (arith, i.2)) i.3 (live (task v i.0) past) refl)

    by_config : (o : Option Config) → config v past ≡ o → is_vertex_done g v past ≡ true
    by_config None e = absurd (no_configure g c past s v h (ap is_none e) (ready g c v past st.valid st.range st.fits h (primary_done g v past done)).0)
    by_config (Some k) e = by_tasks (ap is_some e) (full_or (λ i. winner (task v i) past) 0 (task_count g v past))

  done_below : (d : ℕ) → DoneBelow d
  unfolding DoneBelow
  done_below zero v h lt = absurd (omega arith)
  done_below (suc d) v h lt =
      vertex_done v h (λ e i. done_below d (from g e.1) (st.ranks.inside v e i) (let k = st.ranks.deeper v e i in omega arith))
      (λ w n k. done_below d w n (omega arith))

  -- so every vertex is done
  pub all_are_done : (v : ℕ) → In v (vertices g) → is_vertex_done g v past ≡ true
  unfolding DoneBelow
  all_are_done v m = done_below (suc (depth g v)) v (vertices_in g v m) (omega arith)
