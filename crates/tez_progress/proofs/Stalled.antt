-- What it would mean that the master has no next event: none of any kind is enabled.
use Rattle.std.specs.Prelude.{◌≡◌, ℕ, ◌<◌, ◌==◌, true, false, not, List, [], ◌∷◌, ◌++◌, reverse, length, None, is_some, is_none, refl}
use Rattle.std.proofs.Common.{ap}
use Rattle.std.proofs.lemmas.Bool.{eq-eqb}
use Rattle.tez_ids.specs.declared.TaskId.{TaskId}
use Rattle.tez_ids.specs.declared.AttemptId.{AttemptId}
use Rattle.tez_lists.specs.Numbers.{In}
use Rattle.tez_lists.proofs.Members.{in_filter, in_append_left, in_append_right, in_map, in_flat_map}
use Rattle.tez_plan.specs.Dag.{Dag, edge, vertex}
use Rattle.tez_plan.specs.Order.{depth}
use Rattle.tez_conf.specs.declared.values.ConfValues.{ConfValues}
use Rattle.tez_events.specs.declared.CoreEvent.{CoreEvent}
use Rattle.tez_events.specs.declared.CoreEvent.TheVariants.{Configure, Queue, Place, Fetch, Send, Preempt, CommitStart, Finish, Purge}
use Rattle.tez_history.specs.Shape.{vertices, places, numbers_below}
use Rattle.tez_history.specs.History.{Past, config, stage, is_up, is_finished, is_fetched}
use Rattle.tez_history.specs.Derived.{Input, inputs, tasks, waiting_attempts, queued_attempts, is_queued, is_waiting, is_free, any_free, is_shallower_queued, all_fetched, configures}
use Rattle.tez_history.specs.Steps.{enabled, candidates, choice, winner_behind, may_queue, is_running, by_depth, of_depth, some_configure, some_queue, fetches_of, some_fetch, some_send, places_of, some_place, some_preempt, some_ready, some_ask, some_publish}
use Rattle.tez_progress.specs.Laws.{IsIdle}
use Rattle.tez_progress.proofs.Members.{clash, true_and, find_none, in_reverse}
use Rattle.tez_progress.proofs.Ready.{in_vertices, lt_true}

-- up and idle, not finished, and without a choice
pub record IsStalled (g : Dag) (c : ConfValues) (past : Past) : Type 0 where
  pub up : is_up past ≡ true
  pub unfinished : is_finished past ≡ false
  pub idle : IsIdle past
  pub none : choice g c past ≡ None

-- ---- where each kind stands among the candidates

module _ (g : Dag) (c : ConfValues) (past : Past) (e : CoreEvent) where
  after_configure : In e (some_queue g past ++ (some_fetch g past ++ (some_send g past ++ (some_place g c past ++ (some_preempt g past
      ++ (some_ready g ++ CommitStart ∷ (some_ask g ++ (some_publish g ++ Finish ∷ Purge ∷ [])))))))) → In e (candidates g c past)
  after_configure m = in_append_right e (some_configure g) _ m

  after_queue : In e (some_fetch g past ++ (some_send g past ++ (some_place g c past ++ (some_preempt g past
      ++ (some_ready g ++ CommitStart ∷ (some_ask g ++ (some_publish g ++ Finish ∷ Purge ∷ []))))))) → In e (candidates g c past)
  after_queue m = after_configure (in_append_right e (some_queue g past) _ m)

  after_fetch : In e (some_send g past ++ (some_place g c past ++ (some_preempt g past
      ++ (some_ready g ++ CommitStart ∷ (some_ask g ++ (some_publish g ++ Finish ∷ Purge ∷ [])))))) → In e (candidates g c past)
  after_fetch m = after_queue (in_append_right e (some_fetch g past) _ m)

  after_send : In e (some_place g c past ++ (some_preempt g past
      ++ (some_ready g ++ CommitStart ∷ (some_ask g ++ (some_publish g ++ Finish ∷ Purge ∷ []))))) → In e (candidates g c past)
  after_send m = after_fetch (in_append_right e (some_send g past) _ m)

  after_place : In e (some_preempt g past
      ++ (some_ready g ++ CommitStart ∷ (some_ask g ++ (some_publish g ++ Finish ∷ Purge ∷ [])))) → In e (candidates g c past)
  after_place m = after_send (in_append_right e (some_place g c past) _ m)

  pub at_end : In e (some_ready g ++ CommitStart ∷ (some_ask g ++ (some_publish g ++ Finish ∷ Purge ∷ []))) → In e (candidates g c past)
  at_end m = after_place (in_append_right e (some_preempt g past) _ m)

-- ---- what is a candidate is not enabled

pub running : (past : Past) → is_up past ≡ true → is_finished past ≡ false → is_running past ≡ true
running past up fin = true_and up (ap not fin)

pub none_enabled : (g : Dag) (c : ConfValues) (past : Past) (e : CoreEvent) → choice g c past ≡ None → In e (candidates g c past) → enabled g c past e ≡ true → ⊥
none_enabled g c past e none m h = clash h (find_none (enabled g c past) (candidates g c past) e none m)

module _ (g : Dag) (c : ConfValues) (past : Past) (s : IsStalled g c past) where
  runs : is_running past ≡ true
  runs = running past s.up s.unfinished

  pub no_configure : (v : ℕ) → v < length g.vertices → is_none (config v past) ≡ true → is_some (configures g c v past) ≡ true → ⊥
  no_configure v inside none some =
      let e = Configure (vertex v) in
      none_enabled g c past e s.none (in_append_left e (some_configure g) _ (in_map (λ v. Configure (vertex v)) v (vertices g) (in_vertices g v inside)))
      (true_and runs (true_and (lt_true v (length g.vertices) inside) (true_and none some)))

  pub no_queue : (t : TaskId) → In t (tasks g past) → may_queue g c past t ≡ true → ⊥
  no_queue t m h = none_enabled g c past (Queue t) s.none (after_configure g c past (Queue t) (in_append_left (Queue t) (some_queue g past) _ (in_map Queue t (tasks g past) m))) (true_and runs h)

  pub no_fetch : (a : AttemptId) (k : Input) → In a (waiting_attempts g past) → In k (inputs g past a)
      → is_waiting (stage a past) ≡ true → is_fetched a k.0 k.2 past ≡ false → is_some (winner_behind g past a k.0 k.2) ≡ true → ⊥
  no_fetch a k m i waits unfetched won =
      let e = Fetch a (edge k.0) k.2 in
      none_enabled g c past e s.none
      (after_queue g c past e (in_append_left e (some_fetch g past) _ (in_flat_map (fetches_of g past) a e (waiting_attempts g past) m (in_map (λ i. Fetch a (edge i.0) i.2) k (inputs g past a) i))))
      (true_and runs (true_and waits (true_and (ap not unfetched) won)))

  pub no_send : (a : AttemptId) → In a (waiting_attempts g past) → is_waiting (stage a past) ≡ true → all_fetched g past a ≡ true → ⊥
  no_send a m waits all =
      none_enabled g c past (Send a) s.none (after_fetch g c past (Send a) (in_append_left (Send a) (some_send g past) _ (in_map Send a (waiting_attempts g past) m)))
      (true_and runs (true_and waits all))

  pub no_place : (a : AttemptId) (p : ℕ) → In a (by_depth g (queued_attempts g past)) → In p (numbers_below (places c)) → is_queued (stage a past) ≡ true → p < places c → is_free past p ≡ true → ⊥
  no_place a p m i queued inside free =
      let e = Place a p in
      none_enabled g c past e s.none
      (after_send g c past e (in_append_left e (some_place g c past) _ (in_flat_map (places_of c) a e (by_depth g (queued_attempts g past)) m (in_map (Place a) p (numbers_below (places c)) i))))
      (true_and runs (true_and queued (true_and (lt_true p (places c) inside) free)))

  pub no_preempt : (a : AttemptId) → In a (by_depth g (waiting_attempts g past)) → is_waiting (stage a past) ≡ true → any_free c past ≡ false
      → is_shallower_queued g past (depth g a.task.vertex.0) ≡ true → ⊥
  no_preempt a m waits full shallower =
      let e = Preempt a in
      none_enabled g c past e s.none
      (after_place g c past e (in_append_left e (some_preempt g past) _ (in_map Preempt a (reverse (by_depth g (waiting_attempts g past))) (in_reverse a (by_depth g (waiting_attempts g past)) m))))
      (true_and runs (true_and waits (true_and (ap not full) shallower)))

-- an attempt stands in order of depth, if no vertex is too deep
pub in_depth : (g : Dag) (a : AttemptId) (xs : List AttemptId) → In a xs → depth g a.task.vertex.0 < length g.vertices → In a (by_depth g xs)
in_depth g a xs m h =
    in_flat_map (of_depth g xs) (depth g a.task.vertex.0) a (vertices g) (in_vertices g (depth g a.task.vertex.0) h)
    (in_filter (λ b. depth g b.task.vertex.0 == depth g a.task.vertex.0) a xs m (eq-eqb (depth g a.task.vertex.0) (depth g a.task.vertex.0) refl))
