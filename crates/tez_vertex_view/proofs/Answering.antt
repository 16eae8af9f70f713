-- What the tasks answer, and what the vertices tell.
use Rattle.std.specs.Prelude.{◌≡◌, ℕ, zero, suc, ◌+◌, ◌<◌, ◌≤◌, ◌&&◌, ◌||◌, ◌==◌, nat_le, true, false, IsTrue, List, map, length, slice_get, Option, Some, None, is_some, refl, unwrap_or}
use Rattle.std.specs.List.{list_all, list_any, filter_map, cons_option}
use Rattle.std.specs.Option.{option_map}
use Rattle.std.proofs.Common.{ap, sym, ◌∙◌, subst, arith}
use Rattle.std.proofs.lemmas.Bool.Decides.{nat_tests}
use Rattle.tez_ids.specs.declared.TaskId.{TaskId}
use Rattle.tez_ids.specs.declared.AttemptId.{AttemptId}
use Rattle.tez_ids.specs.Same.{task}
use Rattle.tez_lists.specs.Numbers.{numbers_from}
use Rattle.tez_plan.specs.Dag.{Dag, tasks_of as planned}
use Rattle.tez_conf.specs.declared.values.ConfValues.{ConfValues}
use Rattle.tez_vman.specs.declared.seen.Config.{Config}
use Rattle.tez_vman.specs.Rules.{config as shape}
use Rattle.tez_events.specs.declared.CoreEvent.TheVariants.{Queue, Place, Send}
use Rattle.tez_task.specs.declared.TaskEvent.TheVariants as task_event
use Rattle.tez_task.specs.declared.TaskTook.TheVariants.{Moved, Again, Spent}
use Rattle.tez_task.specs.declared.Live.{Live}
use Rattle.tez_task.specs.TaskState.{TaskState}
use Rattle.tez_task.specs.Table.{task_took, live_of, next_of}
use Rattle.tez_vertex.specs.Vertex.{has_winner, is_spent}
use Rattle.tez_vertex.specs.Table.{has_failed, task_of}
use Rattle.tez_history.specs.Shape.{numbers_below}
use Rattle.tez_history.specs.History.{Past, InQueue, Waits, Runs, stage, live, winner, attempts, failures, epoch, config}
use Rattle.tez_history.specs.Derived.{is_processing, is_configured, is_vertex_done, task_count, winners_of, next_attempt}
use Rattle.tez_history.specs.Steps.{enabled}
use Rattle.tez_history.specs.Follows.{IsMade, IsPlaced, IsAlive}
use Rattle.tez_laws.specs.Laws.{FewFailures}
use Rattle.tez_laws.proofs.OneLive.{placed_alive}
use Rattle.tez_laws.proofs.Tasks.{no_both}
use Rattle.tez_laws.proofs.StepLaw.{both, event_may}
use Rattle.tez_vertex_view.specs.View.{machine_at, live_view, task_view, tasks_in, vertex_view, vertices_view}
use Rattle.tez_master_model.proofs.Numbers.{get_below}
use Rattle.tez_vertex_view.proofs.Moving.{state, same_state, none_fact, none_by_winner, alive_view, first_view, lives, unspent, placed_took, sent_took, done_took, killed_took, failed_took_last, failed_took_again, lost_took}
use Rattle.tez_vertex_view.proofs.Stepping.{waits_at, runs_at}
use Rattle.tez_attempt.specs.declared.AttemptState.TheVariants.{Processing}

-- ---- answers

pub queue_answer : (g : Dag) (c : ConfValues) (past : Past) (t : TaskId) → IsMade g c past → FewFailures c past → enabled g c past (Queue t) ≡ true → task_took (task_view c t past) task_event.Queue ≡ Again (next_attempt past t)
queue_answer g c past t m few h = let f = (event_may g c past (Queue t) m h).0 in ap (λ s. task_took s task_event.Queue) (first_view c past t few f.0 f.1)

pub place_answer : (g : Dag) (c : ConfValues) (past : Past) (a : AttemptId) (p : ℕ) → IsMade g c past → FewFailures c past → enabled g c past (Place a p) ≡ true → task_took (task_view c a.task past) (task_event.Place a) ≡ Moved
place_answer g c past a p m few h =
    let f = (event_may g c past (Place a p) m h).0 in
    ap (λ s. task_took s (task_event.Place a)) (alive_view c past a InQueue few (lives g c past a m (subst IsAlive (sym f.0) tt)) f.0)
    ∙ placed_took a.task (epoch past) c.max_failed (winner a.task past) (attempts a.task past) (failures a.task past) a

pub send_answer : (g : Dag) (c : ConfValues) (past : Past) (a : AttemptId) → IsMade g c past → FewFailures c past → enabled g c past (Send a) ≡ true → task_took (task_view c a.task past) (task_event.Send a) ≡ Moved
send_answer g c past a m few h =
    let at = waits_at (stage a past) (both (both h).1).0 in
    ap (λ s. task_took s (task_event.Send a)) (alive_view c past a (Waits at.0) few (lives g c past a m (subst IsAlive (sym at.1) tt)) at.1)
    ∙ sent_took a.task (epoch past) c.max_failed (winner a.task past) (attempts a.task past) (failures a.task past) a

processing_view : (g : Dag) (c : ConfValues) (past : Past) (a : AttemptId) → IsMade g c past → FewFailures c past → IsTrue (is_processing (stage a past))
    → task_view c a.task past ≡ state a.task (epoch past) c.max_failed (Some (record { attempt = a; machine = Processing })) (winner a.task past) (attempts a.task past) (failures a.task past) false
processing_view g c past a m few h =
    let at = runs_at (stage a past) h in alive_view c past a (Runs at.0) few (lives g c past a m (subst IsAlive (sym at.1) tt)) at.1

pub report_answer : (g : Dag) (c : ConfValues) (past : Past) (a : AttemptId) → IsMade g c past → FewFailures c past → IsTrue (is_processing (stage a past)) → task_took (task_view c a.task past) (task_event.Succeed a) ≡ Moved
report_answer g c past a m few h =
    ap (λ s. task_took s (task_event.Succeed a)) (processing_view g c past a m few h) ∙ done_took a.task (epoch past) c.max_failed (winner a.task past) (attempts a.task past) (failures a.task past) a

more : (n : ℕ) → n + 1 ≡ suc n
more n = omega arith

pub spent_answer : (g : Dag) (c : ConfValues) (past : Past) (a : AttemptId) → IsMade g c past → FewFailures c past → IsTrue (is_processing (stage a past)) → nat_le c.max_failed (suc (failures a.task past)) ≡ true
    → task_took (task_view c a.task past) (task_event.Fail a) ≡ Spent
spent_answer g c past a m few h all =
    ap (λ s. task_took s (task_event.Fail a)) (processing_view g c past a m few h)
    ∙ failed_took_last a.task (epoch past) c.max_failed (winner a.task past) (attempts a.task past) (failures a.task past) a (ap (nat_le c.max_failed) (more (failures a.task past)) ∙ all)

pub fail_answer : (g : Dag) (c : ConfValues) (past : Past) (a : AttemptId) → IsMade g c past → FewFailures c past → IsTrue (is_processing (stage a past)) → nat_le c.max_failed (suc (failures a.task past)) ≡ false
    → task_took (task_view c a.task past) (task_event.Fail a) ≡ Again (next_attempt past a.task)
fail_answer g c past a m few h less =
    ap (λ s. task_took s (task_event.Fail a)) (processing_view g c past a m few h)
    ∙ failed_took_again a.task (epoch past) c.max_failed (winner a.task past) (attempts a.task past) (failures a.task past) a (ap (nat_le c.max_failed) (more (failures a.task past)) ∙ less)

pub kill_answer : (g : Dag) (c : ConfValues) (past : Past) (a : AttemptId) → IsMade g c past → FewFailures c past → IsPlaced (stage a past) → task_took (task_view c a.task past) (task_event.Kill a) ≡ Again (next_attempt past a.task)
kill_answer g c past a m few placed =
    ap (λ s. task_took s (task_event.Kill a)) (alive_view c past a (stage a past) few (lives g c past a m (placed_alive (stage a past) placed)) refl)
    ∙ killed_took a.task (epoch past) c.max_failed (winner a.task past) (attempts a.task past) (failures a.task past) a (stage a past) placed

pub lose_answer : (g : Dag) (c : ConfValues) (past : Past) (w : AttemptId) → IsMade g c past → FewFailures c past → winner w.task past ≡ Some w → task_took (task_view c w.task past) (task_event.Lose w) ≡ Again (next_attempt past w.task)
lose_answer g c past w m few won =
    ap (λ s. task_took s (task_event.Lose w))
    (same_state w.task (epoch past) (epoch past) c.max_failed (live_view w.task past) None (winner w.task past) (Some w) (attempts w.task past) (attempts w.task past) (failures w.task past) (failures w.task past)
    (nat_le c.max_failed (failures w.task past)) false refl (none_fact past w.task (none_by_winner (live w.task past) (winner w.task past) w (no_both g c past m w.task) won)) won refl refl (unspent c.max_failed (failures w.task past) (few w.task)))
    ∙ lost_took w.task (epoch past) c.max_failed None (attempts w.task past) (failures w.task past) w

-- ---- readings

pub read_vertex : (g : Dag) (c : ConfValues) (past : Past) (v : ℕ) → v < length g.vertices → slice_get (vertices_view g c past) v ≡ Some (vertex_view c v past)
read_vertex g c past v l = get_below (λ w. vertex_view c w past) (length g.vertices) v l

counted : (g : Dag) (v : ℕ) (o : Option Config) (plan : Config) → is_some o ≡ true → (unwrap_or o plan).tasks ≡ tasks_in o
counted g v (Some s) plan h = refl
counted g v None plan h = cc

pub read_task : (g : Dag) (c : ConfValues) (past : Past) (v i : ℕ) → is_configured v past ≡ true → i < task_count g v past → task_of (vertex_view c v past) i ≡ Some (task_view c (task v i) past)
read_task g c past v i is l =
    get_below (λ j. task_view c (task v j) past) (tasks_in (config v past)) i (subst (λ n. i < n) (counted g v (config v past) (shape (planned g v) 1) is) l)

pub live_same : (past : Past) (o : Option AttemptId) → option_map (λ l. l.attempt) (option_map (λ a. let l : Live = record { attempt = a; machine = machine_at (stage a past) } in l) o) ≡ o
live_same past None = refl
live_same past (Some a) = refl

pub read_live : (c : ConfValues) (past : Past) (t : TaskId) → live_of (task_view c t past) ≡ live t past
read_live c past t = live_same past (live t past)

pub read_next : (c : ConfValues) (past : Past) (t : TaskId) → next_of (task_view c t past) ≡ next_attempt past t
read_next c past t = refl

-- ---- a vertex is done, and none has failed

shorter : {Y : Type 0} (o : Option Y) (ys : List Y) (n : ℕ) → length ys ≤ n → length (cons_option o ys) ≤ suc n
shorter None ys n h = omega arith
shorter (Some y) ys n h = omega arith

short : {Y : Type 0} (f : ℕ → Option Y) (a n : ℕ) → length (filter_map f (numbers_from a n)) ≤ n
short f a zero = omega arith
short f a (suc n) = shorter (f a) (filter_map f (numbers_from (suc a) n)) n (short f (suc a) n)

one_missing : (m n : ℕ) → m ≤ n → (m == suc n) ≡ false
one_missing m n h = grind (arith, nat_tests)

one_less : (m n : ℕ) → (suc m == suc n) ≡ (m == n)
one_less m n = grind (arith, nat_tests)

whole_by : (f : ℕ → Option AttemptId) (h : ℕ → TaskState) (a n : ℕ) → ((i : ℕ) → (h i).winner ≡ f i) → (length (filter_map f (numbers_from a n)) == n) ≡ list_all has_winner (map h (numbers_from a n))
whole_by f h a zero e = refl
whole_by f h a (suc n) e = by (whole_by f h (suc a) n e) (short f (suc a) n) (f a) (e a) where
  by : (length (filter_map f (numbers_from (suc a) n)) == n) ≡ list_all has_winner (map h (numbers_from (suc a) n)) → length (filter_map f (numbers_from (suc a) n)) ≤ n
      → (o : Option AttemptId) → (h a).winner ≡ o → (length (cons_option o (filter_map f (numbers_from (suc a) n))) == suc n) ≡ (is_some (h a).winner && list_all has_winner (map h (numbers_from (suc a) n)))
  by ih few None k = one_missing (length (filter_map f (numbers_from (suc a) n))) n few ∙ sym (ap (λ o. is_some o && list_all has_winner (map h (numbers_from (suc a) n))) k)
  by ih few (Some w) k = one_less (length (filter_map f (numbers_from (suc a) n))) n ∙ ih ∙ sym (ap (λ o. is_some o && list_all has_winner (map h (numbers_from (suc a) n))) k)

pub read_done : (g : Dag) (c : ConfValues) (past : Past) (v : ℕ) → is_vertex_done g v past ≡ ((vertex_view c v past).configured && list_all has_winner (vertex_view c v past).tasks)
read_done g c past v = by (config v past) where
  by : (o : Option Config)
      → (is_some o && (length (winners_of v (unwrap_or o (shape (planned g v) 1)).tasks past) == (unwrap_or o (shape (planned g v) 1)).tasks))
      ≡ (is_some o && list_all has_winner (map (λ i. task_view c (task v i) past) (numbers_below (tasks_in o))))
  by None = refl
  by (Some s) = whole_by (λ i. winner (task v i) past) (λ i. task_view c (task v i) past) 0 s.tasks (λ i. refl)

none_spent : (h : ℕ → TaskState) (a n : ℕ) → ((i : ℕ) → (h i).spent ≡ false) → list_any is_spent (map h (numbers_from a n)) ≡ false
none_spent h a zero e = refl
none_spent h a (suc n) e = ap (λ b. b || list_any is_spent (map h (numbers_from (suc a) n))) (e a) ∙ none_spent h (suc a) n e

pub read_failed : (c : ConfValues) (past : Past) (v : ℕ) → FewFailures c past → has_failed (vertex_view c v past) ≡ false
read_failed c past v few = none_spent (λ i. task_view c (task v i) past) 0 (tasks_in (config v past)) (λ i. unspent c.max_failed (failures (task v i) past) (few (task v i)))
