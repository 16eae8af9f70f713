-- A vertex that is configured gets tasks of which none is queued.
use Rattle.std.specs.Prelude.{◌≡◌, ℕ, zero, suc, ◌+◌, ◌≤◌, Bool, true, false, if◌then◌else◌, List, [], ◌∷◌, map, length, slice_get, Option, Some, None, IfSome, is_some, refl, option_and_then}
use Rattle.std.specs.Option.{option_map, option_map_or}
use Rattle.std.proofs.Common.{ap, sym, ◌∙◌, subst, arith, inl, inr, ◌⊎◌}
use Rattle.std.proofs.lemmas.Bool.Decides.{nat_tests}
use Rattle.std.proofs.lemmas.Option.{same_Some, slice_get-map}
use Rattle.tez_ids.specs.declared.VertexId.{VertexId}
use Rattle.tez_ids.specs.Same.{task}
use Rattle.tez_lists.specs.Numbers.{numbers_from}
use Rattle.tez_lists.proofs.Tables.{table_same}
use Rattle.tez_plan.specs.Dag.{Dag, vertex, tasks_of as planned}
use Rattle.tez_events.specs.declared.CoreEvent.TheVariants.{Configure}
use Rattle.tez_vman.specs.declared.seen.Config.{Config}
use Rattle.tez_task.specs.TaskState.{TaskState}
use Rattle.tez_task.specs.Table.{new_task}
use Rattle.tez_vertex.specs.Vertex.{Vertex}
use Rattle.tez_vertex.specs.Table.{task_of, new_tasks, after_configure}
use Rattle.tez_master_model.specs.Vertices.{change}
use Rattle.tez_schedule.specs.State.{VertexState}
use Rattle.tez_schedule.specs.Kept.{layout, planned_at}
use Rattle.tez_schedule.specs.Table.{configures_at, configured_with, can_have, can_configure}
use Rattle.tez_queue.specs.Queue.{Queue as Waiting}
use Rattle.tez_master_model.specs.State.{MasterState}
use Rattle.tez_master_model.specs.Settled.{settled, with_config}
use Rattle.tez_core.specs.Choosing.{queued_one}
use Rattle.tez_lead.specs.Kept.{IsTask, IsVertex, AreVertices, IsKept, is_waiting}
use Rattle.tez_lead.proofs.Lists.{tells, long_map}
use Rattle.tez_lead.proofs.Tasks.{change_none, change_here, change_elsewhere, vertices_change}
use Rattle.tez_lead.proofs.Layouts.{layout_changed}
use Rattle.tez_lead.proofs.Queues.{with_rows}
use Rattle.tez_lead.proofs.Steps.{Stays, fit_by}

-- ---- the new tasks

new_at : (f : ℕ → TaskState) (a n i : ℕ) (t : TaskState) → slice_get (map f (numbers_from a n)) i ≡ Some t → t ≡ f (a + i)
new_at f a zero i t h = cc
new_at f a (suc n) zero t h = let e : a + 0 ≡ a = omega arith in sym (same_Some (f a) t h) ∙ ap f (sym e)
new_at f a (suc n) (suc i) t h = let e : suc a + i ≡ a + suc i = omega arith in new_at f (suc a) n i t h ∙ ap f e

new_is : (v : ℕ) (x : Vertex) (n i : ℕ) (t : TaskState) → x.vertex ≡ vertex v → slice_get (new_tasks x n) i ≡ Some t → t ≡ new_task (task v i) x.epoch x.max_failed
new_is v x n i t e h =
    let zero_on : 0 + i ≡ i = omega arith in
    new_at (λ j. new_task (task x.vertex.0 j) x.epoch x.max_failed) 0 n i t h
    ∙ ap (λ j. new_task (task x.vertex.0 j) x.epoch x.max_failed) zero_on
    ∙ ap (λ (u : VertexId). new_task (task u.0 i) x.epoch x.max_failed) e

new_keeps : (v i epoch max_failed : ℕ) → IsTask (task v i) (new_task (task v i) epoch max_failed)
new_keeps v i epoch max_failed = record { task_is = refl; live_is = λ l h. cc; winner_is = λ w h. cc; one = λ l h. cc; begun = λ l h. cc }

-- ---- the vertex

configured_keeps : (most v : ℕ) (x : Vertex) (n : ℕ) → n ≤ most → IsVertex most v x → IsVertex most v (after_configure x n)
configured_keeps most v x n l k = by x.configured where
  by : (b : Bool) → IsVertex most v (if b then x else record x { configured = true; tasks = new_tasks x n })
  by true = k
  by false = record {
    number = k.number;
    few = let long = long_map (λ i. new_task (task x.vertex.0 i) x.epoch x.max_failed) 0 n in omega arith;
    unconfigured = λ h. cc;
    tasks = λ i t h. subst (IsTask (task v i)) (sym (new_is v x n i t k.number h)) (new_keeps v i x.epoch x.max_failed);
  }

none_in : (xs : List TaskState) (i : ℕ) → length xs ≡ 0 → slice_get xs i ≡ None
none_in [] i h = refl
none_in (x ∷ xs) i h = cc

abbrev waits_in : Vertex → ℕ → Bool
waits_in x i = is_some (option_and_then queued_one (task_of x i))

new_waits : (v : ℕ) (x : Vertex) (n i : ℕ) → x.vertex ≡ vertex v → is_some (option_and_then queued_one (slice_get (new_tasks x n) i)) ≡ false
new_waits v x n i e = by (slice_get (new_tasks x n) i) refl where
  by : (o : Option TaskState) → slice_get (new_tasks x n) i ≡ o → is_some (option_and_then queued_one o) ≡ false
  by None h = refl
  by (Some t) h = ap (λ s. is_some (queued_one s)) (new_is v x n i t e h)

configured_waits : (most v : ℕ) (x : Vertex) (n i : ℕ) → IsVertex most v x → waits_in x i ≡ waits_in (after_configure x n) i
configured_waits most v x n i k = by x.configured refl where
  by : (b : Bool) → x.configured ≡ b → waits_in x i ≡ waits_in (if b then x else record x { configured = true; tasks = new_tasks x n }) i
  by true h = refl
  by false h = ap (λ o. is_some (option_and_then queued_one o)) (none_in x.tasks i (k.unconfigured h)) ∙ sym (new_waits v x n i k.number)

-- ---- all of them

in_plan : (vs : List VertexState) (v : ℕ) (c : Config) → option_map_or (can_have c) (slice_get vs v) false ≡ true → c.tasks ≤ planned_at (map layout vs) v
in_plan vs v c h = subst (λ o. c.tasks ≤ option_map_or (λ l. l.planned) o 0) (sym (slice_get-map layout vs v)) (by (slice_get vs v) h) where
  by : (o : Option VertexState) → option_map_or (can_have c) o false ≡ true → c.tasks ≤ option_map_or (λ l. l.planned) (option_map layout o) 0
  by None e = cc
  by (Some x) e = grind (arith, nat_tests)

abbrev waits_by : Option Vertex → ℕ → Bool
waits_by o i = is_some (option_and_then queued_one (option_and_then (λ x. task_of x i) o))

same_waits : (g : Dag) (vs : List Vertex) (v n w i : ℕ) → AreVertices g vs → is_waiting vs w i ≡ is_waiting (change vs v (λ x. after_configure x n)) w i
same_waits g vs v n w i k = by (tells v w) where
  f : Vertex → Vertex
  f x = after_configure x n

  at : (o : Option Vertex) → slice_get vs v ≡ o → waits_by (slice_get vs v) i ≡ waits_by (slice_get (change vs v f) v) i
  at None h = ap (λ ws. waits_by (slice_get ws v) i) (sym (change_none vs v f h))
  at (Some x) h =
      ap (λ o. waits_by o i) h
      ∙ configured_waits (planned g v) v x n i (k.each v x h)
      ∙ ap (λ o. waits_by o i) (sym (change_here vs v f x h))

  by : (v ≡ w) ⊎ (v ≡ w → ⊥) → is_waiting vs w i ≡ is_waiting (change vs v f) w i
  by (inl q) = subst (λ u. waits_by (slice_get vs u) i ≡ waits_by (slice_get (change vs v f) u) i) q (at (slice_get vs v) refl)
  by (inr ne) = ap (λ o. waits_by o i) (sym (change_elsewhere vs v w f ne))

config_stays : (m : MasterState) (v : ℕ) (c : Config) → Stays m (with_config m v c)
config_stays m v c = record { plan = refl; conf = refl; within = λ h. h; per_node = refl; layouts = layout_changed m.schedule.vertices v (configured_with c) (λ x. refl) }

pub config_kept : (m : MasterState) (v : ℕ) (c : Config) (q : Waiting) → can_configure m.schedule v c ≡ true → IsKept m q → IsKept (with_config m v c) q
config_kept m v c q h k =
    let few : c.tasks ≤ planned m.plan v = subst (λ n. c.tasks ≤ n) (k.fit.tasks v) (in_plan m.schedule.vertices v c h) in
    record {
      fit = fit_by m (with_config m v c) k.fit (config_stays m v c) (vertices_change m.plan m.vertices v (λ x. after_configure x c.tasks) (λ x _ kept. configured_keeps (planned m.plan v) v x c.tasks few kept) k.fit.vertices);
      queue = k.queue ∙ ap (with_rows m.plan) (table_same (is_waiting m.vertices) (is_waiting (change m.vertices v (λ x. after_configure x c.tasks))) (planned m.plan) (length m.plan.vertices) (λ w i. same_waits m.plan m.vertices v c.tasks w i k.fit.vertices));
    }

-- a configuration that the schedule gives fits the plan
pub configure_kept : (m n : MasterState) (q : Waiting) (v : VertexId) (o : Option Config) → o ≡ configures_at m.schedule v.0 → IfSome o (λ c. can_configure m.schedule v.0 c ≡ true) → IsKept m q → n ≡ settled m (Configure v) → IsKept n q
configure_kept m n q v o is fits k e = subst (λ s. IsKept s q) (sym e) (subst (λ p. IsKept (option_map_or (with_config m v.0) p m) q) is (by o fits)) where
  by : (p : Option Config) → IfSome p (λ c. can_configure m.schedule v.0 c ≡ true) → IsKept (option_map_or (with_config m v.0) p m) q
  by None h = k
  by (Some c) h = config_kept m v.0 c q h k
