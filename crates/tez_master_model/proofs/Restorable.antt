-- Tasks that a new master restores had no attempt, and may fail more often.
use Rattle.std.specs.Prelude.{◌≡◌, ◌⊎◌, ℕ, zero, suc, ◌<◌, ◌≤◌, Bool, true, false, if◌then◌else◌, List, [], ◌∷◌, length, slice_get, slice_set, Option, Some, None, refl}
use Rattle.std.specs.Option.{option_map_or}
use Rattle.std.proofs.Common.{ap, sym, ◌∙◌, subst, inl, inr}
use Rattle.std.proofs.lemmas.Bool.{cases_lt}
use Rattle.std.proofs.lemmas.Option.{same_Some}
use Rattle.tez_ids.specs.declared.TaskId.{TaskId}
use Rattle.tez_ids.specs.declared.AttemptId.{AttemptId}
use Rattle.tez_ids.specs.Same.{task}
use Rattle.tez_plan.specs.Dag.{Dag, vertex}
use Rattle.tez_conf.specs.declared.values.ConfValues.{ConfValues}
use Rattle.tez_vman.specs.declared.seen.Config.{Config}
use Rattle.tez_task.specs.TaskState.{TaskState}
use Rattle.tez_task.specs.Table.{new_task, restored}
use Rattle.tez_vertex.specs.Vertex.{Vertex}
use Rattle.tez_vertex.specs.Table.{new_vertex, task_of, new_tasks, after_configure, after_restore, restore_by, IsFresh}
use Rattle.tez_master_model.specs.Vertices.{new_vertices, change, change_by, configure_one, carry_one, failures_in, keep_one, IsRestorable, AreRestorable}
use Rattle.tez_master_model.proofs.Numbers.{get_below, get_above}

-- ---- lists of which one element changed

-- what stands in a list after a change stood there, or is the new one
got_set : {X : Type 0} (xs : List X) (i j : ℕ) (y z : X) → slice_get (slice_set xs i y) j ≡ Some z → (slice_get xs j ≡ Some z) ⊎ (y ≡ z)
got_set [] i j y z h = inl h
got_set (x ∷ xs) zero zero y z h = inr (same_Some y z h)
got_set (x ∷ xs) zero (suc j) y z h = inl h
got_set (x ∷ xs) (suc i) zero y z h = inl h
got_set (x ∷ xs) (suc i) (suc j) y z h = got_set xs i j y z h

changed : (c : ConfValues) (vs : List Vertex) (v : ℕ) (f : Vertex → Vertex) → AreRestorable c vs → ((s : Vertex) → IsRestorable c s → IsRestorable c (f s)) → AreRestorable c (change vs v f)
changed c vs v f h keep w s = by (slice_get vs v) refl where
  by : (o : Option Vertex) → slice_get vs v ≡ o → slice_get (change_by vs v f o) w ≡ Some s → IsRestorable c s
  by None e k = h w s k
  by (Some x) e k = at (got_set vs v w (f x) s k) where
    at : (slice_get vs w ≡ Some s) ⊎ (f x ≡ s) → IsRestorable c s
    at (inl old) = h w s old
    at (inr new) = subst (IsRestorable c) new (keep x (h v x e))

-- ---- each change

pub new_fresh : (g : Dag) (c : ConfValues) (epoch : ℕ) → AreRestorable c (new_vertices g c epoch)
new_fresh g c epoch v s h = by (cases_lt v (length g.vertices)) where
  is : s ≡ new_vertex (vertex v) epoch c.max_failed → IsRestorable c s
  is e = subst (IsRestorable c) (sym e) (record { limit = refl; tasks = λ i t k. cc })

  by : (v < length g.vertices) ⊎ (length g.vertices ≤ v) → IsRestorable c s
  by (inl l) = is (same_Some s (new_vertex (vertex v) epoch c.max_failed) (sym h ∙ get_below (λ w. new_vertex (vertex w) epoch c.max_failed) (length g.vertices) v l))
  by (inr l) = let none : None ≡ Some s = sym (get_above (λ w. new_vertex (vertex w) epoch c.max_failed) (length g.vertices) v l) ∙ h in cc

configure_fresh : (c : ConfValues) (n : ℕ) (s : Vertex) → 0 < c.max_failed → IsRestorable c s → IsRestorable c (after_configure s n)
configure_fresh c n s some r = by s.configured where
  fresh : (i : ℕ) (t : TaskState) → slice_get (new_tasks s n) i ≡ Some t → (t.max_failed ≡ c.max_failed) × IsFresh t.failures t
  fresh i t h = at (cases_lt i n) where
    new : ℕ → TaskState
    new k = new_task (task s.vertex.0 k) s.epoch s.max_failed

    is : t ≡ new_task (task s.vertex.0 i) s.epoch s.max_failed → (t.max_failed ≡ c.max_failed) × IsFresh t.failures t
    is e = subst (λ x. (x.max_failed ≡ c.max_failed) × IsFresh x.failures x) (sym e) (r.limit, (refl, subst (λ m. 0 < m) (sym r.limit) some))

    at : (i < n) ⊎ (n ≤ i) → (t.max_failed ≡ c.max_failed) × IsFresh t.failures t
    at (inl l) = is (same_Some t (new_task (task s.vertex.0 i) s.epoch s.max_failed) (sym h ∙ get_below (λ k. new_task (task s.vertex.0 k) s.epoch s.max_failed) n i l))
    at (inr l) = let none : None ≡ Some t = sym (get_above (λ k. new_task (task s.vertex.0 k) s.epoch s.max_failed) n i l) ∙ h in cc

  by : (b : Bool) → IsRestorable c (if b then s else record s { configured = true; tasks = new_tasks s n })
  by true = r
  by false = record { limit = r.limit; tasks = fresh }

restore_fresh : (c : ConfValues) (i n : ℕ) (w : Option AttemptId) (s : Vertex) → n < c.max_failed → IsRestorable c s → IsRestorable c (after_restore s i n w)
restore_fresh c i n w s few r = by (task_of s i) refl where
  by : (o : Option TaskState) → task_of s i ≡ o → IsRestorable c (restore_by s i n w o)
  by None e = r
  by (Some x) e = record { limit = r.limit; tasks = λ j t h. at j t (got_set s.tasks i j (restored x n w) t h) } where
    at : (j : ℕ) (t : TaskState) → (slice_get s.tasks j ≡ Some t) ⊎ (restored x n w ≡ t) → (t.max_failed ≡ c.max_failed) × IsFresh t.failures t
    at j t (inl old) = r.tasks j t old
    at j t (inr new) =
        let was = r.tasks i x e in
        subst (λ y. (y.max_failed ≡ c.max_failed) × IsFresh y.failures y) new (was.0, (was.1.0, subst (λ m. n < m) (sym was.0) few))

pub configured_fresh : (c : ConfValues) (vs : List Vertex) (x : ℕ × Config) → 0 < c.max_failed → AreRestorable c vs → AreRestorable c (configure_one vs x)
configured_fresh c vs x some h = changed c vs x.0 (λ s. after_configure s x.1.tasks) h (λ s r. configure_fresh c x.1.tasks s some r)

pub carried_fresh : (c : ConfValues) (vs : List Vertex) (x : TaskId × ℕ) → x.1 < c.max_failed → AreRestorable c vs → AreRestorable c (carry_one vs x)
carried_fresh c vs x few h = changed c vs x.0.vertex.0 (λ s. after_restore s x.0.index x.1 None) h (λ s r. restore_fresh c x.0.index x.1 None s few r)

keep_fresh : (c : ConfValues) (i : ℕ) (a : AttemptId) (s : Vertex) → IsRestorable c s → IsRestorable c (after_restore s i (failures_in s i) (Some a))
keep_fresh c i a s r = by (task_of s i) refl where
  by : (o : Option TaskState) → task_of s i ≡ o → IsRestorable c (after_restore s i (failures_in s i) (Some a))
  by None e = subst (IsRestorable c) (sym (ap (restore_by s i (failures_in s i) (Some a)) e)) r
  by (Some t) e =
      let was = r.tasks i t e in
      let few : failures_in s i < c.max_failed = subst (λ o. option_map_or (λ x. x.failures) o 0 < c.max_failed) (sym e) (subst (λ m. t.failures < m) was.0 was.1.1) in
      restore_fresh c i (failures_in s i) (Some a) s few r

pub kept_fresh : (c : ConfValues) (vs : List Vertex) (a : AttemptId) → AreRestorable c vs → AreRestorable c (keep_one vs a)
kept_fresh c vs a h = changed c vs a.task.vertex.0 (λ s. after_restore s a.task.index (failures_in s a.task.index) (Some a)) h (λ s r. keep_fresh c a.task.index a s r)
