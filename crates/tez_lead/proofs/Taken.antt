-- What a new master takes over: each thing leaves what a lead keeps, and may be told when its turn comes.
use Rattle.std.specs.Prelude.{◌≡◌, ℕ, zero, suc, ◌<◌, ◌≤◌, true, List, [], ◌∷◌, length, take, slice_get, slice_set, Option, Some, None, IfSome, refl}
use Rattle.std.specs.Option.{option_map_or}
use Rattle.std.proofs.Common.{ap, sym, ◌∙◌, subst, arith, inl, inr, ◌⊎◌, length-set, get_or}
use Rattle.std.proofs.lemmas.Bool.{cases_lt}
use Rattle.std.proofs.lemmas.Option.{same_Some, slice_get_past}
use Rattle.tez_ids.specs.declared.TaskId.{TaskId}
use Rattle.tez_ids.specs.declared.VertexId.{VertexId}
use Rattle.tez_ids.specs.declared.AttemptId.{AttemptId}
use Rattle.tez_ids.specs.Same.{task}
use Rattle.tez_plan.specs.Dag.{tasks_of as planned}
use Rattle.tez_task.specs.TaskState.{TaskState}
use Rattle.tez_task.specs.Table.{restored}
use Rattle.tez_vertex.specs.Vertex.{Vertex}
use Rattle.tez_vertex.specs.Table.{task_of, restore_by, after_restore, IsFresh}
use Rattle.tez_master_model.specs.Vertices.{change, change_by, carry_one, failures_in, AreRestorable}
use Rattle.tez_master_model.proofs.Restorable.{configured_fresh, carried_fresh}
use Rattle.tez_schedule.specs.State.{VertexState}
use Rattle.tez_schedule.specs.Table.{changed_at, scheduled_with}
use Rattle.tez_master_model.specs.State.{MasterState}
use Rattle.tez_core.specs.Parts.{task_at}
use Rattle.tez_core.specs.Choosing.{count_at}
use Rattle.tez_master_model.specs.Recovery.{KeptState, config_in, stood, carried, kept, all_stood, all_carried, all_kept, CanStand, CanBeCarried, CanBeKept, AllCanStand, AllCanBeCarried, AllCanBeKept, IsNew}
use Rattle.tez_lead.specs.Kept.{IsTask, IsVertex}
use Rattle.tez_lead.proofs.Lists.{tells, set_here, set_elsewhere}
use Rattle.tez_lead.proofs.Tasks.{change_none, at_vertex, changed_elsewhere, vertices_change}
use Rattle.tez_lead.proofs.Layouts.{layout_changed, layout_winner}
use Rattle.tez_lead.proofs.Steps.{Steps}

-- ---- a task of which failures and a winner are set

abbrev IsUntouched : TaskState → Type 0
IsUntouched s = s.queued ≡ 0

restored_elsewhere : (x : Vertex) (i j n : ℕ) (w : Option AttemptId) → (i ≡ j → ⊥) → task_of (after_restore x i n w) j ≡ task_of x j
restored_elsewhere x i j n w ne = by (task_of x i) where
  by : (o : Option TaskState) → task_of (restore_by x i n w o) j ≡ task_of x j
  by None = refl
  by (Some s) = set_elsewhere x.tasks i j (restored s n w) ne

restored_task : (t : TaskId) (s : TaskState) (n : ℕ) (w : Option AttemptId) → IsUntouched s → ((a : AttemptId) → w ≡ Some a → a.task ≡ t) → IsTask t s → IsTask t (restored s n w)
restored_task t s n w new own k = record {
  task_is = k.task_is;
  live_is = k.live_is;
  winner_is = own;
  one = λ l h. let queued : 0 < s.queued = k.begun l h in absurd (omega arith);
  begun = k.begun;
}

restored_vertex : (most v : ℕ) (x : Vertex) (i n : ℕ) (w : Option AttemptId) → IfSome (task_of x i) IsUntouched → ((a : AttemptId) → w ≡ Some a → a.task ≡ task v i) → IsVertex most v x → IsVertex most v (after_restore x i n w)
restored_vertex most v x i n w new own k = by (task_of x i) refl new where
  at : (s : TaskState) → task_of x i ≡ Some s → IsUntouched s → (j : ℕ) (r : TaskState) → slice_get (slice_set x.tasks i (restored s n w)) j ≡ Some r → (i ≡ j) ⊎ (i ≡ j → ⊥) → IsTask (task v j) r
  at s h u j r g (inl q) =
      let is : restored s n w ≡ r = same_Some (restored s n w) r (sym (ap (slice_get (slice_set x.tasks i (restored s n w))) (sym q) ∙ set_here x.tasks i s (restored s n w) h) ∙ g) in
      subst (λ m. IsTask (task v m) r) q (subst (IsTask (task v i)) is (restored_task (task v i) s n w u own (k.tasks i s h)))
  at s h u j r g (inr ne) = k.tasks j r (sym (set_elsewhere x.tasks i j (restored s n w) ne) ∙ g)

  by : (o : Option TaskState) → task_of x i ≡ o → IfSome o IsUntouched → IsVertex most v (restore_by x i n w o)
  by None h u = k
  by (Some s) h u = record {
    number = k.number;
    few = subst (λ m. m ≤ most) (sym (length-set x.tasks i (restored s n w))) k.few;
    unconfigured = λ c. length-set x.tasks i (restored s n w) ∙ k.unconfigured c;
    tasks = λ j r g. at s h u j r g (tells i j);
  }

new_at : (vs : List Vertex) (t : TaskId) (x : Vertex) → slice_get vs t.vertex.0 ≡ Some x → IfSome (task_at vs t) IsUntouched → IfSome (task_of x t.index) IsUntouched
new_at vs t x e h = subst (λ o. IfSome o IsUntouched) (at_vertex vs t x e) h

-- ---- the failures of a task

fresh_new : (o : Option TaskState) (n : ℕ) → IfSome o (IsFresh n) → IfSome o IsUntouched
fresh_new None n h = tt
fresh_new (Some s) n h = h.0

pub carried_steps : (m : MasterState) (t : TaskId) (n : ℕ) → CanBeCarried m (t, n) → Steps m (carried m (t, n)) t
carried_steps m t n can = record {
  stays = record { plan = refl; conf = refl; within = λ h. h; per_node = refl; layouts = refl };
  elsewhere = λ u ne. changed_elsewhere m.vertices t u (λ s. after_restore s t.index n None) (λ x j d. restored_elsewhere x t.index j n None d) ne;
  vertices = λ k. vertices_change m.plan m.vertices t.vertex.0 (λ s. after_restore s t.index n None)
      (λ x e v. restored_vertex (planned m.plan t.vertex.0) t.vertex.0 x t.index n None (new_at m.vertices t x e (fresh_new (task_at m.vertices t) n can)) (λ a h. cc) v) k;
}

-- no failures are set of a task that is not there
same_set : {X : Type 0} (xs : List X) (i : ℕ) (x : X) → slice_get xs i ≡ Some x → slice_set xs i x ≡ xs
same_set [] i x e = refl
same_set (y ∷ ys) zero x e = ap (λ z. z ∷ ys) (same_Some x y (sym e))
same_set (y ∷ ys) (suc i) x e = ap (λ zs. y ∷ zs) (same_set ys i x e)

absent_task : (vs : List Vertex) (t : TaskId) (n : ℕ) → count_at vs t.vertex.0 ≤ t.index → carry_one vs (t, n) ≡ vs
absent_task vs t n l = by (slice_get vs t.vertex.0) refl where
  f : Vertex → Vertex
  f s = after_restore s t.index n None

  by : (o : Option Vertex) → slice_get vs t.vertex.0 ≡ o → change vs t.vertex.0 f ≡ vs
  by None e = change_none vs t.vertex.0 f e
  by (Some x) e =
      let few : length x.tasks ≤ t.index = subst (λ (o : Option Vertex). option_map_or (λ (y : Vertex). length y.tasks) o 0 ≤ t.index) e l in
      let same : f x ≡ x = ap (restore_by x t.index n None) (slice_get_past x.tasks t.index few) in
      ap (change_by vs t.vertex.0 f) e ∙ ap (slice_set vs t.vertex.0) same ∙ same_set vs t.vertex.0 x e

pub absent_carried : (m : MasterState) (t : TaskId) (n : ℕ) → count_at m.vertices t.vertex.0 ≤ t.index → m ≡ carried m (t, n)
absent_carried m t n l = ap (λ vs. record m { vertices = vs }) (sym (absent_task m.vertices t n l))

-- a task that is there may fail more often than it did
pub few_carried : (m : MasterState) (t : TaskId) (n : ℕ) → AreRestorable m.conf m.vertices → CanBeCarried m (t, n) → t.index < count_at m.vertices t.vertex.0 → n < m.conf.max_failed
few_carried m t n limits can l = by (slice_get m.vertices t.vertex.0) refl where
  at : (x : Vertex) → slice_get m.vertices t.vertex.0 ≡ Some x → (o : Option TaskState) → task_of x t.index ≡ o → IfSome o (IsFresh n) → t.index < length x.tasks → n < m.conf.max_failed
  at x e None h c inside = absurd (past x.tasks t.index h inside) where
    past : (xs : List TaskState) (i : ℕ) → slice_get xs i ≡ None → i < length xs → ⊥
    past [] i g k = omega arith
    past (y ∷ ys) zero g k = cc
    past (y ∷ ys) (suc i) g k = past ys i g (omega arith)
  at x e (Some s) h c inside =
      let most : s.max_failed ≡ m.conf.max_failed = ((limits t.vertex.0 x e).tasks t.index s h).0 in
      subst (λ k. n < k) most c.1

  by : (o : Option Vertex) → slice_get m.vertices t.vertex.0 ≡ o → n < m.conf.max_failed
  by None e = let none : t.index < 0 = subst (λ (o : Option Vertex). t.index < option_map_or (λ (y : Vertex). length y.tasks) o 0) e l in absurd (omega arith)
  by (Some x) e =
      at x e (task_of x t.index) refl (subst (λ o. IfSome o (IsFresh n)) (at_vertex m.vertices t x e) can)
      (subst (λ (o : Option Vertex). t.index < option_map_or (λ (y : Vertex). length y.tasks) o 0) e l)

pub carried_limits : (m : MasterState) (x : TaskId × ℕ) → CanBeCarried m x → AreRestorable m.conf m.vertices → AreRestorable m.conf (carried m x).vertices
carried_limits m x can limits = by (cases_lt x.0.index (count_at m.vertices x.0.vertex.0)) where
  by : (x.0.index < count_at m.vertices x.0.vertex.0) ⊎ (count_at m.vertices x.0.vertex.0 ≤ x.0.index) → AreRestorable m.conf (carry_one m.vertices x)
  by (inl l) = carried_fresh m.conf m.vertices x (few_carried m x.0 x.1 limits can l) limits
  by (inr l) = subst (AreRestorable m.conf) (sym (absent_task m.vertices x.0 x.1 l)) limits

-- ---- a winner

new_untouched : (o : Option TaskState) → IfSome o IsNew → IfSome o IsUntouched
new_untouched None h = tt
new_untouched (Some s) h = h.0

pub kept_steps : (m : MasterState) (k : KeptState) → CanBeKept m k → Steps m (kept m k) k.attempt.task
kept_steps m k can = record {
  stays = record {
    plan = refl;
    conf = refl;
    within = λ h. h;
    per_node = refl;
    layouts = layout_winner scheduled t true ∙ layout_changed m.schedule.vertices t.vertex.0 (scheduled_with t.index) (λ x. refl);
  };
  elsewhere = λ u ne. changed_elsewhere m.vertices t u f (λ x j d. restored_elsewhere x t.index j (failures_in x t.index) (Some k.attempt) d) ne;
  vertices = λ fit. vertices_change m.plan m.vertices t.vertex.0 f
      (λ x e v. restored_vertex (planned m.plan t.vertex.0) t.vertex.0 x t.index (failures_in x t.index) (Some k.attempt) (new_at m.vertices t x e (new_untouched (task_at m.vertices t) can.fresh))
      (λ a h. ap (λ (b : AttemptId). b.task) (same_Some a k.attempt (sym h))) v) fit;
} where
  t : TaskId
  t = k.attempt.task

  f : Vertex → Vertex
  f s = after_restore s t.index (failures_in s t.index) (Some k.attempt)

  scheduled : List VertexState
  scheduled = changed_at m.schedule.vertices t.vertex.0 (scheduled_with t.index)

-- ---- one after another

stand_at : (xs : List (VertexId × ℕ × ℕ)) (m : MasterState) (i : ℕ) (d : VertexId × ℕ × ℕ) → i < length xs → AllCanStand m xs → CanStand (all_stood m (take i xs)) (get_or xs i d)
stand_at [] m i d l h = absurd (omega arith)
stand_at (x ∷ xs) m zero d l h = h.0
stand_at (x ∷ xs) m (suc i) d l h = stand_at xs (stood m x) i d (omega arith) h.1

carry_at : (xs : List (TaskId × ℕ)) (m : MasterState) (i : ℕ) (d : TaskId × ℕ) → i < length xs → AllCanBeCarried m xs → CanBeCarried (all_carried m (take i xs)) (get_or xs i d)
carry_at [] m i d l h = absurd (omega arith)
carry_at (x ∷ xs) m zero d l h = h.0
carry_at (x ∷ xs) m (suc i) d l h = carry_at xs (carried m x) i d (omega arith) h.1

keep_at : (ks : List KeptState) (m : MasterState) (i : ℕ) (d : KeptState) → i < length ks → AllCanBeKept m ks → CanBeKept (all_kept m (take i ks)) (get_or ks i d)
keep_at [] m i d l h = absurd (omega arith)
keep_at (k ∷ ks) m zero d l h = h.0
keep_at (k ∷ ks) m (suc i) d l h = keep_at ks (kept m k) i d (omega arith) h.1

-- where those before it were told
pub next_stands : (xs : List (VertexId × ℕ × ℕ)) (m now : MasterState) (i : ℕ) (d : VertexId × ℕ × ℕ) → now ≡ all_stood m (take i xs) → i < length xs → AllCanStand m xs → CanStand now (get_or xs i d)
next_stands xs m now i d e l h = subst (λ (s : MasterState). CanStand s (get_or xs i d)) (sym e) (stand_at xs m i d l h)

pub next_carried : (xs : List (TaskId × ℕ)) (m now : MasterState) (i : ℕ) (d : TaskId × ℕ) → now ≡ all_carried m (take i xs) → i < length xs → AllCanBeCarried m xs → CanBeCarried now (get_or xs i d)
next_carried xs m now i d e l h = subst (λ (s : MasterState). CanBeCarried s (get_or xs i d)) (sym e) (carry_at xs m i d l h)

pub next_kept : (ks : List KeptState) (m now : MasterState) (i : ℕ) (d : KeptState) → now ≡ all_kept m (take i ks) → i < length ks → AllCanBeKept m ks → CanBeKept now (get_or ks i d)
next_kept ks m now i d e l h = subst (λ (s : MasterState). CanBeKept s (get_or ks i d)) (sym e) (keep_at ks m i d l h)

-- ---- the places stay, and tasks may fail as often as before

pub stood_places : (xs : List (VertexId × ℕ × ℕ)) (m : MasterState) → (all_stood m xs).pool ≡ m.pool
stood_places [] m = refl
stood_places (x ∷ xs) m = stood_places xs (stood m x)

pub carried_places : (xs : List (TaskId × ℕ)) (m : MasterState) → (all_carried m xs).pool ≡ m.pool
carried_places [] m = refl
carried_places (x ∷ xs) m = carried_places xs (carried m x)

pub kept_places : (ks : List KeptState) (m : MasterState) → (all_kept m ks).pool ≡ m.pool
kept_places [] m = refl
kept_places (k ∷ ks) m = kept_places ks (kept m k)

pub stood_limits : (xs : List (VertexId × ℕ × ℕ)) (m : MasterState) → 0 < m.conf.max_failed → AreRestorable m.conf m.vertices → AreRestorable (all_stood m xs).conf (all_stood m xs).vertices
stood_limits [] m some h = h
stood_limits (x ∷ xs) m some h = stood_limits xs (stood m x) some (configured_fresh m.conf m.vertices (x.0.0, config_in x) some h)
