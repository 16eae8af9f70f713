-- One task takes an event, and the others stay as they are.
use Rattle.std.specs.Prelude.{◌≡◌, ◌⊎◌, ℕ, zero, suc, ◌+◌, ◌<◌, ◌≤◌, nat_lt, Bool, true, false, not, ◌||◌, ◌==◌, if◌then◌else◌, List, map, length, slice_set, is_some, refl}
use Rattle.std.specs.List.{list_any}
use Rattle.std.proofs.Common.{ap, sym, ◌∙◌, arith, inl, inr, zero-add}
use Rattle.std.proofs.lemmas.Bool.{cases_lt, eqb-true}
use Rattle.std.proofs.lemmas.Bool.Decides.{nat_tests}
use Rattle.tez_ids.specs.declared.TaskId.{TaskId}
use Rattle.tez_ids.specs.Same.{task, same_task}
use Rattle.tez_lists.specs.Numbers.{numbers_from}
use Rattle.tez_lists.proofs.Tables.{map_below, set_each}
use Rattle.tez_plan.specs.Dag.{Dag, vertex}
use Rattle.tez_conf.specs.declared.values.ConfValues.{ConfValues}
use Rattle.tez_task.specs.declared.TaskEvent.{TaskEvent}
use Rattle.tez_task.specs.TaskState.{TaskState}
use Rattle.tez_task.specs.Table.{task_after, task_took}
use Rattle.tez_vertex.specs.Vertex.{Vertex}
use Rattle.tez_vertex.specs.Table.{after_take, take_by, is_ignored}
use Rattle.tez_history.specs.Shape.{numbers_below}
use Rattle.tez_history.specs.History.{Past, attempts, epoch, config}
use Rattle.tez_history.specs.Derived.{is_configured}
use Rattle.tez_master_model.proofs.Numbers.{get_below, get_above}
use Rattle.tez_vertex_view.specs.View.{task_view, tasks_in, has_moved, vertex_view, vertices_view}
use Rattle.tez_master_model.specs.Vertices.{change, change_by, take_in}

-- ---- lists by number

pub set_below : {X : Type 0} (h : ℕ → X) (x : X) (k p : ℕ) → slice_set (map h (numbers_below k)) p x ≡ map (λ q. if p == q then x else h q) (numbers_below k)
set_below h x k p = set_each h x 0 k p ∙ map_below (λ q. if (0 + p) == q then x else h q) (λ q. if p == q then x else h q) 0 k (λ q _ _. ap (λ m. if m == q then x else h q) (zero-add p))

pub any_same : (t s : ℕ → Bool) (n k : ℕ) → ((i : ℕ) → t i ≡ s i) → list_any t (numbers_from n k) ≡ list_any s (numbers_from n k)
any_same t s n zero e = refl
any_same t s n (suc k) e = ap (λ b. b || list_any t (numbers_from (suc n) k)) (e n) ∙ ap (λ b. s n || b) (any_same t s (suc n) k e)

pub any_at : (t : ℕ → Bool) (n k i : ℕ) → n ≤ i → i < n + k → t i ≡ true → list_any t (numbers_from n k) ≡ true
any_at t n zero i l b e = absurd (omega arith)
any_at t n (suc k) i l b e = by (λ u w. any_at t (suc n) k i u w e) (cases_lt n i) where
  right : (x y : Bool) → y ≡ true → (x || y) ≡ true
  right true y h = refl
  right false y h = h

  by : (suc n ≤ i → i < suc n + k → list_any t (numbers_from (suc n) k) ≡ true) → (n < i) ⊎ (i ≤ n) → (t n || list_any t (numbers_from (suc n) k)) ≡ true
  by rest (inl h) = right (t n) (list_any t (numbers_from (suc n) k)) (rest (omega arith) (omega arith))
  by rest (inr h) = let same : n ≡ i = omega arith in ap (λ b. b || list_any t (numbers_from (suc n) k)) (ap t same ∙ e)

-- ---- a vertex of several changes

-- the view with another vertex at v
changed_at : {X : Type 0} (b : Bool) (x y z : X) → (b ≡ true → x ≡ z) → (b ≡ false → y ≡ z) → (if b then x else y) ≡ z
changed_at true x y z h k = h refl
changed_at false x y z h k = k refl

pub change_view : (g : Dag) (c : ConfValues) (past later : Past) (v : ℕ) (f : Vertex → Vertex) → f (vertex_view c v past) ≡ vertex_view c v later → ((w : ℕ) → (v == w) ≡ false → vertex_view c w past ≡ vertex_view c w later)
    → vertices_view g c later ≡ change (vertices_view g c past) v f
change_view g c past later v f here others = by (cases_lt v (length g.vertices)) where
  old : ℕ → Vertex
  old w = vertex_view c w past

  is_here : (w : ℕ) → (v == w) ≡ true → f (vertex_view c v past) ≡ vertex_view c w later
  is_here w e = here ∙ ap (λ n. vertex_view c n later) (eqb-true v w e)

  by : (v < length g.vertices) ⊎ (length g.vertices ≤ v) → vertices_view g c later ≡ change (vertices_view g c past) v f
  by (inl l) =
      sym (ap (change_by (vertices_view g c past) v f) (get_below (λ w. vertex_view c w past) (length g.vertices) v l)
      ∙ set_below (λ w. vertex_view c w past) (f (vertex_view c v past)) (length g.vertices) v
      ∙ map_below (λ w. if v == w then f (vertex_view c v past) else vertex_view c w past) (λ w. vertex_view c w later) 0 (length g.vertices)
      (λ w _ _. changed_at (v == w) (f (vertex_view c v past)) (vertex_view c w past) (vertex_view c w later) (is_here w) (others w)))
  by (inr l) =
      sym (ap (change_by (vertices_view g c past) v f) (get_above (λ w. vertex_view c w past) (length g.vertices) v l)
      ∙ map_below (λ w. vertex_view c w past) (λ w. vertex_view c w later) 0 (length g.vertices) (λ w _ b. others w (apart w (omega arith) l)))
    where
      apart : (w : ℕ) → w < length g.vertices → length g.vertices ≤ v → (v == w) ≡ false
      apart w b l = grind (arith, nat_tests)

-- ---- a task takes an event

-- what a later history makes of one task, while nothing else changes
pub record TakesOne (c : ConfValues) (past later : Past) (t : TaskId) (e : TaskEvent) : Type 0 where
  pub configs : (v : ℕ) → config v later ≡ config v past
  pub epochs : epoch later ≡ epoch past
  pub this : task_view c t later ≡ task_after (task_view c t past) e
  pub others : (u : TaskId) → same_task t u ≡ false → task_view c u later ≡ task_view c u past
  pub queued : 0 < attempts t later
  pub took : is_ignored (task_took (task_view c t past) e) ≡ false

abbrev pub vertex_with : ℕ → ℕ → ℕ → Bool → List TaskState → Bool → Vertex
vertex_with v ep max configured ts moved = record { vertex = vertex v; epoch = ep; max_failed = max; configured = configured; tasks = ts; moved = moved }

pub same_vertex : (v ep ep' max : ℕ) (o o' : Bool) (ts ts' : List TaskState) (m m' : Bool) → ep ≡ ep' → o ≡ o' → ts ≡ ts' → m ≡ m' → vertex_with v ep max o ts m ≡ vertex_with v ep' max o' ts' m'
same_vertex v ep ep' max o o' ts ts' m m' e f h k = cc

pub other_index : (t : TaskId) (v i : ℕ) → t.vertex.0 ≡ v → (t.index == i) ≡ false → same_task t (task v i) ≡ false
other_index t v i e h = grind (arith, nat_tests)

pub other_vertex : (t : TaskId) (v i : ℕ) → (t.vertex.0 == v) ≡ false → same_task t (task v i) ≡ false
other_vertex t v i h = grind (arith, nat_tests)

-- a vertex whose tasks all stay
pub stay_vertex : (c : ConfValues) (past later : Past) (v : ℕ) → config v later ≡ config v past → epoch later ≡ epoch past → ((i : ℕ) → task_view c (task v i) later ≡ task_view c (task v i) past) → vertex_view c v past ≡ vertex_view c v later
stay_vertex c past later v same ep ts =
    let n = tasks_in (config v past) in
    let count : tasks_in (config v later) ≡ n = ap tasks_in same in
    sym (same_vertex v (epoch later) (epoch past) c.max_failed (is_configured v later) (is_configured v past)
    (map (λ i. task_view c (task v i) later) (numbers_below (tasks_in (config v later)))) (map (λ i. task_view c (task v i) past) (numbers_below n)) (has_moved v later) (has_moved v past)
    ep (ap is_some same)
    (ap (λ k. map (λ i. task_view c (task v i) later) (numbers_below k)) count ∙ map_below (λ i. task_view c (task v i) later) (λ i. task_view c (task v i) past) 0 n (λ i _ _. ts i))
    (ap (λ k. list_any (λ i. nat_lt 0 (attempts (task v i) later)) (numbers_below k)) count
    ∙ any_same (λ i. nat_lt 0 (attempts (task v i) later)) (λ i. nat_lt 0 (attempts (task v i) past)) 0 n (λ i. ap (λ s. nat_lt 0 s.queued) (ts i))))

module _ (c : ConfValues) (past later : Past) (t : TaskId) (e : TaskEvent) (one : TakesOne c past later t e) where
  view_past : ℕ → TaskState
  view_past i = task_view c (task t.vertex.0 i) past

  view_later : ℕ → TaskState
  view_later i = task_view c (task t.vertex.0 i) later

  other_tasks : (v i : ℕ) → (t.vertex.0 == v) ≡ false → task_view c (task v i) later ≡ task_view c (task v i) past
  other_tasks v i h = one.others (task v i) (other_vertex t v i h)

  counted : (i : ℕ) → same_task t (task t.vertex.0 i) ≡ false → attempts (task t.vertex.0 i) later ≡ attempts (task t.vertex.0 i) past
  counted i h = ap (λ s. s.queued) (one.others (task t.vertex.0 i) h)

  count : tasks_in (config t.vertex.0 later) ≡ tasks_in (config t.vertex.0 past)
  count = ap tasks_in (one.configs t.vertex.0)

  if_there : (t.index < tasks_in (config t.vertex.0 past)) ⊎ (tasks_in (config t.vertex.0 past) ≤ t.index) → after_take (vertex_view c t.vertex.0 past) t.index e ≡ vertex_view c t.vertex.0 later
  if_there (inl l) =
      let n = tasks_in (config t.vertex.0 past) in
      let s = task_view c t past in
      ap (take_by (vertex_view c t.vertex.0 past) t.index e) (get_below (λ i. task_view c (task t.vertex.0 i) past) n t.index l)
      ∙ same_vertex t.vertex.0 (epoch past) (epoch later) c.max_failed (is_configured t.vertex.0 past) (is_configured t.vertex.0 later)
      (slice_set (map (λ i. task_view c (task t.vertex.0 i) past) (numbers_below n)) t.index (task_after s e)) (map (λ i. task_view c (task t.vertex.0 i) later) (numbers_below (tasks_in (config t.vertex.0 later))))
      (has_moved t.vertex.0 past || not (is_ignored (task_took s e))) (has_moved t.vertex.0 later)
      (sym one.epochs) (ap is_some (sym (one.configs t.vertex.0)))
      (set_below (λ i. task_view c (task t.vertex.0 i) past) (task_after s e) n t.index
      ∙ map_below (λ i. if t.index == i then task_after s e else task_view c (task t.vertex.0 i) past) (λ i. task_view c (task t.vertex.0 i) later) 0 n
      (λ i _ _. changed_at (t.index == i) (task_after s e) (task_view c (task t.vertex.0 i) past) (task_view c (task t.vertex.0 i) later)
      (λ h. sym one.this ∙ ap (λ j. task_view c (task t.vertex.0 j) later) (eqb-true t.index i h))
      (λ h. sym (one.others (task t.vertex.0 i) (other_index t t.vertex.0 i refl h))))
      ∙ ap (λ k. map (λ i. task_view c (task t.vertex.0 i) later) (numbers_below k)) (sym count))
      (moves (has_moved t.vertex.0 past) (is_ignored (task_took s e)) one.took
      ∙ sym (ap (λ k. list_any (λ i. nat_lt 0 (attempts (task t.vertex.0 i) later)) (numbers_below k)) count
      ∙ any_at (λ i. nat_lt 0 (attempts (task t.vertex.0 i) later)) 0 n t.index (omega arith) (omega (arith, l)) (above (attempts t later) one.queued)))
    where
      moves : (m b : Bool) → b ≡ false → (m || not b) ≡ true
      moves true b h = refl
      moves false true h = cc
      moves false false h = refl

      above : (n : ℕ) → 0 < n → nat_lt 0 n ≡ true
      above n h = grind (arith, nat_tests)
  if_there (inr l) =
      let n = tasks_in (config t.vertex.0 past) in
      ap (take_by (vertex_view c t.vertex.0 past) t.index e) (get_above (λ i. task_view c (task t.vertex.0 i) past) n t.index l)
      ∙ same_vertex t.vertex.0 (epoch past) (epoch later) c.max_failed (is_configured t.vertex.0 past) (is_configured t.vertex.0 later)
      (map (λ i. task_view c (task t.vertex.0 i) past) (numbers_below n)) (map (λ i. task_view c (task t.vertex.0 i) later) (numbers_below (tasks_in (config t.vertex.0 later)))) (has_moved t.vertex.0 past) (has_moved t.vertex.0 later)
      (sym one.epochs) (ap is_some (sym (one.configs t.vertex.0)))
      (map_below (λ i. task_view c (task t.vertex.0 i) past) (λ i. task_view c (task t.vertex.0 i) later) 0 n (λ i _ b. sym (one.others (task t.vertex.0 i) (apart i (omega arith))))
      ∙ ap (λ k. map (λ i. task_view c (task t.vertex.0 i) later) (numbers_below k)) (sym count))
      (any_below n (omega arith) ∙ sym (ap (λ k. list_any (λ i. nat_lt 0 (attempts (task t.vertex.0 i) later)) (numbers_below k)) count))
    where
      apart : (i : ℕ) → i < tasks_in (config t.vertex.0 past) → same_task t (task t.vertex.0 i) ≡ false
      apart i b = other_index t t.vertex.0 i refl (not_equal t.index i (omega arith)) where
        not_equal : (x y : ℕ) → y < x → (x == y) ≡ false
        not_equal x y h = grind (arith, nat_tests)

      any_from : (a k : ℕ) → a + k ≤ tasks_in (config t.vertex.0 past) → list_any (λ i. nat_lt 0 (attempts (task t.vertex.0 i) past)) (numbers_from a k) ≡ list_any (λ i. nat_lt 0 (attempts (task t.vertex.0 i) later)) (numbers_from a k)
      any_from a zero h = refl
      any_from a (suc k) h =
          ap (λ b. b || list_any (λ i. nat_lt 0 (attempts (task t.vertex.0 i) past)) (numbers_from (suc a) k)) (ap (nat_lt 0) (sym (counted a (apart a (omega arith)))))
          ∙ ap (λ b. nat_lt 0 (attempts (task t.vertex.0 a) later) || b) (any_from (suc a) k (omega arith))

      any_below : (k : ℕ) → k ≤ tasks_in (config t.vertex.0 past) → list_any (λ i. nat_lt 0 (attempts (task t.vertex.0 i) past)) (numbers_below k) ≡ list_any (λ i. nat_lt 0 (attempts (task t.vertex.0 i) later)) (numbers_below k)
      any_below k h = any_from 0 k (omega arith)

  pub takes_one : (g : Dag) → vertices_view g c later ≡ take_in (vertices_view g c past) t e
  takes_one g =
      change_view g c past later t.vertex.0 (λ s. after_take s t.index e) (if_there (cases_lt t.index (tasks_in (config t.vertex.0 past))))
      (λ w h. stay_vertex c past later w (one.configs w) one.epochs (λ i. other_tasks w i h))
