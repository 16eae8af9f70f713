-- What a new master makes of the vertices.
use Rattle.std.specs.Prelude.{◌≡◌, ◌⊎◌, ℕ, suc, max, ◌<◌, ◌≤◌, ◌&&◌, ◌==◌, nat_lt, nat_le, Bool, true, false, if◌then◌else◌, List, [], ◌∷◌, ◌++◌, map, length, slice_set, Option, Some, None, is_some, is_none, unwrap_or, refl}
use Rattle.std.specs.List.{list_any, find, fold}
use Rattle.std.specs.Option.{option_map_or}
use Rattle.std.proofs.Common.{ap, sym, ◌∙◌, subst, arith, eq-eqb, inl, inr}
use Rattle.std.proofs.lemmas.Bool.{cases_lt, eqb-true}
use Rattle.std.proofs.lemmas.Bool.Decides.{nat_tests}
use Rattle.tez_ids.specs.declared.TaskId.{TaskId}
use Rattle.tez_ids.specs.declared.AttemptId.{AttemptId}
use Rattle.tez_ids.specs.Same.{task, same_task}
use Rattle.tez_lists.specs.Numbers.{In}
use Rattle.tez_lists.proofs.Tables.{map_below, map_each}
use Rattle.tez_plan.specs.Dag.{Dag, vertex, tasks_of as planned}
use Rattle.tez_conf.specs.declared.values.ConfValues.{ConfValues}
use Rattle.tez_vman.specs.declared.seen.Config.{Config}
use Rattle.tez_vman.specs.Rules.{config as shape}
use Rattle.tez_events.specs.declared.StopCause.{StopCause}
use Rattle.tez_events.specs.declared.Entry.TheVariants.{Stands, Carried, Kept, Stopped, Committing}
use Rattle.tez_task.specs.Table.{restored}
use Rattle.tez_vertex.specs.Vertex.{Vertex}
use Rattle.tez_vertex.specs.Table.{after_configure, new_tasks, after_restore, restore_by}
use Rattle.tez_history.specs.Shape.{numbers_below, is_vertex}
use Rattle.tez_history.specs.History.{Past, extend, live, winner, attempts, failures, epoch, config, recorded}
use Rattle.tez_history.specs.Derived.{is_configured, is_task, all_done}
use Rattle.tez_history.specs.Steps.{each_after}
use Rattle.tez_history.specs.Runs.{Standing, Run, Found, Unfinished, AllDone, Committed, Begun, stands_if, kept_if, carried_entries, standing_entries, committing_if, opened_at, opened_unless, committed_unless, opened_by, stopped, spent_in}
use Rattle.tez_laws.specs.Laws.{FewFailures}
use Rattle.tez_laws.proofs.Same.{same_task-true, same_task-refl}
use Rattle.tez_laws.proofs.Going.{extend-append}
use Rattle.tez_vertex_view.specs.View.{task_view, live_view, tasks_in, idle_task, idle, has_moved, vertex_view, vertices_view, restored_vertices, FailedAreTasks, StandsFailed, FailedStand}
use Rattle.tez_master_model.specs.Vertices.{change, change_by, configure_one, carry_one, failures_in, keep_one}
use Rattle.tez_master_model.proofs.Numbers.{get_below, get_above}
use Rattle.tez_vertex_view.proofs.Taking.{set_below, any_same, change_view, same_vertex, stay_vertex, other_index, other_vertex}
use Rattle.tez_vertex_view.proofs.Moving.{same_state, other_view}
use Rattle.tez_vertex_view.proofs.Configuring.{configured_by, new_view}

-- ---- a change that makes no difference

pub unchanged : (g : Dag) (c : ConfValues) (past : Past) (v : ℕ) (f : Vertex → Vertex) → (v < length g.vertices → f (vertex_view c v past) ≡ vertex_view c v past) → change (vertices_view g c past) v f ≡ vertices_view g c past
unchanged g c past v f h = by (cases_lt v (length g.vertices)) where
  by : (v < length g.vertices) ⊎ (length g.vertices ≤ v) → change (vertices_view g c past) v f ≡ vertices_view g c past
  by (inl l) = sym (change_view g c past past v f (h l) (λ w e. refl))
  by (inr l) = ap (change_by (vertices_view g c past) v f) (get_above (λ w. vertex_view c w past) (length g.vertices) v l)

-- ---- what stands configured

-- no task has anything yet
pub record IsBlank (past : Past) (t : TaskId) : Type 0 where
  pub live : live t past ≡ None
  pub winner : winner t past ≡ None
  pub queued : attempts t past ≡ 0
  pub failures : failures t past ≡ 0

stands_step : (g : Dag) (c : ConfValues) (past : Past) (x : ℕ × Config) → 0 < c.max_failed → ((t : TaskId) → IsBlank past t) → config x.0 past ≡ None
    → vertices_view g c (Stands (vertex x.0) x.1.tasks x.1.base ∷ past) ≡ configure_one (vertices_view g c past) x
stands_step g c past x some blank none =
    configured_by g c past (Stands (vertex x.0) x.1.tasks x.1.base ∷ past) x.0 (shape x.1.tasks x.1.base) none
    (ap (λ b. if b then Some (shape x.1.tasks x.1.base) else config x.0 past) (eq-eqb x.0 x.0 refl))
    (λ w e. ap (λ b. if b then Some (shape x.1.tasks x.1.base) else config w past) e) refl (λ u. refl)
    (λ i. new_view c past (task x.0 i) some (blank (task x.0 i)).live (blank (task x.0 i)).winner (blank (task x.0 i)).queued (blank (task x.0 i)).failures)

blank_stands : (past : Past) (v : _) (n b : ℕ) → ((t : TaskId) → IsBlank past t) → (t : TaskId) → IsBlank (Stands v n b ∷ past) t
blank_stands past v n b h t = record { live = (h t).live; winner = (h t).winner; queued = (h t).queued; failures = (h t).failures }

stands_again : (g : Dag) (c : ConfValues) (past : Past) (x : ℕ × Config) (s : Config) → config x.0 past ≡ Some s → configure_one (vertices_view g c past) x ≡ vertices_view g c past
stands_again g c past x s e =
    unchanged g c past x.0 (λ y. after_configure y x.1.tasks)
    (λ l. ap (λ b. if b then vertex_view c x.0 past else record (vertex_view c x.0 past) { configured = true; tasks = new_tasks (vertex_view c x.0 past) x.1.tasks }) (ap is_some e))

stands_outside : (g : Dag) (c : ConfValues) (past : Past) (x : ℕ × Config) → is_vertex g x.0 ≡ false → configure_one (vertices_view g c past) x ≡ vertices_view g c past
stands_outside g c past x e = unchanged g c past x.0 (λ y. after_configure y x.1.tasks) (λ l. absurd (outside x.0 (length g.vertices) l e)) where
  outside : (a b : ℕ) → a < b → nat_lt a b ≡ false → ⊥
  outside a b l h = grind (arith, nat_tests)

stands_all : (g : Dag) (c : ConfValues) (xs : List (ℕ × Config)) (past : Past) → 0 < c.max_failed → ((t : TaskId) → IsBlank past t)
    → vertices_view g c (extend past (each_after (stands_if g) past xs)) ≡ fold configure_one (vertices_view g c past) xs
stands_all g c [] past some blank = refl
stands_all g c (x ∷ xs) past some blank = by (λ p h. stands_all g c xs p some h) (config x.0 past) refl (is_vertex g x.0) refl where
  by : ((p : Past) → ((t : TaskId) → IsBlank p t) → vertices_view g c (extend p (each_after (stands_if g) p xs)) ≡ fold configure_one (vertices_view g c p) xs)
      → (o : Option Config) → config x.0 past ≡ o → (b : Bool) → is_vertex g x.0 ≡ b
      → vertices_view g c (extend past ((if is_none o && b then Stands (vertex x.0) x.1.tasks x.1.base ∷ [] else []) ++ each_after (stands_if g) (extend past (if is_none o && b then Stands (vertex x.0) x.1.tasks x.1.base ∷ [] else [])) xs))
      ≡ fold configure_one (configure_one (vertices_view g c past) x) xs
  by rest None e true k =
      rest (Stands (vertex x.0) x.1.tasks x.1.base ∷ past) (blank_stands past (vertex x.0) x.1.tasks x.1.base blank) ∙ ap (λ vs. fold configure_one vs xs) (stands_step g c past x some blank e)
  by rest None e false k = rest past blank ∙ ap (λ vs. fold configure_one vs xs) (sym (stands_outside g c past x k))
  by rest (Some s) e b k = rest past blank ∙ ap (λ vs. fold configure_one vs xs) (sym (stands_again g c past x s e))

blank_all : (g : Dag) (xs : List (ℕ × Config)) (past : Past) → ((t : TaskId) → IsBlank past t) → (t : TaskId) → IsBlank (extend past (each_after (stands_if g) past xs)) t
blank_all g [] past h t = h t
blank_all g (x ∷ xs) past h t = by (λ p k. blank_all g xs p k t) (is_none (config x.0 past) && is_vertex g x.0) where
  by : ((p : Past) → ((u : TaskId) → IsBlank p u) → IsBlank (extend p (each_after (stands_if g) p xs)) t) → (b : Bool)
      → IsBlank (extend past ((if b then Stands (vertex x.0) x.1.tasks x.1.base ∷ [] else []) ++ each_after (stands_if g) (extend past (if b then Stands (vertex x.0) x.1.tasks x.1.base ∷ [] else [])) xs)) t
  by rest true = rest (Stands (vertex x.0) x.1.tasks x.1.base ∷ past) (blank_stands past (vertex x.0) x.1.tasks x.1.base h)
  by rest false = rest past h

-- ---- a task is restored

changed_at : {X : Type 0} (b : Bool) (x y z : X) → (b ≡ true → x ≡ z) → (b ≡ false → y ≡ z) → (if b then x else y) ≡ z
changed_at true x y z h k = h refl
changed_at false x y z h k = k refl

pub record RestoresOne (c : ConfValues) (past later : Past) (t : TaskId) (f : ℕ) (w : Option AttemptId) : Type 0 where
  pub configs : (v : ℕ) → config v later ≡ config v past
  pub epochs : epoch later ≡ epoch past
  pub this : task_view c t later ≡ restored (task_view c t past) f w
  pub others : (u : TaskId) → same_task t u ≡ false → task_view c u later ≡ task_view c u past

module _ (c : ConfValues) (past later : Past) (t : TaskId) (f : ℕ) (w : Option AttemptId) (one : RestoresOne c past later t f w) where
  counted : (u : TaskId) → attempts u later ≡ attempts u past
  counted u = by (same_task t u) refl where
    by : (b : Bool) → same_task t u ≡ b → attempts u later ≡ attempts u past
    by true e = subst (λ x. attempts x later ≡ attempts x past) (same_task-true t u e) (ap (λ s. s.queued) one.this)
    by false e = ap (λ s. s.queued) (one.others u e)

  count : tasks_in (config t.vertex.0 later) ≡ tasks_in (config t.vertex.0 past)
  count = ap tasks_in (one.configs t.vertex.0)

  moved_same : has_moved t.vertex.0 past ≡ has_moved t.vertex.0 later
  moved_same =
      any_same (λ i. nat_lt 0 (attempts (task t.vertex.0 i) past)) (λ i. nat_lt 0 (attempts (task t.vertex.0 i) later)) 0 (tasks_in (config t.vertex.0 past)) (λ i. ap (nat_lt 0) (sym (counted (task t.vertex.0 i))))
      ∙ sym (ap (λ k. list_any (λ i. nat_lt 0 (attempts (task t.vertex.0 i) later)) (numbers_below k)) count)

  pub restored_here : (t.index < tasks_in (config t.vertex.0 past)) ⊎ (tasks_in (config t.vertex.0 past) ≤ t.index) → after_restore (vertex_view c t.vertex.0 past) t.index f w ≡ vertex_view c t.vertex.0 later
  restored_here (inl l) =
      let n = tasks_in (config t.vertex.0 past) in
      let s = task_view c t past in
      ap (restore_by (vertex_view c t.vertex.0 past) t.index f w) (get_below (λ i. task_view c (task t.vertex.0 i) past) n t.index l)
      ∙ same_vertex t.vertex.0 (epoch past) (epoch later) c.max_failed (is_configured t.vertex.0 past) (is_configured t.vertex.0 later)
      (slice_set (map (λ i. task_view c (task t.vertex.0 i) past) (numbers_below n)) t.index (restored s f w)) (map (λ i. task_view c (task t.vertex.0 i) later) (numbers_below (tasks_in (config t.vertex.0 later)))) (has_moved t.vertex.0 past) (has_moved t.vertex.0 later)
      (sym one.epochs) (ap is_some (sym (one.configs t.vertex.0)))
      (set_below (λ i. task_view c (task t.vertex.0 i) past) (restored s f w) n t.index
      ∙ map_below (λ i. if t.index == i then restored s f w else task_view c (task t.vertex.0 i) past) (λ i. task_view c (task t.vertex.0 i) later) 0 n
      (λ i _ _. changed_at (t.index == i) (restored s f w) (task_view c (task t.vertex.0 i) past) (task_view c (task t.vertex.0 i) later)
      (λ h. sym one.this ∙ ap (λ j. task_view c (task t.vertex.0 j) later) (eqb-true t.index i h))
      (λ h. sym (one.others (task t.vertex.0 i) (other_index t t.vertex.0 i refl h))))
      ∙ ap (λ k. map (λ i. task_view c (task t.vertex.0 i) later) (numbers_below k)) (sym count))
      moved_same
  restored_here (inr l) =
      let n = tasks_in (config t.vertex.0 past) in
      ap (restore_by (vertex_view c t.vertex.0 past) t.index f w) (get_above (λ i. task_view c (task t.vertex.0 i) past) n t.index l)
      ∙ same_vertex t.vertex.0 (epoch past) (epoch later) c.max_failed (is_configured t.vertex.0 past) (is_configured t.vertex.0 later)
      (map (λ i. task_view c (task t.vertex.0 i) past) (numbers_below n)) (map (λ i. task_view c (task t.vertex.0 i) later) (numbers_below (tasks_in (config t.vertex.0 later)))) (has_moved t.vertex.0 past) (has_moved t.vertex.0 later)
      (sym one.epochs) (ap is_some (sym (one.configs t.vertex.0)))
      (map_below (λ i. task_view c (task t.vertex.0 i) past) (λ i. task_view c (task t.vertex.0 i) later) 0 n (λ i _ b. sym (one.others (task t.vertex.0 i) (other_index t t.vertex.0 i refl (apart t.index i (tasks_in (config t.vertex.0 past)) l (omega arith)))))
      ∙ ap (λ k. map (λ i. task_view c (task t.vertex.0 i) later) (numbers_below k)) (sym count))
      moved_same
    where
      apart : (x y n : ℕ) → n ≤ x → y < n → (x == y) ≡ false
      apart x y n h k = grind (arith, nat_tests)

  pub others_stay : (v : ℕ) → (t.vertex.0 == v) ≡ false → vertex_view c v past ≡ vertex_view c v later
  others_stay v h = stay_vertex c past later v (one.configs v) one.epochs (λ i. one.others (task v i) (other_vertex t v i h))

-- ---- failures are carried over

few_by : (max n : ℕ) → nat_le max n ≡ false → n < max
few_by max n h = grind (arith, nat_tests)

spent_not : (max n : ℕ) → n < max → nat_le max n ≡ false
spent_not max n h = grind (arith, nat_tests)

carried_takes : (c : ConfValues) (past : Past) (t : TaskId) (n : ℕ) → failures t past < c.max_failed → winner t past ≡ None → n < c.max_failed → RestoresOne c past (Carried t n ∷ past) t n None
carried_takes c past t n few none below = record {
  configs = λ v. refl;
  epochs = refl;
  this = same_state t (epoch past) (epoch past) c.max_failed (live_view t past) (live_view t past) (winner t past) None (attempts t past) (attempts t past) (failures t (Carried t n ∷ past)) n
      (nat_le c.max_failed (failures t (Carried t n ∷ past))) (nat_le c.max_failed (failures t past)) refl refl none refl count
      (ap (nat_le c.max_failed) count ∙ spent_not c.max_failed n below ∙ sym (spent_not c.max_failed (failures t past) few));
  others = λ u h. other_view c past (Carried t n ∷ past) u refl refl (λ b e. refl) refl refl (ap (λ b. if b then n else failures u past) h);
} where
  count : failures t (Carried t n ∷ past) ≡ n
  count = ap (λ b. if b then n else failures t past) (same_task-refl t)

carry_step : (g : Dag) (c : ConfValues) (past : Past) (x : TaskId × ℕ) → failures x.0 past < c.max_failed → winner x.0 past ≡ None → x.1 < c.max_failed → vertices_view g c (Carried x.0 x.1 ∷ past) ≡ carry_one (vertices_view g c past) x
carry_step g c past x few none below =
    let one = carried_takes c past x.0 x.1 few none below in
    change_view g c past (Carried x.0 x.1 ∷ past) x.0.vertex.0 (λ s. after_restore s x.0.index x.1 None)
    (restored_here c past (Carried x.0 x.1 ∷ past) x.0 x.1 None one (cases_lt x.0.index (tasks_in (config x.0.vertex.0 past))))
    (others_stay c past (Carried x.0 x.1 ∷ past) x.0 x.1 None one)

first_unspent : (max : ℕ) (x : TaskId × ℕ) (xs : List (TaskId × ℕ)) → find (λ y. nat_le max y.1) (x ∷ xs) ≡ None → (nat_le max x.1 ≡ false) × (find (λ y. nat_le max y.1) xs ≡ None)
first_unspent max x xs h = by (nat_le max x.1) refl h where
  by : (b : Bool) → nat_le max x.1 ≡ b → (if b then Some x else find (λ y. nat_le max y.1) xs) ≡ None → (nat_le max x.1 ≡ false) × (find (λ y. nat_le max y.1) xs ≡ None)
  by true e k = cc
  by false e k = (e, k)

few_carried : (c : ConfValues) (past : Past) (s : TaskId) (n : ℕ) → FewFailures c past → n < c.max_failed → FewFailures c (Carried s n ∷ past)
few_carried c past s n few below t = by (same_task s t) where
  by : (b : Bool) → (if b then n else failures t past) < c.max_failed
  by true = below
  by false = few t

carried_all : (g : Dag) (c : ConfValues) (xs : List (TaskId × ℕ)) (past : Past) → FewFailures c past → ((t : TaskId) → winner t past ≡ None) → find (λ y. nat_le c.max_failed y.1) xs ≡ None
    → vertices_view g c (extend past (carried_entries xs)) ≡ fold carry_one (vertices_view g c past) xs
carried_all g c [] past few none h = refl
carried_all g c (x ∷ xs) past few none h =
    let k = first_unspent c.max_failed x xs h in
    let below = few_by c.max_failed x.1 k.0 in
    carried_all g c xs (Carried x.0 x.1 ∷ past) (few_carried c past x.0 x.1 few below) none k.1
    ∙ ap (λ vs. fold carry_one vs xs) (carry_step g c past x (few x.0) (none x.0) below)

-- ---- winners are kept

kept_takes : (c : ConfValues) (past : Past) (a : AttemptId) → RestoresOne c past (Kept a ∷ past) a.task (failures a.task past) (Some a)
kept_takes c past a = record {
  configs = λ v. refl;
  epochs = refl;
  this = same_state a.task (epoch past) (epoch past) c.max_failed (live_view a.task past) (live_view a.task past) (winner a.task (Kept a ∷ past)) (Some a) (attempts a.task past) (attempts a.task past) (failures a.task past) (failures a.task past)
      (nat_le c.max_failed (failures a.task past)) (nat_le c.max_failed (failures a.task past)) refl refl (ap (λ b. if b then Some a else winner a.task past) (same_task-refl a.task)) refl refl refl;
  others = λ u h. other_view c past (Kept a ∷ past) u refl refl (λ b e. refl) (ap (λ b. if b then Some a else winner u past) h) refl refl;
}

there : (g : Dag) (t : TaskId) (o : Option Config) (plan : Config) → (is_some o && nat_lt t.index (unwrap_or o plan).tasks) ≡ true → t.index < tasks_in o
there g t None plan h = cc
there g t (Some s) plan h = below t.index s.tasks h where
  below : (a b : ℕ) → nat_lt a b ≡ true → a < b
  below a b k = grind (arith, nat_tests)

away : (g : Dag) (t : TaskId) (o : Option Config) (plan : Config) → (is_some o && nat_lt t.index (unwrap_or o plan).tasks) ≡ false → tasks_in o ≤ t.index
away g t None plan h = omega arith
away g t (Some s) plan h = above t.index s.tasks h where
  above : (a b : ℕ) → nat_lt a b ≡ false → b ≤ a
  above a b k = grind (arith, nat_tests)

keep_step : (g : Dag) (c : ConfValues) (past : Past) (a : AttemptId) → is_task g past a.task ≡ true → vertices_view g c (Kept a ∷ past) ≡ keep_one (vertices_view g c past) a
keep_step g c past a is =
    let one = kept_takes c past a in
    let l = there g a.task (config a.task.vertex.0 past) (shape (planned g a.task.vertex.0) 1) is in
    let n = tasks_in (config a.task.vertex.0 past) in
    let count : failures_in (vertex_view c a.task.vertex.0 past) a.task.index ≡ failures a.task past =
    ap (λ o. option_map_or (λ t. t.failures) o 0) (get_below (λ i. task_view c (task a.task.vertex.0 i) past) n a.task.index l) in
    change_view g c past (Kept a ∷ past) a.task.vertex.0 (λ s. after_restore s a.task.index (failures_in s a.task.index) (Some a))
    (ap (λ f. after_restore (vertex_view c a.task.vertex.0 past) a.task.index f (Some a)) count ∙ restored_here c past (Kept a ∷ past) a.task (failures a.task past) (Some a) one (inl l))
    (others_stay c past (Kept a ∷ past) a.task (failures a.task past) (Some a) one)

keep_away : (g : Dag) (c : ConfValues) (past : Past) (a : AttemptId) → is_task g past a.task ≡ false → keep_one (vertices_view g c past) a ≡ vertices_view g c past
keep_away g c past a is =
    let l = away g a.task (config a.task.vertex.0 past) (shape (planned g a.task.vertex.0) 1) is in
    unchanged g c past a.task.vertex.0 (λ s. after_restore s a.task.index (failures_in s a.task.index) (Some a))
    (λ _. ap (restore_by (vertex_view c a.task.vertex.0 past) a.task.index (failures_in (vertex_view c a.task.vertex.0 past) a.task.index) (Some a))
    (get_above (λ i. task_view c (task a.task.vertex.0 i) past) (tasks_in (config a.task.vertex.0 past)) a.task.index l))

kept_all : (g : Dag) (c : ConfValues) (xs : List AttemptId) (past : Past) → vertices_view g c (extend past (each_after (kept_if g) past xs)) ≡ fold keep_one (vertices_view g c past) xs
kept_all g c [] past = refl
kept_all g c (a ∷ xs) past = by (λ p. kept_all g c xs p) (is_task g past a.task) refl where
  by : ((p : Past) → vertices_view g c (extend p (each_after (kept_if g) p xs)) ≡ fold keep_one (vertices_view g c p) xs) → (b : Bool) → is_task g past a.task ≡ b
      → vertices_view g c (extend past ((if b then Kept a ∷ [] else []) ++ each_after (kept_if g) (extend past (if b then Kept a ∷ [] else [])) xs)) ≡ fold keep_one (keep_one (vertices_view g c past) a) xs
  by rest true e = rest (Kept a ∷ past) ∙ ap (λ vs. fold keep_one vs xs) (keep_step g c past a e)
  by rest false e = rest past ∙ ap (λ vs. fold keep_one vs xs) (sym (keep_away g c past a e))

-- ---- a stop

stopped_one : (c : ConfValues) (past : Past) (cause : StopCause) (v : ℕ) → vertex_view c v (Stopped cause ∷ past) ≡ idle (vertex_view c v past)
stopped_one c past cause v = ap (λ ts. record (vertex_view c v past) { tasks = ts }) (sym (map_each idle_task (λ i. task_view c (task v i) past) 0 (tasks_in (config v past))))

pub stopped_step : (g : Dag) (c : ConfValues) (r : Run) (cause : StopCause) → vertices_view g c (stopped c r cause).past ≡ map idle (vertices_view g c r.past)
stopped_step g c r cause =
    map_below (λ v. vertex_view c v (Stopped cause ∷ r.past)) (λ v. idle (vertex_view c v r.past)) 0 (length g.vertices) (λ v _ _. stopped_one c r.past cause v)
    ∙ sym (map_each idle (λ v. vertex_view c v r.past) 0 (length g.vertices))

-- ---- a new master

restored_all : (g : Dag) (c : ConfValues) (past : Past) (s : Standing) → 0 < c.max_failed → spent_in c s ≡ None
    → vertices_view g c (extend (opened_at s past) (standing_entries g (opened_at s past) s)) ≡ restored_vertices g c (suc (max s.epoch (epoch past))) s
restored_all g c past s some few =
    let start = opened_at s past in
    let stands = each_after (stands_if g) start s.configured in
    let carried = carried_entries s.failed in
    let stood = extend start stands in
    let gone = extend stood carried in
    let kept = each_after (kept_if g) gone s.kept in
    let blank : (t : TaskId) → IsBlank start t = λ t. record { live = refl; winner = refl; queued = refl; failures = refl } in
    let still : (t : TaskId) → IsBlank stood t = blank_all g s.configured start blank in
    ap (vertices_view g c) (extend-append start stands (carried ++ kept) ∙ extend-append stood carried kept)
    ∙ kept_all g c s.kept gone
    ∙ ap (λ vs. fold keep_one vs s.kept)
    (carried_all g c s.failed stood (λ t. subst (λ n. n < c.max_failed) (sym (still t).failures) some) (λ t. (still t).winner) few
    ∙ ap (λ vs. fold carry_one vs s.failed) (stands_all g c s.configured start some blank))

pub opened_step : (g : Dag) (c : ConfValues) (r : Run) (s : Standing) → 0 < c.max_failed → spent_in c s ≡ None → vertices_view g c (opened_by g c r (Unfinished s)).past ≡ restored_vertices g c (suc (max s.epoch (epoch r.past))) s
opened_step g c r s some few = ap (λ o. vertices_view g c (opened_unless g r s o).past) few ∙ restored_all g c r.past s some few

-- a commit that is taken up changes nothing of it

committing_leaves : (g : Dag) (c : ConfValues) (past : Past) (n : ℕ) → vertices_view g c (extend past (committing_if g past n)) ≡ vertices_view g c past
committing_leaves g c past n = by (all_done g past && nat_le (recorded past) n) where
  by : (b : Bool) → vertices_view g c (extend past (if b then Committing n ∷ [] else [])) ≡ vertices_view g c past
  by true = refl
  by false = refl

pub taken_up_step : (g : Dag) (c : ConfValues) (r : Run) (s : Standing) (n : ℕ) → 0 < c.max_failed → spent_in c s ≡ None → vertices_view g c (opened_by g c r (Committed s n)).past ≡ restored_vertices g c (suc (max s.epoch (epoch r.past))) s
taken_up_step g c r s n some few =
    let start = opened_at s r.past in
    let stands = standing_entries g start s in
    ap (λ o. vertices_view g c (committed_unless g r s n o).past) few
    ∙ ap (vertices_view g c) (extend-append start stands (committing_if g (extend start stands) n))
    ∙ committing_leaves g c (extend start stands) n
    ∙ restored_all g c r.past s some few

-- ---- only tasks of configured vertices have failed

failed_carried : (g : Dag) (xs : List (TaskId × ℕ)) (past : Past) → ((x : TaskId × ℕ) → In x xs → is_task g past x.0 ≡ true) → FailedAreTasks g past → FailedAreTasks g (extend past (carried_entries xs))
failed_carried g [] past are h = h
failed_carried g (x ∷ xs) past are h = failed_carried g xs (Carried x.0 x.1 ∷ past) (λ y m. are y (inr m)) (λ u t a. by t a (h u t a) (same_task x.0 t) refl) where
  by : (t : TaskId) → is_task g past t ≡ false → failures t past ≡ 0 → (b : Bool) → same_task x.0 t ≡ b → (if b then x.1 else failures t past) ≡ 0
  by t a z false e = z
  by t a z true e = let never_so : false ≡ true = sym a ∙ subst (λ y. is_task g past y ≡ true) (same_task-true x.0 t e) (are x (inl refl)) in cc

failed_kept : (g : Dag) (xs : List AttemptId) (past : Past) → FailedAreTasks g past → FailedAreTasks g (extend past (each_after (kept_if g) past xs))
failed_kept g [] past h = h
failed_kept g (a ∷ xs) past h = by (λ p k. failed_kept g xs p k) (is_task g past a.task) where
  by : ((p : Past) → FailedAreTasks g p → FailedAreTasks g (extend p (each_after (kept_if g) p xs))) → (b : Bool)
      → FailedAreTasks g (extend past ((if b then Kept a ∷ [] else []) ++ each_after (kept_if g) (extend past (if b then Kept a ∷ [] else [])) xs))
  by rest true = rest (Kept a ∷ past) (λ u t z. h u t z)
  by rest false = rest past h

failed_standing : (g : Dag) (past : Past) (s : Standing) → StandsFailed g past s → FailedAreTasks g (extend (opened_at s past) (standing_entries g (opened_at s past) s))
failed_standing g past s k =
    let start = opened_at s past in
    let stands = each_after (stands_if g) start s.configured in
    let carried = carried_entries s.failed in
    let stood = extend start stands in
    let gone = extend stood carried in
    let kept = each_after (kept_if g) gone s.kept in
    let blank : (t : TaskId) → IsBlank stood t = blank_all g s.configured start (λ t. record { live = refl; winner = refl; queued = refl; failures = refl }) in
    subst (FailedAreTasks g) (sym (extend-append start stands (carried ++ kept) ∙ extend-append stood carried kept))
    (failed_kept g s.kept gone (failed_carried g s.failed stood k (λ u t a. (blank t).failures)))

failed_committing : (g : Dag) (past : Past) (n : ℕ) → FailedAreTasks g past → FailedAreTasks g (extend past (committing_if g past n))
failed_committing g past n h = by (all_done g past && nat_le (recorded past) n) where
  by : (b : Bool) → FailedAreTasks g (extend past (if b then Committing n ∷ [] else []))
  by true = λ u t a. h u t a
  by false = h

pub failed_start : (g : Dag) (c : ConfValues) (r : Run) (found : Found) → FailedStand g r.past found → FailedAreTasks g r.past → FailedAreTasks g (opened_by g c r found).past
failed_start g c r Begun k h = h
failed_start g c r AllDone k h = λ u t a. refl
failed_start g c r (Unfinished s) k h = by (spent_in c s) where
  by : (o : Option (TaskId × ℕ)) → FailedAreTasks g (opened_unless g r s o).past
  by (Some x) = h
  by None = failed_standing g r.past s k
failed_start g c r (Committed s n) k h = by (spent_in c s) where
  by : (o : Option (TaskId × ℕ)) → FailedAreTasks g (committed_unless g r s n o).past
  by (Some x) = h
  by None =
      let start = opened_at s r.past in
      let stands = standing_entries g start s in
      subst (FailedAreTasks g) (sym (extend-append start stands (committing_if g (extend start stands) n)))
      (failed_committing g (extend start stands) n (failed_standing g r.past s k))
