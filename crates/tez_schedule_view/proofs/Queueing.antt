-- Which tasks may be queued, and which is the first.
use Rattle.std.specs.Prelude.{◌≡◌, ◌⊎◌, ℕ, ◌+◌, ◌<◌, ◌≤◌, nat_lt, Bool, true, false, not, ◌&&◌, ◌==◌, if◌then◌else◌, cond, List, [], ◌∷◌, length, Option, Some, None, is_some, unwrap_or, option_and_then, refl}
use Rattle.std.specs.List.{find}
use Rattle.std.specs.Option.{option_map, option_map_or}
use Rattle.std.proofs.Common.{ap, sym, ◌∙◌, arith, subst, inl, inr, zero-add}
use Rattle.std.proofs.lemmas.Bool.{cases_lt}
use Rattle.std.proofs.lemmas.Bool.Decides.{nat_tests}
use Rattle.tez_ids.specs.declared.TaskId.{TaskId}
use Rattle.tez_ids.specs.Same.{task}
use Rattle.tez_lists.specs.Numbers.{numbers_from, In}
use Rattle.tez_plan.specs.Dag.{Dag, tasks_of as planned}
use Rattle.tez_conf.specs.declared.values.ConfValues.{ConfValues}
use Rattle.tez_vman.specs.declared.seen.Config.{Config}
use Rattle.tez_vman.specs.Rules.{config as shape}
use Rattle.tez_events.specs.declared.CoreEvent.TheVariants.{Queue}
use Rattle.tez_history.specs.Shape.{Feed, ByFile, ByVertex, ByPartitions, feed, vertices, numbers_below}
use Rattle.tez_history.specs.History.{Past, config, is_scheduled}
use Rattle.tez_history.specs.Derived.{is_configured, is_task, task_count, tasks, tasks_if, greatest_to_schedule, scheduled_count}
use Rattle.tez_history.specs.Steps.{enabled, is_running, is_first_without, may_queue as may_queue_now, may_queue_by, some_queue}
use Rattle.tez_history.specs.Follows.{IsMade}
use Rattle.tez_laws.proofs.StepLaw.{both, below}
use Rattle.tez_laws.proofs.Ranges.{scheduled_is_task}
use Rattle.tez_laws.proofs.Feeding.{from-below}
use Rattle.tez_schedule.specs.Planned.{feeder_by}
use Rattle.tez_schedule.specs.Table.{how_many, flag, tasks_by, is_open, first_open, next_task, is_number, may_queue_in, may_queue, next_at, next_queue, greatest_at, vertex_at}
use Rattle.tez_schedule_view.specs.View.{schedule_view, progress_view, fed_view, has_winner, FitsPlan}
use Rattle.tez_schedule_view.proofs.Lists.{get-here, get-beyond, get-replicate, length-each, find-map, find-same, find-flat, find-fewer, find-nothing, count-fewer, found-passes, found-again, not_less}
use Rattle.tez_schedule_view.proofs.Seeing.{unplanned}

-- ---- the tasks that are open

-- whether a vertex that is fed so has what task i waits for
abbrev fed_now : Past → Feed → ℕ → Bool
fed_now past ByFile i = true
fed_now past (ByVertex u) i = has_winner past (task u i)
fed_now past ByPartitions i = true

few_tasks : (o : Option Config) (plan : Config) → tasks_by o ≤ (unwrap_or o plan).tasks
few_tasks None plan = omega arith
few_tasks (Some s) plan = omega arith

fed_flag : (g : Dag) (past : Past) (v i : ℕ) (f : Feed) → i < planned g v → flag (fed_view g past v f) i ≡ fed_now past f i
fed_flag g past v i ByFile low = ap (λ o. unwrap_or o false) (get-replicate true (planned g v) i low)
fed_flag g past v i (ByVertex u) low = ap (λ o. unwrap_or o false) (get-here (λ j. has_winner past (task u j)) (planned g v) i low)
fed_flag g past v i ByPartitions low = ap (λ o. unwrap_or o false) (get-replicate true (planned g v) i low)

open_now : (g : Dag) (c : ConfValues) (past : Past) → FitsPlan g past → (v i : ℕ) → i < tasks_by (config v past) → is_open (progress_view g c past v) i ≡ (fed_now past (feed g v) i && not (is_scheduled (task v i) past))
open_now g c past fits v i low =
    let few = few_tasks (config v past) (shape (planned g v) 1) in
    let fit : task_count g v past ≤ planned g v = fits v in
    let there : i < planned g v = omega (arith, low, few, fit) in
    let less : nat_lt i (tasks_by (config v past)) ≡ true = grind (arith, nat_tests) in
    ap (λ b. b && (flag (fed_view g past v (feed g v)) i && not (flag (progress_view g c past v).scheduled i))) less
    ∙ ap (λ b. b && not (flag (progress_view g c past v).scheduled i)) (fed_flag g past v i (feed g v) there)
    ∙ ap (λ o. fed_now past (feed g v) i && not (unwrap_or o false)) (get-here (λ j. is_scheduled (task v j) past) (planned g v) i there)

not_open : (g : Dag) (c : ConfValues) (past : Past) (v i : ℕ) → tasks_by (config v past) ≤ i → is_open (progress_view g c past v) i ≡ false
not_open g c past v i high =
    ap (λ b. b && (flag (fed_view g past v (feed g v)) i && not (flag (progress_view g c past v).scheduled i))) (not_less i (tasks_by (config v past)) high)

first_is : (g : Dag) (c : ConfValues) (past : Past) → FitsPlan g past → (v : ℕ) → first_open (progress_view g c past v) ≡ find (is_open (progress_view g c past v)) (numbers_from 0 (tasks_by (config v past)))
first_is g c past fits v =
    let few = few_tasks (config v past) (shape (planned g v) 1) in
    let fit : task_count g v past ≤ planned g v = fits v in
    find-fewer (is_open (progress_view g c past v)) 0 (tasks_by (config v past)) (planned g v) (omega (arith, few, fit)) (λ i l. not_open g c past v i (subst (λ n. n ≤ i) (zero-add (tasks_by (config v past))) l))

-- ---- how many are scheduled

none_scheduled : (g : Dag) (c : ConfValues) (past : Past) → IsMade g c past → (v i : ℕ) → task_count g v past ≤ i → is_scheduled (task v i) past ≡ false
none_scheduled g c past m v i high = by (is_scheduled (task v i) past) refl where
  by : (b : Bool) → is_scheduled (task v i) past ≡ b → is_scheduled (task v i) past ≡ false
  by false e = e
  by true e =
      let low : i < task_count g v past = below i (task_count g v past) (both {x = is_configured v past} (scheduled_is_task g c past m (task v i) e)).1 in
      absurd (omega (arith, low, high))

scheduled_same : (g : Dag) (c : ConfValues) (past : Past) → IsMade g c past → FitsPlan g past → (v : ℕ) → how_many (progress_view g c past v).scheduled ≡ scheduled_count g v past
scheduled_same g c past m fits v =
    count-fewer (λ i. is_scheduled (task v i) past) 0 (task_count g v past) (planned g v) (fits v) (λ i l. none_scheduled g c past m v i (subst (λ n. n ≤ i) (zero-add (task_count g v past)) l))

-- ---- a task

task_is : (o : Option Config) (plan : Config) (i : ℕ) → nat_lt i (tasks_by o) ≡ (is_some o && nat_lt i (unwrap_or o plan).tasks)
task_is None plan i = not_less i 0 (omega arith)
task_is (Some s) plan i = refl

turned : (x y z : Bool) → (x && (y && z)) ≡ (x && (z && y))
turned true true true = refl
turned true true false = refl
turned true false true = refl
turned true false false = refl
turned false y z = refl

first_without : (has : ℕ → Bool) (i : ℕ) (xs : List ℕ) → is_first_without has xs i ≡ is_number i (find (λ j. not (has j)) xs)
first_without has i [] = refl
first_without has i (x ∷ xs) = by (has x) (first_without has i xs) where
  by : (b : Bool) → is_first_without has xs i ≡ is_number i (find (λ j. not (has j)) xs) → (if b then is_first_without has xs i else x == i) ≡ is_number i (cond (not b) (Some x) (find (λ j. not (has j)) xs))
  by true ih = ih
  by false ih = refl

none_more : (x y z : Bool) → (x && (y && (z && false))) ≡ false
none_more true true true = refl
none_more true true false = refl
none_more true false z = refl
none_more false y z = refl

never : (i : ℕ) (more : Bool) → is_number i (if more then None else None) ≡ false
never i true = refl
never i false = refl

-- the next task of a vertex that is not fed one to one, as the model tells it
next_told : (has : ℕ → Bool) (i : ℕ) (more : Bool) (plan : Config) (o : Option Config)
    → is_number i (if more then find (λ j. not (has j)) (numbers_from 0 (tasks_by o)) else None)
    ≡ ((is_some o && nat_lt i (unwrap_or o plan).tasks) && (not (has i) && (is_first_without has (numbers_below (unwrap_or o plan).tasks) i && more)))
next_told has i more plan None = never i more
next_told has i false plan (Some s) = sym (none_more (nat_lt i s.tasks) (not (has i)) (is_first_without has (numbers_below s.tasks) i))
next_told has i true plan (Some s) =
    by (is_number i (find (λ j. not (has j)) (numbers_from 0 s.tasks))) refl
    ∙ ap (λ b. nat_lt i s.tasks && (not (has i) && (b && true))) (sym (first_without has i (numbers_below s.tasks)))
  where
    less : i < 0 + s.tasks → nat_lt i s.tasks ≡ true
    less h = grind (arith, nat_tests)

    by : (b : Bool) → is_number i (find (λ j. not (has j)) (numbers_from 0 s.tasks)) ≡ b
        → is_number i (find (λ j. not (has j)) (numbers_from 0 s.tasks)) ≡ (nat_lt i s.tasks && (not (has i) && (is_number i (find (λ j. not (has j)) (numbers_from 0 s.tasks)) && true)))
    by true e =
        let r = found-passes (λ j. not (has j)) 0 s.tasks i e in
        e ∙ sym (ap (λ b. b && (not (has i) && (is_number i (find (λ j. not (has j)) (numbers_from 0 s.tasks)) && true))) (less r.1)
        ∙ ap (λ b. b && (is_number i (find (λ j. not (has j)) (numbers_from 0 s.tasks)) && true)) r.2 ∙ ap (λ b. b && true) e)
    by false e = e ∙ sym (ap (λ b. nat_lt i s.tasks && (not (has i) && (b && true))) e ∙ none_of (nat_lt i s.tasks) (not (has i))) where
      none_of : (x y : Bool) → (x && (y && (false && true))) ≡ false
      none_of true true = refl
      none_of true false = refl
      none_of false y = refl

-- a vertex that nothing feeds one to one: whether a task of it may be queued
alone_by : (g : Dag) (c : ConfValues) (past : Past) → IsMade g c past → FitsPlan g past → (v i : ℕ) → ((j : ℕ) → fed_now past (feed g v) j ≡ true)
    → is_number i (if nat_lt (how_many (progress_view g c past v).scheduled) (greatest_to_schedule g c v past) then first_open (progress_view g c past v) else None)
    ≡ (is_task g past (task v i)
    && (not (is_scheduled (task v i) past)
    && (is_first_without (λ j. is_scheduled (task v j) past) (numbers_below (task_count g v past)) i && nat_lt (scheduled_count g v past) (greatest_to_schedule g c v past))))
alone_by g c past m fits v i fed =
    ap (λ n. is_number i (if nat_lt n (greatest_to_schedule g c v past) then first_open (progress_view g c past v) else None)) (scheduled_same g c past m fits v)
    ∙ ap (λ o. is_number i (if nat_lt (scheduled_count g v past) (greatest_to_schedule g c v past) then o else None))
    (first_is g c past fits v
    ∙ find-same (is_open (progress_view g c past v)) (λ j. not (is_scheduled (task v j) past)) (numbers_from 0 (tasks_by (config v past)))
    (λ j k. open_now g c past fits v j (from-below (tasks_by (config v past)) j k) ∙ ap (λ b. b && not (is_scheduled (task v j) past)) (fed j)))
    ∙ next_told (λ j. is_scheduled (task v j) past) i (nat_lt (scheduled_count g v past) (greatest_to_schedule g c v past)) (shape (planned g v) 1) (config v past)

-- a vertex that is fed so: whether a task of it may be queued
queued_by : (g : Dag) (c : ConfValues) (past : Past) → IsMade g c past → FitsPlan g past → (v i : ℕ) (f : Feed) → feed g v ≡ f
    → (if is_some (feeder_by f) then is_open (progress_view g c past v) i
    else is_number i (if (if is_some (feeder_by f) then true else nat_lt (how_many (progress_view g c past v).scheduled) (greatest_to_schedule g c v past)) then first_open (progress_view g c past v) else None))
    ≡ (is_task g past (task v i) && (not (is_scheduled (task v i) past) && may_queue_by g c f past (task v i)))
queued_by g c past m fits v i (ByVertex u) is =
    by (cases_lt i (tasks_by (config v past)))
  where
    by : (i < tasks_by (config v past)) ⊎ (tasks_by (config v past) ≤ i)
        → is_open (progress_view g c past v) i ≡ (is_task g past (task v i) && (not (is_scheduled (task v i) past) && has_winner past (task u i)))
    by (inl low) =
        let less : nat_lt i (tasks_by (config v past)) ≡ true = grind (arith, nat_tests) in
        open_now g c past fits v i low ∙ ap (λ h. fed_now past h i && not (is_scheduled (task v i) past)) is
        ∙ turned true (has_winner past (task u i)) (not (is_scheduled (task v i) past))
        ∙ ap (λ b. b && (not (is_scheduled (task v i) past) && has_winner past (task u i))) (sym less ∙ task_is (config v past) (shape (planned g v) 1) i)
    by (inr high) =
        not_open g c past v i high
        ∙ ap (λ b. b && (not (is_scheduled (task v i) past) && has_winner past (task u i))) (sym (not_less i (tasks_by (config v past)) high) ∙ task_is (config v past) (shape (planned g v) 1) i)
queued_by g c past m fits v i ByFile is = alone_by g c past m fits v i (λ j. ap (λ h. fed_now past h j) is)
queued_by g c past m fits v i ByPartitions is = alone_by g c past m fits v i (λ j. ap (λ h. fed_now past h j) is)

pub queued_in : (g : Dag) (c : ConfValues) (past : Past) → IsMade g c past → FitsPlan g past → (v i : ℕ) → may_queue_in (greatest_to_schedule g c v past) (progress_view g c past v) i ≡ may_queue_now g c past (task v i)
queued_in g c past m fits v i = queued_by g c past m fits v i (feed g v) refl

greatest_here : (g : Dag) (c : ConfValues) (past : Past) (v : ℕ) → v < length g.vertices → greatest_at (schedule_view g c past) v ≡ greatest_to_schedule g c v past
greatest_here g c past v low = ap (λ o. unwrap_or o 0) (get-here (λ w. greatest_to_schedule g c w past) (length g.vertices) v low)

vertex_here : (g : Dag) (c : ConfValues) (past : Past) (v : ℕ) → v < length g.vertices → vertex_at (schedule_view g c past) v ≡ Some (progress_view g c past v)
vertex_here g c past v low = get-here (progress_view g c past) (length g.vertices) v low

pub may_queue_same : (g : Dag) (c : ConfValues) (past : Past) → IsMade g c past → FitsPlan g past → (t : TaskId) → may_queue (schedule_view g c past) t ≡ may_queue_now g c past t
may_queue_same g c past m fits t = by (cases_lt t.vertex.0 (length g.vertices)) where
  by : (t.vertex.0 < length g.vertices) ⊎ (length g.vertices ≤ t.vertex.0) → may_queue (schedule_view g c past) t ≡ may_queue_now g c past t
  by (inl low) =
      ap (λ o. option_map_or (λ x. may_queue_in (greatest_at (schedule_view g c past) t.vertex.0) x t.index) o false) (vertex_here g c past t.vertex.0 low)
      ∙ ap (λ n. may_queue_in n (progress_view g c past t.vertex.0) t.index) (greatest_here g c past t.vertex.0 low) ∙ queued_in g c past m fits t.vertex.0 t.index
  by (inr high) =
      ap (λ o. option_map_or (λ x. may_queue_in (greatest_at (schedule_view g c past) t.vertex.0) x t.index) o false) (get-beyond (progress_view g c past) (length g.vertices) t.vertex.0 high)
      ∙ sym (ap (λ o. (is_some o && nat_lt t.index (task_count g t.vertex.0 past)) && (not (is_scheduled t past) && may_queue_by g c (feed g t.vertex.0) past t)) (unplanned g c past m t.vertex.0 high).0)

-- ---- the first

-- the first task of a vertex that may be queued is the next one
next_in : (g : Dag) (c : ConfValues) (past : Past) → FitsPlan g past → (v most : ℕ)
    → find (may_queue_in most (progress_view g c past v)) (numbers_from 0 (tasks_by (config v past))) ≡ next_task most (progress_view g c past v)
next_in g c past fits v most = by (is_some (progress_view g c past v).feeder) where
  first : Option ℕ
  first = first_open (progress_view g c past v)

  row : List ℕ
  row = numbers_from 0 (tasks_by (config v past))

  alone : (more : Bool) → find (λ i. is_number i (if more then first_open (progress_view g c past v) else None)) (numbers_from 0 (tasks_by (config v past))) ≡ (if more then first_open (progress_view g c past v) else None)
  alone true =
      ap (λ o. find (λ i. is_number i o) (numbers_from 0 (tasks_by (config v past)))) (first_is g c past fits v)
      ∙ found-again (is_open (progress_view g c past v)) 0 (tasks_by (config v past)) ∙ sym (first_is g c past fits v)
  alone false = find-nothing (numbers_from 0 (tasks_by (config v past)))

  by : (fed : Bool)
      → find (λ i. if fed then is_open (progress_view g c past v) i else is_number i (if (if fed then true else nat_lt (how_many (progress_view g c past v).scheduled) most) then first_open (progress_view g c past v) else None))
      (numbers_from 0 (tasks_by (config v past)))
      ≡ (if (if fed then true else nat_lt (how_many (progress_view g c past v).scheduled) most) then first_open (progress_view g c past v) else None)
  by true = sym (first_is g c past fits v)
  by false = alone (nat_lt (how_many (progress_view g c past v).scheduled) most)

row_of : (p : TaskId → Bool) (v : ℕ) (o : Option Config) → find p (tasks_if o v) ≡ option_map (task v) (find (λ i. p (task v i)) (numbers_from 0 (tasks_by o)))
row_of p v None = refl
row_of p v (Some s) = find-map p (task v) (numbers_below s.tasks)

next_here : (g : Dag) (c : ConfValues) (past : Past) → IsMade g c past → FitsPlan g past → (v : ℕ) → v < length g.vertices → find (may_queue_now g c past) (tasks_if (config v past) v) ≡ next_at (schedule_view g c past) v
next_here g c past m fits v low =
    row_of (may_queue_now g c past) v (config v past)
    ∙ ap (option_map (task v))
    (find-same (λ i. may_queue_now g c past (task v i)) (may_queue_in (greatest_to_schedule g c v past) (progress_view g c past v)) (numbers_from 0 (tasks_by (config v past))) (λ i _. sym (queued_in g c past m fits v i))
    ∙ next_in g c past fits v (greatest_to_schedule g c v past)
    ∙ ap (λ n. next_task n (progress_view g c past v)) (sym (greatest_here g c past v low))
    ∙ ap (option_and_then (next_task (greatest_at (schedule_view g c past) v))) (sym (vertex_here g c past v low)))

-- a function of what is found, where it is what is found elsewhere
found_then : {X Y : Type 0} (f h : X → Option Y) (xs : List X) → ((x : X) → In x xs → f x ≡ h x) → option_and_then f (find (λ x. is_some (f x)) xs) ≡ option_and_then h (find (λ x. is_some (h x)) xs)
found_then f h [] s = refl
found_then {X} {Y} f h (x ∷ xs) s = here (f x) (h x) refl refl (s x (inl refl)) (found_then f h xs (λ y i. s y (inr i))) where
  here : (o p : Option Y) → f x ≡ o → h x ≡ p → f x ≡ h x → option_and_then f (find (λ y. is_some (f y)) xs) ≡ option_and_then h (find (λ y. is_some (h y)) xs)
      → option_and_then f (cond (is_some (f x)) (Some x) (find (λ y. is_some (f y)) xs)) ≡ option_and_then h (cond (is_some (h x)) (Some x) (find (λ y. is_some (h y)) xs))
  here None p e k same ih =
      ap (λ o. option_and_then f (cond (is_some o) (Some x) (find (λ y. is_some (f y)) xs))) e ∙ ih
      ∙ sym (ap (λ o. option_and_then h (cond (is_some o) (Some x) (find (λ y. is_some (h y)) xs))) (sym same ∙ e))
  here (Some y) p e k same ih =
      ap (λ o. option_and_then f (cond (is_some o) (Some x) (find (λ z. is_some (f z)) xs))) e ∙ same
      ∙ sym (ap (λ o. option_and_then h (cond (is_some o) (Some x) (find (λ z. is_some (h z)) xs))) (sym same ∙ e))

first_queued : (g : Dag) (c : ConfValues) (past : Past) → IsMade g c past → FitsPlan g past → find (may_queue_now g c past) (tasks g past) ≡ next_queue (schedule_view g c past)
first_queued g c past m fits =
    find-flat (may_queue_now g c past) (λ v. tasks_if (config v past) v) (vertices g)
    ∙ found_then (λ v. find (may_queue_now g c past) (tasks_if (config v past) v)) (next_at (schedule_view g c past)) (vertices g) (λ v i. next_here g c past m fits v (from-below (length g.vertices) v i))
    ∙ ap (λ n. option_and_then (next_at (schedule_view g c past)) (find (λ v. is_some (next_at (schedule_view g c past) v)) (numbers_from 0 n))) (sym (length-each (progress_view g c past) 0 (length g.vertices)))

pub next_queue_same : (g : Dag) (c : ConfValues) (past : Past) → IsMade g c past → FitsPlan g past → is_running past ≡ true → option_map Queue (next_queue (schedule_view g c past)) ≡ find (enabled g c past) (some_queue g past)
next_queue_same g c past m fits runs =
    ap (option_map Queue) (sym (first_queued g c past m fits) ∙ find-same (may_queue_now g c past) (λ t. enabled g c past (Queue t)) (tasks g past) (λ t _. ap (λ b. b && may_queue_now g c past t) (sym runs)))
    ∙ sym (find-map (enabled g c past) Queue (tasks g past))
