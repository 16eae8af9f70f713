-- The victim of the pool is the model's first attempt that may give way.
use Rattle.std.specs.Prelude.{◌≡◌, ◌⊎◌, ℕ, zero, suc, ◌+◌, ◌<◌, ◌≤◌, nat_lt, Bool, true, false, not, ◌&&◌, ◌==◌, cond, if◌then◌else◌, List, [], ◌∷◌, length, reverse, Option, Some, None, IfSome, IfNone, option_and_then, unwrap_or, is_some, position, refl}
use Rattle.std.specs.List.{filter, flat_map, find, list_any, AllByRecursion}
use Rattle.std.specs.Option.{option_map}
use Rattle.std.specs.declared.cmp.Ordering.{Ordering}
use Rattle.std.specs.declared.cmp.Ordering.TheVariants.{Less, Equal, Greater}
use Rattle.std.specs.Ordering.{nat_cmp, is_gt, ordering_then, ordering_reverse}
use Rattle.std.specs.Cmp.Lexicographic.{nat_list_cmp_total}
use Rattle.std.proofs.Common.{ap, sym, ◌∙◌, subst, arith, inl, inr, get_or, eqb-true}
use Rattle.std.proofs.lemmas.Bool.{and_parts, or_cases}
use Rattle.std.proofs.lemmas.Bool.Decides.{nat_tests}
use Rattle.std.proofs.lemmas.Map.Lookups.{exact_bytes}
use Rattle.std.proofs.lemmas.Option.{same_Some}
use Rattle.tez_ids.specs.declared.TaskId.{TaskId}
use Rattle.tez_ids.specs.declared.AttemptId.{AttemptId}
use Rattle.tez_ids.specs.Same.{task, attempt}
use Rattle.tez_lists.specs.Numbers.{In}
use Rattle.tez_lists.proofs.Cases.{both as not_both_ways}
use Rattle.tez_lists.proofs.Flat.{in-filter-out}
use Rattle.tez_lists.proofs.Members.{in_filter, in_map, in_flat_map}
use Rattle.tez_plan.specs.declared.parts.EdgeSpec.{EdgeSpec}
use Rattle.tez_plan.specs.Dag.{Dag, from, to, tasks_of as planned}
use Rattle.tez_plan.specs.Order.{depth, EndsPath}
use Rattle.tez_plan.specs.Faults.{IsValid}
use Rattle.tez_plan.proofs.RankLemmas.{ranked}
use Rattle.tez_plan.proofs.DepthLemmas.{depth_is}
use Rattle.tez_conf.specs.declared.values.ConfValues.{ConfValues}
use Rattle.tez_vman.specs.declared.seen.Config.{Config}
use Rattle.tez_vman.specs.Rules.{config as shape}
use Rattle.tez_events.specs.declared.CoreEvent.TheVariants.{Place, Preempt}
use Rattle.tez_history.specs.Shape.{numbers_below, vertices, places}
use Rattle.tez_history.specs.History.{Past, Stage, Unknown, InQueue, Waits, Runs, Ended, stage, live, holder, container_of, config, epoch}
use Rattle.tez_history.specs.Derived.{tasks, tasks_if, is_queued, is_waiting, is_processing, live_attempts, waiting_attempts, queued_attempts, any_free, is_free as free_in, is_shallower_queued}
use Rattle.tez_history.specs.Steps.{enabled, is_running, of_depth, by_depth, places_of, some_place, some_preempt}
use Rattle.tez_history.specs.Follows.{IsMade}
use Rattle.tez_laws.specs.Laws.{place_in}
use Rattle.tez_laws.proofs.OneLive.{one_live, waiting_alive}
use Rattle.tez_laws.proofs.Tasks.{live_task}
use Rattle.tez_laws.proofs.Ranges.{live_scheduled, scheduled_is_task}
use Rattle.tez_laws.proofs.Places.{known, alive_known, held, stands}
use Rattle.tez_pool.specs.Table.{is_free}
use Rattle.tez_pool.specs.Victim.{IsGreatest, candidate, candidates, compare, deeper, depth_of, rank}
use Rattle.tez_pool_view.specs.View.{held_by, place_view, pool_view, place_for, IsLeastQueued}
use Rattle.tez_pool_view.proofs.Holding.{place_with}
use Rattle.tez_pool_view.proofs.Reading.{alive_vertex, first_free}
use Rattle.tez_master_model.proofs.Pairs.{in-flat-out, in-map-out, in-filter-passes, in-filter_map-out, in_filter_map, in_numbers, in_reverse, Pairwise, pairwise-flat, pairwise-numbers, pairwise-filter, pairwise-filter_map, pairwise-refine, find-reverse, last_of, last_some, last_none, IsLast, either_of, find-append, in-numbers-out, find-map, find-same, find-nowhere, any_in, any_none, any_found}

-- ---- no path of a valid plan is as long as the plan

at_edge : (p : Dag) (u v : ℕ) (P : ℕ → Type 0) (es : List EdgeSpec) → AllByRecursion (λ e. P (from p e)) (filter (λ e. to p e == v) es) → list_any (λ e. (from p e == u) && (to p e == v)) es ≡ true → P u
at_edge p u v P [] all h = cc
at_edge p u v P (e ∷ es) all h = by (λ a k. at_edge p u v P es a k) (to p e == v) refl all (or_cases ((from p e == u) && (to p e == v)) (list_any (λ d. (from p d == u) && (to p d == v)) es) h) where
  by : (AllByRecursion (λ d. P (from p d)) (filter (λ d. to p d == v) es) → list_any (λ d. (from p d == u) && (to p d == v)) es ≡ true → P u) → (b : Bool) → (to p e == v) ≡ b
      → AllByRecursion (λ d. P (from p d)) (if b then e ∷ filter (λ d. to p d == v) es else filter (λ d. to p d == v) es)
      → (((from p e == u) && (to p e == v)) ≡ true) ⊎ (list_any (λ d. (from p d == u) && (to p d == v)) es ≡ true) → P u
  by rest true t those (inl k) = subst P (eqb-true (from p e) u (and_parts _ _ k).0) those.0
  by rest true t those (inr k) = rest those.1 k
  by rest false t those (inl k) = absurd (not_both_ways (and_parts _ _ k).1 t)
  by rest false t those (inr k) = rest those k

path_rank : (p : Dag) (valid : IsValid p) (n v : ℕ) → EndsPath p n v → n ≤ (ranked p valid).rank_of v
path_rank p valid zero v path = omega arith
path_rank p valid (suc n) v path =
    let rest = path_rank p valid n path.0 path.2 in
    let lower = at_edge p path.0 v (λ u. (ranked p valid).rank_of u < (ranked p valid).rank_of v) p.edges ((ranked p valid).falls v) path.1 in
    omega (arith, rest, lower)

depth_below : (p : Dag) (v : ℕ) → IsValid p → v < length p.vertices → depth p v < length p.vertices
depth_below p v valid inside =
    let most = path_rank p valid (depth p v) v (depth_is p valid v inside).path in
    let below = (ranked p valid).below v inside in
    omega (arith, most, below)

-- ---- the order of attempts

less_first : (x y : ℕ) (o : Ordering) → x < y → is_gt (ordering_then (nat_cmp x y) o) ≡ false
less_first x y o l = ap (λ b. is_gt (ordering_then (cond b Less (cond (x == y) Equal Greater)) o)) t where
  t : nat_lt x y ≡ true
  t = grind (arith, nat_tests)

same_first : (x y : ℕ) (o : Ordering) → x ≡ y → is_gt o ≡ false → is_gt (ordering_then (nat_cmp x y) o) ≡ false
same_first x y o e h = ap (λ b. is_gt (ordering_then (cond b Less (cond (x == y) Equal Greater)) o)) t ∙ ap (λ b. is_gt (ordering_then (cond b Equal Greater) o)) s ∙ h where
  t : nat_lt x y ≡ false
  t = grind (arith, nat_tests)

  s : (x == y) ≡ true
  s = grind (arith, nat_tests)

-- an attempt is no greater than another
abbrev IsUpTo : Dag → AttemptId → AttemptId → Type 0
IsUpTo g a b = is_gt (compare g a b) ≡ false

abbrev IsBefore : TaskId → TaskId → Type 0
IsBefore s t = (s.vertex.0 < t.vertex.0) ⊎ ((s.vertex.0 ≡ t.vertex.0) × (s.index < t.index))

deeper_later : (g : Dag) (a b : AttemptId) → depth_of g a < depth_of g b → IsUpTo g a b
deeper_later g a b l = less_first (depth_of g a) (depth_of g b) _ l

task_later : (g : Dag) (a b : AttemptId) → depth_of g a ≡ depth_of g b → a.epoch.0 ≡ b.epoch.0 → IsBefore a.task b.task → IsUpTo g a b
task_later g a b d e (inl l) = same_first (depth_of g a) (depth_of g b) _ d (same_first a.epoch.0 b.epoch.0 _ e (less_first a.task.vertex.0 b.task.vertex.0 _ l))
task_later g a b d e (inr k) =
    same_first (depth_of g a) (depth_of g b) _ d (same_first a.epoch.0 b.epoch.0 _ e (same_first a.task.vertex.0 b.task.vertex.0 _ k.0 (less_first a.task.index b.task.index _ k.1)))

equal_of : (o r : Ordering) → o ≡ ordering_reverse r → is_gt o ≡ false → is_gt r ≡ false → o ≡ Equal
equal_of Equal r e h k = refl
equal_of Greater r e h k = cc
equal_of Less Less e h k = cc
equal_of Less Equal e h k = cc
equal_of Less Greater e h k = cc

same_rank : (g : Dag) (a b : AttemptId) → rank g a ≡ rank g b → a ≡ b
same_rank g a b e =
    let epoch_same : a.epoch.0 ≡ b.epoch.0 = ap (λ l. get_or l 1 0) e in
    let vertex_same : a.task.vertex.0 ≡ b.task.vertex.0 = ap (λ l. get_or l 2 0) e in
    let index_same : a.task.index ≡ b.task.index = ap (λ l. get_or l 3 0) e in
    let number_same : a.number ≡ b.number = ap (λ l. get_or l 4 0) e in
    rebuilt a.epoch.0 b.epoch.0 a.task.vertex.0 b.task.vertex.0 a.task.index b.task.index a.number b.number epoch_same vertex_same index_same number_same
  where
    rebuilt : (e f v w i j n m : ℕ) → e ≡ f → v ≡ w → i ≡ j → n ≡ m → attempt e (task v i) n ≡ attempt f (task w j) m
    rebuilt e f v w i j n m p q r s = cc

only_greatest : (g : Dag) (a b : AttemptId) → IsUpTo g a b → IsUpTo g b a → a ≡ b
only_greatest g a b h k =
    same_rank g a b (exact_bytes (rank g a) (rank g b) (equal_of (compare g a b) (compare g b a) (nat_list_cmp_total.antisymm (rank g a) (rank g b)) h k))

-- ---- the waiting attempts

in_waiting_out : (g : Dag) (past : Past) (a : AttemptId) → In a (waiting_attempts g past) → is_waiting (stage a past) ≡ true
in_waiting_out g past a m = in-filter-passes (λ b. is_waiting (stage b past)) a (live_attempts g past) m

task_in : (g : Dag) (past : Past) (t : TaskId) (o : Option Config) (plan : Config) → o ≡ o → (is_some o && nat_lt t.index (unwrap_or o plan).tasks) ≡ true → In t (tasks_if o t.vertex.0)
task_in g past t None plan e h = cc
task_in g past t (Some s) plan e h = in_map (task t.vertex.0) t.index (numbers_below s.tasks) (in_numbers 0 s.tasks t.index (omega arith) (let b : t.index < s.tasks = below t.index s.tasks h in omega arith)) where
  below : (a b : ℕ) → nat_lt a b ≡ true → a < b
  below a b h = grind (arith, nat_tests)

in_waiting : (g : Dag) (c : ConfValues) (past : Past) (a : AttemptId) → IsMade g c past → a.task.vertex.0 < length g.vertices → is_waiting (stage a past) ≡ true → In a (waiting_attempts g past)
in_waiting g c past a m inside w =
    let lives = one_live g c past m a (waiting_alive (stage a past) w) in
    let there = scheduled_is_task g c past m a.task (live_scheduled g c past m a.task a lives) in
    let listed : In a.task (tasks g past) =
    in_flat_map (λ v. tasks_if (config v past) v) a.task.vertex.0 a.task (vertices g) (in_numbers 0 (length g.vertices) a.task.vertex.0 (omega arith) (omega (arith, inside)))
    (task_in g past a.task (config a.task.vertex.0 past) (shape (planned g a.task.vertex.0) 1) refl there) in
    in_filter (λ b. is_waiting (stage b past)) a (live_attempts g past) (in_filter_map (λ t. live t past) a.task a (tasks g past) listed lives) w

tasks_before : (g : Dag) (past : Past) → Pairwise IsBefore (tasks g past)
tasks_before g past = pairwise-flat IsBefore (λ v. tasks_if (config v past) v) (λ v. each v (config v past)) (λ u v s t l m k. cross u v s t l (config u past) (config v past) m k) 0 (length g.vertices) where
  each : (v : ℕ) (o : Option Config) → Pairwise IsBefore (tasks_if o v)
  each v None = tt
  each v (Some s) = pairwise-numbers IsBefore (task v) (λ i j l. inr (refl, l)) 0 s.tasks

  of_vertex : (v : ℕ) (t : TaskId) (o : Option Config) → In t (tasks_if o v) → t.vertex.0 ≡ v
  of_vertex v t None m = absurd m
  of_vertex v t (Some s) m = let r = in-map-out (task v) t (numbers_below s.tasks) m in ap (λ x. x.vertex.0) r.2

  cross : (u v : ℕ) (s t : TaskId) → u < v → (o p : Option Config) → In s (tasks_if o u) → In t (tasks_if p v) → IsBefore s t
  cross u v s t l o p m k = let e = of_vertex u s o m in let f = of_vertex v t p k in inl (omega (arith, l, e, f))

waiting_before : (g : Dag) (past : Past) → Pairwise (λ a b. IsBefore a.task b.task) (waiting_attempts g past)
waiting_before g past =
    pairwise-filter (λ a b. IsBefore a.task b.task) (λ a. is_waiting (stage a past)) (live_attempts g past)
    (pairwise-filter_map IsBefore (λ a b. IsBefore a.task b.task) (λ t. live t past)
    (λ s t a b l e f. subst (λ x. IsBefore x b.task) (sym (live_task past s a e)) (subst (λ y. IsBefore s y) (sym (live_task past t b f)) l)) (tasks g past) (tasks_before g past))

-- of the same depth, in order of tasks
depth_is_of : (g : Dag) (xs : List AttemptId) (d : ℕ) (a : AttemptId) → In a (of_depth g xs d) → depth_of g a ≡ d
depth_is_of g xs d a m = eqb-true (depth_of g a) d (in-filter-passes (λ b. depth g b.task.vertex.0 == d) a xs m)

in_order : (g : Dag) (c : ConfValues) (past : Past) → IsMade g c past → Pairwise (IsUpTo g) (by_depth g (waiting_attempts g past))
in_order g c past m =
    let ws = waiting_attempts g past in
    pairwise-flat (IsUpTo g) (of_depth g ws)
    (λ d. pairwise-refine (λ a b. IsBefore a.task b.task) (IsUpTo g) (of_depth g ws d)
    (λ a b i j l. task_later g a b (depth_is_of g ws d a i ∙ sym (depth_is_of g ws d b j)) (same_epoch a b (out d a i) (out d b j)) l)
    (pairwise-filter (λ a b. IsBefore a.task b.task) (λ a. depth g a.task.vertex.0 == d) ws (waiting_before g past)))
    (λ d f a b l i j. deeper_later g a b (let x = depth_is_of g ws d a i in let y = depth_is_of g ws f b j in omega (arith, l, x, y))) 0 (length g.vertices)
  where
    out : (d : ℕ) (a : AttemptId) → In a (of_depth g (waiting_attempts g past) d) → is_waiting (stage a past) ≡ true
    out d a i = in_waiting_out g past a (in-filter-out (λ b. depth g b.task.vertex.0 == d) a (waiting_attempts g past) i)

    epoch_of : (a : AttemptId) → is_waiting (stage a past) ≡ true → a.epoch.0 ≡ epoch past
    epoch_of a w = (known g c past m a (alive_known (stage a past) (waiting_alive (stage a past) w))).0

    same_epoch : (a b : AttemptId) → is_waiting (stage a past) ≡ true → is_waiting (stage b past) ≡ true → a.epoch.0 ≡ b.epoch.0
    same_epoch a b w x = epoch_of a w ∙ sym (epoch_of b x)

by_depth_out : (g : Dag) (past : Past) (a : AttemptId) → In a (by_depth g (waiting_attempts g past)) → is_waiting (stage a past) ≡ true
by_depth_out g past a m =
    let r = in-flat-out (of_depth g (waiting_attempts g past)) a (vertices g) m in
    in_waiting_out g past a (in-filter-out (λ b. depth g b.task.vertex.0 == r.0) a (waiting_attempts g past) r.2)

waits_placed : (s : Stage) → is_waiting s ≡ true → (p : ℕ) × (s ≡ Waits p)
waits_placed (Waits p) h = (p, refl)
waits_placed InQueue h = cc
waits_placed (Runs p) h = cc
waits_placed Unknown h = cc
waits_placed Ended h = cc

by_depth_in : (g : Dag) (c : ConfValues) (past : Past) (a : AttemptId) → IsValid g → IsMade g c past → is_waiting (stage a past) ≡ true → In a (by_depth g (waiting_attempts g past))
by_depth_in g c past a valid m w =
    let at = waits_placed (stage a past) w in
    let inside = alive_vertex g c past a at.0 m (ap place_in at.1) in
    let deep = depth_below g a.task.vertex.0 valid inside in
    in_flat_map (of_depth g (waiting_attempts g past)) (depth_of g a) a (vertices g) (in_numbers 0 (length g.vertices) (depth_of g a) (omega arith) (omega (arith, deep)))
    (in_filter (λ b. depth g b.task.vertex.0 == depth_of g a) a (waiting_attempts g past) (in_waiting g c past a m inside w) (itself (depth_of g a)))
  where
    itself : (n : ℕ) → (n == n) ≡ true
    itself n = grind (arith, nat_tests)

-- ---- the candidates

candidate_at : (g : Dag) (d k : ℕ) (past : Past) (o : Option AttemptId) (a : AttemptId) → candidate g d (place_with k (held_by past o)) ≡ Some a → (o ≡ Some a) × (is_processing (stage a past) ≡ false) × (nat_lt d (depth_of g a) ≡ true)
candidate_at g d k past None a h = cc
candidate_at g d k past (Some b) a h = by (is_processing (stage b past)) refl h where
  deep : (x : Bool) → nat_lt d (depth_of g b) ≡ x → (if x then Some b else None) ≡ Some a → (Some b ≡ Some a) × (nat_lt d (depth_of g a) ≡ true)
  deep true f q = let s : b ≡ a = cc in (q, ap (λ y. nat_lt d (depth_of g y)) (sym s) ∙ f)
  deep false f q = cc

  by : (r : Bool) → is_processing (stage b past) ≡ r → option_and_then (deeper g d) (if r then None else Some b) ≡ Some a → (Some b ≡ Some a) × (is_processing (stage a past) ≡ false) × (nat_lt d (depth_of g a) ≡ true)
  by true e q = cc
  by false e q =
      let r = deep (nat_lt d (depth_of g b)) refl q in
      let s : b ≡ a = same_Some b a r.0 in
      (r.0, ap (λ y. is_processing (stage y past)) (sym s) ∙ e, r.1)

still_waits : (s : Stage) (p : ℕ) → place_in s ≡ Some p → is_processing s ≡ false → is_waiting s ≡ true
still_waits (Waits q) p e h = refl
still_waits (Runs q) p e h = cc
still_waits InQueue p e h = cc
still_waits Unknown p e h = cc
still_waits Ended p e h = cc

candidate_out : (g : Dag) (c : ConfValues) (past : Past) (d : ℕ) (a : AttemptId) → IsMade g c past → In a (candidates g d (pool_view c past).places) → (is_waiting (stage a past) ≡ true) × (nat_lt d (depth_of g a) ≡ true)
candidate_out g c past d a m h =
    let r = in-filter_map-out (candidate g d) a (pool_view c past).places h in
    let q = in-map-out (place_view c past) r.0 (numbers_below (places c)) r.1 in
    let k = candidate_at g d (container_of c q.0 past) past (holder q.0 past) a (ap (candidate g d) (sym q.2) ∙ r.2) in
    (still_waits (stage a past) q.0 (held g c past m q.0 a k.0) k.1, k.2)

candidate_is : (g : Dag) (d k : ℕ) (past : Past) (o : Option AttemptId) (a : AttemptId) (p : ℕ) → o ≡ Some a → stage a past ≡ Waits p → nat_lt d (depth_of g a) ≡ true → candidate g d (place_with k (held_by past o)) ≡ Some a
candidate_is g d k past o a p e w t =
    ap (λ x. candidate g d (place_with k (held_by past x))) e
    ∙ ap (λ s. option_and_then (deeper g d) (if is_processing s then None else Some a)) w ∙ ap (λ b. if b then Some a else None) t

candidate_in : (g : Dag) (c : ConfValues) (past : Past) (d : ℕ) (a : AttemptId) → IsMade g c past → is_waiting (stage a past) ≡ true → nat_lt d (depth_of g a) ≡ true → In a (candidates g d (pool_view c past).places)
candidate_in g c past d a m w t =
    let at = waits_placed (stage a past) w in
    let s = stands g c past m at.0 a (ap place_in at.1) in
    in_filter_map (candidate g d) (place_view c past at.0) a (pool_view c past).places
    (in_map (place_view c past) at.0 (numbers_below (places c)) (in_numbers 0 (places c) at.0 (omega arith) (omega (arith, s.1))))
    (candidate_is g d (container_of c at.0 past) past (holder at.0 past) a at.0 s.0 at.1 t)

-- ---- the choice

empty : (a : AttemptId) (xs : List AttemptId) → xs ≡ [] → In a xs → ⊥
empty a xs e m = subst (In a) e m

pub victim_found : (g : Dag) (c : ConfValues) (past : Past) (d : ℕ) (o : Option AttemptId) → IsValid g → IsMade g c past → IfSome o (IsGreatest g (candidates g d (pool_view c past).places)) → IfNone o (candidates g d (pool_view c past).places ≡ [])
    → find (λ a. nat_lt d (depth_of g a)) (reverse (by_depth g (waiting_attempts g past))) ≡ o
victim_found g c past d o valid m best none = find-reverse (λ a. nat_lt d (depth_of g a)) (by_depth g (waiting_attempts g past)) ∙ by o best none (last_of (λ a. nat_lt d (depth_of g a)) (by_depth g (waiting_attempts g past))) refl where
  by : (o : Option AttemptId) → IfSome o (IsGreatest g (candidates g d (pool_view c past).places)) → IfNone o (candidates g d (pool_view c past).places ≡ [])
      → (l : Option AttemptId) → last_of (λ a. nat_lt d (depth_of g a)) (by_depth g (waiting_attempts g past)) ≡ l → last_of (λ a. nat_lt d (depth_of g a)) (by_depth g (waiting_attempts g past)) ≡ o
  by None b n None e = e
  by (Some u) b n None e =
      let k = candidate_out g c past d u m b.among in
      let no_pass : nat_lt d (depth_of g u) ≡ false = last_none (λ a. nat_lt d (depth_of g a)) (by_depth g (waiting_attempts g past)) e u (by_depth_in g c past u valid m k.0) in
      cc
  by o b n (Some v) e = e ∙ at o b n where
    l : IsLast (IsUpTo g) (λ a. nat_lt d (depth_of g a)) (by_depth g (waiting_attempts g past)) v
    l = last_some (IsUpTo g) (λ a. nat_lt d (depth_of g a)) (by_depth g (waiting_attempts g past)) v (in_order g c past m) e

    among : In v (candidates g d (pool_view c past).places)
    among = candidate_in g c past d v m (by_depth_out g past v l.among) l.passes

    at : (o : Option AttemptId) → IfSome o (IsGreatest g (candidates g d (pool_view c past).places)) → IfNone o (candidates g d (pool_view c past).places ≡ []) → Some v ≡ o
    at None b n = absurd (empty v (candidates g d (pool_view c past).places) n among)
    at (Some u) b n =
        let k = candidate_out g c past d u m b.among in
        ap Some (same (l.latest u (by_depth_in g c past u valid m k.0) k.1)) where
          same : (u ≡ v) ⊎ IsUpTo g u v → v ≡ u
          same (inl s) = sym s
          same (inr s) = only_greatest g v u (b.greatest v among) s

shallower : (g : Dag) (past : Past) (d n : ℕ) → IsLeastQueued g past d → is_shallower_queued g past n ≡ nat_lt d n
shallower g past d n least = by (nat_lt d n) refl where
  deeper_all : (a : AttemptId) → In a (queued_attempts g past) → nat_lt d n ≡ false → nat_lt (depth g a.task.vertex.0) n ≡ false
  deeper_all a i e = let k = least.least a i in above (depth g a.task.vertex.0) d n k e where
    above : (x y z : ℕ) → y ≤ x → nat_lt y z ≡ false → nat_lt x z ≡ false
    above x y z l f = grind (arith, nat_tests)

  by : (b : Bool) → nat_lt d n ≡ b → is_shallower_queued g past n ≡ b
  by true e = any_in (λ a. nat_lt (depth g a.task.vertex.0) n) least.some.0 (queued_attempts g past) least.some.1 (ap (λ k. nat_lt k n) least.some.2 ∙ e)
  by false e = any_none (λ a. nat_lt (depth g a.task.vertex.0) n) (queued_attempts g past) (λ a i. deeper_all a i e)

pub preempt_choice : (g : Dag) (c : ConfValues) (past : Past) (d : ℕ) (o : Option AttemptId) → IsValid g → IsMade g c past → is_running past ≡ true → any_free c past ≡ false → IsLeastQueued g past d
    → IfSome o (IsGreatest g (candidates g d (pool_view c past).places)) → IfNone o (candidates g d (pool_view c past).places ≡ []) → find (enabled g c past) (some_preempt g past) ≡ option_map Preempt o
preempt_choice g c past d o valid m runs full least best none =
    find-map (enabled g c past) Preempt (reverse (by_depth g (waiting_attempts g past)))
    ∙ ap (option_map Preempt)
    (find-same (λ a. enabled g c past (Preempt a)) (λ a. nat_lt d (depth_of g a)) (reverse (by_depth g (waiting_attempts g past))) (λ a i. tells a (by_depth_out g past a (in_reverse a (by_depth g (waiting_attempts g past)) i)))
    ∙ victim_found g c past d o valid m best none)
  where
    tells : (a : AttemptId) → is_waiting (stage a past) ≡ true → enabled g c past (Preempt a) ≡ nat_lt d (depth_of g a)
    tells a w =
        let deep = shallower g past d (depth g a.task.vertex.0) least in
        ap (λ b. b && (is_waiting (stage a past) && (not (any_free c past) && is_shallower_queued g past (depth g a.task.vertex.0)))) runs
        ∙ ap (λ b. b && (not (any_free c past) && is_shallower_queued g past (depth g a.task.vertex.0))) w
        ∙ ap (λ b. not b && is_shallower_queued g past (depth g a.task.vertex.0)) full ∙ deep

and_false : (x y : Bool) → y ≡ false → (x && y) ≡ false
and_false true y e = e
and_false false y e = refl

pub preempt_none : (g : Dag) (c : ConfValues) (past : Past) → ((n : ℕ) → (not (any_free c past) && is_shallower_queued g past n) ≡ false) → find (enabled g c past) (some_preempt g past) ≡ None
preempt_none g c past h =
    find-map (enabled g c past) Preempt (reverse (by_depth g (waiting_attempts g past)))
    ∙ ap (option_map Preempt)
    (find-nowhere (λ a. enabled g c past (Preempt a)) (reverse (by_depth g (waiting_attempts g past)))
    (λ a. and_false (is_running past) _ (and_false (is_waiting (stage a past)) _ (h (depth g a.task.vertex.0)))))

pub preempt_free : (g : Dag) (c : ConfValues) (past : Past) → any_free c past ≡ true → find (enabled g c past) (some_preempt g past) ≡ None
preempt_free g c past e = preempt_none g c past (λ n. ap (λ b. not b && is_shallower_queued g past n) e)

pub preempt_unqueued : (g : Dag) (c : ConfValues) (past : Past) → queued_attempts g past ≡ [] → find (enabled g c past) (some_preempt g past) ≡ None
preempt_unqueued g c past e = preempt_none g c past (λ n. and_false (not (any_free c past)) _ (ap (list_any (λ a. nat_lt (depth g a.task.vertex.0) n)) e))

pub full_or_free : (c : ConfValues) (past : Past) → any_free c past ≡ is_some (position is_free (pool_view c past).places)
full_or_free c past = any_found (free_in past) (numbers_below (places c)) ∙ ap is_some (sym (first_free c past))

-- ---- a free place

place_of_one : (g : Dag) (c : ConfValues) (past : Past) (a : AttemptId) → is_running past ≡ true → is_queued (stage a past) ≡ true
    → find (enabled g c past) (places_of c a) ≡ option_map (Place a) (find (free_in past) (numbers_below (places c)))
place_of_one g c past a runs queued =
    find-map (enabled g c past) (Place a) (numbers_below (places c))
    ∙ ap (option_map (Place a)) (find-same (λ p. enabled g c past (Place a p)) (free_in past) (numbers_below (places c)) (λ p i. tells p (inside p (in-numbers-out 0 (places c) p i).1)))
  where
    inside : (p : ℕ) → p < 0 + places c → nat_lt p (places c) ≡ true
    inside p l = grind (arith, nat_tests)

    tells : (p : ℕ) → nat_lt p (places c) ≡ true → enabled g c past (Place a p) ≡ free_in past p
    tells p there =
        ap (λ b. b && (is_queued (stage a past) && (nat_lt p (places c) && free_in past p))) runs
        ∙ ap (λ b. b && (nat_lt p (places c) && free_in past p)) queued ∙ ap (λ b. b && free_in past p) there

place_of_all : (g : Dag) (c : ConfValues) (past : Past) (xs : List AttemptId) → is_running past ≡ true → ((a : AttemptId) → In a xs → is_queued (stage a past) ≡ true)
    → find (enabled g c past) (flat_map (places_of c) xs) ≡ place_for xs (find (free_in past) (numbers_below (places c)))
place_of_all g c past [] runs queued = refl
place_of_all g c past (a ∷ xs) runs queued =
    find-append (enabled g c past) (places_of c a) (flat_map (places_of c) xs) ∙ ap (λ o. either_of o (find (enabled g c past) (flat_map (places_of c) xs))) (place_of_one g c past a runs (queued a (inl refl)))
    ∙ by (place_of_all g c past xs runs (λ b i. queued b (inr i))) (find (free_in past) (numbers_below (places c))) refl
  where
    none_for : (ys : List AttemptId) → place_for ys None ≡ None
    none_for [] = refl
    none_for (y ∷ ys) = refl

    by : (find (enabled g c past) (flat_map (places_of c) xs) ≡ place_for xs (find (free_in past) (numbers_below (places c)))) → (o : Option ℕ) → find (free_in past) (numbers_below (places c)) ≡ o
        → either_of (option_map (Place a) o) (find (enabled g c past) (flat_map (places_of c) xs)) ≡ option_map (Place a) o
    by ih (Some p) e = refl
    by ih None e = ih ∙ ap (place_for xs) e ∙ none_for xs

pub place_choice : (g : Dag) (c : ConfValues) (past : Past) → is_running past ≡ true → find (enabled g c past) (some_place g c past) ≡ place_for (by_depth g (queued_attempts g past)) (position is_free (pool_view c past).places)
place_choice g c past runs =
    place_of_all g c past (by_depth g (queued_attempts g past)) runs (λ a i. queued a i) ∙ ap (place_for (by_depth g (queued_attempts g past))) (sym (first_free c past))
  where
    queued : (a : AttemptId) → In a (by_depth g (queued_attempts g past)) → is_queued (stage a past) ≡ true
    queued a i =
        let r = in-flat-out (of_depth g (queued_attempts g past)) a (vertices g) i in
        in-filter-passes (λ b. is_queued (stage b past)) a (live_attempts g past) (in-filter-out (λ b. depth g b.task.vertex.0 == r.0) a (queued_attempts g past) r.2)
