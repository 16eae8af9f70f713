-- A master that stands for a history: who is queued holds no place, who processes is at a task, and a vertex can have its tasks.
use Rattle.std.specs.Prelude.{◌≡◌, ℕ, zero, suc, ◌*◌, ◌<◌, ◌≤◌, ◌^◌, ◌==◌, nat_lt, nat_le, Bool, true, false, if◌then◌else◌, List, [], ◌∷◌, map, length, slice_get, Option, Some, None, IfSome, is_none, is_some, unwrap_or, refl}
use Rattle.std.specs.List.{enumerate_from, AllByRecursion}
use Rattle.std.specs.Option.{option_map, option_map_or}
use Rattle.std.proofs.Common.{ap, sym, ◌∙◌, arith, subst, inl, inr}
use Rattle.std.proofs.Math.Nat.{div-le_self}
use Rattle.std.proofs.lemmas.Nat.{mul-le}
use Rattle.std.proofs.lemmas.Bool.Decides.{nat_tests}
use Rattle.std.proofs.lemmas.Option.{same_Some}
use Rattle.tez_ids.specs.declared.TaskId.{TaskId}
use Rattle.tez_ids.specs.declared.VertexId.{VertexId}
use Rattle.tez_ids.specs.declared.AttemptId.{AttemptId}
use Rattle.tez_plan.specs.Dag.{Dag, from, to, tasks_of as planned}
use Rattle.tez_plan.specs.Ranges.{IsInRanges, vertex_in_range, is_within, most_tasks}
use Rattle.tez_plan.specs.declared.parts.VertexSpec.{VertexSpec}
use Rattle.tez_plan.specs.declared.parts.Movement.{Movement}
use Rattle.tez_plan.specs.declared.parts.Movement.TheVariants.{OneToOne, Broadcast, ScatterGather}
use Rattle.tez_conf.specs.declared.values.ConfValues.{ConfValues}
use Rattle.tez_shrink.specs.Formulas.{base_of}
use Rattle.tez_vman.specs.declared.seen.Config.{Config}
use Rattle.tez_vman.specs.Rules.{config as shape, configures as configures_by, Shuffling, has_enough, shrunk}
use Rattle.tez_events.specs.declared.Entry.TheVariants.{Configured}
use Rattle.tez_events.specs.declared.CoreEvent.TheVariants.{Configure}
use Rattle.tez_history.specs.Shape.{Feed, ByFile, ByVertex, ByPartitions, feed, rule_by, is_vertex}
use Rattle.tez_history.specs.History.{Past, Stage, Unknown, InQueue, Waits, Runs, Ended, stage, config, is_up}
use Rattle.tez_history.specs.Derived.{configures, seen, source_tasks, is_task as is_task_at, is_configured, task_count, shape_of, is_queued as is_queued_at}
use Rattle.tez_history.specs.Steps.{enabled, is_running}
use Rattle.tez_history.specs.Follows.{IsMade}
use Rattle.tez_laws.proofs.StepLaw.{both, below, event_may}
use Rattle.tez_laws.proofs.OneLive.{running_alive}
use Rattle.tez_laws.proofs.Ranges.{configured_is_vertex}
use Rattle.tez_progress.proofs.Fitting.{planned_some}
use Rattle.tez_progress.proofs.Configured.{fits_next}
use Rattle.tez_progress.proofs.Members.{all_at}
use Rattle.tez_lists.specs.Numbers.{In}
use Rattle.tez_vertex_view.proofs.Telling.{alive_there}
use Rattle.tez_pool.specs.Table.{place_held}
use Rattle.tez_pool_view.specs.View.{pool_view, standing}
use Rattle.tez_pool_view.proofs.Reading.{read_place}
use Rattle.tez_router.specs.State.{LinkState}
use Rattle.tez_router.specs.Configure.{CanSetEdges, FitsRouting, FitsParts, CanConfigure}
use Rattle.tez_router_view.specs.View.{router_view, link_view, links_view, routing_for}
use Rattle.tez_router_view.proofs.Ordering.{vertex_below}
use Rattle.tez_router_view.proofs.Keeping.{event_fits, fits_configured}
use Rattle.tez_router_view.proofs.Told.{configured}
use Rattle.tez_schedule.specs.Table.{configures_at, is_task, tasks_by}
use Rattle.tez_schedule.specs.State.{VertexState}
use Rattle.tez_schedule_view.specs.View.{schedule_view, progress_view}
use Rattle.tez_schedule_view.proofs.Lists.{get-here}
use Rattle.tez_schedule_view.proofs.Seeing.{configures_same}
use Rattle.tez_master_model.specs.Read.{is_queued, processes}
use Rattle.tez_master_view.specs.View.{master_view}
use Rattle.tez_master_view.specs.Laws.{Goes}
use Rattle.tez_master_model.specs.Steady.{IsSteady, CanHaveConfig}
use Rattle.tez_master_view.proofs.Configure.{links_set}
use Rattle.tez_master_view.proofs.TaskReadings.{queued_read, processes_read}
use Rattle.tez_master_view.proofs.Takes.{takes}

-- ---- who is queued

queued_nowhere : (s : Stage) → is_queued_at s ≡ true → standing s ≡ None
queued_nowhere InQueue h = refl
queued_nowhere Unknown h = cc
queued_nowhere (Waits p) h = cc
queued_nowhere (Runs p) h = cc
queued_nowhere Ended h = cc

none_mapped : {X : Type 0} (f : ℕ → X) (o : Option ℕ) → option_map f o ≡ None → o ≡ None
none_mapped f None h = refl
none_mapped f (Some p) h = cc

unplaced : (g : Dag) (c : ConfValues) (past : Past) → IsMade g c past → (a : AttemptId) → is_queued (master_view g c past) a ≡ true → place_held (pool_view c past).places a ≡ None
unplaced g c past m a h =
    let waits : is_queued_at (stage a past) ≡ true = sym (queued_read g c past a m) ∙ h in
    none_mapped _ (place_held (pool_view c past).places a) (read_place g c past a m ∙ queued_nowhere (stage a past) waits)

-- ---- who processes

task_told : (o : Option Config) (n i : ℕ) → is_some o ≡ true → nat_lt i (unwrap_or o (shape n 1)).tasks ≡ true → nat_lt i (tasks_by o) ≡ true
task_told None n i h k = cc
task_told (Some s) n i h k = k

task_known : (g : Dag) (c : ConfValues) (past : Past) → IsMade g c past → (t : TaskId) → is_task_at g past t ≡ true → is_task (schedule_view g c past) t ≡ true
task_known g c past m t is =
    let k = both {x = is_configured t.vertex.0 past} is in
    ap (λ o. option_map_or (λ (x : VertexState). nat_lt t.index (tasks_by x.config)) o false)
    (get-here (progress_view g c past) (length g.vertices) t.vertex.0 (below t.vertex.0 (length g.vertices) (configured_is_vertex g c past m t.vertex.0 k.0)))
    ∙ task_told (config t.vertex.0 past) (planned g t.vertex.0) t.index k.0 k.1

known : (g : Dag) (c : ConfValues) (past : Past) → IsMade g c past → (a : AttemptId) → processes (master_view g c past) a ≡ true → is_task (schedule_view g c past) a.task ≡ true
known g c past m a h = task_known g c past m a.task (alive_there g c past a m (running_alive (stage a past) (sym (processes_read g c past a m) ∙ h)))

-- ---- the tasks of the plan

in_slice : {X : Type 0} (xs : List X) (i : ℕ) (x : X) → slice_get xs i ≡ Some x → In x xs
in_slice [] i x h = cc
in_slice (y ∷ xs) zero x h = inl (let e : y ≡ x = same_Some y x h in sym e)
in_slice (y ∷ xs) (suc i) x h = inr (in_slice xs i x h)

at_most : (a b : ℕ) → nat_le a b ≡ true → a ≤ b
at_most a b h = grind (arith, nat_tests)

few_tasks : (s : VertexSpec) → vertex_in_range s ≡ true → s.tasks ≤ most_tasks
few_tasks s h = let k : is_within 1 most_tasks s.tasks ≡ true = (both (both (both (both (both h).0).0).0).0).1 in at_most s.tasks most_tasks (both k).1

planned_few : (g : Dag) (v : ℕ) → IsInRanges g → planned g v ≤ most_tasks
planned_few g v ranges = by (slice_get g.vertices v) refl where
  by : (o : Option VertexSpec) → slice_get g.vertices v ≡ o → option_map_or (λ s. s.tasks) o 0 ≤ most_tasks
  by (Some s) e = few_tasks s (all_at vertex_in_range s g.vertices ranges.vertices (in_slice g.vertices v s e))
  by None e = omega arith

-- ---- a base takes a partition, and no more than there are

abbrev IsBased : ℕ → Config → Type 0
IsBased p s = (1 ≤ s.base) × (s.base ≤ p)

by_one : (p n : ℕ) → 1 ≤ p → IsBased p (shape n 1)
by_one p n some = (omega arith, some)

based_same : (p : ℕ) (x s : Config) → Some x ≡ Some s → IsBased p x → IsBased p s
based_same p x s h b = subst (IsBased p) (same_Some x s h) b

base_between : (p w : ℕ) → 1 ≤ p → (1 ≤ base_of p w) × (base_of p w ≤ p)
base_between p w some = let low = div-le_self p w in (omega arith, omega arith)

based_vertex : (ready : Bool) (p n : ℕ) (s : Config) → 1 ≤ p → (if ready then Some (shape n 1) else None) ≡ Some s → IsBased p s
based_vertex true p n s some h = based_same p (shape n 1) s h (by_one p n some)
based_vertex false p n s some h = cc

based_parts : (auto enough : Bool) (p n : ℕ) (x s : Config) → 1 ≤ p → IsBased p x → (if auto then (if enough then Some x else None) else Some (shape n 1)) ≡ Some s → IsBased p s
based_parts true true p n x s some b h = based_same p x s h b
based_parts true false p n x s some b h = cc
based_parts false enough p n x s some b h = based_same p (shape n 1) s h (by_one p n some)

based : (g : Dag) (c : ConfValues) (v : ℕ) (past : Past) (s : Config) → 1 ≤ planned g v → configures g c v past ≡ Some s → IsBased (planned g v) s
based g c v past s some h = by (feed g v) h where
  by : (f : Feed) → configures_by (rule_by g c v f) (seen g v past) ≡ Some s → IsBased (planned g v) s
  by ByFile k = based_same (planned g v) (shape (planned g v) 1) s k (by_one (planned g v) (planned g v) some)
  by (ByVertex u) k = based_vertex (seen g v past).configured (planned g v) (source_tasks g v past) s some k
  by ByPartitions k =
      let r : Shuffling = record { parts = planned g v; auto_parallel = c.auto_parallel; min_src = c.min_src; max_src = c.max_src; desired_bytes = c.desired_bytes; min_tasks = c.min_tasks } in
      based_parts c.auto_parallel (has_enough r (seen g v past)) (planned g v) (planned g v) (shrunk r (seen g v past)) s some (base_between (planned g v) _ some) k

-- ---- the partitions of the edges at the vertex

product_fits : (a b : ℕ) → a ≤ most_tasks → b ≤ most_tasks → a * b < 2 ^ 32
product_fits a b h k = let most : a * b ≤ most_tasks * most_tasks = mul-le a b most_tasks most_tasks h k in omega arith

is_number : (d e : ℕ) → (d == e) ≡ true → d ≡ e
is_number d e h = grind (arith, nat_tests)

all_mapped : {X Y : Type 0} (P : Y → Type 0) (f : X → Y) (xs : List X) → ((x : X) → P (f x)) → AllByRecursion P (map f xs)
all_mapped P f [] h = tt
all_mapped P f (x ∷ xs) h = (h x, all_mapped P f xs h)

fits_by : (x : Movement) (v : ℕ) (s : Config) (l : LinkState) (i j p b : ℕ) → s.tasks ≤ most_tasks → p ≤ most_tasks → ((l.target == v) ≡ true → s.base ≤ p) → FitsRouting v s l (routing_for x i j p b)
fits_by OneToOne v s l i j p b few parts base = tt
fits_by Broadcast v s l i j p b few parts base = tt
fits_by (ScatterGather keys) v s l i j p b few parts base = (λ _. product_fits s.tasks p few parts, base)

fits_parts : (g : Dag) (past : Past) (v : ℕ) (s : Config) → IsInRanges g → s.tasks ≤ most_tasks → s.base ≤ planned g v → AllByRecursion (FitsParts v s) (links_view g past)
fits_parts g past v s ranges few base =
    all_mapped (FitsParts v s) (link_view g past) (enumerate_from 0 g.edges)
    (λ e.
    fits_by e.1.movement v s (link_view g past e) (task_count g (from g e.1) past) (task_count g (to g e.1) past) (planned g (to g e.1)) (shape_of g (to g e.1) past).base few (planned_few g (to g e.1) ranges)
    (λ at. subst (λ w. s.base ≤ planned g w) (sym (is_number (to g e.1) v at)) base))

-- ---- a vertex that may be configured

some_is : (o : Option Config) → is_some o ≡ true → o ≡ Some (unwrap_or o (shape 0 0))
some_is None h = cc
some_is (Some s) h = refl

unconfigured : (o : Option Config) → is_none o ≡ true → is_some o ≡ false
unconfigured None h = refl
unconfigured (Some s) h = cc

same_at : (v : ℕ) → (v == v) ≡ true
same_at v = grind (arith, nat_tests)

configurable : (g : Dag) (c : ConfValues) (past : Past) (v : VertexId) → Goes g c past → enabled g c past (Configure v) ≡ true → CanHaveConfig (master_view g c past) v.0
configurable g c past v go on =
    let m = go.sound.made in
    let k = both {x = is_running past} on in
    let l = both {x = is_vertex g v.0} k.1 in
    let n = both {x = is_none (config v.0 past)} l.1 in
    let s = unwrap_or (configures g c v.0 past) (shape 0 0) in
    let is : configures g c v.0 past ≡ Some s = some_is (configures g c v.0 past) n.1 in
    let later = Configured v s.tasks s.base ∷ past in
    let fits = event_fits g c past (Configure v) go.valid m on go.plan in
    let low = vertex_below g v.0 l.0 in
    let asked : configures_at (schedule_view g c past) v.0 ≡ Some s =
    configures_same g c past m go.plan v.0 low
    ∙ ap (λ b. if b then None else configures g c v.0 past) (unconfigured (config v.0 past) n.0) ∙ is in
    let fitted = fits_next g c past (Configured v s.tasks s.base) go.ranges go.valid (event_may g c past (Configure v) m on).0 refl go.fitted in
    let set : config v.0 later ≡ Some (shape s.tasks s.base) = ap (λ b. if b then Some (shape s.tasks s.base) else config v.0 past) (same_at v.0) in
    let some : 1 ≤ s.tasks = fitted.tasks v.0 (shape s.tasks s.base) set in
    let few : s.tasks ≤ planned g v.0 = fits_configured g v s.tasks s.base past fits in
    let most = planned_few g v.0 go.ranges in
    let base = based g c v.0 past s (planned_some g v.0 go.ranges low) is in
    subst (λ o. IfSome o (CanConfigure (router_view g past) v.0)) (sym asked) (record {
      some = some;
      based = base.0;
      parts = fits_parts g past v.0 s go.ranges (omega arith) base.1;
      edges = subst (CanSetEdges (router_view g past)) (sym (links_set g past v s)) (configured g c past v m on fits).0;
    })

pub steady : (g : Dag) (c : ConfValues) (past : Past) → Goes g c past → is_up past ≡ true → IsSteady (master_view g c past)
steady g c past go up = record {
  unplaced = unplaced g c past go.sound.made;
  configurable = λ v on. configurable g c past v go (sym (takes g c past (Configure v) go up tt) ∙ on);
  known = known g c past go.sound.made;
}
