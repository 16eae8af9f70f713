-- What each thing that is found makes of a master, and when it may be told to the parts.
use Rattle.std.specs.Prelude.{◌≡◌, ℕ, zero, suc, ◌<◌, ◌≤◌, ◌*◌, ◌^◌, nat_lt, nat_le, Bool, true, false, ◌&&◌, ◌==◌, if◌then◌else◌, List, [], ◌∷◌, map, length, slice_get, Option, Some, None, IfSome, is_some, is_none, unwrap_or, option_and_then, refl}
use Rattle.std.specs.List.{enumerate_from, AllByRecursion}
use Rattle.std.specs.Option.{option_map_or}
use Rattle.std.proofs.Common.{ap, sym, ◌∙◌, arith, subst, inl, inr}
use Rattle.std.proofs.lemmas.Nat.{mul-le}
use Rattle.std.proofs.lemmas.Option.{same_Some}
use Rattle.std.proofs.lemmas.Bool.Decides.{nat_tests}
use Rattle.tez_ids.specs.declared.TaskId.{TaskId}
use Rattle.tez_ids.specs.declared.VertexId.{VertexId}
use Rattle.tez_ids.specs.declared.AttemptId.{AttemptId}
use Rattle.tez_ids.specs.Same.{same_task, same_attempt}
use Rattle.tez_lists.specs.Numbers.{In}
use Rattle.tez_plan.specs.Dag.{Dag, from, to, tasks_of as planned}
use Rattle.tez_plan.specs.Ranges.{IsInRanges, vertex_in_range, is_within, most_tasks}
use Rattle.tez_plan.specs.declared.parts.VertexSpec.{VertexSpec}
use Rattle.tez_plan.specs.declared.parts.Movement.{Movement}
use Rattle.tez_plan.specs.declared.parts.Movement.TheVariants.{OneToOne, Broadcast, ScatterGather}
use Rattle.tez_conf.specs.declared.values.ConfValues.{ConfValues}
use Rattle.tez_vman.specs.declared.seen.Config.{Config}
use Rattle.tez_vman.specs.Rules.{config as shape}
use Rattle.tez_events.specs.declared.Entry.TheVariants.{Carried, Kept}
use Rattle.tez_history.specs.History.{Past, Location, kept_there, config, winner, location}
use Rattle.tez_history.specs.Derived.{is_task as is_task_at, is_configured, task_count, shape_of}
use Rattle.tez_history.specs.Follows.{IsMade, MayFollow}
use Rattle.tez_laws.proofs.Same.{same_attempt-refl}
use Rattle.tez_laws.proofs.StepLaw.{both, below}
use Rattle.tez_laws.proofs.Tasks.{winner_task}
use Rattle.tez_laws.proofs.Ranges.{configured_is_vertex}
use Rattle.tez_progress.proofs.Members.{all_at}
use Rattle.tez_task.specs.TaskState.{TaskState}
use Rattle.tez_vertex.specs.Vertex.{Vertex}
use Rattle.tez_vertex.specs.Table.{task_of, IsFresh}
use Rattle.tez_master_model.specs.Vertices.{configure_one, carry_one, keep_one, AreRestorable}
use Rattle.tez_router.specs.State.{LinkState}
use Rattle.tez_router.specs.Configure.{after_set_edges, CanSetEdges, FitsRouting, FitsParts}
use Rattle.tez_router_view.specs.View.{router_view, link_view, links_view, routing_for, FitsPlan}
use Rattle.tez_router_view.proofs.Told.{stands_again, kept_announces}
use Rattle.tez_router_view.proofs.Ordering.{vertex_below}
use Rattle.tez_router_view.proofs.Winners.{task_vertex}
use Rattle.tez_schedule.specs.State.{VertexState}
use Rattle.tez_schedule.specs.Table.{can_have, is_task, tasks_by}
use Rattle.tez_schedule_view.specs.View.{schedule_view, progress_view}
use Rattle.tez_schedule_view.specs.Events.{Tells}
use Rattle.tez_schedule_view.proofs.Lists.{get-here}
use Rattle.tez_schedule_view.proofs.Changing.{stands_view}
use Rattle.tez_schedule_view.proofs.Winning.{kept_view}
use Rattle.tez_schedule_view.proofs.Staying.{silent_view}
use Rattle.tez_master_model.specs.State.{MasterState}
use Rattle.tez_master_view.specs.View.{master_view, location_view, slot_by}
use Rattle.tez_master_view.proofs.Parts.{same_parts}
use Rattle.tez_master_view.proofs.Own.{location_set}
use Rattle.tez_master_view.proofs.Simple.{rest}
use Rattle.tez_master_view.proofs.Configure.{links_set}
use Rattle.tez_master_model.specs.Recovery.{KeptState, config_in, slot_kept, stood, carried, kept, CanStand, CanBeCarried, CanBeKept, IsNew}
use Rattle.tez_recovery.specs.Laws.{IsSizedFor, stands_entry, carried_entry, kept_entry}

abbrev pub with_vertices : MasterState → List Vertex → MasterState
with_vertices m vs = record m { vertices = vs }

-- ---- a configuration stands

pub stood_step : (g : Dag) (c : ConfValues) (p : Past) (vs : List Vertex) (x : VertexId × ℕ × ℕ) → IsMade g c p → MayFollow g c p (stands_entry x) → FitsPlan g (stands_entry x ∷ p)
    → stood (with_vertices (master_view g c p) vs) x ≡ with_vertices (master_view g c (stands_entry x ∷ p)) (configure_one vs (x.0.0, config_in x))
stood_step g c p vs x m may fits =
    same_parts g c (rest g p) refl refl
    (ap (after_set_edges (router_view g p)) (links_set g p x.0 (config_in x)) ∙ (stands_again g c p x.0 x.1 x.2 m may fits).1)
    (stands_view g c p x.0 x.1 x.2 (may, m) fits) refl refl

-- the tasks of the plan
few_tasks : (s : VertexSpec) → vertex_in_range s ≡ true → s.tasks ≤ most_tasks
few_tasks s h = let k : is_within 1 most_tasks s.tasks ≡ true = (both (both (both (both (both h).0).0).0).0).1 in at_most s.tasks most_tasks (both k).1 where
  at_most : (a b : ℕ) → nat_le a b ≡ true → a ≤ b
  at_most a b k = grind (arith, nat_tests)

in_slice : {X : Type 0} (xs : List X) (i : ℕ) (x : X) → slice_get xs i ≡ Some x → In x xs
in_slice [] i x h = cc
in_slice (y ∷ xs) zero x h = inl (let e : y ≡ x = same_Some y x h in sym e)
in_slice (y ∷ xs) (suc i) x h = inr (in_slice xs i x h)

planned_few : (g : Dag) (v : ℕ) → IsInRanges g → planned g v ≤ most_tasks
planned_few g v ranges = by (slice_get g.vertices v) refl where
  by : (o : Option VertexSpec) → slice_get g.vertices v ≡ o → option_map_or (λ s. s.tasks) o 0 ≤ most_tasks
  by (Some s) e = few_tasks s (all_at vertex_in_range s g.vertices ranges.vertices (in_slice g.vertices v s e))
  by None e = omega arith

-- the partitions of the edges
product_fits : (a b : ℕ) → a ≤ most_tasks → b ≤ most_tasks → a * b < 2 ^ 32
product_fits a b h k = let most : a * b ≤ most_tasks * most_tasks = mul-le a b most_tasks most_tasks h k in omega arith

is_number : (d e : ℕ) → (d == e) ≡ true → d ≡ e
is_number d e h = grind (arith, nat_tests)

all_mapped : {X Y : Type 0} (P : Y → Type 0) (f : X → Y) (xs : List X) → ((x : X) → P (f x)) → AllByRecursion P (map f xs)
all_mapped P f [] h = tt
all_mapped P f (x ∷ xs) h = (h x, all_mapped P f xs h)

fits_by : (x : Movement) (v : ℕ) (s : Config) (l : LinkState) (i j p b : ℕ) → s.tasks ≤ most_tasks → p ≤ most_tasks → ((l.target == v) ≡ true → s.base ≤ p) → FitsRouting v s l (routing_for x i j p b)
fits_by OneToOne v s l i j p b few parts base = tt
fits_by Broadcast v s l i j p b few parts base = tt
fits_by (ScatterGather keys) v s l i j p b few parts base = (λ _. product_fits s.tasks p few parts, base)

fits_parts : (g : Dag) (past : Past) (v : ℕ) (s : Config) → IsInRanges g → s.tasks ≤ most_tasks → s.base ≤ planned g v → AllByRecursion (FitsParts v s) (links_view g past)
fits_parts g past v s ranges few base =
    all_mapped (FitsParts v s) (link_view g past) (enumerate_from 0 g.edges)
    (λ e.
    fits_by e.1.movement v s (link_view g past e) (task_count g (from g e.1) past) (task_count g (to g e.1) past) (planned g (to g e.1)) (shape_of g (to g e.1) past).base few (planned_few g (to g e.1) ranges)
    (λ at. subst (λ w. s.base ≤ planned g w) (sym (is_number (to g e.1) v at)) base))

can_have_it : (o : Option Config) (n k : ℕ) → o ≡ None → 1 ≤ n → n ≤ k → (is_none o && (nat_le 1 n && nat_le n k)) ≡ true
can_have_it None n k h some few = grind (arith, nat_tests)
can_have_it (Some s) n k h some few = cc

pub can_stand : (g : Dag) (c : ConfValues) (p : Past) (vs : List Vertex) (x : VertexId × ℕ × ℕ) → IsInRanges g → IsMade g c p → MayFollow g c p (stands_entry x) → FitsPlan g (stands_entry x ∷ p) → 1 ≤ x.1 → IsSizedFor g x
    → CanStand (with_vertices (master_view g c p) vs) x
can_stand g c p vs x ranges m may fits some sized =
    let most = planned_few g x.0.0 ranges in
    let few = sized.few in
    record {
      edges = record {
        some = some;
        based = sized.base;
        parts = fits_parts g p x.0.0 (config_in x) ranges (omega (arith, few, most)) sized.parts;
        edges = subst (CanSetEdges (router_view g p)) (sym (links_set g p x.0 (config_in x))) (stands_again g c p x.0 x.1 x.2 m may fits).0;
      };
      tasks =
          ap (λ o. option_map_or (can_have (config_in x)) o false) (get-here (progress_view g c p) (length g.vertices) x.0.0 sized.inside)
          ∙ can_have_it (config x.0.0 p) x.1 (planned g x.0.0) may.0 some sized.few;
    }

-- ---- failures are counted

pub carried_step : (g : Dag) (c : ConfValues) (p : Past) (vs : List Vertex) (x : TaskId × ℕ)
    → carried (with_vertices (master_view g c p) vs) x ≡ with_vertices (master_view g c (carried_entry x ∷ p)) (carry_one vs x)
carried_step g c p vs x =
    same_parts g c (rest g p) refl refl refl (sym (silent_view g c p (Carried x.0 x.1) tt)) refl refl

-- a task that is there may be restored
abbrev AtTask : List Vertex → TaskId → (TaskState → Type 0) → Type 0
AtTask vs t P = IfSome (option_and_then (λ x. task_of x t.index) (slice_get vs t.vertex.0)) P

at_task : (c : ConfValues) (vs : List Vertex) (t : TaskId) (P : TaskState → Type 0) → AreRestorable c vs → ((x : TaskState) → x.max_failed ≡ c.max_failed → IsFresh x.failures x → P x) → AtTask vs t P
at_task c vs t P can h = by (slice_get vs t.vertex.0) refl where
  inner : (s : Vertex) → slice_get vs t.vertex.0 ≡ Some s → (o : Option TaskState) → task_of s t.index ≡ o → IfSome o P
  inner s e None k = tt
  inner s e (Some x) k = let was = (can t.vertex.0 s e).tasks t.index x k in h x was.0 was.1

  by : (o : Option Vertex) → slice_get vs t.vertex.0 ≡ o → IfSome (option_and_then (λ x. task_of x t.index) o) P
  by None e = tt
  by (Some s) e = inner s e (task_of s t.index) refl

pub can_carry : (g : Dag) (c : ConfValues) (p : Past) (vs : List Vertex) (x : TaskId × ℕ) → AreRestorable c vs → x.1 < c.max_failed → CanBeCarried (with_vertices (master_view g c p) vs) x
can_carry g c p vs x can few = at_task c vs x.0 (IsFresh x.1) can (λ t limit fresh. (fresh.0, subst (λ m. x.1 < m) (sym limit) few))

-- ---- a winner is kept

-- the pieces of another task's winner
other_attempt : (a b : AttemptId) (t : TaskId) → same_task a.task t ≡ false → b.task ≡ t → same_attempt a b ≡ false
other_attempt a b t h e = grind (arith, nat_tests)

abbrev location_by : (AttemptId → Location) → Option AttemptId → Option ℕ
location_by f o = option_and_then (λ w. slot_by (f w)) o

kept_location : (c : ConfValues) (p : Past) (a : AttemptId) (x : Option ℕ) (u : TaskId) → x ≡ slot_by (kept_there true (location c a p)) → (if same_task a.task u then x else location_view c p u) ≡ location_view c (Kept a ∷ p) u
kept_location c p a x u is = by (same_task a.task u) refl where
  later : AttemptId → Location
  later w = kept_there (same_attempt a w) (location c w p)

  others : (o : Option AttemptId) → same_task a.task u ≡ false → ((w : AttemptId) → o ≡ Some w → w.task ≡ u) → location_by (λ w. location c w p) o ≡ location_by (λ w. kept_there (same_attempt a w) (location c w p)) o
  others None h of = refl
  others (Some w) h of = ap (λ b. slot_by (kept_there b (location c w p))) (sym (other_attempt a w u h (of w refl)))

  by : (b : Bool) → same_task a.task u ≡ b → (if b then x else location_view c p u) ≡ location_by (λ w. kept_there (same_attempt a w) (location c w p)) (if b then Some a else winner u p)
  by true e = is ∙ ap (λ b. slot_by (kept_there b (location c a p))) (sym (same_attempt-refl a))
  by false e = others (winner u p) e (winner_task p u)

pub kept_step : (g : Dag) (c : ConfValues) (p : Past) (vs : List Vertex) (k : KeptState) → IsMade g c p → FitsPlan g p → MayFollow g c p (kept_entry k) → Tells g p k.attempt k.made → slot_kept k ≡ slot_by (kept_there true (location c k.attempt p))
    → kept (with_vertices (master_view g c p) vs) k ≡ with_vertices (master_view g c (kept_entry k ∷ p)) (keep_one vs k.attempt)
kept_step g c p vs k m fits may tells locations =
    let a = k.attempt in
    same_parts g c (rest g p) refl refl (kept_announces g c p a m may) (kept_view g c p a k.made m fits may tells)
    (location_set g c p (Kept a ∷ p) a.task (slot_kept k) (vertex_below g a.task.vertex.0 (task_vertex g c p m a.task may.1)) (λ u. kept_location c p a (slot_kept k) u locations)) refl

task_told : (o : Option Config) (n i : ℕ) → is_some o ≡ true → nat_lt i (unwrap_or o (shape n 1)).tasks ≡ true → nat_lt i (tasks_by o) ≡ true
task_told None n i h k = cc
task_told (Some s) n i h k = k

task_known : (g : Dag) (c : ConfValues) (p : Past) → IsMade g c p → (t : TaskId) → is_task_at g p t ≡ true → is_task (schedule_view g c p) t ≡ true
task_known g c p m t is =
    let k = both {x = is_configured t.vertex.0 p} is in
    ap (λ o. option_map_or (λ (x : VertexState). nat_lt t.index (tasks_by x.config)) o false)
    (get-here (progress_view g c p) (length g.vertices) t.vertex.0 (below t.vertex.0 (length g.vertices) (configured_is_vertex g c p m t.vertex.0 k.0)))
    ∙ task_told (config t.vertex.0 p) (planned g t.vertex.0) t.index k.0 k.1

pub can_keep : (g : Dag) (c : ConfValues) (p : Past) (vs : List Vertex) (k : KeptState) → IsMade g c p → AreRestorable c vs → is_task_at g p k.attempt.task ≡ true → CanBeKept (with_vertices (master_view g c p) vs) k
can_keep g c p vs k m can there = record {
  task = task_known g c p m k.attempt.task there;
  fresh = at_task c vs k.attempt.task IsNew can (λ t limit fresh. fresh);
}
