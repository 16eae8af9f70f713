-- The managers of the edges at a task of a configured vertex can answer, and have that consumer task.
--     routed      so they do for each attempt at such a task
use Rattle.std.specs.Prelude.{◌≡◌, ℕ, ◌*◌, ◌^◌, ◌<◌, ◌≤◌, ◌==◌, ◌&&◌, nat_lt, ⊤, Bool, true, length, Option, Some, None, is_some, unwrap_or, refl}
use Rattle.std.proofs.Common.{ap, sym, ◌∙◌, arith, subst}
use Rattle.std.proofs.Math.Nat.{le_trans}
use Rattle.std.proofs.lemmas.Bool.{eq-eqb}
use Rattle.std.proofs.lemmas.Nat.{mul-le}
use Rattle.tez_ids.specs.declared.AttemptId.{AttemptId}
use Rattle.tez_lists.specs.Numbers.{In}
use Rattle.tez_lists.proofs.Members.{in_filter}
use Rattle.tez_plan.specs.Dag.{Dag, from, to, edges_into, is_one_to_one, is_scatter_gather, goes_one_to_one, goes_by_key, tasks_of as planned}
use Rattle.tez_plan.specs.Faults.{IsValid}
use Rattle.tez_plan.specs.Ranges.{IsInRanges, most_tasks}
use Rattle.tez_plan.specs.declared.parts.EdgeSpec.{EdgeSpec}
use Rattle.tez_plan.specs.declared.parts.Movement.{Movement}
use Rattle.tez_plan.specs.declared.parts.Movement.TheVariants.{OneToOne, Broadcast, ScatterGather}
use Rattle.tez_shrink.specs.Formulas.{tasks_of as tasks_for}
use Rattle.tez_shares.specs.Shares.{has_edge_from}
use Rattle.tez_vman.specs.declared.seen.Config.{Config}
use Rattle.tez_vman.specs.Rules.{config as shape}
use Rattle.tez_history.specs.Shape.{Edge, edges_to}
use Rattle.tez_history.specs.History.{Past, config}
use Rattle.tez_history.specs.Derived.{shape_of, task_count, table_by, is_configured, is_task}
use Rattle.tez_history.specs.Rules.{is_manager, routes, is_routed}
use Rattle.tez_laws.proofs.StepLaw.{both, below}
use Rattle.tez_progress.specs.Laws.{IsFitted}
use Rattle.tez_progress.proofs.Fitting.{planned_some}
use Rattle.tez_progress.proofs.Members.{true_and, any_true, all_from}
use Rattle.tez_progress.proofs.Plans.{in_edges, ranks}
use Rattle.tez_progress.proofs.Ready.{lt_true}
use Rattle.tez_router_view.specs.View.{FitsPlan}
use Rattle.tez_contents.specs.Laws.{IsAllowedNow}
use Rattle.tez_rules.proofs.Sizes.{le_true, planned_few}

-- ---- a manager by the numbers at its ends

-- how many consumer tasks there are, by the movement
abbrev Consumes : Movement → ℕ → ℕ → ℕ → ℕ → Type 0
Consumes OneToOne sources consumers parts base = consumers ≡ sources
Consumes Broadcast sources consumers parts base = ⊤
Consumes (ScatterGather keys) sources consumers parts base = (1 ≤ base) × (base ≤ parts) × (consumers ≡ tasks_for parts base)

product_fits : (a b : ℕ) → a ≤ most_tasks → b ≤ most_tasks → a * b < 2 ^ 32
product_fits a b h k = let most : a * b ≤ most_tasks * most_tasks = mul-le a b most_tasks most_tasks h k in omega arith

some_task : (t n : ℕ) → t < n → 1 ≤ n
some_task t n h = omega arith

routes_by : (m : Movement) (sources consumers parts base t : ℕ) → 1 ≤ sources → sources ≤ most_tasks → parts ≤ most_tasks → t < consumers → Consumes m sources consumers parts base
    → (is_manager m sources consumers parts base && nat_lt t (table_by m sources consumers parts base).consumers) ≡ true
routes_by OneToOne sources consumers parts base t some few low inside same = true_and (le_true 1 sources some) (lt_true t sources (subst (λ n. t < n) same inside))
routes_by Broadcast sources consumers parts base t some few low inside same =
    true_and (true_and (le_true 1 sources some) (le_true 1 consumers (some_task t consumers inside))) (lt_true t consumers inside)
routes_by (ScatterGather keys) sources consumers parts base t some few low inside same =
    true_and
    (true_and (le_true 1 sources some) (true_and (le_true 1 base same.0) (true_and (le_true base parts same.1) (lt_true (sources * parts) (2 ^ 32) (product_fits sources parts few low)))))
    (lt_true t (tasks_for parts base) (subst (λ n. t < n) same.2 inside))

-- ---- the edges at a configured vertex

module _ (g : Dag) (past : Past) (valid : IsValid g) (ranges : IsInRanges g) (fitted : IsFitted g past) (fits : FitsPlan g past) (allowed : IsAllowedNow g past) where
  count_some : (u : ℕ) → u < length g.vertices → 1 ≤ task_count g u past
  count_some u there = by (config u past) refl where
    by : (o : Option Config) → config u past ≡ o → 1 ≤ (unwrap_or o (shape (planned g u) 1)).tasks
    by (Some s) e = fitted.tasks u s e
    by None e = planned_some g u ranges there

  leads_from : (kind : EdgeSpec → Bool) (v : ℕ) (e : Edge) → In e (edges_to g v) → kind e.1 ≡ true → has_edge_from kind g (from g e.1) v ≡ true
  leads_from kind v e m is =
      let k = in_edges g v e m in
      any_true (λ d. kind d && (from g d == from g e.1)) e.1 (edges_into g v) (in_filter (λ d. to g d == v) e.1 g.edges k.0 (eq-eqb (to g e.1) v k.1)) (true_and is (eq-eqb (from g e.1) (from g e.1) refl))

  -- the number of tasks that a vertex is configured with
  counted : (u : ℕ) (s : Config) → config u past ≡ Some s → shape_of g u past ≡ s
  counted u s e = ap (λ o. unwrap_or o (shape (planned g u) 1)) e

  consumes : (v : ℕ) (e : Edge) (s : Config) (m : Movement) → In e (edges_to g v) → config v past ≡ Some s → e.1.movement ≡ m
      → Consumes m (task_count g (from g e.1) past) (task_count g v past) (planned g v) (shape_of g v past).base
  consumes v e s OneToOne there is goes =
      let k = allowed.one_to_one v (from g e.1) s is (leads_from is_one_to_one v e there (ap goes_one_to_one goes)) in
      ap (λ x. x.tasks) (counted v s is) ∙ k.2 ∙ sym (ap (λ x. x.tasks) (counted (from g e.1) k.0 k.1))
  consumes v e s Broadcast there is goes = tt
  consumes v e s (ScatterGather keys) there is goes =
      subst (λ x. (1 ≤ x.base) × (x.base ≤ planned g v) × (x.tasks ≡ tasks_for (planned g v) x.base)) (sym (counted v s is))
      (allowed.shuffle v (from g e.1) s is (leads_from is_scatter_gather v e there (ap goes_by_key goes)))

  some_is : (o : Option Config) → is_some o ≡ true → (s : Config) × (o ≡ Some s)
  some_is None h = cc
  some_is (Some s) h = (s, refl)

  edge_routes : (v t : ℕ) (e : Edge) → In e (edges_to g v) → is_configured v past ≡ true → t < task_count g v past → routes g past e.1 t ≡ true
  edge_routes v t e there is inside =
      let s = some_is (config v past) is in
      let u = from g e.1 in
      subst (λ w. (is_manager e.1.movement (task_count g u past) (task_count g w past) (planned g w) (shape_of g w past).base
      && nat_lt t (table_by e.1.movement (task_count g u past) (task_count g w past) (planned g w) (shape_of g w past).base).consumers) ≡ true) (sym (in_edges g v e there).1)
      (routes_by e.1.movement (task_count g u past) (task_count g v past) (planned g v) (shape_of g v past).base t (count_some u ((ranks g valid).inside v e there))
      (le_trans (fits u) (planned_few g u ranges)) (planned_few g v ranges) inside (consumes v e s.0 e.1.movement there s.1 refl))

  pub routed : (a : AttemptId) → is_task g past a.task ≡ true → is_routed g past a ≡ true
  routed a h =
      let k = both {x = is_configured a.task.vertex.0 past} h in
      all_from (λ e. routes g past e.1 a.task.index) (edges_to g a.task.vertex.0) (λ e m. edge_routes a.task.vertex.0 a.task.index e m k.0 (below a.task.index (task_count g a.task.vertex.0 past) k.1))
