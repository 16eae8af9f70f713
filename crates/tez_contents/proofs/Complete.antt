-- A configuration of every vertex, with those that stand: where a vertex is not configured yet, as many tasks as the vertex that feeds it one to one, or those of the plan.
--     completed g f       this configuration
--     completed_there     what is configured stands in it
--     completed_allowed   it is allowed, where what is configured is
use Rattle.std.specs.Prelude.{◌≡◌, ℕ, ◌<◌, ◌≤◌, true, IsTrue, List, [], ◌∷◌, length, Option, Some, None, refl}
use Rattle.std.specs.List.{AllByRecursion}
use Rattle.std.proofs.Common.{ap, sym, ◌∙◌, arith, subst, div-one}
use Rattle.tez_plan.specs.declared.parts.EdgeSpec.{EdgeSpec}
use Rattle.tez_plan.specs.Dag.{Dag, from, edges_into, is_one_to_one, is_scatter_gather, tasks_of as planned}
use Rattle.tez_plan.specs.Order.{by_sources}
use Rattle.tez_plan.specs.Faults.{IsValid, incoming}
use Rattle.tez_plan.specs.Ranges.{IsInRanges}
use Rattle.tez_plan.proofs.OrderLemmas.{all_filter, LooksAtSources, by_sources-step}
use Rattle.tez_plan.proofs.RankLemmas.{ranked}
use Rattle.tez_shrink.specs.Formulas.{tasks_of as tasks_for}
use Rattle.tez_vman.specs.declared.seen.Config.{Config as Setting}
use Rattle.tez_shares.specs.Shares.{Config, IsAllowed, has_source, has_edge_from}
use Rattle.tez_progress.proofs.Fitting.{planned_some}
use Rattle.tez_contents.specs.Laws.{IsAllowedSoFar}
use Rattle.tez_contents.proofs.Agree.{starts_inside}
use Rattle.tez_contents.proofs.Feeds.{edge_of, source_alone, one_alone, gathers_alone}

abbrev pub config_of : Setting → Config
config_of s = record { tasks = s.tasks; base = s.base }

abbrev set_as : Dag → Option Setting → ℕ → List EdgeSpec → (ℕ → Config) → Config
set_as g (Some s) parts es known = config_of s
set_as g None parts [] known = record { tasks = parts; base = 1 }
set_as g None parts (e ∷ es) known = record { tasks = (known (from g e)).tasks; base = 1 }

abbrev step : Dag → (ℕ → Option Setting) → ℕ → (ℕ → Config) → Config
step g f v known = set_as g (f v) (planned g v) (incoming is_one_to_one g v) known

unfoldable pub completed : Dag → (ℕ → Option Setting) → ℕ → Config
completed g f = by_sources (record { tasks = 0; base = 0 }) (step g f) (length g.vertices)

set_same : (g : Dag) (o : Option Setting) (parts : ℕ) (es : List EdgeSpec) (k l : ℕ → Config) → AllByRecursion (λ e. k (from g e) ≡ l (from g e)) es → set_as g o parts es k ≡ set_as g o parts es l
set_same g (Some s) parts es k l all = refl
set_same g None parts [] k l all = refl
set_same g None parts (e ∷ es) k l all = ap (λ (x : Config). record { tasks = x.tasks; base = 1 }) all.0

step_looks : (g : Dag) (f : ℕ → Option Setting) → LooksAtSources g (step g f)
step_looks g f v k l all =
    set_same g (f v) (planned g v) (incoming is_one_to_one g v) k l
    (all_filter (λ e. k (from g e) ≡ l (from g e)) (λ e. k (from g e) ≡ l (from g e)) is_one_to_one (λ e one h. h) (edges_into g v) all)

completed-step : (g : Dag) (f : ℕ → Option Setting) (v : ℕ) → IsValid g → v < length g.vertices → completed g f v ≡ step g f v (completed g f)
unfolding completed
completed-step g f v valid inside =
    let r = ranked g valid in
    by_sources-step (record { tasks = 0; base = 0 }) (step g f) g (step_looks g f) r.rank_of r.falls (length g.vertices) v (r.below v inside)

module _ (g : Dag) (f : ℕ → Option Setting) (ranges : IsInRanges g) (valid : IsValid g) (so_far : IsAllowedSoFar g f) where
  pub completed_there : (v : ℕ) (s : Setting) → v < length g.vertices → f v ≡ Some s → completed g f v ≡ config_of s
  completed_there v s inside h = completed-step g f v valid inside ∙ ap (λ o. set_as g o (planned g v) (incoming is_one_to_one g v) (completed g f)) h

  -- by what is configured, or what is to be
  abbrev At : ℕ → Option Setting → Config → Type 0
  At v o x = x ≡ set_as g o (planned g v) (incoming is_one_to_one g v) (completed g f)

  source_at : (v : ℕ) (o : Option Setting) (x : Config) → v < length g.vertices → At v o x → f v ≡ o → IsTrue (has_source g v) → (x.tasks ≡ planned g v) × (x.base ≡ 1)
  source_at v (Some s) x inside at e h =
      let k = so_far.source v s e h in
      (ap (λ c. c.tasks) at ∙ k.0, ap (λ c. c.base) at ∙ k.1)
  source_at v None x inside at e h =
      let here : x ≡ record { tasks = planned g v; base = 1 } = at ∙ ap (λ es. set_as g None (planned g v) es (completed g f)) (source_alone g v valid inside h) in
      (ap (λ c. c.tasks) here, ap (λ c. c.base) here)

  one_at : (v u : ℕ) (o : Option Setting) (x : Config) → v < length g.vertices → At v o x → f v ≡ o → has_edge_from is_one_to_one g u v ≡ true → (x.tasks ≡ (completed g f u).tasks) × (x.base ≡ 1)
  one_at v u (Some s) x inside at e h =
      let k = so_far.one_to_one v u s e h in
      let d = edge_of g is_one_to_one u v h in
      let there : u < length g.vertices = subst (λ y. y < length g.vertices) d.3 (starts_inside g v d.0 valid d.1) in
      (ap (λ c. c.tasks) at ∙ k.2 ∙ sym (ap (λ c. c.tasks) (completed_there u k.0 there k.1)), ap (λ c. c.base) at ∙ k.3)
  one_at v u None x inside at e h =
      let d = edge_of g is_one_to_one u v h in
      let here : x ≡ record { tasks = (completed g f (from g d.0)).tasks; base = 1 } = at ∙ ap (λ es. set_as g None (planned g v) es (completed g f)) (one_alone g v valid inside d.0 d.1 d.2).0 in
      (ap (λ c. c.tasks) here ∙ ap (λ y. (completed g f y).tasks) d.3, ap (λ c. c.base) here)

  by_ones : (n : ℕ) → n ≡ tasks_for n 1
  by_ones n = grind (arith, div-one)

  shuffle_at : (v u : ℕ) (o : Option Setting) (x : Config) → v < length g.vertices → At v o x → f v ≡ o → has_edge_from is_scatter_gather g u v ≡ true
      → (1 ≤ x.base) × (x.base ≤ planned g v) × (x.tasks ≡ tasks_for (planned g v) x.base)
  shuffle_at v u (Some s) x inside at e h =
      subst (λ (c : Config). (1 ≤ c.base) × (c.base ≤ planned g v) × (c.tasks ≡ tasks_for (planned g v) c.base)) (sym at) (so_far.shuffle v u s e h)
  shuffle_at v u None x inside at e h =
      let d = edge_of g is_scatter_gather u v h in
      let here : x ≡ record { tasks = planned g v; base = 1 } = at ∙ ap (λ es. set_as g None (planned g v) es (completed g f)) (gathers_alone g v valid inside d.0 d.1 d.2).0 in
      let some = planned_some g v ranges inside in
      subst (λ (c : Config). (1 ≤ c.base) × (c.base ≤ planned g v) × (c.tasks ≡ tasks_for (planned g v) c.base)) (sym here) (omega arith, some, by_ones (planned g v))

  pub completed_allowed : IsAllowed g (completed g f)
  completed_allowed = record {
    at = λ v inside.
        let at = completed-step g f v valid inside in
        record {
          source = λ h. source_at v (f v) (completed g f v) inside at refl h;
          one_to_one = λ u h. one_at v u (f v) (completed g f v) inside at refl h;
          shuffle = λ u h. shuffle_at v u (f v) (completed g f v) inside at refl h;
        };
  }
