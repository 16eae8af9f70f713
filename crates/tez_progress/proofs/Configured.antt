-- Configured vertices have tasks, and keep step with the vertex that feeds them.
--     sees_sources       what a manager sees
--     fits_next          each entry but one that a new master finds keeps the configurations fitting
use Rattle.std.specs.Prelude.{◌≡◌, ℕ, ◌<◌, ◌≤◌, ◌&&◌, Bool, true, false, if◌then◌else◌, not, List, [], ◌∷◌, length, Option, Some, None, is_some, unwrap_or, refl}
use Rattle.std.specs.List.{list_all, sum_by}
use Rattle.std.proofs.Common.{inl, inr, ap, sym, arith, subst}
use Rattle.std.proofs.lemmas.Bool.Decides.{nat_tests}
use Rattle.std.proofs.lemmas.Grind.{div_ceil_times}
use Rattle.std.proofs.lemmas.List.Sums.{sum_by-cons}
use Rattle.tez_lists.specs.Numbers.{In}
use Rattle.tez_plan.specs.Dag.{Dag, from, tasks_of as planned}
use Rattle.tez_plan.specs.Faults.{IsValid}
use Rattle.tez_plan.specs.Ranges.{IsInRanges}
use Rattle.tez_conf.specs.declared.values.ConfValues.{ConfValues}
use Rattle.tez_shrink.specs.Formulas.{tasks_of, base_of}
use Rattle.tez_vman.specs.declared.seen.Config.{Config}
use Rattle.tez_vman.specs.Rules.{AsSources, configures as configures_by, config as shape, HasSources}
use Rattle.tez_events.specs.declared.Entry.{Entry}
use Rattle.tez_events.specs.declared.Entry.TheVariants.{Opened, Over, Stands, Configured, Stopped}
use Rattle.tez_history.specs.Shape.{Edge, is_vertex, primary_edges, Feed, ByFile, ByVertex, ByPartitions, feed, rule, rule_by}
use Rattle.tez_history.specs.History.{Past, config, extend}
use Rattle.tez_history.specs.Derived.{is_configured, task_count, sources_configured, source_tasks, seen}
use Rattle.tez_history.specs.Follows.{MayFollow, AllMayFollow}
use Rattle.tez_laws.proofs.StepLaw.{both}
use Rattle.tez_progress.specs.Laws.{IsFed, IsFitted, is_stands}
use Rattle.tez_progress.proofs.Members.{all_at}
use Rattle.tez_progress.proofs.Fitting.{same_some, planned_some, times_some, HasFeeder, fits_none, fits_set}
use Rattle.tez_progress.proofs.Plans.{fed}

pub vertex_below : (g : Dag) (v : ℕ) → is_vertex g v ≡ true → v < length g.vertices
vertex_below g v h = grind (arith, nat_tests)

-- ---- the source tasks

count_some : (g : Dag) (u : ℕ) (past : Past) → IsFitted g past → is_configured u past ≡ true → 1 ≤ task_count g u past
count_some g u past fits h = by (config u past) refl h where
  by : (o : Option Config) → config u past ≡ o → is_some o ≡ true → 1 ≤ (unwrap_or o (shape (planned g u) 1)).tasks
  by (Some s) e k = fits.tasks u s e
  by None e k = cc

part-le : {X : Type 0} (f : X → ℕ) (x : X) (xs : List X) → In x xs → f x ≤ sum_by f xs
part-le f x [] h = absurd h
part-le f x (y ∷ xs) (inl e) = let k = sum_by-cons f y xs in let same : f x ≡ f y = ap f e in omega arith
part-le f x (y ∷ xs) (inr h) = let k = sum_by-cons f y xs in let rest = part-le f x xs h in omega arith

sources_some : (g : Dag) (v : ℕ) (past : Past) (e : Edge) → IsFitted g past → In e (primary_edges g v) → sources_configured g v past ≡ true → 1 ≤ source_tasks g v past
sources_some g v past e fits h all =
    let one = count_some g (from g e.1) past fits (all_at (λ e. is_configured (from g e.1) past) e (primary_edges g v) all h) in
    let part = part-le (λ e. task_count g (from g e.1) past) e (primary_edges g v) h in
    omega arith

sees_by : (g : Dag) (c : ConfValues) (v : ℕ) (past : Past) (f : Feed) → IsFitted g past → IsFed g v f → HasSources (rule_by g c v f) (seen g v past)
sees_by g c v past ByFile fits f = tt
sees_by g c v past (ByVertex u) fits f = sources_some g v past f.0 fits (subst (λ xs. In f.0 xs) (sym f.1) (inl refl))
sees_by g c v past ByPartitions fits f = sources_some g v past f.0 fits f.1

pub sees_sources : (g : Dag) (c : ConfValues) (v : ℕ) (past : Past) → IsValid g → IsFitted g past → v < length g.vertices → HasSources (rule g c v) (seen g v past)
sees_sources g c v past valid fits h = sees_by g c v past (feed g v) fits (fed g v valid h)

-- ---- what a manager configures has tasks

shrunk_some : (parts wanted : ℕ) → 1 ≤ parts → 1 ≤ tasks_of parts (base_of parts wanted)
shrunk_some parts wanted some =
    let base : 0 < base_of parts wanted = omega arith in
    times_some parts (base_of parts wanted) (tasks_of parts (base_of parts wanted)) (div_ceil_times parts (base_of parts wanted) base).0 some

gathered_some : (auto enough : Bool) (x y s : Config) → 1 ≤ x.tasks → 1 ≤ y.tasks → (if auto then (if enough then Some x else None) else Some y) ≡ Some s → 1 ≤ s.tasks
gathered_some true true x y s a b h = subst (λ z. 1 ≤ z.tasks) (same_some x s h) a
gathered_some true false x y s a b h = cc
gathered_some false enough x y s a b h = subst (λ z. 1 ≤ z.tasks) (same_some y s h) b

configured_some : (g : Dag) (c : ConfValues) (v : ℕ) (past : Past) (f : Feed) (s : Config) → 1 ≤ planned g v → IsFitted g past → IsFed g v f
    → configures_by (rule_by g c v f) (seen g v past) ≡ Some s → 1 ≤ s.tasks
configured_some g c v past ByFile s plan fits f h = subst (λ z. 1 ≤ z.tasks) (same_some (shape (planned g v) 1) s h) plan
configured_some g c v past (ByVertex u) s plan fits f h = by (sources_configured g v past) refl h where
  by : (b : Bool) → sources_configured g v past ≡ b → (if b then Some (shape (source_tasks g v past) 1) else None) ≡ Some s → 1 ≤ s.tasks
  by true e k = subst (λ z. 1 ≤ z.tasks) (same_some (shape (source_tasks g v past) 1) s k) (sees_by g c v past (ByVertex u) fits f e)
  by false e k = cc
configured_some g c v past ByPartitions s plan fits f h =
    gathered_some _ _ _ _ s (shrunk_some (planned g v) _ plan) plan h

-- ---- a vertex that is fed one to one keeps step

of_one : (g : Dag) (past : Past) (e : Edge) (s : Config)
    → (if list_all (λ e. is_configured (from g e.1) past) (e ∷ []) then Some (shape (sum_by (λ e. task_count g (from g e.1) past) (e ∷ [])) 1) else None) ≡ Some s → HasFeeder (λ v. config v past) (from g e.1) s
of_one g past e s h = by (config (from g e.1) past) refl h where
  by : (o : Option Config) → config (from g e.1) past ≡ o
      → (if is_some o && true then Some (shape (sum_by (λ e. task_count g (from g e.1) past) (e ∷ [])) 1) else None) ≡ Some s → (d : Config) × (config (from g e.1) past ≡ Some d) × (d.tasks ≡ s.tasks)
  by None k i = cc
  by (Some d) k i =
      let sum = sum_by-cons (λ e. task_count g (from g e.1) past) e [] in
      let count : task_count g (from g e.1) past ≡ d.tasks = ap (λ o. (unwrap_or o (shape (planned g (from g e.1)) 1)).tasks) k in
      let told : sum_by (λ e. task_count g (from g e.1) past) (e ∷ []) ≡ s.tasks = ap (λ z. z.tasks) (same_some _ s i) in
      (d, k, omega (arith, sum, count, told))

of_feeder : (g : Dag) (past : Past) (v u : ℕ) (s : Config) → IsFed g v (ByVertex u) → configures_by AsSources (seen g v past) ≡ Some s → HasFeeder (λ v. config v past) u s
of_feeder g past v u s f h =
    subst (λ x. HasFeeder (λ v. config v past) x s) f.2
    (of_one g past f.0 s (subst (λ es. (if list_all (λ e. is_configured (from g e.1) past) es then Some (shape (sum_by (λ e. task_count g (from g e.1) past) es) 1) else None) ≡ Some s) f.1 h))

-- ---- each entry but one that a new master finds keeps the configurations fitting

pub fits_next : (g : Dag) (c : ConfValues) (past : Past) (e : Entry) → IsInRanges g → IsValid g → MayFollow g c past e → is_stands e ≡ false → IsFitted g past → IsFitted g (e ∷ past)
fits_next g c past (Opened n) ranges valid m s fits = fits_none g (λ v. config v (Opened n ∷ past)) (λ v. refl)
fits_next g c past Over ranges valid m s fits = fits_none g (λ v. config v (Over ∷ past)) (λ v. refl)
fits_next g c past (Stopped cause) ranges valid m s fits = fits
fits_next g c past (Stands w n b) ranges valid m s fits = cc
fits_next g c past (Configured w n b) ranges valid m s fits =
    let below = vertex_below g w.0 m.2 in
    let how = fed g w.0 valid below in
    fits_set g (λ v. config v past) w.0 (shape n b) m.0 (configured_some g c w.0 past (feed g w.0) (shape n b) (planned_some g w.0 ranges below) fits how m.1)
    (λ u f.
    of_feeder g past w.0 u (shape n b) (subst (λ k. IsFed g w.0 k) f how) (subst (λ k. configures_by (rule_by g c w.0 k) (seen g w.0 past) ≡ Some (shape n b)) f m.1)) fits
fits_next g c past _ ranges valid m s fits = fits

pub fits_extend : (g : Dag) (c : ConfValues) (past : Past) (es : List Entry) → IsInRanges g → IsValid g → AllMayFollow g c past es → list_all (λ e. not (is_stands e)) es ≡ true → IsFitted g past → IsFitted g (extend past es)
fits_extend g c past [] ranges valid m s fits = fits
fits_extend g c past (e ∷ es) ranges valid m s fits =
    let k = both {x = not (is_stands e)} s in
    fits_extend g c (e ∷ past) es ranges valid m.1 k.1 (fits_next g c past e ranges valid m.0 (not_true (is_stands e) k.0) fits)
  where
    not_true : (b : Bool) → not b ≡ true → b ≡ false
    not_true false h = refl
    not_true true h = cc
