-- What managers configure is allowed.
--     allowed_none     before anything is configured
--     allowed_next     after each entry but one that a new master finds
--     allowed_always   where no new master found a configuration
use Rattle.std.specs.Prelude.{◌≡◌, ℕ, ◌<◌, ◌≤◌, ◌/◌, ◌==◌, ◌&&◌, Bool, true, false, IsTrue, if◌then◌else◌, [], ◌∷◌, length, Option, Some, None, is_some, unwrap_or, refl}
use Rattle.std.specs.List.{list_all, sum_by}
use Rattle.std.proofs.Common.{ap, sym, ◌∙◌, arith, subst, div-one, div-le_self}
use Rattle.std.proofs.lemmas.Bool.{eqb-true}
use Rattle.std.proofs.lemmas.List.Sums.{sum_by-cons}
use Rattle.tez_plan.specs.Dag.{Dag, from, is_one_to_one, is_scatter_gather, tasks_of as planned}
use Rattle.tez_plan.specs.Faults.{IsValid, incoming}
use Rattle.tez_plan.specs.Ranges.{IsInRanges}
use Rattle.tez_conf.specs.declared.values.ConfValues.{ConfValues}
use Rattle.tez_shrink.specs.Formulas.{tasks_of as tasks_for, base_of}
use Rattle.tez_vman.specs.declared.seen.Config.{Config}
use Rattle.tez_vman.specs.Rules.{configures as configures_by, config as shape}
use Rattle.tez_events.specs.declared.Entry.{Entry}
use Rattle.tez_events.specs.declared.Entry.TheVariants.{Opened, Over, Stands, Kept, Configured}
use Rattle.tez_history.specs.Shape.{Edge, Feed, ByFile, ByVertex, ByPartitions, feed, feed_by, rule_by, has_source}
use Rattle.tez_history.specs.History.{Past, config}
use Rattle.tez_history.specs.Derived.{is_configured, task_count, seen}
use Rattle.tez_history.specs.Follows.{MayFollow, IsMade}
use Rattle.tez_shares.specs.Shares.{has_edge_from}
use Rattle.tez_progress.specs.Laws.{IsFed, is_stands}
use Rattle.tez_progress.proofs.Fitting.{planned_some}
use Rattle.tez_progress.proofs.Plans.{fed}
use Rattle.tez_progress.proofs.Configured.{vertex_below}
use Rattle.tez_contents.specs.Laws.{IsAllowedSoFar, IsAllowedNow, WasAllowed, WereAllowed, IsKeptRight, KeptRight, is_kept, HasNone}
use Rattle.tez_contents.proofs.Feeds.{feed_is, first_from, edge_of, one_alone, gathers_alone}
use Rattle.tez_meaning.specs.Jobs.{Job}

-- ---- one more configuration

-- the feeder is configured with as many tasks
abbrev pub HasFeeder : (ℕ → Option Config) → ℕ → Config → Type 0
HasFeeder f u s = (d : Config) × (f u ≡ Some d) × (s.tasks ≡ d.tasks) × (s.base ≡ 1)

-- what the manager of v may configure beside f
pub record MayConfigure (g : Dag) (f : ℕ → Option Config) (v : ℕ) (s : Config) : Type 0 where
  pub source : IsTrue (has_source g v) → (s.tasks ≡ planned g v) × (s.base ≡ 1)
  pub one_to_one : (u : ℕ) → IsTrue (has_edge_from is_one_to_one g u v) → HasFeeder f u s
  pub shuffle : (u : ℕ) → IsTrue (has_edge_from is_scatter_gather g u v) → (1 ≤ s.base) × (s.base ≤ planned g v) × (s.tasks ≡ tasks_for (planned g v) s.base)

some_same : {s d : Config} → Some s ≡ Some d → s ≡ d
some_same h = cc

-- what is set at w, or what stood before
set_case : (P : Config → Type 0) (f : ℕ → Option Config) (w v : ℕ) (new s : Config) → (w ≡ v → P new) → (f v ≡ Some s → P s) → (if w == v then Some new else f v) ≡ Some s → P s
set_case P f w v new s now before h = by (w == v) refl h where
  by : (b : Bool) → (w == v) ≡ b → (if b then Some new else f v) ≡ Some s → P s
  by true e k = subst P (some_same k) (now (eqb-true w v e))
  by false e k = before k

-- what is configured before stays so
stays : (f : ℕ → Option Config) (w u : ℕ) (new s : Config) → f w ≡ None → HasFeeder f u s → HasFeeder (λ v. if w == v then Some new else f v) u s
stays f w u new s none k = by (w == u) refl where
  by : (b : Bool) → (w == u) ≡ b → HasFeeder (λ v. if w == v then Some new else f v) u s
  by true e = let clear : f u ≡ None = subst (λ x. f x ≡ None) (eqb-true w u e) none in let full : f u ≡ Some k.0 = k.1 in cc
  by false e = (k.0, rw e k.1, k.2, k.3)

pub allowed_set : (g : Dag) (f : ℕ → Option Config) (w : ℕ) (new : Config) → f w ≡ None → MayConfigure g f w new → IsAllowedSoFar g f → IsAllowedSoFar g (λ v. if w == v then Some new else f v)
allowed_set g f w new none may so_far = record {
  source = λ v s h k.
      set_case (λ x. (x.tasks ≡ planned g v) × (x.base ≡ 1)) f w v new s
      (λ e. subst (λ y. (new.tasks ≡ planned g y) × (new.base ≡ 1)) e (may.source (subst (λ y. IsTrue (has_source g y)) (sym e) k)))
      (λ i. so_far.source v s i k) h;
  one_to_one = λ v u s h k.
      stays f w u new s none
      (set_case (λ x. HasFeeder f u x) f w v new s
      (λ e. may.one_to_one u (subst (λ y. IsTrue (has_edge_from is_one_to_one g u y)) (sym e) k))
      (λ i. so_far.one_to_one v u s i k) h);
  shuffle = λ v u s h k.
      set_case (λ x. (1 ≤ x.base) × (x.base ≤ planned g v) × (x.tasks ≡ tasks_for (planned g v) x.base)) f w v new s
      (λ e. subst (λ y. (1 ≤ new.base) × (new.base ≤ planned g y) × (new.tasks ≡ tasks_for (planned g y) new.base)) e (may.shuffle u (subst (λ y. IsTrue (has_edge_from is_scatter_gather g u y)) (sym e) k)))
      (λ i. so_far.shuffle v u s i k) h;
}

pub allowed_none : (g : Dag) (f : ℕ → Option Config) → ((v : ℕ) → f v ≡ None) → IsAllowedSoFar g f
allowed_none g f none = record {
  source = λ v s h. let clear : f v ≡ None = none v in cc;
  one_to_one = λ v u s h. let clear : f v ≡ None = none v in cc;
  shuffle = λ v u s h. let clear : f v ≡ None = none v in cc;
}

-- ---- what a manager configures

module _ (g : Dag) (c : ConfValues) (v : ℕ) (past : Past) (s : Config) (ranges : IsInRanges g) (valid : IsValid g) (inside : v < length g.vertices) where
  Configures : Feed → Type 0
  Configures f = configures_by (rule_by g c v f) (seen g v past) ≡ Some s

  from_file : has_source g v ≡ true → Configures (feed g v) → (s.tasks ≡ planned g v) × (s.base ≡ 1)
  unfolding Configures
  from_file h k =
      let e : feed g v ≡ ByFile = feed_is g v ∙ ap (λ b. feed_by b (first_from g (incoming is_one_to_one g v))) h in
      let same : shape (planned g v) 1 ≡ s = some_same (subst Configures e k) in
      (sym (ap (λ x. x.tasks) same), sym (ap (λ x. x.base) same))

  of_one : (e : Edge) → (if list_all (λ e. is_configured (from g e.1) past) (e ∷ []) then Some (shape (sum_by (λ e. task_count g (from g e.1) past) (e ∷ [])) 1) else None) ≡ Some s
      → HasFeeder (λ v. config v past) (from g e.1) s
  of_one e h = by (config (from g e.1) past) refl h where
    by : (o : Option Config) → config (from g e.1) past ≡ o
        → (if is_some o && true then Some (shape (sum_by (λ e. task_count g (from g e.1) past) (e ∷ [])) 1) else None) ≡ Some s → HasFeeder (λ v. config v past) (from g e.1) s
    by None k i = cc
    by (Some d) k i =
        let sum = sum_by-cons (λ (e : Edge). task_count g (from g e.1) past) e [] in
        let count : task_count g (from g e.1) past ≡ d.tasks = ap (λ o. (unwrap_or o (shape (planned g (from g e.1)) 1)).tasks) k in
        let same = some_same i in
        let told : sum_by (λ (e : Edge). task_count g (from g e.1) past) (e ∷ []) ≡ s.tasks = ap (λ z. z.tasks) same in
        (d, k, omega (arith, sum, count, told), sym (ap (λ z. z.base) same))

  from_vertex : (u : ℕ) → has_edge_from is_one_to_one g u v ≡ true → Configures (feed g v) → HasFeeder (λ v. config v past) u s
  unfolding Configures
  from_vertex u h k =
      let e = edge_of g is_one_to_one u v h in
      let only = one_alone g v valid inside e.0 e.1 e.2 in
      let fed_by : feed g v ≡ ByVertex (from g e.0) = feed_is g v ∙ ap (λ b. feed_by b (first_from g (incoming is_one_to_one g v))) only.1 ∙ ap (λ es. feed_by false (first_from g es)) only.0 in
      let f : IsFed g v (ByVertex (from g e.0)) = subst (IsFed g v) fed_by (fed g v valid inside) in
      subst (λ x. HasFeeder (λ v. config v past) x s) (f.2 ∙ e.3)
      (of_one f.0 (subst (λ es. (if list_all (λ e. is_configured (from g e.1) past) es then Some (shape (sum_by (λ e. task_count g (from g e.1) past) es) 1) else None) ≡ Some s) f.1 (subst Configures fed_by k)))

  abbrev IsShuffled : Config → Type 0
  IsShuffled x = (1 ≤ x.base) × (x.base ≤ planned g v) × (x.tasks ≡ tasks_for (planned g v) x.base)

  base_right : (parts wanted : ℕ) → 1 ≤ parts → (1 ≤ base_of parts wanted) × (base_of parts wanted ≤ parts)
  base_right parts wanted some = (omega arith, let low : parts / wanted ≤ parts = div-le_self parts wanted in omega (arith, low))

  by_ones : (n : ℕ) → n ≡ tasks_for n 1
  by_ones n = grind (arith, div-one)

  shuffled : (auto enough : Bool) (x y : Config) → IsShuffled x → IsShuffled y → (if auto then (if enough then Some x else None) else Some y) ≡ Some s → IsShuffled s
  shuffled true true x y a b h = subst IsShuffled (some_same h) a
  shuffled true false x y a b h = cc
  shuffled false enough x y a b h = subst IsShuffled (some_same h) b

  from_partitions : (u : ℕ) → has_edge_from is_scatter_gather g u v ≡ true → Configures (feed g v) → IsShuffled s
  unfolding Configures
  from_partitions u h k =
      let e = edge_of g is_scatter_gather u v h in
      let only = gathers_alone g v valid inside e.0 e.1 e.2 in
      let fed_by : feed g v ≡ ByPartitions = feed_is g v ∙ ap (λ b. feed_by b (first_from g (incoming is_one_to_one g v))) only.1 ∙ ap (λ es. feed_by false (first_from g es)) only.0 in
      let some = planned_some g v ranges inside in
      let right = base_right (planned g v) _ some in
      shuffled _ _ _ _ (right.0, right.1, refl) (omega arith, some, by_ones (planned g v)) (subst Configures fed_by k)

  pub manager_may : configures_by (rule_by g c v (feed g v)) (seen g v past) ≡ Some s → MayConfigure g (λ v. config v past) v s
  unfolding Configures
  manager_may k = record { source = λ h. from_file h k; one_to_one = λ u h. from_vertex u h k; shuffle = λ u h. from_partitions u h k }

-- ---- histories

pub allowed_next : (g : Dag) (c : ConfValues) (past : Past) (e : Entry) → IsInRanges g → IsValid g → MayFollow g c past e → is_stands e ≡ false → IsAllowedNow g past → IsAllowedNow g (e ∷ past)
allowed_next g c past (Opened x) ranges valid m s now = allowed_none g (λ v. config v (Opened x ∷ past)) (λ v. refl)
allowed_next g c past Over ranges valid m s now = allowed_none g (λ v. config v (Over ∷ past)) (λ v. refl)
allowed_next g c past (Stands w n b) ranges valid m s now = cc
allowed_next g c past (Configured w n b) ranges valid m s now =
    allowed_set g (λ v. config v past) w.0 (shape n b) m.0 (manager_may g c w.0 past (shape n b) ranges valid (vertex_below g w.0 m.2) m.1) now
allowed_next g c past _ ranges valid m s now = now

pub allowed_now : (g : Dag) (c : ConfValues) (past : Past) → IsInRanges g → IsValid g → IsMade g c past → HasNone is_stands past → IsAllowedNow g past
allowed_now g c [] ranges valid m none = allowed_none g (λ v. None) (λ v. refl)
allowed_now g c (e ∷ past) ranges valid m none = allowed_next g c past e ranges valid m.0 none.0 (allowed_now g c past ranges valid m.1 none.1)

pub was_allowed : (g : Dag) (past : Past) (e : Entry) → is_stands e ≡ false → IsAllowedNow g past → WasAllowed g past e
was_allowed g past (Stands w n b) h now = cc
was_allowed g past _ h now = now

pub allowed_always : (g : Dag) (c : ConfValues) (past : Past) → IsInRanges g → IsValid g → IsMade g c past → HasNone is_stands past → WereAllowed g past
allowed_always g c [] ranges valid m none = tt
allowed_always g c (e ∷ past) ranges valid m none = (was_allowed g past e none.0 (allowed_now g c past ranges valid m.1 none.1), allowed_always g c past ranges valid m.1 none.1)

pub kept_none : (job : Job) (past : Past) (e : Entry) → is_kept e ≡ false → IsKeptRight job past e
kept_none job past (Kept a) h = cc
kept_none job past _ h = tt

pub kept_right : (job : Job) (past : Past) → HasNone is_kept past → KeptRight job past
kept_right job [] none = tt
kept_right job (e ∷ past) none = (kept_none job past e none.0, kept_right job past none.1)
