-- The order of the vertices of a plan.
--     by_sources-step      what a vertex gets is what the step makes of what its sources got
--     IsRanking p rank     each vertex ranks above its sources
--     ranked               a valid plan has a ranking
use Rattle.std.proofs.Common.{◌≡◌, ℕ, zero, suc, ◌<◌, Bool, true, List, [], ◌∷◌, arith, filter}
use Rattle.std.specs.List.{AllByRecursion}
use Rattle.tez_lists.proofs.Cases.{cases}
use Rattle.tez_plan.specs.Dag.{Dag, from, edges_into}
use Rattle.tez_plan.specs.Order.{by_sources}

pub all_map : {X : Type 0} (P Q : X → Type 0) → ((x : X) → P x → Q x) → (xs : List X) → AllByRecursion P xs → AllByRecursion Q xs
all_map P Q h [] all = tt
all_map P Q h (x ∷ xs) all = (h x all.0, all_map P Q h xs all.1)

pub all_filter : {X : Type 0} (P Q : X → Type 0) (kind : X → Bool) → ((x : X) → kind x ≡ true → P x → Q x) → (xs : List X) → AllByRecursion P xs → AllByRecursion Q (filter kind xs)
all_filter P Q kind h [] all = tt
all_filter P Q kind h (x ∷ xs) all = cases (kind x)
    (λ e. rw e (h x e all.0, all_filter P Q kind h xs all.1))
    (λ e. rw e (all_filter P Q kind h xs all.1))

abbrev pub IsRanking : Dag → (ℕ → ℕ) → Type 0
IsRanking p rank = (v : ℕ) → AllByRecursion (λ e. rank (from p e) < rank v) (edges_into p v)

-- the step looks at the sources of its vertex alone
abbrev pub LooksAtSources : {X : Type 0} → Dag → (ℕ → (ℕ → X) → X) → Type 0
LooksAtSources {X} p step = (v : ℕ) (f g : ℕ → X) → AllByRecursion (λ e. f (from p e) ≡ g (from p e)) (edges_into p v) → step v f ≡ step v g

module _ {X : Type 0} (none : X) (step : ℕ → (ℕ → X) → X) (p : Dag) (looks : LooksAtSources p step) (rank : ℕ → ℕ) (falls : IsRanking p rank) where
  deep : (n m v : ℕ) → rank v < n → rank v < m → by_sources none step n v ≡ by_sources none step m v
  deep zero m v h k = absurd (omega arith)
  deep (suc n) zero v h k = absurd (omega arith)
  deep (suc n) (suc m) v h k = looks v (by_sources none step n) (by_sources none step m)
      (all_map (λ e. rank (from p e) < rank v) (λ e. by_sources none step n (from p e) ≡ by_sources none step m (from p e))
      (λ e lower. deep n m (from p e) (omega arith) (omega arith)) (edges_into p v) (falls v))

  pub by_sources-step : (n v : ℕ) → rank v < n → by_sources none step n v ≡ step v (by_sources none step n)
  by_sources-step zero v h = absurd (omega arith)
  by_sources-step (suc n) v h = looks v (by_sources none step n) (by_sources none step (suc n))
      (all_map (λ e. rank (from p e) < rank v) (λ e. by_sources none step n (from p e) ≡ by_sources none step (suc n) (from p e))
      (λ e lower. deep n (suc n) (from p e) (omega arith) (omega arith)) (edges_into p v) (falls v))
