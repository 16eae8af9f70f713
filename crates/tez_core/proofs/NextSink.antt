-- The sinks from one vertex on, and the one that is recorded next.
use Rattle.std.specs.Prelude.{◌≡◌, ℕ, zero, suc, ◌+◌, ◌-◌, ◌<◌, ◌≤◌, ◌==◌, Bool, true, false, if◌then◌else◌, List, [], ◌∷◌, length, slice_get, Option, Some, None, is_some, refl}
use Rattle.std.specs.List.{filter}
use Rattle.std.specs.Option.{option_map_or}
use Rattle.std.proofs.Common.{ap, sym, ◌∙◌, arith}
use Rattle.tez_lists.specs.Numbers.{numbers_from}
use Rattle.tez_plan.specs.Dag.{Dag}
use Rattle.tez_history.specs.Shape.{has_sink, sinks}
use Rattle.tez_master_model.specs.State.{MasterState}
use Rattle.tez_master_model.specs.Read.{next_sink, is_next}

abbrev pub sinks_on : Dag → ℕ → List ℕ
sinks_on p v = filter (has_sink p) (numbers_from v (length p.vertices - v))

one_more : (n v : ℕ) → v < n → numbers_from v (n - v) ≡ v ∷ numbers_from (suc v) (n - suc v)
one_more n v below = let step : n - v ≡ suc (n - suc v) = omega arith in ap (numbers_from v) step

at_sink : (p : Dag) (v : ℕ) (b : Bool) → v < length p.vertices → has_sink p v ≡ b
    → sinks_on p v ≡ (if b then v ∷ sinks_on p (suc v) else sinks_on p (suc v))
at_sink p v b below has =
    ap (filter (has_sink p)) (one_more (length p.vertices) v below)
    ∙ ap (λ c. if c then v ∷ sinks_on p (suc v) else sinks_on p (suc v)) has

-- ---- a walk over the vertices, with so many sinks left before the one that is looked for

pub at_start : (p : Dag) (n : ℕ) → slice_get (sinks_on p 0) n ≡ slice_get (sinks p) n
at_start p n =
    let all : length p.vertices - 0 ≡ length p.vertices = omega arith in
    ap (λ k. slice_get (filter (has_sink p) (numbers_from 0 k)) n) all

pub reached : (p : Dag) (v left n : ℕ) → v < length p.vertices → has_sink p v ≡ true → left ≡ 0
    → slice_get (sinks_on p v) left ≡ slice_get (sinks p) n → Some v ≡ slice_get (sinks p) n
reached p v left n below has none h = sym (ap (slice_get (sinks_on p v)) none ∙ ap (λ xs. slice_get xs 0) (at_sink p v true below has)) ∙ h

pub skipped : (p : Dag) (v left n : ℕ) → v < length p.vertices → has_sink p v ≡ true → (left ≡ 0 → ⊥)
    → slice_get (sinks_on p v) left ≡ slice_get (sinks p) n → slice_get (sinks_on p (v + 1)) (left - 1) ≡ slice_get (sinks p) n
skipped p v left n below has some h =
    let one : left ≡ suc (left - 1) = omega arith in
    let next : v + 1 ≡ suc v = omega arith in
    ap (λ w. slice_get (sinks_on p w) (left - 1)) next
    ∙ sym (ap (slice_get (sinks_on p v)) one ∙ ap (λ xs. slice_get xs (suc (left - 1))) (at_sink p v true below has))
    ∙ h

pub passed : (p : Dag) (v left n : ℕ) → v < length p.vertices → has_sink p v ≡ false
    → slice_get (sinks_on p v) left ≡ slice_get (sinks p) n → slice_get (sinks_on p (v + 1)) left ≡ slice_get (sinks p) n
passed p v left n below has h =
    let next : v + 1 ≡ suc v = omega arith in
    ap (λ w. slice_get (sinks_on p w) left) next ∙ sym (ap (λ xs. slice_get xs left) (at_sink p v false below has)) ∙ h

pub none_left : (p : Dag) (v left n : ℕ) → length p.vertices ≤ v → slice_get (sinks_on p v) left ≡ slice_get (sinks p) n → None ≡ slice_get (sinks p) n
none_left p v left n over h =
    let none : length p.vertices - v ≡ 0 = omega arith in
    sym (ap (λ k. slice_get (filter (has_sink p) (numbers_from v k)) left) none) ∙ h

-- ---- the next one has a place below the number of vertices

few_sinks : (p : Dag) (a n : ℕ) → length (filter (has_sink p) (numbers_from a n)) ≤ n
few_sinks p a zero = omega arith
few_sinks p a (suc n) = by (has_sink p a) (few_sinks p (suc a) n) where
  by : (b : Bool) → length (filter (has_sink p) (numbers_from (suc a) n)) ≤ n
      → length (if b then a ∷ filter (has_sink p) (numbers_from (suc a) n) else filter (has_sink p) (numbers_from (suc a) n)) ≤ suc n
  by true h = omega arith
  by false h = omega arith

below : (xs : List ℕ) (i : ℕ) → is_some (slice_get xs i) ≡ true → i < length xs
below [] i h = cc
below (x ∷ xs) zero h = omega arith
below (x ∷ xs) (suc i) h = let more = below xs i h in omega arith

pub few_recorded : (m : MasterState) → is_some (next_sink m) ≡ true → m.recorded < length m.plan.vertices
few_recorded m h =
    let low = below (sinks m.plan) m.recorded h in
    let all = few_sinks m.plan 0 (length m.plan.vertices) in
    omega arith

pub next_there : (m : MasterState) (v : ℕ) → is_next m v ≡ true → is_some (next_sink m) ≡ true
next_there m v = by (next_sink m) where
  by : (o : Option ℕ) → option_map_or (λ w. w == v) o false ≡ true → is_some o ≡ true
  by None h = cc
  by (Some w) h = refl
