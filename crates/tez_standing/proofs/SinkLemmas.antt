-- The sinks from one vertex on.
use Rattle.std.proofs.Common.{◌≡◌, ◌∙◌, ℕ, zero, suc, ◌+◌, ◌-◌, ◌<◌, ◌≤◌, ◌==◌, Bool, true, false, List, [], ◌∷◌, length, sym, ap, arith, slice_get, get_or, Some, true≢false}
use Rattle.std.specs.Prelude.{if◌then◌else◌}
use Rattle.std.specs.List.{filter}
use Rattle.std.specs.Option.{option_map_or}
use Rattle.tez_plan.specs.Dag.{Dag}
use Rattle.tez_lists.specs.Numbers.{numbers_from}
use Rattle.tez_events.specs.declared.JournalRecord.{JournalRecord}
use Rattle.tez_events.specs.declared.JournalRecord.TheVariants.{Submitted, Opened, Configured, TaskSucceeded, AttemptFailed, CommitStarted, Finished, Version, SinkPublished}
use Rattle.tez_standing.specs.declared.state.Phase.{Phase}
use Rattle.tez_standing.specs.declared.state.Phase.TheVariants as phases
use Rattle.tez_standing.specs.Standing.{Known, has_sink, sink_vertices, next_sink, fits}
use Rattle.tez_standing.specs.Progress.{CanCount, CanTake}
use Rattle.tez_standing.proofs.RecordLemmas.{both_right}

abbrev pub sinks_on : Dag → ℕ → List ℕ
sinks_on p v = filter (has_sink p) (numbers_from v (length p.vertices - v))

one_more : (n v : ℕ) → v < n → numbers_from v (n - v) ≡ v ∷ numbers_from (suc v) (n - suc v)
one_more n v below = let step : n - v ≡ suc (n - suc v) = omega arith in ap (numbers_from v) step

pub here : (p : Dag) (v : ℕ) → v < length p.vertices → has_sink p v ≡ true → sinks_on p v ≡ v ∷ sinks_on p (suc v)
here p v below has =
    ap (filter (has_sink p)) (one_more (length p.vertices) v below)
    ∙ ap (λ b. if b then v ∷ sinks_on p (suc v) else sinks_on p (suc v)) has

pub not_here : (p : Dag) (v : ℕ) → v < length p.vertices → has_sink p v ≡ false → sinks_on p v ≡ sinks_on p (suc v)
not_here p v below has =
    ap (filter (has_sink p)) (one_more (length p.vertices) v below)
    ∙ ap (λ b. if b then v ∷ sinks_on p (suc v) else sinks_on p (suc v)) has

pub at_the_end : (p : Dag) (v : ℕ) → length p.vertices ≤ v → sinks_on p v ≡ []
at_the_end p v over = let none : length p.vertices - v ≡ 0 = omega arith in ap (λ n. filter (has_sink p) (numbers_from v n)) none

pub skipped : (p : Dag) (v left n : ℕ) → v < length p.vertices → has_sink p v ≡ true → (left ≡ 0 → ⊥)
    → slice_get (sinks_on p v) left ≡ slice_get (sink_vertices p) n → slice_get (sinks_on p (v + 1)) (left - 1) ≡ slice_get (sink_vertices p) n
skipped p v left n below has some h =
    let one : left ≡ suc (left - 1) = omega arith in
    let next : v + 1 ≡ suc v = omega arith in
    ap (λ w. slice_get (sinks_on p w) (left - 1)) next
    ∙ sym (ap (slice_get (sinks_on p v)) one ∙ ap (λ xs. slice_get xs (suc (left - 1))) (here p v below has))
    ∙ h

pub passed : (p : Dag) (v left n : ℕ) → v < length p.vertices → has_sink p v ≡ false
    → slice_get (sinks_on p v) left ≡ slice_get (sink_vertices p) n → slice_get (sinks_on p (v + 1)) left ≡ slice_get (sink_vertices p) n
passed p v left n below has h =
    let next : v + 1 ≡ suc v = omega arith in
    ap (λ w. slice_get (sinks_on p w) left) next ∙ sym (ap (λ xs. slice_get xs left) (not_here p v below has)) ∙ h

pub get_there : {X : Type 0} (xs : List X) (i : ℕ) (x : X) → i < length xs → x ≡ get_or xs i x → slice_get xs i ≡ Some x
get_there [] i x below is = let never : ⊥ = omega arith in absurd never
get_there (y ∷ ys) zero x below is = ap Some (sym is)
get_there (y ∷ ys) (suc i) x below is = get_there ys i x (omega arith) is

-- ---- a sink that may be recorded next has a place below the number of vertices

few_sinks : (p : Dag) (a n : ℕ) → length (filter (has_sink p) (numbers_from a n)) ≤ n
few_sinks p a zero = omega arith
few_sinks p a (suc n) = by (has_sink p a) (few_sinks p (suc a) n) where
  by : (b : Bool) → length (filter (has_sink p) (numbers_from (suc a) n)) ≤ n → length (if b then a ∷ filter (has_sink p) (numbers_from (suc a) n) else filter (has_sink p) (numbers_from (suc a) n)) ≤ suc n
  by true h = omega arith
  by false h = omega arith

get_below : (xs : List ℕ) (i : ℕ) (t : ℕ → Bool) → option_map_or t (slice_get xs i) false ≡ true → i < length xs
get_below [] i t h = absurd (true≢false (sym h))
get_below (x ∷ xs) zero t h = omega arith
get_below (x ∷ xs) (suc i) t h = let more = get_below xs i t h in omega arith

pub can_take : (p : Dag) (k : Known) (r : JournalRecord) → length p.vertices ≤ 64 → fits p k r ≡ true → CanTake r k.phase
can_take p k (SinkPublished w) few h = by k.phase (both_right (k.version == 2) _ h) where
  by : (ph : Phase) → option_map_or (λ v. v == w.0) (next_sink p ph) false ≡ true → CanCount ph
  by phases.Running g = tt
  by (phases.CommitStarted sums n) g =
      let low = get_below (sink_vertices p) n (λ v. v == w.0) g in
      let all = few_sinks p 0 (length p.vertices) in
      omega arith
  by (phases.Finished sums) g = tt
can_take p k (Submitted text) few h = tt
can_take p k (Opened e) few h = tt
can_take p k (Configured w tasks base) few h = tt
can_take p k (TaskSucceeded a) few h = tt
can_take p k (AttemptFailed a) few h = tt
can_take p k (CommitStarted sums) few h = tt
can_take p k Finished few h = tt
can_take p k Version few h = tt
