-- The bytes that a report tells.
--     passes                       what a filter keeps passes its test
--     bytes_told                   over each edge the bytes of the pieces are those of the value
--     bytes_fit                    they fit, since an outcome has few bytes
use Rattle.std.specs.Prelude.{◌≡◌, ◌<◌, ◌≤◌, ◌^◌, ℕ, Bool, true, false, if◌then◌else◌, List, [], ◌∷◌, map, length, sum_by, Some, None, unwrap_or, refl}
use Rattle.std.specs.List.{filter, list_any, enumerate_from}
use Rattle.std.proofs.Common.{ap, sym, ◌∙◌, arith, inl, inr}
use Rattle.std.proofs.lemmas.Bool.{eqb-true}
use Rattle.std.proofs.lemmas.List.Sums.{sum_by-cons}
use Rattle.tez_ids.specs.declared.EdgeId.{EdgeId}
use Rattle.tez_lists.specs.Numbers.{In}
use Rattle.tez_lists.proofs.Cases.{cases}
use Rattle.tez_lists.proofs.Flat.{in-filter-out}
use Rattle.tez_record.specs.Bag.{text}
use Rattle.tez_plan.specs.Dag.{from, edge, is_scatter_gather}
use Rattle.tez_conf.specs.declared.values.ConfValues.{ConfValues}
use Rattle.tez_meaning.specs.Jobs.{Job}
use Rattle.tez_shares.specs.Shares.{HasTasks}
use Rattle.tez_shelves.specs.Piece.{size, is_on, bytes_on}
use Rattle.tez_history.specs.Shape.{Edge}
use Rattle.tez_history.specs.History.{Past}
use Rattle.tez_laws.proofs.StepLaw.{both}
use Rattle.tez_progress.proofs.Fitting.{planned_some}
use Rattle.tez_contents.specs.Contents.{made}
use Rattle.tez_master_model.specs.Bytes.{bytes_of, leaves_by_key}
use Rattle.tez_orders.specs.Orders.{OrderParts}
use Rattle.tez_orders.specs.Outcomes.{IsOutcome}
use Rattle.tez_orders.specs.declared.report.Outcome.TheVariants.{Done}
use Rattle.tez_assembly.specs.Order.{Records}
use Rattle.tez_assembly.proofs.CutLemmas.{bytes_are}
use Rattle.tez_inflight.specs.Seats.{Out, seat_at}
use Rattle.tez_work_view.specs.Holdings.{Pieces}
use Rattle.tez_rules.specs.OneMaster.{AllFit}
use Rattle.tez_world_invariant.specs.Reports.{made_for}
use Rattle.tez_steps.specs.declared.running.Running.{Running}
use Rattle.tez_steps.specs.declared.reporting.At.{At}
use Rattle.tez_steps.specs.Step.{bytes_out}
use Rattle.tez_steps.specs.Holds.{parts_of, Holds}
use Rattle.tez_steps.specs.Reporting.{IsAtWork}
use Rattle.tez_steps.proofs.Reported.{value_is, pieces_are, few_pieces}

-- ---- lists

passes : {X : Type 0} (p : X → Bool) (x : X) (xs : List X) → In x (filter p xs) → p x ≡ true
passes p x [] i = absurd i
passes p x (y ∷ ys) i = cases (p y)
    (λ t. let j : In x (y ∷ filter p ys) = rw t at i in elim j [ inl e ↦ ap p e ∙ t | inr k ↦ passes p x ys k ])
    (λ f. let j : In x (filter p ys) = rw f at i in passes p x ys j)

filter_less : {X : Type 0} (f : X → ℕ) (p : X → Bool) (xs : List X) → sum_by f (filter p xs) ≤ sum_by f xs
filter_less f p [] = omega arith
filter_less f p (x ∷ xs) =
    let rest = filter_less f p xs in
    let all = sum_by-cons f x xs in
    let more = sum_by-cons f x (filter p xs) in
    cases (p x) (λ t. rw t (omega (arith, rest, all, more))) (λ no. rw no (omega (arith, rest, all)))

abbrev told_by : (ℕ → ℕ) → Edge → EdgeId × ℕ
told_by f e = (edge e.0, f e.0)

abbrev pub told_as : ℕ → Edge → ℕ × ℕ
told_as n e = (e.0, n)

each_told : (f : ℕ → ℕ) (n : ℕ) (es : List Edge) → ((e : Edge) → In e es → f e.0 ≡ n) → map bytes_of (map (told_by f) es) ≡ map (told_as n) es
each_told f n [] h = refl
each_told f n (e ∷ es) h =
    let here : f e.0 ≡ n = h e (inl refl) in
    let rest = each_told f n es (λ d i. h d (inr i)) in
    ap {A = ℕ} (λ m. (e.0, m) ∷ map bytes_of (map (told_by f) es)) here ∙ ap (λ ys. (e.0, n) ∷ ys) rest

all_fit : (n : ℕ) (es : List Edge) → ((e : Edge) → In e es → n < 2 ^ 64) → AllFit (map (told_as n) es)
all_fit n [] h = tt
all_fit n (e ∷ es) h = (h e (inl refl), all_fit n es (λ d i. h d (inr i)))

bytes_less : (e : EdgeId) (n : ℕ) (ps : Pieces) → bytes_on e ps ≡ Some n → n ≤ sum_by size ps
bytes_less e n ps is = by (list_any (is_on e) ps) is where
  by : (b : Bool) → (if b then Some (sum_by size (filter (is_on e) ps)) else None) ≡ Some n → n ≤ sum_by size ps
  by true g =
      let same : sum_by size (filter (is_on e) ps) ≡ n = cc in
      let less = filter_less size (is_on e) ps in
      omega (arith, same, less)
  by false g = cc

-- ---- the bytes of pieces

module _ (job : Job) (c : ConfValues) (old : Running) (past : Past) (at : At) (value : Records) (pieces : Pieces) (h : Holds job c (parts_of old) past) (w : IsAtWork old.master.state at)
    (due : (o : OrderParts) → seat_at old.seats.seats at.place ≡ Out o → IsOutcome o (Done value pieces)) where
  abbrev out : List Edge
  out = filter (leaves_by_key job.plan at.a.task.vertex.0) (enumerate_from 0 job.plan.edges)

  on_edge : (e : Edge) → In e out → bytes_on (edge e.0) pieces ≡ Some (length (text value))
  on_edge e i =
      let v = at.a.task.vertex.0 in
      let inside = in-filter-out (leaves_by_key job.plan v) e (enumerate_from 0 job.plan.edges) i in
      let leaves = both {x = is_scatter_gather e.1} (passes (leaves_by_key job.plan v) e (enumerate_from 0 job.plan.edges) i) in
      let has : HasTasks job.plan = λ u below. let some = planned_some job.plan u h.well.ranges below in omega (arith, some) in
      ap (bytes_on (edge e.0)) (pieces_are job c old past at value pieces h w due)
      ∙ bytes_are job.plan v e (made job at.a past) h.well.valid has inside (eqb-true (from job.plan e.1) v leaves.1)
      ∙ ap (λ (rs : Records). Some (length (text rs))) (sym (value_is job c old past at value pieces h w due))

  pub bytes_told : map bytes_of (made_for job.plan at.a (λ n. unwrap_or (bytes_on (edge n) pieces) 0)) ≡ bytes_out job.plan at.a.task.vertex.0 value
  bytes_told = each_told (λ n. unwrap_or (bytes_on (edge n) pieces) 0) (length (text value)) out (λ e i. ap (λ o. unwrap_or o 0) (on_edge e i))

  pub bytes_fit : AllFit (bytes_out job.plan at.a.task.vertex.0 value)
  bytes_fit = all_fit (length (text value)) out (λ e i.
      let less = bytes_less (edge e.0) (length (text value)) pieces (on_edge e i) in
      let few = few_pieces job c old past at value pieces h w due in
      omega (arith, less, few))
