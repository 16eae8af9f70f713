-- A fetched input is marked.
use Rattle.std.specs.Prelude.{◌≡◌, ℕ, ◌+◌, Bool, true, false, ◌&&◌, ◌||◌, ◌==◌, if◌then◌else◌, List, ◌∷◌, map, slice_set, refl}
use Rattle.std.proofs.Common.{ap, sym, ◌∙◌, zero-add, arith}
use Rattle.std.proofs.lemmas.Bool.Decides.{nat_tests}
use Rattle.tez_ids.specs.declared.AttemptId.{AttemptId}
use Rattle.tez_ids.specs.declared.EdgeId.{EdgeId}
use Rattle.tez_ids.specs.Same.{same_attempt}
use Rattle.tez_events.specs.declared.Entry.TheVariants.{Fetched}
use Rattle.tez_lists.specs.Numbers.{numbers_from}
use Rattle.tez_lists.proofs.Tables.{set_each, map_below}
use Rattle.tez_plan.specs.Dag.{Dag}
use Rattle.tez_history.specs.Shape.{Edge, edges_to}
use Rattle.tez_history.specs.History.{Past, is_fetched}
use Rattle.tez_history.specs.Derived.{waiting_attempts, input_count}
use Rattle.tez_laws.proofs.Same.{same_attempt-true, same_attempt-refl}
use Rattle.tez_router.specs.State.{EdgeInputs, AdmittedState}
use Rattle.tez_router.specs.Table.{after_fetched, fetch_by, fetch_over}
use Rattle.tez_router_view.specs.View.{router_view, admitted_view, inputs_view}
use Rattle.tez_router_view.proofs.Lists.{map-map, map-same}

turned : (x y : AttemptId) → same_attempt x y ≡ same_attempt y x
turned x y = by (same_attempt x y) refl (same_attempt y x) refl where
  by : (p : Bool) → same_attempt x y ≡ p → (q : Bool) → same_attempt y x ≡ q → p ≡ q
  by true e true f = refl
  by false e false f = refl
  by true e false f = let s : y ≡ x = sym (same_attempt-true x y e) in sym (same_attempt-refl y) ∙ ap (same_attempt y) s ∙ f
  by false e true f = let s : x ≡ y = sym (same_attempt-true y x f) in sym e ∙ ap (same_attempt x) (sym s) ∙ same_attempt-refl x

turned_number : (x y : ℕ) → (x == y) ≡ (y == x)
turned_number x y = grind (arith, nat_tests)

mark : (x y : Bool) → (if x then true else y) ≡ (x || y)
mark true y = refl
mark false y = refl

row : ℕ → List Bool → EdgeInputs
row e bs = record { edge = e; fetched = bs }

-- over one edge of the attempt that fetched
over_edge : (g : Dag) (past : Past) (a b : AttemptId) (e : EdgeId) (i : ℕ) (w : AttemptId) (d : Edge) → same_attempt b a ≡ true
    → fetch_over e.0 i (inputs_view g past b d) ≡ inputs_view g (Fetched a e i w ∷ past) b d
unfolding row
over_edge g past a b e i w d same = by (d.0 == e.0) refl where
  n : ℕ
  n = input_count g past d.1 b.task.index

  flag : (j : ℕ) (x : Bool) → (d.0 == e.0) ≡ x → (x && (i == j)) || is_fetched b d.0 j past ≡ (same_attempt a b && ((e.0 == d.0) && (i == j))) || is_fetched b d.0 j past
  flag j x h =
      ap (λ z. (z && (i == j)) || is_fetched b d.0 j past) (sym h ∙ turned_number d.0 e.0)
      ∙ ap (λ z. (z && ((e.0 == d.0) && (i == j))) || is_fetched b d.0 j past) (sym (turned a b ∙ same))

  by : (x : Bool) → (d.0 == e.0) ≡ x → (if x then record (inputs_view g past b d) { fetched = slice_set (map (λ j. is_fetched b d.0 j past) (numbers_from 0 n)) i true } else inputs_view g past b d) ≡ inputs_view g (Fetched a e i w ∷ past) b d
  by true h =
      ap (row d.0)
      (set_each (λ j. is_fetched b d.0 j past) true 0 n i
      ∙ map_below (λ j. if (0 + i) == j then true else is_fetched b d.0 j past) (λ j. is_fetched b d.0 j (Fetched a e i w ∷ past)) 0 n
      (λ j _ _. ap (λ m. if m == j then true else is_fetched b d.0 j past) (zero-add i) ∙ mark (i == j) (is_fetched b d.0 j past) ∙ flag j true h))
  by false h = ap (row d.0) (map_below (λ j. is_fetched b d.0 j past) (λ j. is_fetched b d.0 j (Fetched a e i w ∷ past)) 0 n (λ j _ _. flag j false h))

with_edges : AttemptId → List EdgeInputs → AdmittedState
with_edges b ys = record { attempt = b; edges = ys }

by_attempt : (g : Dag) (past : Past) (a b : AttemptId) (e : EdgeId) (i : ℕ) (w : AttemptId) → fetch_by a e.0 i (admitted_view g past b) ≡ admitted_view g (Fetched a e i w ∷ past) b
unfolding row with_edges
by_attempt g past a b e i w = by (same_attempt b a) refl where
  other : (d : Edge) → same_attempt b a ≡ false → inputs_view g past b d ≡ inputs_view g (Fetched a e i w ∷ past) b d
  other d h =
      ap (row d.0)
      (map_below (λ j. is_fetched b d.0 j past) (λ j. is_fetched b d.0 j (Fetched a e i w ∷ past)) 0 (input_count g past d.1 b.task.index)
      (λ j _ _. ap (λ z. (z && ((e.0 == d.0) && (i == j))) || is_fetched b d.0 j past) (sym (turned a b ∙ h))))

  by : (x : Bool) → same_attempt b a ≡ x → (if x then record (admitted_view g past b) { edges = map (fetch_over e.0 i) (map (inputs_view g past b) (edges_to g b.task.vertex.0)) } else admitted_view g past b) ≡ admitted_view g (Fetched a e i w ∷ past) b
  by true h =
      ap (with_edges b) (map-map (fetch_over e.0 i) (inputs_view g past b) (edges_to g b.task.vertex.0)
      ∙ map-same (λ d. fetch_over e.0 i (inputs_view g past b d)) (inputs_view g (Fetched a e i w ∷ past) b) (edges_to g b.task.vertex.0) (λ d _. over_edge g past a b e i w d h))
  by false h = ap (with_edges b) (map-same (inputs_view g past b) (inputs_view g (Fetched a e i w ∷ past) b) (edges_to g b.task.vertex.0) (λ d _. other d h))

pub fetched_view : (g : Dag) (past : Past) (a : AttemptId) (e : EdgeId) (i : ℕ) (w : AttemptId) → after_fetched (router_view g past) a e.0 i ≡ router_view g (Fetched a e i w ∷ past)
fetched_view g past a e i w =
    ap (λ xs. record (router_view g past) { admitted = xs })
    (map-map (fetch_by a e.0 i) (admitted_view g past) (waiting_attempts g past)
    ∙ map-same (λ b. fetch_by a e.0 i (admitted_view g past b)) (admitted_view g (Fetched a e i w ∷ past)) (waiting_attempts g past) (λ b _. by_attempt g past a b e i w))
