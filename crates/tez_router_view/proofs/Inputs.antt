-- Lists over the inputs of an attempt: those of the router are those of the model.
use Rattle.std.specs.Prelude.{◌≡◌, ℕ, ◌<◌, Bool, true, false, ◌&&◌, ◌==◌, if◌then◌else◌, cond, List, [], ◌∷◌, map, length, slice_get, Option, Some, None, unwrap_or, refl}
use Rattle.std.specs.List.{find, flat_map, filter, range_with_len}
use Rattle.std.proofs.Common.{ap, sym, ◌∙◌, arith, subst, inl, inr, zero-add}
use Rattle.std.proofs.lemmas.Bool.Decides.{nat_tests}
use Rattle.tez_ids.specs.declared.AttemptId.{AttemptId}
use Rattle.tez_lists.specs.Numbers.{In}
use Rattle.tez_lists.proofs.Flat.{flat_same, flat_map-map, map-filter-flat}
use Rattle.tez_lists.proofs.Members.{in_map, in_flat_map}
use Rattle.tez_lists.proofs.Tables.{get_each}
use Rattle.tez_plan.specs.Dag.{Dag}
use Rattle.tez_history.specs.Shape.{numbers_below, Edge, edges_to}
use Rattle.tez_history.specs.History.{Past, is_fetched}
use Rattle.tez_history.specs.Derived.{Input, inputs, input_count}
use Rattle.tez_history.specs.Steps.{input_at}
use Rattle.tez_router.specs.State.{LinkState, EdgeInputs}
use Rattle.tez_router_view.specs.View.{link_view, links_view, inputs_view}
use Rattle.tez_router_view.proofs.Lists.{map-map, map-same, map-flat, flat-if, filter-map, filter-same, numbers-range, length-numbers}
use Rattle.tez_router_view.proofs.Edges.{one_edge, edge_in, link_got}
use Rattle.tez_router_view.proofs.Ordering.{in-numbers, below-in}
use Rattle.tez_router_view.proofs.Sources.{find-in, edge_of, input-in}

-- ---- one list over the numbers of an edge's inputs

over_numbers : {T S : Type 0} (r q : ℕ → Bool) (mk : ℕ → T) (ev : T → S) (F : ℕ → S) (fetched : List Bool) (n : ℕ) → length fetched ≡ n → ((i : ℕ) → i < n → r i ≡ q i) → ((i : ℕ) → ev (mk i) ≡ F i)
    → map ev (flat_map (λ i. if r i then mk i ∷ [] else []) (range_with_len 0 (length fetched))) ≡ map F (filter q (numbers_below n))
over_numbers r q mk ev F fetched n long agree same =
    ap (λ m. map ev (flat_map (λ i. if r i then mk i ∷ [] else []) (range_with_len 0 m))) long
    ∙ ap (λ xs. map ev (flat_map (λ i. if r i then mk i ∷ [] else []) xs)) (numbers-range 0 n)
    ∙ ap (map ev) (flat-if r mk (numbers_below n)) ∙ map-map ev mk (filter r (numbers_below n))
    ∙ map-same (λ i. ev (mk i)) F (filter r (numbers_below n)) (λ i _. same i)
    ∙ ap (map F) (filter-same r q (numbers_below n) (λ i h. agree i (let k = in-numbers 0 n i h in omega (arith, k.1))))

abbrev input_of : Edge → ℕ → Input
input_of e i = (e.0, e.1, i)

-- a list over an attempt's inputs, made edge by edge from the links
pub attempt_list : {T S : Type 0} (g : Dag) (past : Past) (a : AttemptId) (over : Option LinkState → EdgeInputs → List T) (r : LinkState → EdgeInputs → ℕ → Bool) (mk : EdgeInputs → ℕ → T) (ev : T → S)
    (q : Input → Bool) (F : Input → S) → ((l : LinkState) (y : EdgeInputs) → over (Some l) y ≡ flat_map (λ i. if r l y i then mk y i ∷ [] else []) (range_with_len 0 (length y.fetched)))
    → ((e : Edge) (i : ℕ) → In e (edges_to g a.task.vertex.0) → i < input_count g past e.1 a.task.index → r (link_view g past e) (inputs_view g past a e) i ≡ q (e.0, e.1, i))
    → ((e : Edge) (i : ℕ) → ev (mk (inputs_view g past a e) i) ≡ F (e.0, e.1, i))
    → map ev (flat_map (λ y. over (slice_get (links_view g past) y.edge) y) (map (inputs_view g past a) (edges_to g a.task.vertex.0))) ≡ map F (filter q (inputs g past a))
attempt_list g past a over r mk ev q F is agree same =
    ap (map ev) (flat_map-map (λ y. over (slice_get (links_view g past) y.edge) y) (inputs_view g past a) (edges_to g a.task.vertex.0))
    ∙ map-flat ev (λ e. over (slice_get (links_view g past) e.0) (inputs_view g past a e)) (edges_to g a.task.vertex.0)
    ∙ flat_same (λ e. map ev (over (slice_get (links_view g past) e.0) (inputs_view g past a e))) (λ e. map F (filter q (map (input_of e) (numbers_below (input_count g past e.1 a.task.index))))) (edges_to g a.task.vertex.0)
    (λ e h.
    ap (λ o. map ev (over o (inputs_view g past a e))) (link_got g past a.task.vertex.0 e h) ∙ ap (map ev) (is (link_view g past e) (inputs_view g past a e))
    ∙ over_numbers (r (link_view g past e) (inputs_view g past a e)) (λ i. q (e.0, e.1, i)) (mk (inputs_view g past a e)) ev (λ i. F (e.0, e.1, i)) (inputs_view g past a e).fetched (input_count g past e.1 a.task.index)
    (length-numbers (λ i. is_fetched a e.0 i past) 0 (input_count g past e.1 a.task.index)) (λ i l. agree e i h l) (same e)
    ∙ sym (map-map F (input_of e) (filter (λ i. q (e.0, e.1, i)) (numbers_below (input_count g past e.1 a.task.index))))
    ∙ ap (map F) (sym (filter-map q (input_of e) (numbers_below (input_count g past e.1 a.task.index)))))
    ∙ sym (map-filter-flat F q (λ e. map (λ i. (e.0, e.1, i)) (numbers_below (input_count g past e.1 a.task.index))) (edges_to g a.task.vertex.0))

-- ---- what the flags and links say of an input that there is

pub flag_is : (g : Dag) (past : Past) (a : AttemptId) (e : Edge) (i : ℕ) → i < input_count g past e.1 a.task.index → unwrap_or (slice_get (inputs_view g past a e).fetched i) false ≡ is_fetched a e.0 i past
flag_is g past a e i low =
    ap (λ o. unwrap_or o false) (get_each (λ j. is_fetched a e.0 j past) 0 (input_count g past e.1 a.task.index) i low) ∙ ap (λ j. is_fetched a e.0 j past) (zero-add i)

-- ---- an input is found by its numbers

find-none : {X : Type 0} (p : X → Bool) (xs : List X) (x : X) → find p xs ≡ None → In x xs → p x ≡ true → ⊥
find-none p [] x h i t = i
find-none p (y ∷ ys) x h i t = by (p y) refl h i (find-none p ys x) where
  by : (b : Bool) → p y ≡ b → cond b (Some y) (find p ys) ≡ None → In x (y ∷ ys) → (find p ys ≡ None → In x ys → p x ≡ true → ⊥) → ⊥
  by true e k j ih = cc
  by false e k (inl s) ih = let no : p x ≡ false = subst (λ z. p z ≡ false) (sym s) e in cc
  by false e k (inr j) ih = ih k j t

numbers_true : (d i : ℕ) → ((d == d) && (i == i)) ≡ true
numbers_true d i = grind (arith, nat_tests)

named : (x e y i : ℕ) → ((x == e) && (y == i)) ≡ true → (x ≡ e) × (y ≡ i)
named x e y i h = (grind (arith, nat_tests), grind (arith, nat_tests))

pub input-there : (g : Dag) (past : Past) (a : AttemptId) (e : Edge) (i : ℕ) → In e (edges_to g a.task.vertex.0) → i < input_count g past e.1 a.task.index → In (input_of e i) (inputs g past a)
input-there g past a e i there low =
    in_flat_map (λ d. map (λ j. (d.0, d.1, j)) (numbers_below (input_count g past d.1 a.task.index))) e (input_of e i) (edges_to g a.task.vertex.0) there
    (in_map (input_of e) i (numbers_below (input_count g past e.1 a.task.index)) (below-in (input_count g past e.1 a.task.index) i low))

pub input_at_here : (g : Dag) (past : Past) (a : AttemptId) (e : Edge) (i : ℕ) → In e (edges_to g a.task.vertex.0) → i < input_count g past e.1 a.task.index → input_at g past a e.0 i ≡ Some (input_of e i)
input_at_here g past a e i there low = by (input_at g past a e.0 i) refl where
  by : (o : Option Input) → input_at g past a e.0 i ≡ o → input_at g past a e.0 i ≡ Some (input_of e i)
  by None h = absurd (find-none (λ k. (k.0 == e.0) && (k.2 == i)) (inputs g past a) (input_of e i) h (input-there g past a e i there low) (numbers_true e.0 i))
  by (Some k) h =
      let r = find-in (λ y. (y.0 == e.0) && (y.2 == i)) (inputs g past a) k h in
      let n = named k.0 e.0 k.2 i r.1 in
      let one : edge_of k ≡ e = one_edge g.edges (edge_of k) e (edge_in g a.task.vertex.0 (edge_of k) (input-in g past a k r.0).edge) (edge_in g a.task.vertex.0 e there) n.0 in
      h ∙ ap Some (ap (λ d. input_of d k.2) one ∙ ap (input_of e) n.1)
