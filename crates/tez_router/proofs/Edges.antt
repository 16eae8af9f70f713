-- Inputs in the order of edges: where an edge is looked for, and what a change at one place does.
use Rattle.std.proofs.Common.{◌≡◌, ◌≢◌, ◌⊎◌, inl, inr, ℕ, zero, suc, ◌+◌, ◌<◌, ◌≤◌, ◌==◌, ◌&&◌, ◌||◌, Bool, true, false, cond, filter, List, [], ◌∷◌, ◌++◌, length, map, set, get_or, replicate, refl, sym, ap, ◌∙◌, subst, arith, flat_map, ne_eqb}
use Rattle.std.specs.Prelude.{if◌then◌else◌, slice_get, slice_set, Option, Some, None}
use Rattle.std.specs.Option.{option_map_or}
use Rattle.std.specs.List.{list_any, range_with_len, AllByRecursion}
use Rattle.std.specs.List.Sorted.{IsNonDecreasingBy}
use Rattle.std.proofs.lemmas.Bool.{cases_order}
use Rattle.std.proofs.lemmas.List.{get_or_default}
use Rattle.tez_ids.specs.declared.AttemptId.{AttemptId}
use Rattle.tez_plan.specs.Dag.{Dag}
use Rattle.tez_router.specs.State.{LinkState, EdgeInputs, Routing}
use Rattle.tez_router.specs.Table.{blank_over, inputs_in, with_routing, fetch_over, restart_over}
use Rattle.tez_router.specs.Planned.{planned_link}
use Rattle.tez_router.specs.Edges.{AreNumberedFrom, AreByEdge, IsEdgePlace, IsOneAt, IsNone}
use Rattle.tez_router.proofs.Ordered.{by_index}

pub weaker : {X : Type 0} (P Q : X → Type 0) (xs : List X) → ((x : X) → P x → Q x) → AllByRecursion P xs → AllByRecursion Q xs
weaker P Q [] h all = tt
weaker P Q (x ∷ xs) h all = (h x all.0, weaker P Q xs h all.1)

-- ---- looking for an edge

later_edge : (y : EdgeInputs) (ys : List EdgeInputs) (j : ℕ) (d : EdgeInputs) → AllByRecursion (λ z. y.edge < z.edge) ys → j < length ys → y.edge < (get_or ys j d).edge
later_edge y [] j d all h = absurd (omega arith)
later_edge y (z ∷ zs) zero d all h = all.0
later_edge y (z ∷ zs) (suc j) d all h = later_edge y zs j d all.1 (omega arith)

edge_order : (ys : List EdgeInputs) (i k : ℕ) (d : EdgeInputs) → AreByEdge ys → i < k → k < length ys → (get_or ys i d).edge < (get_or ys k d).edge
edge_order [] i k d order h b = absurd (omega arith)
edge_order (y ∷ ys) i zero d order h b = absurd (omega arith)
edge_order (y ∷ ys) zero (suc k) d order h b = later_edge y ys k d order.0 (omega arith)
edge_order (y ∷ ys) (suc i) (suc k) d order h b = edge_order ys i k d order.1 (omega arith) (omega arith)

pub by_edge : (ys : List EdgeInputs) → AreByEdge ys → IsNonDecreasingBy (λ y. y.edge) ys
by_edge ys order i j d le h = by (cases_order i j) where
  by : (i ≡ j) ⊎ ((i < j) ⊎ (j < i)) → (get_or ys i d).edge ≤ (get_or ys j d).edge
  by (inl e) = let same : (get_or ys i d).edge ≡ (get_or ys j d).edge = ap (λ k. (get_or ys k d).edge) e in omega arith
  by (inr (inl k)) = let less = edge_order ys i j d order k h in omega arith
  by (inr (inr k)) = absurd (omega arith)

pub edge_found : (ys : List EdgeInputs) (e at : ℕ) (c : EdgeInputs) → AreByEdge ys → IsEdgePlace ys e at → at < length ys → ((get_or ys at c).edge == e) ≡ true → IsOneAt (λ y. y.edge == e) ys at
edge_found ys e at c order place inside same = record {
  inside = inside;
  there = λ d. ap (λ y. y.edge == e) (get_or_default ys at d c inside) ∙ same;
  other = λ k d apart b. by k d b (cases_order k at) apart;
}
  where
    by : (k : ℕ) (d : EdgeInputs) → k < length ys → (k ≡ at) ⊎ ((k < at) ⊎ (at < k)) → k ≢ at → ((get_or ys k d).edge == e) ≡ false
    by k d b (inl is) apart = absurd (apart is)
    by k d b (inr (inl h)) apart = let low = place.below k d h in ne_eqb (get_or ys k d).edge e (λ q. absurd (omega arith))
    by k d b (inr (inr h)) apart =
        let low = place.above at d (omega arith) inside in
        let more = edge_order ys at k d order h b in
        ne_eqb (get_or ys k d).edge e (λ q. absurd (omega arith))

pub edge_nowhere : (ys : List EdgeInputs) (e at : ℕ) → AreByEdge ys → IsEdgePlace ys e at → ((d : EdgeInputs) → at < length ys → ((get_or ys at d).edge == e) ≡ false) → IsNone (λ y. y.edge == e) ys
edge_nowhere ys e at order place absent = by_index (λ y. (y.edge == e) ≡ false) ys (λ k d b. by k d b (cases_order k at)) where
  by : (k : ℕ) (d : EdgeInputs) → k < length ys → (k ≡ at) ⊎ ((k < at) ⊎ (at < k)) → ((get_or ys k d).edge == e) ≡ false
  by k d b (inl is) = ap (λ j. (get_or ys j d).edge == e) is ∙ absent d (subst (λ j. j < length ys) is b)
  by k d b (inr (inl h)) = let low = place.below k d h in ne_eqb (get_or ys k d).edge e (λ q. absurd (omega arith))
  by k d b (inr (inr h)) =
      let low = place.above at d (omega arith) (omega arith) in
      let more = edge_order ys at k d order h b in
      ne_eqb (get_or ys k d).edge e (λ q. absurd (omega arith))

-- ---- one place

rest_one : {X : Type 0} (p : X → Bool) (x : X) (xs : List X) (at : ℕ) → IsOneAt p (x ∷ xs) (suc at) → IsOneAt p xs at
rest_one p x xs at one = let inside = one.inside in record { inside = omega arith; there = one.there; other = λ k d apart b. one.other (suc k) d (λ e. apart (omega arith)) (omega arith) }

rest_none : {X : Type 0} (p : X → Bool) (x : X) (xs : List X) → IsOneAt p (x ∷ xs) 0 → IsNone p xs
rest_none p x xs one = by_index (λ y. p y ≡ false) xs (λ k d b. one.other (suc k) d (λ e. absurd (omega arith)) (omega arith))

-- a change that leaves the others as they are
none_mapped : {X : Type 0} (p : X → Bool) (f : X → X) (xs : List X) → ((x : X) → p x ≡ false → f x ≡ x) → IsNone p xs → xs ≡ map f xs
none_mapped p f [] same none = refl
none_mapped p f (x ∷ xs) same none =
    let here = same x none.0 in
    let rest = none_mapped p f xs same none.1 in
    ap (λ y. y ∷ xs) (sym here) ∙ ap (λ ys. f x ∷ ys) rest

one_mapped : {X : Type 0} (p : X → Bool) (f : X → X) (xs : List X) (at : ℕ) (d : X) → ((x : X) → p x ≡ false → f x ≡ x) → IsOneAt p xs at → set xs at (f (get_or xs at d)) ≡ map f xs
one_mapped p f [] at d same one = let inside = one.inside in absurd (omega arith)
one_mapped p f (x ∷ xs) zero d same one = ap (λ ys. f x ∷ ys) (none_mapped p f xs same (rest_none p x xs one))
one_mapped p f (x ∷ xs) (suc at) d same one =
    let other = one.other 0 x (λ e. absurd (omega arith)) (omega arith) in
    ap (λ y. y ∷ set xs at (f (get_or xs at d))) (sym (same x other)) ∙ ap (λ ys. f x ∷ ys) (one_mapped p f xs at d same (rest_one p x xs at one))

-- a test of this one alone
pub none_any : {X : Type 0} (p q : X → Bool) (xs : List X) → IsNone p xs → list_any (λ x. p x && q x) xs ≡ false
none_any p q [] none = refl
none_any p q (x ∷ xs) none = ap (λ b. (b && q x) || list_any (λ y. p y && q y) xs) none.0 ∙ none_any p q xs none.1

pub one_any : {X : Type 0} (p q : X → Bool) (xs : List X) (at : ℕ) (d : X) → IsOneAt p xs at → list_any (λ x. p x && q x) xs ≡ q (get_or xs at d)
one_any p q [] at d one = let inside = one.inside in absurd (omega arith)
one_any p q (x ∷ xs) zero d one =
    ap (λ b. (b && q x) || list_any (λ y. p y && q y) xs) (one.there x)
    ∙ ap (λ b. q x || b) (none_any p q xs (rest_none p x xs one)) ∙ or_false (q x)
  where
    or_false : (b : Bool) → (b || false) ≡ b
    or_false true = refl
    or_false false = refl
one_any p q (x ∷ xs) (suc at) d one =
    ap (λ b. (b && q x) || list_any (λ y. p y && q y) xs) (one.other 0 x (λ e. absurd (omega arith)) (omega arith))
    ∙ one_any p q xs at d (rest_one p x xs at one)

-- those picked
pub none_picked : {X : Type 0} (p : X → Bool) (xs : List X) → IsNone p xs → filter p xs ≡ []
none_picked p [] none = refl
none_picked p (x ∷ xs) none = ap (λ b. cond b (x ∷ filter p xs) (filter p xs)) none.0 ∙ none_picked p xs none.1

pub one_picked : {X : Type 0} (p : X → Bool) (xs : List X) (at : ℕ) (d : X) → IsOneAt p xs at → filter p xs ≡ get_or xs at d ∷ []
one_picked p [] at d one = let inside = one.inside in absurd (omega arith)
one_picked p (x ∷ xs) zero d one = ap (λ b. cond b (x ∷ filter p xs) (filter p xs)) (one.there x) ∙ ap (λ ys. x ∷ ys) (none_picked p xs (rest_none p x xs one))
one_picked p (x ∷ xs) (suc at) d one =
    ap (λ b. cond b (x ∷ filter p xs) (filter p xs)) (one.other 0 x (λ e. absurd (omega arith)) (omega arith)) ∙ one_picked p xs at d (rest_one p x xs at one)

-- ---- a fetch at the edge that was found

pub edge_fetched_at : (e i : ℕ) (ys : List EdgeInputs) (at : ℕ) (y z : EdgeInputs) → IsOneAt (λ y. y.edge == e) ys at → y ≡ get_or ys at y → z ≡ fetch_over e i y → set ys at z ≡ map (fetch_over e i) ys
edge_fetched_at e i ys at y z one is changed =
    ap (λ x. set ys at x) (changed ∙ ap (fetch_over e i) is)
    ∙ one_mapped (λ x. x.edge == e) (fetch_over e i) ys at y (λ x h. ap (λ b. if b then record x { fetched = slice_set x.fetched i true } else x) h) one

pub edge_fetched_nowhere : (e i : ℕ) (ys : List EdgeInputs) → IsNone (λ y. y.edge == e) ys → ys ≡ map (fetch_over e i) ys
edge_fetched_nowhere e i ys none = none_mapped (λ x. x.edge == e) (fetch_over e i) ys (λ x h. ap (λ b. if b then record x { fetched = slice_set x.fetched i true } else x) h) none

-- ---- the order stays

by_edge_mapped : (f : EdgeInputs → EdgeInputs) (ys : List EdgeInputs) → ((y : EdgeInputs) → (f y).edge ≡ y.edge) → AreByEdge ys → AreByEdge (map f ys)
by_edge_mapped f [] same order = tt
by_edge_mapped f (y ∷ ys) same order = (all_mapped ys order.0, by_edge_mapped f ys same order.1) where
  all_mapped : (zs : List EdgeInputs) → AllByRecursion (λ z. y.edge < z.edge) zs → AllByRecursion (λ z. (f y).edge < z.edge) (map f zs)
  all_mapped [] all = tt
  all_mapped (z ∷ zs) all = let low = all.0 in let here = same y in let there = same z in (omega arith, all_mapped zs all.1)

pub same_edge_fetched : (e i : ℕ) (y : EdgeInputs) → (fetch_over e i y).edge ≡ y.edge
same_edge_fetched e i y = by (y.edge == e) where
  by : (b : Bool) → (if b then record y { fetched = slice_set y.fetched i true } else y).edge ≡ y.edge
  by true = refl
  by false = refl

pub same_edge_restarted : (e n : ℕ) (y : EdgeInputs) → (restart_over e n y).edge ≡ y.edge
same_edge_restarted e n y = by (y.edge == e) where
  by : (b : Bool) → (if b then record y { fetched = replicate n false } else y).edge ≡ y.edge
  by true = refl
  by false = refl

pub fetched_by_edge : (e i : ℕ) (ys : List EdgeInputs) → AreByEdge ys → AreByEdge (map (fetch_over e i) ys)
fetched_by_edge e i ys order = by_edge_mapped (fetch_over e i) ys (same_edge_fetched e i) order

pub restarted_by_edge : (e n : ℕ) (ys : List EdgeInputs) → AreByEdge ys → AreByEdge (map (restart_over e n) ys)
restarted_by_edge e n ys order = by_edge_mapped (restart_over e n) ys (same_edge_restarted e n) order

record IsBlank (n : ℕ) (ys : List EdgeInputs) : Type 0 where
  ordered : AreByEdge ys
  low : AllByRecursion (λ y. n ≤ y.edge) ys

blank_from : (a : AttemptId) (n : ℕ) (links : List LinkState) → AreNumberedFrom n links → IsBlank n (flat_map (blank_over a) links)
blank_from a n [] numbered = record { ordered = tt; low = tt }
blank_from a n (l ∷ links) numbered = by (l.target == a.task.vertex.0) (blank_from a (n + 1) links numbered.1) where
  by : (b : Bool) → IsBlank (n + 1) (flat_map (blank_over a) links) → IsBlank n ((if b then record { edge = l.edge; fetched = replicate (inputs_in l.routing a.task.index) false } ∷ [] else []) ++ flat_map (blank_over a) links)
  by true rest =
      let is = numbered.0 in
      record {
        ordered = (weaker (λ y. n + 1 ≤ y.edge) (λ y. l.edge < y.edge) (flat_map (blank_over a) links) (λ y h. omega arith) rest.low, rest.ordered);
        low = (omega arith, weaker (λ y. n + 1 ≤ y.edge) (λ y. n ≤ y.edge) (flat_map (blank_over a) links) (λ y h. omega arith) rest.low);
      }
  by false rest = record { ordered = rest.ordered; low = weaker (λ y. n + 1 ≤ y.edge) (λ y. n ≤ y.edge) (flat_map (blank_over a) links) (λ y h. omega arith) rest.low }

pub blank_by_edge : (a : AttemptId) (links : List LinkState) → AreNumberedFrom 0 links → AreByEdge (flat_map (blank_over a) links)
blank_by_edge a links numbered = (blank_from a 0 links numbered).ordered

-- ---- the links by number

pub planned_numbered : (p : Dag) (a n : ℕ) → AreNumberedFrom a (map (planned_link p) (range_with_len a n))
planned_numbered p a zero = tt
planned_numbered p a (suc n) = (refl, planned_numbered p (a + 1) n)

numbered_set : (n : ℕ) (links : List LinkState) (e : ℕ) (l m : LinkState) → slice_get links e ≡ Some l → m.edge ≡ l.edge → AreNumberedFrom n links → AreNumberedFrom n (slice_set links e m)
numbered_set n [] e l m h same numbered = tt
numbered_set n (k ∷ links) zero l m h same numbered = let is : k ≡ l = cc in (same ∙ ap (λ (q : LinkState). q.edge) (sym is) ∙ numbered.0, numbered.1)
numbered_set n (k ∷ links) (suc e) l m h same numbered = (numbered.0, numbered_set (n + 1) links e l m h same numbered.1)

pub routed_numbered : (n : ℕ) (links : List LinkState) (e : ℕ) (r : Routing) → AreNumberedFrom n links → AreNumberedFrom n (with_routing links e r)
routed_numbered n links e r numbered = by (slice_get links e) refl where
  by : (o : Option LinkState) → slice_get links e ≡ o → AreNumberedFrom n (option_map_or (λ l. slice_set links e (record l { routing = r })) o links)
  by None is = numbered
  by (Some l) is = numbered_set n links e l (record l { routing = r }) is refl numbered
