-- Edges by number: the links of a router, and the inputs of an attempt over each.
--     AreNumberedFrom n ls     the links are the edges from number n on
--     AreByEdge ys             each is over an edge before those of all that follow
--     AreInputs ys             what an attempt's inputs keep: they are few, and in the order of edges
--     leads_to links v y       what y stands for are inputs over an edge to the vertex
--     AreInto links x          the inputs of an attempt are over edges to its vertex, in the order of edges
--     IsEdgePlace ys e at      those below this place are over edges before e, the others are not
--     IsOneAt p xs at          p holds of the element at this place, and of no other
--     IsNone p xs              p holds of none
use Rattle.std.specs.Prelude.{◌≡◌, ◌≢◌, ℕ, ◌+◌, ◌<◌, ◌≤◌, ◌==◌, Bool, true, false, ⊤, List, [], ◌∷◌, length, slice_index_or, slice_get}
use Rattle.std.specs.List.{AllByRecursion}
use Rattle.std.specs.Option.{option_map_or}
use Rattle.tez_router.specs.State.{LinkState, EdgeInputs, AdmittedState}

abbrev pub AreNumberedFrom : ℕ → List LinkState → Type 0
AreNumberedFrom n [] = ⊤
AreNumberedFrom n (l ∷ ls) = (l.edge ≡ n) × AreNumberedFrom (n + 1) ls

abbrev pub AreByEdge : List EdgeInputs → Type 0
AreByEdge [] = ⊤
AreByEdge (y ∷ ys) = AllByRecursion (λ z. y.edge < z.edge) ys × AreByEdge ys

pub record AreInputs (ys : List EdgeInputs) : Type 0 where
  pub few : length ys ≤ 256
  pub ordered : AreByEdge ys

abbrev pub leads_to : List LinkState → ℕ → EdgeInputs → Bool
leads_to links v y = option_map_or (λ l. l.target == v) (slice_get links y.edge) false

pub record AreInto (links : List LinkState) (x : AdmittedState) : Type 0 where
  pub leads : AllByRecursion (λ y. leads_to links x.attempt.task.vertex.0 y ≡ true) x.edges
  pub by_edge : AreByEdge x.edges

pub record IsEdgePlace (ys : List EdgeInputs) (e at : ℕ) : Type 0 where
  pub below : (k : ℕ) (d : EdgeInputs) → k < at → (slice_index_or ys k d).edge < e
  pub above : (k : ℕ) (d : EdgeInputs) → at ≤ k → k < length ys → e ≤ (slice_index_or ys k d).edge

-- those at this place are over the edge, or not
abbrev pub IsEdgeAt : List EdgeInputs → ℕ → ℕ → Type 0
IsEdgeAt ys e at = (d : EdgeInputs) → (at < length ys) × (((slice_index_or ys at d).edge == e) ≡ true)

abbrev pub IsNotEdgeAt : List EdgeInputs → ℕ → ℕ → Type 0
IsNotEdgeAt ys e at = (d : EdgeInputs) → at < length ys → ((slice_index_or ys at d).edge == e) ≡ false

pub record IsOneAt {X : Type 0} (p : X → Bool) (xs : List X) (at : ℕ) : Type 0 where
  pub inside : at < length xs
  pub there : (d : X) → p (slice_index_or xs at d) ≡ true
  pub other : (k : ℕ) (d : X) → k ≢ at → k < length xs → p (slice_index_or xs k d) ≡ false

abbrev pub IsNone : {X : Type 0} → (X → Bool) → List X → Type 0
IsNone p xs = AllByRecursion (λ x. p x ≡ false) xs
