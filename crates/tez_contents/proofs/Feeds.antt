-- How a vertex of a valid plan is fed, by the edges into it.
--     feed_is              the feed of a vertex, by its edges that are one to one
--     one_primary          a source, or one edge that is one to one, or edges that gather
use Rattle.std.specs.Prelude.{◌≡◌, ℕ, zero, suc, ◌+◌, ◌<◌, ◌≤◌, ◌==◌, ◌&&◌, min, nat_lt, Bool, true, false, List, [], ◌∷◌, length, Option, Some, None, is_some, refl}
use Rattle.std.specs.List.{filter, enumerate_from}
use Rattle.std.specs.Option.{option_map_or}
use Rattle.std.proofs.Common.{inl, inr, ap, ap₂, sym, ◌∙◌, arith, subst}
use Rattle.std.proofs.lemmas.Bool.{eqb-true}
use Rattle.std.proofs.lemmas.Bool.Decides.{nat_tests}
use Rattle.tez_lists.specs.Numbers.{In}
use Rattle.tez_lists.proofs.Cases.{cases}
use Rattle.tez_lists.proofs.Members.{in_filter}
use Rattle.tez_plan.specs.declared.parts.VertexSpec.{VertexSpec}
use Rattle.tez_plan.specs.declared.parts.EdgeSpec.{EdgeSpec}
use Rattle.tez_plan.specs.declared.parts.Head.TheVariants.{Each}
use Rattle.tez_plan.specs.Dag.{Dag, from, to, edges_into, is_one_to_one, is_scatter_gather}
use Rattle.tez_plan.specs.Faults.{IsValid, primaries, incoming}
use Rattle.tez_plan.proofs.CheckLemmas.{valid_parts}
use Rattle.tez_history.specs.Shape.{feed, feed_by, first_source, has_source}
use Rattle.tez_shares.specs.Shares.{has_edge_from}
use Rattle.tez_laws.proofs.StepLaw.{both}
use Rattle.tez_progress.proofs.Members.{any_some}

abbrev pub first_from : Dag → List EdgeSpec → Option ℕ
first_from g [] = None
first_from g (e ∷ es) = Some (from g e)

first_same : (g : Dag) (v : ℕ) (kind : EdgeSpec → Bool) (n : ℕ) (es : List EdgeSpec)
    → first_source g (filter (λ e. kind e.1) (filter (λ e. to g e.1 == v) (enumerate_from n es))) ≡ first_from g (filter kind (filter (λ e. to g e == v) es))
first_same g v kind n [] = refl
first_same g v kind n (e ∷ es) =
    let rest = first_same g v kind (n + 1) es in
    cases (to g e == v)
    (λ t. cases (kind e) (λ k. rw t (rw k refl)) (λ k. rw t (rw k rest)))
    (λ t. rw t rest)

pub feed_is : (g : Dag) (v : ℕ) → feed g v ≡ feed_by (has_source g v) (first_from g (incoming is_one_to_one g v))
feed_is g v = ap (feed_by (has_source g v)) (first_same g v is_one_to_one 0 g.edges)

-- ---- one kind of primary

abbrev sources_of : Bool → ℕ
sources_of true = 1
sources_of false = 0

source_count : (b : Option (List ℕ)) → (let n : ℕ = option_map_or (λ _. 1) b 0 in n ≡ sources_of (is_some b))
source_count None = refl
source_count (Some f) = refl

exactly_one : (n : ℕ) → ((n == 0) ≡ true → ⊥) → (nat_lt 1 n ≡ true → ⊥) → n ≡ 1
exactly_one zero some few = absurd (some refl)
exactly_one (suc zero) some few = refl
exactly_one (suc (suc n)) some few = absurd (few (grind (arith, nat_tests)))

counts : (g : Dag) (v : ℕ) → IsValid g → v < length g.vertices → length (incoming is_one_to_one g v) + min 1 (length (incoming is_scatter_gather g v)) + sources_of (has_source g v) ≡ 1
counts g v valid h =
    let nothing : VertexSpec = record { name = []; tasks = 0; source = None; head = Each; steps = []; sink = None } in
    let at = Rattle.std.proofs.lemmas.Option.slice_get-get_or g.vertices v nothing h in
    let s = Rattle.std.proofs.Common.get_or g.vertices v nothing in
    let parts = valid_parts g valid in
    let some : (primaries g v s == 0) ≡ true → ⊥ = λ e. parts.some_primary v (rw at e) in
    let few : nat_lt 1 (primaries g v s) ≡ true → ⊥ = λ e. parts.one_primary v (rw at e) in
    let one : primaries g v s ≡ 1 = exactly_one (primaries g v s) some few in
    let count = source_count s.source in
    rw at (omega (arith, one, count))

nothing_in : {X : Type 0} (xs : List X) → length xs ≡ 0 → xs ≡ []
nothing_in [] h = refl
nothing_in (x ∷ xs) h = absurd (omega arith)

length_in : {X : Type 0} (x : X) (xs : List X) → In x xs → 1 ≤ length xs
length_in x [] h = absurd h
length_in x (y ∷ xs) h = omega arith

only_in : {X : Type 0} (x : X) (xs : List X) → In x xs → length xs ≤ 1 → xs ≡ x ∷ []
only_in x [] h low = absurd h
only_in x (y ∷ []) (inl e) low = ap (λ z. z ∷ []) (sym e)
only_in x (y ∷ []) (inr h) low = absurd h
only_in x (y ∷ z ∷ xs) h low = absurd (omega arith)

-- the edge of a kind that a test found
pub edge_of : (g : Dag) (kind : EdgeSpec → Bool) (u v : ℕ) → has_edge_from kind g u v ≡ true → (e : EdgeSpec) × In e (edges_into g v) × (kind e ≡ true) × (from g e ≡ u)
edge_of g kind u v h =
    let k = any_some (λ e. kind e && (from g e == u)) (edges_into g v) h in
    let s = both {x = kind k.0} k.2 in
    (k.0, k.1, s.0, eqb-true (from g k.0) u s.1)

module _ (g : Dag) (v : ℕ) (valid : IsValid g) (inside : v < length g.vertices) where
  pub source_alone : has_source g v ≡ true → incoming is_one_to_one g v ≡ []
  source_alone h =
      let n = counts g v valid inside in
      let one : sources_of (has_source g v) ≡ 1 = ap sources_of h in
      nothing_in (incoming is_one_to_one g v) (omega (arith, n, one))

  pub one_alone : (e : EdgeSpec) → In e (edges_into g v) → is_one_to_one e ≡ true → (incoming is_one_to_one g v ≡ e ∷ []) × (has_source g v ≡ false)
  one_alone e h one =
      let n = counts g v valid inside in
      let there : In e (incoming is_one_to_one g v) = in_filter is_one_to_one e (edges_into g v) h one in
      let some : 1 ≤ length (incoming is_one_to_one g v) = length_in e (incoming is_one_to_one g v) there in
      let none : sources_of (has_source g v) ≡ 0 = omega (arith, n, some) in
      (only_in e (incoming is_one_to_one g v) there (omega (arith, n)), no_source (has_source g v) none)
    where
      no_source : (b : Bool) → sources_of b ≡ 0 → b ≡ false
      no_source true k = absurd (omega (arith, k))
      no_source false k = refl

  pub gathers_alone : (e : EdgeSpec) → In e (edges_into g v) → is_scatter_gather e ≡ true → (incoming is_one_to_one g v ≡ []) × (has_source g v ≡ false)
  gathers_alone e h one =
      let n = counts g v valid inside in
      let some : 1 ≤ length (incoming is_scatter_gather g v) = length_in e (incoming is_scatter_gather g v) (in_filter is_scatter_gather e (edges_into g v) h one) in
      let none : sources_of (has_source g v) ≡ 0 = omega (arith, n, some) in
      (nothing_in (incoming is_one_to_one g v) (omega (arith, n, some)), no_source (has_source g v) none)
    where
      no_source : (b : Bool) → sources_of b ≡ 0 → b ≡ false
      no_source true k = absurd (omega (arith, k))
      no_source false k = refl
