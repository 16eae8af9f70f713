-- A valid plan that has a vertex has a sink: its deepest vertex leads nowhere.
use Rattle.std.specs.Prelude.{◌≡◌, ◌≢◌, ◌⊎◌, ℕ, zero, suc, ◌<◌, ◌≤◌, ◌&&◌, ◌==◌, Bool, true, false, IsTrue, if◌then◌else◌, List, [], ◌∷◌, length, slice_get, Option, Some, None, is_some, is_none, refl}
use Rattle.std.specs.List.{filter, list_any, AllByRecursion}
use Rattle.std.specs.Option.{option_map_or}
use Rattle.std.proofs.Common.{ap, sym, ◌∙◌, subst, arith, inl, inr}
use Rattle.std.proofs.lemmas.Bool.{cases_lt}
use Rattle.std.proofs.lemmas.Bool.Decides.{nat_tests}
use Rattle.tez_lists.specs.Numbers.{In}
use Rattle.tez_lists.proofs.Members.{in_filter}
use Rattle.tez_plan.specs.declared.parts.EdgeSpec.{EdgeSpec}
use Rattle.tez_plan.specs.declared.parts.VertexSpec.{VertexSpec}
use Rattle.tez_plan.specs.Dag.{Dag, from, to, edges_from}
use Rattle.tez_plan.specs.Order.{depth, EndsPath}
use Rattle.tez_plan.specs.Faults.{IsValid}
use Rattle.tez_plan.specs.Graph.{AreInside}
use Rattle.tez_plan.proofs.CheckLemmas.{valid_parts}
use Rattle.tez_plan.proofs.RankLemmas.{inside_edges}
use Rattle.tez_plan.proofs.DepthLemmas.{depth_is}
use Rattle.tez_history.specs.Shape.{vertices, sinks, has_sink}
use Rattle.tez_master_model.proofs.Pairs.{any_in, in_numbers}

-- ---- the greatest of some numbers

pub record IsTop (f : ℕ → ℕ) (n m : ℕ) : Type 0 where
  pub inside : m < n
  pub top : (k : ℕ) → k < n → f k ≤ f m

top_more : (f : ℕ → ℕ) (n m : ℕ) → IsTop f (suc n) m → (k : ℕ) × IsTop f (suc (suc n)) k
top_more f n m t = by (cases_lt (f m) (f (suc n))) where
  at : (i k : ℕ) → f k ≤ i → ((j : ℕ) → j < suc n → f j ≤ i) → f (suc n) ≤ i → k < suc (suc n) → (j : ℕ) → j < suc (suc n) → f j ≤ i
  at i k a b l c j d = last (cases_lt j (suc n)) where
    last : (j < suc n) ⊎ (suc n ≤ j) → f j ≤ i
    last (inl h) = b j h
    last (inr h) = let e : j ≡ suc n = omega arith in subst (λ x. f x ≤ i) (sym e) l

  by : (f m < f (suc n)) ⊎ (f (suc n) ≤ f m) → (k : ℕ) × IsTop f (suc (suc n)) k
  by (inl h) = (suc n, record { inside = omega arith; top = at (f (suc n)) (suc n) (omega arith) (λ j l. (let b = t.top j l in omega (arith, b, h))) (omega arith) (omega arith) })
  by (inr h) = (m, record { inside = (let l = t.inside in omega (arith, l)); top = at (f m) m (omega arith) t.top h (let l = t.inside in omega (arith, l)) })

greatest : (f : ℕ → ℕ) (n : ℕ) → (m : ℕ) × IsTop f (suc n) m
greatest f zero = (0, record { inside = omega arith; top = λ k l. (let e : k ≡ 0 = omega arith in subst (λ x. f x ≤ f 0) (sym e) (omega arith)) })
greatest f (suc n) = let r = greatest f n in top_more f n r.0 r.1

-- ---- the deepest vertex

all_at : {X : Type 0} (P : X → Type 0) (xs : List X) (x : X) → AllByRecursion P xs → In x xs → P x
all_at P [] x all m = absurd m
all_at P (y ∷ ys) x all (inl e) = subst P (sym e) all.0
all_at P (y ∷ ys) x all (inr m) = all_at P ys x all.1 m

out-filter : {X : Type 0} (p : X → Bool) (x : X) (xs : List X) → In x (filter p xs) → In x xs × (p x ≡ true)
out-filter p x [] h = absurd h
out-filter {X} p x (y ∷ ys) h = by (λ k. out-filter p x ys k) (p y) refl h where
  by : (In x (filter p ys) → In x ys × (p x ≡ true)) → (b : Bool) → p y ≡ b → In x (if b then y ∷ filter p ys else filter p ys) → In x (y ∷ ys) × (p x ≡ true)
  by ih true e (inl s) = (inl s, ap p s ∙ e)
  by ih true e (inr k) = let r = ih k in (inr r.0, r.1)
  by ih false e k = let r = ih k in (inr r.0, r.1)

both_true : (x y : Bool) → x ≡ true → y ≡ true → (x && y) ≡ true
both_true true y e k = k
both_true false y e k = cc

itself : (n : ℕ) → (n == n) ≡ true
itself n = grind (arith, nat_tests)

-- no edge leaves it
leads_nowhere : (g : Dag) (v : ℕ) (es : List EdgeSpec) → IsValid g → v < length g.vertices → ((k : ℕ) → k < length g.vertices → depth g k ≤ depth g v) → edges_from g v ≡ es → length es ≡ 0
leads_nowhere g v [] valid inside top e = refl
leads_nowhere g v (x ∷ xs) valid inside top e =
    let r = out-filter (λ d. from g d == v) x g.edges (subst (In x) (sym e) (inl refl)) in
    let there = (all_at (AreInside g) g.edges x (inside_edges g valid) r.0).1 in
    let step : list_any (λ d. (from g d == v) && (to g d == to g x)) g.edges ≡ true = any_in (λ d. (from g d == v) && (to g d == to g x)) x g.edges r.0 (both_true (from g x == v) (to g x == to g x) r.1 (itself (to g x))) in
    let path : EndsPath g (suc (depth g v)) (to g x) = (v, step, (depth_is g valid v inside).path) in
    let deeper = (depth_is g valid (to g x) there).most (suc (depth g v)) path in
    let less = top (to g x) there in
    absurd (omega (arith, deeper, less))

-- it has a sink, then
sink_at : (o : Option VertexSpec) (n : ℕ) → n ≡ 0 → (IsTrue (option_map_or (λ s. (n == 0) && is_none s.sink) o false) → ⊥) → is_some o ≡ true → option_map_or (λ s. is_some s.sink) o false ≡ true
sink_at None n e h k = cc
sink_at (Some s) n e h k = by (is_some_or s) where
  is_some_or : (s : VertexSpec) → (is_none s.sink ≡ true) ⊎ (is_some s.sink ≡ true)
  is_some_or s = either s.sink where
    either : {X : Type 0} (o : Option X) → (is_none o ≡ true) ⊎ (is_some o ≡ true)
    either None = inl refl
    either (Some x) = inr refl

  zero_test : (n : ℕ) → n ≡ 0 → (n == 0) ≡ true
  zero_test n e = grind (arith, nat_tests)

  by : (is_none s.sink ≡ true) ⊎ (is_some s.sink ≡ true) → is_some s.sink ≡ true
  by (inr y) = y
  by (inl y) = absurd (h (both_true (n == 0) (is_none s.sink) (zero_test n e) y))

there : {X : Type 0} (xs : List X) (i : ℕ) → i < length xs → is_some (slice_get xs i) ≡ true
there [] i l = absurd (omega arith)
there (x ∷ xs) zero l = refl
there (x ∷ xs) (suc i) l = there xs i (omega arith)

not_empty : {X : Type 0} (x : X) (xs : List X) → In x xs → xs ≢ []
not_empty x xs m e = subst (In x) e m

has_one : (g : Dag) (n : ℕ) → IsValid g → length g.vertices ≡ suc n → sinks g ≢ []
has_one g n valid e =
    let r = greatest (depth g) n in
    let v = r.0 in
    let inside : v < length g.vertices = subst (λ k. v < k) (sym e) r.1.inside in
    let leaf = leads_nowhere g v (edges_from g v) valid inside (λ k l. r.1.top k (subst (λ x. k < x) e l)) refl in
    let has : has_sink g v ≡ true = sink_at (slice_get g.vertices v) (length (edges_from g v)) leaf ((valid_parts g valid).leaf_sinks v) (there g.vertices v inside) in
    not_empty v (sinks g) (in_filter (has_sink g) v (vertices g) (in_numbers 0 (length g.vertices) v (omega arith) (omega (arith, inside))) has)

pub some_or_none : (g : Dag) → IsValid g → (length g.vertices ≡ 0) ⊎ (sinks g ≢ [])
some_or_none g valid = by (length g.vertices) refl where
  by : (n : ℕ) → length g.vertices ≡ n → (length g.vertices ≡ 0) ⊎ (sinks g ≢ [])
  by zero e = inl e
  by (suc n) e = inr (has_one g n valid e)
