-- Inputs lead to tasks that are there, and a vertex whose sources are done is ready.
use Rattle.std.specs.Prelude.{◌≡◌, ◌⊎◌, ℕ, zero, suc, ◌+◌, ◌<◌, ◌≤◌, nat_lt, Bool, true, false, if◌then◌else◌, List, [], ◌∷◌, ◌++◌, map, length, refl}
use Rattle.std.specs.List.{flat_map, list_all, sum_by}
use Rattle.std.proofs.Common.{inl, inr, arith, subst, sym}
use Rattle.std.proofs.lemmas.Bool.{eqb-true}
use Rattle.std.proofs.lemmas.Bool.Decides.{nat_tests}
use Rattle.std.proofs.lemmas.List.Sums.{sum_by-cons}
use Rattle.tez_lists.specs.Numbers.{numbers_from, In}
use Rattle.tez_plan.specs.Dag.{Dag, from, to, tasks_of as planned}
use Rattle.tez_plan.specs.declared.parts.EdgeSpec.{EdgeSpec}
use Rattle.tez_plan.specs.declared.parts.Movement.{Movement}
use Rattle.tez_plan.specs.declared.parts.Movement.TheVariants.{OneToOne, Broadcast, ScatterGather}
use Rattle.tez_conf.specs.declared.values.ConfValues.{ConfValues}
use Rattle.tez_tables.specs.Table.{Table, StaysInside}
use Rattle.tez_tables.proofs.TableLemmas.{one_to_one_inside, broadcast_inside, scatter_gather_inside}
use Rattle.tez_vman.specs.Rules.{HasFractions, HasSources}
use Rattle.tez_vman.proofs.RuleLemmas.{starts_all}
use Rattle.tez_history.specs.Shape.{numbers_below, edges_to, primary_edges, Feed, ByFile, ByVertex, ByPartitions, feed, rule, rule_by}
use Rattle.tez_history.specs.History.{Past}
use Rattle.tez_history.specs.Derived.{input_count, table_by, table_over, source_of_input, task_count, shape_of, is_configured, edge_winners, sources_configured, source_tasks, source_winners, seen}
use Rattle.tez_laws.specs.Laws.{InputsLeadInside, SourcesDone, IsReady}
use Rattle.tez_laws.proofs.StepLaw.{both}

-- ---- members of lists

pub from-append : {X : Type 0} (x : X) (xs ys : List X) → In x (xs ++ ys) → In x xs ⊎ In x ys
from-append x [] ys h = inr h
from-append x (y ∷ xs) ys (inl e) = inl (inl e)
from-append x (y ∷ xs) ys (inr h) = by (from-append x xs ys h) where
  by : In x xs ⊎ In x ys → In x (y ∷ xs) ⊎ In x ys
  by (inl k) = inl (inr k)
  by (inr k) = inr k

pub from-flat : {X Y : Type 0} (f : X → List Y) (y : Y) (xs : List X) → In y (flat_map f xs) → (x : X) × In x xs × In y (f x)
from-flat f y [] h = absurd h
from-flat {X} {Y} f y (x ∷ xs) h = by (λ m. from-flat f y xs m) (from-append y (f x) (flat_map f xs) h) where
  by : (In y (flat_map f xs) → (z : X) × In z xs × In y (f z)) → In y (f x) ⊎ In y (flat_map f xs) → (z : X) × In z (x ∷ xs) × In y (f z)
  by ih (inl k) = (x, inl refl, k)
  by ih (inr k) = let r = ih k in (r.0, inr r.1, r.2)

pub from-map : {X Y : Type 0} (f : X → Y) (y : Y) (xs : List X) → In y (map f xs) → (x : X) × In x xs × (y ≡ f x)
from-map f y [] h = absurd h
from-map f y (x ∷ xs) (inl e) = (x, inl refl, e)
from-map f y (x ∷ xs) (inr h) = let r = from-map f y xs h in (r.0, inr r.1, r.2)

from-numbers : (a n i : ℕ) → In i (numbers_from a n) → i < a + n
from-numbers a zero i h = absurd h
from-numbers a (suc n) i (inl e) = omega (arith, e)
from-numbers a (suc n) i (inr h) = let k : i < suc a + n = from-numbers (suc a) n i h in omega arith

pub from-below : (n i : ℕ) → In i (numbers_below n) → i < n
from-below n i h = let k : i < 0 + n = from-numbers 0 n i h in omega arith

all_pass : {X : Type 0} (p : X → Bool) (xs : List X) → ((x : X) → In x xs → p x ≡ true) → list_all p xs ≡ true
all_pass p [] h = refl
all_pass p (x ∷ xs) h = rw (h x (inl refl), all_pass p xs (λ y m. h y (inr m))) refl

sum_same : {X : Type 0} (f h : X → ℕ) (xs : List X) → ((x : X) → In x xs → f x ≡ h x) → sum_by f xs ≡ sum_by h xs
sum_same f h [] e = refl
sum_same f h (x ∷ xs) e =
    let a = sum_by-cons f x xs in
    let b = sum_by-cons h x xs in
    let first = e x (inl refl) in
    let rest = sum_same f h xs (λ y m. e y (inr m)) in
    omega arith

-- ---- inputs

inside_by : (m : Movement) (sources consumers parts base : ℕ) → StaysInside (table_by m sources consumers parts base)
inside_by OneToOne sources consumers parts base = one_to_one_inside sources
inside_by Broadcast sources consumers parts base = broadcast_inside sources consumers
inside_by (ScatterGather keys) sources consumers parts base = scatter_gather_inside sources parts base

sources_by : (m : Movement) (sources consumers parts base : ℕ) → (table_by m sources consumers parts base).sources ≡ sources
sources_by OneToOne sources consumers parts base = refl
sources_by Broadcast sources consumers parts base = refl
sources_by (ScatterGather keys) sources consumers parts base = refl

counted : (t : Table) (c i : ℕ) → StaysInside t → i < (if nat_lt c t.consumers then t.inputs_of c else 0) → (t.leads c i).0 < t.sources
counted t c i s h = by (nat_lt c t.consumers) refl h where
  by : (b : Bool) → nat_lt c t.consumers ≡ b → i < (if b then t.inputs_of c else 0) → (t.leads c i).0 < t.sources
  by true e k = s.source c i (grind (arith, nat_tests)) k
  by false e k = absurd (omega arith)

leads_inside : (g : Dag) (past : Past) (e : EdgeSpec) (c i : ℕ) → i < input_count g past e c → ((table_over g past e).leads c i).0 < task_count g (from g e) past
leads_inside g past e c i h =
    let n = task_count g (from g e) past in
    let m = task_count g (to g e) past in
    let p = planned g (to g e) in
    let b = (shape_of g (to g e) past).base in
    subst (λ x. ((table_over g past e).leads c i).0 < x) (sources_by e.movement n m p b) (counted (table_over g past e) c i (inside_by e.movement n m p b) h)

pub inputs_inside : (g : Dag) (past : Past) → InputsLeadInside g past
inputs_inside g past a k h =
    let r = from-flat (λ e. map (λ i. (e.0, e.1, i)) (numbers_below (input_count g past e.1 a.task.index))) k (edges_to g a.task.vertex.0) h in
    let q = from-map (λ i. (r.0.0, r.0.1, i)) k (numbers_below (input_count g past r.0.1 a.task.index)) r.2 in
    let below : q.0 < input_count g past r.0.1 a.task.index = from-below (input_count g past r.0.1 a.task.index) q.0 q.1 in
    subst (λ x. (source_of_input g past a x).index < task_count g (from g x.1) past) (sym q.2) (leads_inside g past r.0.1 a.task.index q.0 below)

-- ---- a vertex whose sources are done

fractions : (g : Dag) (c : ConfValues) (v : ℕ) (f : Feed) → c.min_src ≤ c.max_src → c.max_src ≤ 1000 → HasFractions (rule_by g c v f)
fractions g c v ByFile h k = tt
fractions g c v (ByVertex u) h k = tt
fractions g c v ByPartitions h k = (h, k)

configured_all : (g : Dag) (v : ℕ) (past : Past) → SourcesDone g v past → sources_configured g v past ≡ true
configured_all g v past done =
    all_pass (λ e. is_configured (from g e.1) past) (primary_edges g v) (λ e m. (both {x = is_configured (from g e.1) past} (done e m)).0)

finished_all : (g : Dag) (v : ℕ) (past : Past) → SourcesDone g v past → source_winners g v past ≡ source_tasks g v past
finished_all g v past done =
    sum_same (λ e. length (edge_winners g past e)) (λ e. task_count g (from g e.1) past) (primary_edges g v)
    (λ e m. eqb-true (length (edge_winners g past e)) (task_count g (from g e.1) past) (both {x = is_configured (from g e.1) past} (done e m)).1)

scheduled_if : (b : Bool) (n m : ℕ) → n ≡ m → b ≡ true → (if b then n else 0) ≡ m
scheduled_if true n m e h = e
scheduled_if false n m e h = cc

pub sources_done : (g : Dag) (c : ConfValues) (v : ℕ) (past : Past) → c.min_src ≤ c.max_src → c.max_src ≤ 1000 → HasSources (rule g c v) (seen g v past) → SourcesDone g v past → IsReady g c v past
sources_done g c v past low high has done =
    let k = starts_all (rule g c v) (seen g v past) (fractions g c v (feed g v) low high) has (configured_all g v past done) (finished_all g v past done) in
    (k.0, λ is. scheduled_if (is_configured v past) _ (task_count g v past) k.1 is)
