-- What a manager sees stays in its range, so it may be asked.
--     planned_few      a vertex has few tasks
--     asked            the manager of a vertex may be asked
use Rattle.std.specs.Prelude.{◌≡◌, ℕ, zero, suc, ◌*◌, ◌^◌, ◌<◌, ◌≤◌, ◌==◌, ◌&&◌, ◌||◌, nat_lt, nat_le, Bool, true, false, not, if◌then◌else◌, List, [], ◌∷◌, length, slice_get, Option, Some, None, refl}
use Rattle.std.specs.List.{filter, filter_map, cons_option, enumerate_from, sum_by}
use Rattle.std.specs.Option.{option_map_or}
use Rattle.std.proofs.Common.{arith, subst, sym}
use Rattle.std.proofs.Math.Nat.{le_trans}
use Rattle.std.proofs.lemmas.Nat.{mul-le}
use Rattle.std.proofs.lemmas.Bool.Decides.{nat_tests}
use Rattle.std.proofs.lemmas.List.FromFn.{length-enumerate_from}
use Rattle.std.proofs.lemmas.List.Sums.{sum_by-cons}
use Rattle.tez_ids.specs.declared.AttemptId.{AttemptId}
use Rattle.tez_ids.specs.Same.{task, same_attempt}
use Rattle.tez_lists.specs.Numbers.{numbers_from}
use Rattle.tez_lists.proofs.Cases.{cases}
use Rattle.tez_plan.specs.Dag.{Dag, from, to, is_broadcast, tasks_of as planned}
use Rattle.tez_plan.specs.Faults.{IsValid}
use Rattle.tez_plan.specs.Ranges.{IsInRanges, vertex_in_range, is_within, most_tasks}
use Rattle.tez_plan.specs.declared.parts.VertexSpec.{VertexSpec}
use Rattle.tez_plan.proofs.CheckLemmas.{valid_parts}
use Rattle.tez_conf.specs.declared.values.ConfValues.{ConfValues}
use Rattle.tez_vman.specs.Rules.{HasSources}
use Rattle.tez_events.specs.declared.Entry.TheVariants.{Made}
use Rattle.tez_history.specs.Shape.{Edge, edges_to, primary_edges, Feed, ByFile, ByVertex, ByPartitions, feed, rule_by}
use Rattle.tez_history.specs.History.{Past, winner, made_bytes}
use Rattle.tez_history.specs.Derived.{task_count, edge_winners, sources_configured, source_tasks, source_bytes, seen}
use Rattle.tez_history.specs.Rules.{is_fed, is_asked}
use Rattle.tez_laws.proofs.StepLaw.{both}
use Rattle.tez_progress.specs.Laws.{IsFitted}
use Rattle.tez_progress.proofs.Fitting.{le_from, planned_some}
use Rattle.tez_progress.proofs.Members.{true_and, all_at}
use Rattle.tez_progress.proofs.Ready.{lt_true}
use Rattle.tez_progress.proofs.Configured.{sees_sources}
use Rattle.tez_router_view.specs.View.{FitsPlan}
use Rattle.tez_contents.proofs.Edges.{at_in}
use Rattle.tez_rules.specs.OneMaster.{BytesFit}

pub le_true : (a b : ℕ) → a ≤ b → nat_le a b ≡ true
le_true a b h = grind (arith, nat_tests)

-- ---- the plan

few_tasks : (s : VertexSpec) → vertex_in_range s ≡ true → s.tasks ≤ most_tasks
few_tasks s h = let k : is_within 1 most_tasks s.tasks ≡ true = (both (both (both (both (both h).0).0).0).0).1 in le_from s.tasks most_tasks (both k).1

pub planned_few : (g : Dag) (v : ℕ) → IsInRanges g → planned g v ≤ most_tasks
planned_few g v ranges = by (slice_get g.vertices v) refl where
  by : (o : Option VertexSpec) → slice_get g.vertices v ≡ o → option_map_or (λ s. s.tasks) o 0 ≤ most_tasks
  by (Some s) e = few_tasks s (all_at vertex_in_range s g.vertices ranges.vertices (at_in s g.vertices v e))
  by None e = omega arith

few_edges : (g : Dag) → IsValid g → length g.edges ≤ 256
few_edges g valid = cases (nat_lt 256 (length g.edges)) (λ e. absurd ((valid_parts g valid).few_parts 256 (subst (λ b. (false || b) ≡ true) (sym e) refl))) (λ e. low (length g.edges) e) where
  low : (n : ℕ) → nat_lt 256 n ≡ false → n ≤ 256
  low n h = grind (arith, nat_tests)

filter_few : {X : Type 0} (p : X → Bool) (xs : List X) → length (filter p xs) ≤ length xs
filter_few p [] = omega arith
filter_few p (x ∷ xs) = by (p x) (filter_few p xs) where
  by : (b : Bool) → length (filter p xs) ≤ length xs → length (if b then x ∷ filter p xs else filter p xs) ≤ suc (length xs)
  by true h = omega arith
  by false h = omega arith

primary_few : (g : Dag) (v : ℕ) → IsValid g → length (primary_edges g v) ≤ 256
primary_few g v valid =
    let a : length (primary_edges g v) ≤ length (edges_to g v) = filter_few (λ (e : Edge). not (is_broadcast e.1)) (edges_to g v) in
    let b : length (edges_to g v) ≤ length (enumerate_from 0 g.edges) = filter_few (λ (e : Edge). to g e.1 == v) (enumerate_from 0 g.edges) in
    let c : length (enumerate_from 0 g.edges) ≡ length g.edges = length-enumerate_from 0 g.edges in
    let d = few_edges g valid in
    omega arith

-- ---- sums

sum_few : {X : Type 0} (f : X → ℕ) (m : ℕ) (xs : List X) → ((x : X) → f x ≤ m) → sum_by f xs ≤ length xs * m
sum_few f m [] h = omega arith
sum_few f m (x ∷ xs) h =
    let e = sum_by-cons f x xs in
    let one : f x ≤ m = h x in
    let rest : sum_by f xs ≤ length xs * m = sum_few f m xs h in
    grind arith

sum_within : {X : Type 0} (f : X → ℕ) (m n : ℕ) (xs : List X) → ((x : X) → f x ≤ m) → length xs ≤ n → sum_by f xs ≤ n * m
sum_within f m n xs h few = le_trans (sum_few f m xs h) (mul-le (length xs) m n m few (omega arith))

-- ---- the sources

count_few : (g : Dag) (v : ℕ) (past : Past) → IsInRanges g → FitsPlan g past → task_count g v past ≤ most_tasks
count_few g v past ranges fits = le_trans (fits v) (planned_few g v ranges)

sources_few : (g : Dag) (v : ℕ) (past : Past) → IsValid g → IsInRanges g → FitsPlan g past → source_tasks g v past < 2 ^ 32
sources_few g v past valid ranges fits =
    let k : source_tasks g v past ≤ 256 * most_tasks = sum_within (λ (e : Edge). task_count g (from g e.1) past) most_tasks 256 (primary_edges g v) (λ e. count_few g (from g e.1) past ranges fits) (primary_few g v valid) in
    omega arith

-- ---- the bytes

if_few : (b : Bool) (n k m : ℕ) → n ≤ m → k ≤ m → (if b then n else k) ≤ m
if_few true n k m h l = h
if_few false n k m h l = l

under : (n m : ℕ) → n < m → n ≤ m
under n m h = omega arith

made_few : (a : AttemptId) (e : ℕ) (past : Past) → BytesFit past → made_bytes a e past ≤ 2 ^ 64
made_few a e [] h = omega arith
made_few a e (Made b d n ∷ past) h = if_few (same_attempt b a && (d.0 == e)) n (made_bytes a e past) (2 ^ 64) (under n (2 ^ 64) h.0) (made_few a e past h.1)
made_few a e (_ ∷ past) h = made_few a e past h.1

found_few : {X : Type 0} (f : ℕ → Option X) (first n : ℕ) → length (filter_map f (numbers_from first n)) ≤ n
found_few f first zero = omega arith
found_few {X} f first (suc n) = by (f first) (found_few f (suc first) n) where
  by : (o : Option X) → length (filter_map f (numbers_from (suc first) n)) ≤ n → length (cons_option o (filter_map f (numbers_from (suc first) n))) ≤ suc n
  by (Some x) h = omega arith
  by None h = omega arith

edge_few : (g : Dag) (past : Past) (e : Edge) → IsInRanges g → FitsPlan g past → BytesFit past → sum_by (λ a. made_bytes a e.0 past) (edge_winners g past e) ≤ most_tasks * 2 ^ 64
edge_few g past e ranges fits bytes =
    sum_within (λ a. made_bytes a e.0 past) (2 ^ 64) most_tasks (edge_winners g past e) (λ a. made_few a e.0 past bytes)
    (le_trans (found_few (λ i. winner (task (from g e.1) i) past) 0 (task_count g (from g e.1) past)) (count_few g (from g e.1) past ranges fits))

bytes_few : (g : Dag) (v : ℕ) (past : Past) → IsValid g → IsInRanges g → FitsPlan g past → BytesFit past → source_bytes g v past < 2 ^ 96
bytes_few g v past valid ranges fits bytes =
    let k : source_bytes g v past ≤ 256 * (most_tasks * 2 ^ 64) = sum_within (λ (e : Edge). sum_by (λ a. made_bytes a e.0 past) (edge_winners g past e)) (most_tasks * 2 ^ 64) 256 (primary_edges g v)
    (λ e. edge_few g past e ranges fits bytes) (primary_few g v valid) in
    omega arith

-- ---- the manager

sources_or : (b : Bool) (n : ℕ) → (b ≡ true → 1 ≤ n) → (not b || nat_le 1 n) ≡ true
sources_or true n h = le_true 1 n (h refl)
sources_or false n h = refl

fed_by : (g : Dag) (c : ConfValues) (v : ℕ) (past : Past) (f : Feed) → 1 ≤ planned g v → HasSources (rule_by g c v f) (seen g v past) → is_fed (rule_by g c v f) (seen g v past) ≡ true
fed_by g c v past ByFile some has = refl
fed_by g c v past (ByVertex u) some has = sources_or (sources_configured g v past) (source_tasks g v past) has
fed_by g c v past ByPartitions some has = true_and (le_true 1 (planned g v) some) (sources_or (sources_configured g v past) (source_tasks g v past) has)

pub asked : (g : Dag) (c : ConfValues) (v : ℕ) (past : Past) → IsValid g → IsInRanges g → IsFitted g past → FitsPlan g past → BytesFit past → v < length g.vertices → is_asked g c v past ≡ true
asked g c v past valid ranges fitted fits bytes there =
    true_and (fed_by g c v past (feed g v) (planned_some g v ranges there) (sees_sources g c v past valid fitted there))
    (true_and (lt_true (source_tasks g v past) (2 ^ 32) (sources_few g v past valid ranges fits)) (lt_true (source_bytes g v past) (2 ^ 96) (bytes_few g v past valid ranges fits bytes)))
