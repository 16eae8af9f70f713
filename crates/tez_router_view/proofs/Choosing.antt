-- What the router finds next is the master's first candidate of that kind.
use Rattle.std.specs.Prelude.{◌≡◌, ℕ, zero, suc, ◌+◌, ◌<◌, Bool, true, false, not, ◌&&◌, ◌==◌, if◌then◌else◌, cond, List, [], ◌∷◌, ◌++◌, map, slice_get, Option, Some, None, is_some, option_and_then, refl}
use Rattle.std.specs.List.{find, flat_map, filter, list_all, sum_by, count_by}
use Rattle.std.specs.Option.{option_map}
use Rattle.std.proofs.Common.{ap, sym, ◌∙◌, arith, subst, inl, inr}
use Rattle.std.proofs.lemmas.Bool.Decides.{nat_tests}
use Rattle.std.proofs.lemmas.List.Sums.{sum_by-cons}
use Rattle.tez_ids.specs.declared.AttemptId.{AttemptId}
use Rattle.tez_ids.specs.Same.{same_attempt}
use Rattle.tez_events.specs.declared.CoreEvent.TheVariants.{Fetch, Send}
use Rattle.tez_lists.specs.Numbers.{In, numbers_from}
use Rattle.tez_lists.proofs.Flat.{flat_same, flat_map-map}
use Rattle.tez_plan.specs.Dag.{Dag, edge}
use Rattle.tez_conf.specs.declared.values.ConfValues.{ConfValues}
use Rattle.tez_history.specs.Shape.{Edge, edges_to, numbers_below}
use Rattle.tez_history.specs.History.{Past, is_fetched, stage}
use Rattle.tez_history.specs.Derived.{inputs, input_count, waiting_attempts, live_attempts, is_waiting, source_of_input, has_fetched, all_fetched}
use Rattle.tez_history.specs.Steps.{enabled, is_running, some_fetch, fetches_of, some_send, winner_of_input, winner_behind}
use Rattle.tez_history.specs.Follows.{IsMade}
use Rattle.tez_laws.proofs.Same.{same_attempt-true, same_attempt-refl}
use Rattle.tez_router.specs.State.{AdmittedState, EdgeInputs}
use Rattle.tez_router.specs.Table.{can_fetch, fetches_over, attempt_fetches, fetches_in, first_complete, missing_of, missing_in, winner_at, source_task}
use Rattle.tez_router_view.specs.View.{router_view, link_view, links_view, inputs_view, admitted_view, winners_view, FitsPlan}
use Rattle.tez_router_view.specs.Events.{fetch_event}
use Rattle.tez_router_view.proofs.Lists.{map-flat, filter-flat, filter-map, find-map, find-same, first-filter, first-map, in-filter-holds}
use Rattle.tez_router_view.proofs.Edges.{source_same}
use Rattle.tez_router_view.proofs.Winners.{winner_read}
use Rattle.tez_router_view.proofs.Inputs.{attempt_list, flag_is, input_at_here}
use Rattle.tez_router_view.proofs.Reading.{agree}

pub waits_now : (g : Dag) (past : Past) (a : AttemptId) → In a (waiting_attempts g past) → is_waiting (stage a past) ≡ true
waits_now g past a h = in-filter-holds (λ b. is_waiting (stage b past)) a (live_attempts g past) h

two_hold : (x y z : Bool) → x ≡ true → y ≡ true → (x && (y && z)) ≡ z
two_hold true true z h k = refl
two_hold true false z h k = cc
two_hold false y z h k = cc

-- ---- fetches

fetch_tells : (g : Dag) (c : ConfValues) (past : Past) → IsMade g c past → FitsPlan g past → is_running past ≡ true → (a : AttemptId) → In a (waiting_attempts g past) → (e : Edge) (i : ℕ)
    → In e (edges_to g a.task.vertex.0) → i < input_count g past e.1 a.task.index
    → can_fetch (winners_view g past) (link_view g past e) a.task.index (inputs_view g past a e).fetched i ≡ enabled g c past (Fetch a (edge e.0) i)
fetch_tells g c past m fits runs a waits e i there low =
    ap (λ b. not b && is_some (option_and_then (λ t. winner_at (winners_view g past) t.vertex.0 t.index) (source_task (link_view g past e) a.task.index i))) (flag_is g past a e i low)
    ∙ ap (λ o. not (is_fetched a e.0 i past) && is_some (option_and_then (λ t. winner_at (winners_view g past) t.vertex.0 t.index) o)) (source_same g past e a.task.index i low)
    ∙ ap (λ o. not (is_fetched a e.0 i past) && is_some o) (winner_read g c past m fits (source_of_input g past a (e.0, e.1, i)) ∙ ap (winner_of_input g past a) (sym (input_at_here g past a e i there low)))
    ∙ sym (two_hold (is_running past) (is_waiting (stage a past)) (not (is_fetched a e.0 i past) && is_some (winner_behind g past a e.0 i)) runs (waits_now g past a waits))

attempt_fetches_same : (g : Dag) (c : ConfValues) (past : Past) → IsMade g c past → FitsPlan g past → is_running past ≡ true → (a : AttemptId) → In a (waiting_attempts g past)
    → map fetch_event (attempt_fetches (links_view g past) (winners_view g past) (admitted_view g past a)) ≡ filter (enabled g c past) (fetches_of g past a)
attempt_fetches_same g c past m fits runs a waits =
    attempt_list g past a (λ o y. fetches_over (winners_view g past) o a y) (λ l y i. can_fetch (winners_view g past) l a.task.index y.fetched i) (λ y i. record { attempt = a; edge = edge y.edge; input = i }) fetch_event
    (λ k. enabled g c past (Fetch a (edge k.0) k.2)) (λ k. Fetch a (edge k.0) k.2) (λ l y. refl) (λ e i there low. fetch_tells g c past m fits runs a waits e i there low) (λ e i. refl)
    ∙ sym (filter-map (enabled g c past) (λ k. Fetch a (edge k.0) k.2) (inputs g past a))

-- all the fetches that can be made are the enabled ones, in order
pub fetches_same : (g : Dag) (c : ConfValues) (past : Past) → IsMade g c past → FitsPlan g past → is_running past ≡ true → map fetch_event (fetches_in (router_view g past)) ≡ filter (enabled g c past) (some_fetch g past)
fetches_same g c past m fits runs =
    map-flat fetch_event (attempt_fetches (links_view g past) (winners_view g past)) (map (admitted_view g past) (waiting_attempts g past))
    ∙ flat_map-map (λ x. map fetch_event (attempt_fetches (links_view g past) (winners_view g past) x)) (admitted_view g past) (waiting_attempts g past)
    ∙ flat_same (λ a. map fetch_event (attempt_fetches (links_view g past) (winners_view g past) (admitted_view g past a))) (λ a. filter (enabled g c past) (fetches_of g past a)) (waiting_attempts g past)
    (λ a h. attempt_fetches_same g c past m fits runs a h)
    ∙ sym (filter-flat (enabled g c past) (fetches_of g past) (waiting_attempts g past))

pub next_fetch_same : (g : Dag) (c : ConfValues) (past : Past) → IsMade g c past → FitsPlan g past → is_running past ≡ true
    → option_map fetch_event (slice_get (fetches_in (router_view g past)) 0) ≡ find (enabled g c past) (some_fetch g past)
next_fetch_same g c past m fits runs =
    sym (first-map fetch_event (fetches_in (router_view g past))) ∙ ap (λ xs. slice_get xs 0) (fetches_same g c past m fits runs) ∙ first-filter (enabled g c past) (some_fetch g past)

-- ---- attempts that miss nothing

list_all-append : {X : Type 0} (p : X → Bool) (xs ys : List X) → list_all p (xs ++ ys) ≡ (list_all p xs && list_all p ys)
list_all-append p [] ys = refl
list_all-append p (x ∷ xs) ys = by (p x) (list_all-append p xs ys) where
  by : (b : Bool) → list_all p (xs ++ ys) ≡ (list_all p xs && list_all p ys) → (b && list_all p (xs ++ ys)) ≡ ((b && list_all p xs) && list_all p ys)
  by true e = e
  by false e = refl

sum_zero : (m n k : ℕ) → m ≡ n + k → (m == 0) ≡ ((n == 0) && (k == 0))
sum_zero m n k h = grind (arith, nat_tests)

one_zero : (b : Bool) → (cond (not b) 1 0 == 0) ≡ b
one_zero true = refl
one_zero false = refl

row_misses : (past : Past) (a : AttemptId) (e : Edge) (m n : ℕ) → (count_by not (map (λ i. is_fetched a e.0 i past) (numbers_from m n)) == 0) ≡ list_all (has_fetched past a) (map (λ i. (e.0, e.1, i)) (numbers_from m n))
row_misses past a e m zero = refl
row_misses past a e m (suc n) =
    let flags = map (λ i. is_fetched a e.0 i past) (numbers_from (suc m) n) in
    sum_zero (count_by not (is_fetched a e.0 m past ∷ flags)) (cond (not (is_fetched a e.0 m past)) 1 0) (count_by not flags) (sum_by-cons (λ (b : Bool). cond (not b) 1 0) (is_fetched a e.0 m past) flags)
    ∙ ap (λ b. b && (count_by not flags == 0)) (one_zero (is_fetched a e.0 m past)) ∙ ap (λ b. is_fetched a e.0 m past && b) (row_misses past a e (suc m) n)

rows_miss : (g : Dag) (past : Past) (a : AttemptId) (es : List Edge)
    → (sum_by (λ y. count_by not y.fetched) (map (inputs_view g past a) es) == 0) ≡ list_all (has_fetched past a) (flat_map (λ e. map (λ i. (e.0, e.1, i)) (numbers_below (input_count g past e.1 a.task.index))) es)
rows_miss g past a [] = refl
rows_miss g past a (e ∷ es) =
    let later = map (inputs_view g past a) es in
    let rest = flat_map (λ d. map (λ i. (d.0, d.1, i)) (numbers_below (input_count g past d.1 a.task.index))) es in
    sum_zero (sum_by (λ y. count_by not y.fetched) (inputs_view g past a e ∷ later)) (count_by not (inputs_view g past a e).fetched) (sum_by (λ y. count_by not y.fetched) later)
    (sum_by-cons (λ (y : EdgeInputs). count_by not y.fetched) (inputs_view g past a e) later)
    ∙ ap (λ b. b && (sum_by (λ y. count_by not y.fetched) later == 0)) (row_misses past a e 0 (input_count g past e.1 a.task.index))
    ∙ ap (λ b. list_all (has_fetched past a) (map (λ i. (e.0, e.1, i)) (numbers_below (input_count g past e.1 a.task.index))) && b) (rows_miss g past a es)
    ∙ sym (list_all-append (has_fetched past a) (map (λ i. (e.0, e.1, i)) (numbers_below (input_count g past e.1 a.task.index))) rest)

pub misses_none : (g : Dag) (past : Past) (a : AttemptId) → (missing_of (admitted_view g past a) == 0) ≡ all_fetched g past a
misses_none g past a = rows_miss g past a (edges_to g a.task.vertex.0)

map-id : {X : Type 0} (o : Option X) → option_map (λ x. x) o ≡ o
map-id None = refl
map-id (Some x) = refl

option-map-map : {X Y Z : Type 0} (f : Y → Z) (h : X → Y) (o : Option X) → option_map f (option_map h o) ≡ option_map (λ x. f (h x)) o
option-map-map f h None = refl
option-map-map f h (Some x) = refl

pub next_send_same : (g : Dag) (c : ConfValues) (past : Past) → is_running past ≡ true → option_map Send (first_complete (router_view g past).admitted) ≡ find (enabled g c past) (some_send g past)
next_send_same g c past runs =
    ap (λ o. option_map Send (option_map (λ x. x.attempt) o)) (find-map (λ x. missing_of x == 0) (admitted_view g past) (waiting_attempts g past))
    ∙ ap (option_map Send) (option-map-map (λ (x : AdmittedState). x.attempt) (admitted_view g past) (find (λ a. missing_of (admitted_view g past a) == 0) (waiting_attempts g past))
    ∙ map-id (find (λ a. missing_of (admitted_view g past a) == 0) (waiting_attempts g past))
    ∙ find-same (λ a. missing_of (admitted_view g past a) == 0) (λ a. enabled g c past (Send a)) (waiting_attempts g past)
    (λ a h. misses_none g past a ∙ sym (two_hold (is_running past) (is_waiting (stage a past)) (all_fetched g past a) runs (waits_now g past a h))))
    ∙ sym (find-map (enabled g c past) Send (waiting_attempts g past))

-- ---- how many it misses

same_only : (g : Dag) (past : Past) (a : AttemptId) (bs : List AttemptId) → missing_of (admitted_view g past a) ≡ 0 → sum_by missing_of (filter (λ x. same_attempt x.attempt a) (map (admitted_view g past) bs)) ≡ 0
same_only g past a [] none = refl
same_only g past a (b ∷ bs) none = by (same_attempt b a) refl (same_only g past a bs none) where
  rest : List AdmittedState
  rest = filter (λ x. same_attempt x.attempt a) (map (admitted_view g past) bs)

  by : (x : Bool) → same_attempt b a ≡ x → sum_by missing_of (filter (λ z. same_attempt z.attempt a) (map (admitted_view g past) bs)) ≡ 0
      → sum_by missing_of (if x then admitted_view g past b ∷ filter (λ z. same_attempt z.attempt a) (map (admitted_view g past) bs) else filter (λ z. same_attempt z.attempt a) (map (admitted_view g past) bs)) ≡ 0
  by true e ih =
      let here : missing_of (admitted_view g past b) ≡ 0 = subst (λ z. missing_of (admitted_view g past z) ≡ 0) (sym (same_attempt-true b a e)) none in
      let k = sum_by-cons missing_of (admitted_view g past b) rest in
      omega (arith, k, here, ih)
  by false e ih = ih

counted : (g : Dag) (past : Past) (a : AttemptId) (bs : List AttemptId) → In a bs → sum_by missing_of (filter (λ x. same_attempt x.attempt a) (map (admitted_view g past) bs)) ≡ 0 → missing_of (admitted_view g past a) ≡ 0
counted g past a [] i h = absurd i
counted g past a (b ∷ bs) (inl s) h =
    let rest = filter (λ x. same_attempt x.attempt a) (map (admitted_view g past) bs) in
    let same : same_attempt b a ≡ true = subst (λ z. same_attempt z a ≡ true) s (same_attempt-refl a) in
    let all : sum_by missing_of (admitted_view g past b ∷ rest) ≡ 0 = ap (λ x. sum_by missing_of (if x then admitted_view g past b ∷ rest else rest)) (sym same) ∙ h in
    let k = sum_by-cons missing_of (admitted_view g past b) rest in
    let here : missing_of (admitted_view g past b) ≡ 0 = omega (arith, k, all) in
    subst (λ z. missing_of (admitted_view g past z) ≡ 0) (sym s) here
counted g past a (b ∷ bs) (inr j) h = counted g past a bs j (by (same_attempt b a) h) where
  rest : List AdmittedState
  rest = filter (λ x. same_attempt x.attempt a) (map (admitted_view g past) bs)

  by : (x : Bool) → sum_by missing_of (if x then admitted_view g past b ∷ filter (λ z. same_attempt z.attempt a) (map (admitted_view g past) bs) else filter (λ z. same_attempt z.attempt a) (map (admitted_view g past) bs)) ≡ 0
      → sum_by missing_of (filter (λ z. same_attempt z.attempt a) (map (admitted_view g past) bs)) ≡ 0
  by true k = let l = sum_by-cons missing_of (admitted_view g past b) rest in omega (arith, l, k)
  by false k = k

zero_is : (n : ℕ) → (n == 0) ≡ true → n ≡ 0
zero_is n h = grind (arith, nat_tests)

is_zero : (n : ℕ) → n ≡ 0 → (n == 0) ≡ true
is_zero n h = grind (arith, nat_tests)

pub missing_read : (g : Dag) (past : Past) (a : AttemptId) → In a (waiting_attempts g past) → (missing_in (router_view g past) a == 0) ≡ all_fetched g past a
missing_read g past a waits =
    agree (missing_in (router_view g past) a == 0) (missing_of (admitted_view g past a) == 0)
    (λ h. is_zero (missing_of (admitted_view g past a)) (counted g past a (waiting_attempts g past) waits (zero_is (missing_in (router_view g past) a) h)))
    (λ h. is_zero (missing_in (router_view g past) a) (same_only g past a (waiting_attempts g past) (zero_is (missing_of (admitted_view g past a)) h)))
    ∙ misses_none g past a
