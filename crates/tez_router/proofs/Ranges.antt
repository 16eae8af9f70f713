-- Loops over numbers and over lists of edges.
use Rattle.std.proofs.Common.{◌≡◌, ℕ, zero, suc, ◌+◌, ◌<◌, ◌≤◌, ◌==◌, Bool, true, false, List, [], ◌∷◌, ◌++◌, length, map, take, drop, get_or, replicate, refl, sym, ap, ◌∙◌, arith, zero-add, append_assoc, flat_map}
use Rattle.std.specs.Option.{option_map_or}
use Rattle.std.specs.Prelude.{nat_lt, slice_get, slice_set, if◌then◌else◌, Option, Some, None}
use Rattle.std.specs.List.{range_with_len, list_all}
use Rattle.std.proofs.Common.{◌⊎◌, inl, inr, ◌-◌, ◌&&◌, not, add-zero}
use Rattle.std.specs.Prelude.{unwrap_or}
use Rattle.std.proofs.lemmas.Bool.{and_parts, ltb-false, cases_lt}
use Rattle.tez_ids.specs.declared.TaskId.{TaskId}
use Rattle.tez_plan.specs.Dag.{edge}
use Rattle.tez_router.specs.Span.{IsSpan}
use Rattle.tez_router.specs.Table.{input_notice, is_task, source_task}
use Rattle.std.proofs.lemmas.List.{length-set}
use Rattle.tez_ids.specs.declared.AttemptId.{AttemptId}
use Rattle.tez_lists.proofs.Cases.{cases}
use Rattle.tez_lists.proofs.Flat.{flat-append, append-nil, map-append'}
use Rattle.tez_lists.proofs.Ranges.{range_more}
use Rattle.tez_plan.specs.Dag.{Dag}
use Rattle.tez_plan.specs.Faults.{IsValid, checks}
use Rattle.tez_router.specs.State.{LinkState, EdgeInputs, Routing}
use Rattle.tez_router.specs.Table.{blank_over, with_routing, inputs_in}

-- one number more
pub flat_range : {Y : Type 0} (f : ℕ → List Y) (i : ℕ) (start was now : List Y) → was ≡ start ++ flat_map f (range_with_len 0 i) → now ≡ was ++ f i → now ≡ start ++ flat_map f (range_with_len 0 (i + 1))
flat_range f i start was now w n =
    let last : flat_map f (range_with_len 0 (i + 1)) ≡ flat_map f (range_with_len 0 i) ++ f i =
    ap (flat_map f) (range_more 0 i ∙ ap (λ k. range_with_len 0 i ++ k ∷ []) (zero-add i)) ∙ flat-append f (range_with_len 0 i) (i ∷ []) ∙ ap (λ ys. flat_map f (range_with_len 0 i) ++ ys) (append-nil (f i)) in
    n ∙ ap (λ ys. ys ++ f i) w ∙ append_assoc start (flat_map f (range_with_len 0 i)) (f i) ∙ ap (λ ys. start ++ ys) (sym last)

pub map_range : {Y : Type 0} (f : ℕ → Y) (i : ℕ) (was now : List Y) (y : Y) → was ≡ map f (range_with_len 0 i) → y ≡ f i → now ≡ was ++ y ∷ [] → now ≡ map f (range_with_len 0 (i + 1))
map_range f i was now y w is n =
    let last : map f (range_with_len 0 (i + 1)) ≡ map f (range_with_len 0 i) ++ f i ∷ [] =
    ap (map f) (range_more 0 i ∙ ap (λ k. range_with_len 0 i ++ k ∷ []) (zero-add i)) ∙ map-append' f (range_with_len 0 i) (i ∷ []) in
    n ∙ ap (λ ys. ys ++ y ∷ []) w ∙ ap (λ z. map f (range_with_len 0 i) ++ z ∷ []) is ∙ sym last

pub few_blank : (a : AttemptId) (links : List LinkState) → length (flat_map (blank_over a) links) ≤ length links
few_blank a [] = omega arith
few_blank a (l ∷ links) = by (l.target == a.task.vertex.0) (few_blank a links) where
  by : (b : Bool) → length (flat_map (blank_over a) links) ≤ length links
      → length ((if b then record { edge = l.edge; fetched = replicate (inputs_in l.routing a.task.index) false } ∷ [] else []) ++ flat_map (blank_over a) links) ≤ suc (length links)
  by true rest = omega arith
  by false rest = omega arith

pub length-with_routing : (links : List LinkState) (e : ℕ) (r : Routing) → length (with_routing links e r) ≡ length links
length-with_routing links e r = by (slice_get links e) where
  by : (o : Option LinkState) → length (option_map_or (λ l. slice_set links e (record l { routing = r })) o links) ≡ length links
  by None = refl
  by (Some l) = length-set links e (record l { routing = r })

pub few_edges : (p : Dag) → IsValid p → length p.edges ≤ 256
unfolding IsValid checks
few_edges p valid = cases (nat_lt 256 (length p.edges))
    (λ e. absurd (valid.0 256 e))
    (λ e. ltb-false 256 (length p.edges) e)

pub all_at : {X : Type 0} (q : X → Bool) (xs : List X) (k : ℕ) (d : X) → list_all q xs ≡ true → k < length xs → q (get_or xs k d) ≡ true
all_at q [] k d all h = absurd (omega arith)
all_at q (x ∷ xs) zero d all h = (and_parts (q x) (list_all q xs) all).0
all_at q (x ∷ xs) (suc k) d all h = all_at q xs k d (and_parts (q x) (list_all q xs) all).1 (omega arith)

-- what a loop that changes each has not reached yet
pub not_reached : {X : Type 0} (f : X → X) (xs ys : List X) (k : ℕ) (d : X) → k < length xs → ys ≡ map f (take k xs) ++ drop k xs → get_or ys k d ≡ get_or xs k d
not_reached f xs ys k d h is = ap (λ zs. get_or zs k d) is ∙ at f k xs d h where
  at : {X : Type 0} (f : X → X) (k : ℕ) (xs : List X) (d : X) → k < length xs → get_or (map f (take k xs) ++ drop k xs) k d ≡ get_or xs k d
  at f k [] d h = absurd (omega arith)
  at f zero (x ∷ xs) d h = refl
  at f (suc k) (x ∷ xs) d h = at f k xs d (omega arith)

pub get_past : {X : Type 0} (xs : List X) (i : ℕ) → length xs ≤ i → slice_get xs i ≡ None
get_past [] i h = refl
get_past (x ∷ xs) zero h = absurd (omega arith)
get_past (x ∷ xs) (suc i) h = get_past xs i (omega arith)

-- ---- a loop over a part of the numbers, the others having nothing

grown : {Y : Type 0} (f : ℕ → List Y) (a k : ℕ) → ((j : ℕ) → a ≤ j → j < a + k → f j ≡ []) → flat_map f (range_with_len 0 (a + k)) ≡ flat_map f (range_with_len 0 a)
grown f a zero none = ap (λ n. flat_map f (range_with_len 0 n)) (add-zero a)
grown f a (suc k) none =
    let next : a + suc k ≡ a + k + 1 = omega arith in
    ap (λ n. flat_map f (range_with_len 0 n)) next ∙ ap (flat_map f) (range_more 0 (a + k) ∙ ap (λ n. range_with_len 0 (a + k) ++ n ∷ []) (zero-add (a + k)))
    ∙ flat-append f (range_with_len 0 (a + k)) ((a + k) ∷ []) ∙ ap (λ ys. flat_map f (range_with_len 0 (a + k)) ++ (ys ++ [])) (none (a + k) (omega arith) (omega arith))
    ∙ append-nil (flat_map f (range_with_len 0 (a + k))) ∙ grown f a k (λ j low high. none j low (omega arith))

pub same_range : {Y : Type 0} (f : ℕ → List Y) (x n : ℕ) → ((j : ℕ) → x ≤ j → j < n → f j ≡ []) → ((j : ℕ) → n ≤ j → j < x → f j ≡ []) → flat_map f (range_with_len 0 x) ≡ flat_map f (range_with_len 0 n)
same_range f x n up down = by (cases_lt x n) where
  by : (x < n) ⊎ (n ≤ x) → flat_map f (range_with_len 0 x) ≡ flat_map f (range_with_len 0 n)
  by (inl h) =
      let e : x + (n - x) ≡ n = omega arith in
      sym (ap (λ m. flat_map f (range_with_len 0 m)) (sym e) ∙ grown f x (n - x) (λ j low high. up j low (omega arith)))
  by (inr h) =
      let e : n + (x - n) ≡ x = omega arith in
      ap (λ m. flat_map f (range_with_len 0 m)) (sym e) ∙ grown f n (x - n) (λ j low high. down j low (omega arith))

pub nothing_outside : (l : LinkState) (t : TaskId) (lost a : AttemptId) (y : EdgeInputs) (first end j : ℕ) → IsSpan l t a.task.index first end → (j < first) ⊎ (end ≤ j) → input_notice l t lost a y j ≡ []
nothing_outside l t lost a y first end j span outside =
    ap (λ b. if b && not (unwrap_or (slice_get y.fetched j) false) then record { attempt = a; edge = edge y.edge; input = j; lost = lost } ∷ [] else []) (cases (is_task t (source_task l a.task.index j)) (λ e. absurd (apart (span j e) outside)) (λ e. e))
  where
    apart : (first ≤ j) × (j < end) → (j < first) ⊎ (end ≤ j) → ⊥
    apart h (inl k) = let low = h.0 in omega arith
    apart h (inr k) = let high = h.1 in omega arith
