-- The first of lists that are put together, where those before have nothing.
use Rattle.std.proofs.Common.{◌≡◌, ℕ, zero, suc, ◌+◌, ◌-◌, ◌<◌, ◌≤◌, Bool, true, false, not, cond, List, [], ◌∷◌, ◌++◌, length, take, drop, get_or, refl, sym, ap, ◌∙◌, arith, add-zero, append_assoc, flat_map, filter, ltb-true}
use Rattle.std.specs.Prelude.{slice_get, Option, Some, None, is_some, nat_lt, unwrap_or}
use Rattle.std.specs.List.{range_with_len, position, position_or_len}
use Rattle.std.proofs.lemmas.Bool.{ltb-false}
use Rattle.std.specs.Option.{option_map}
use Rattle.tez_runs.specs.Flags.{missing_from}
use Rattle.std.proofs.lemmas.List.{take_more}
use Rattle.tez_lists.proofs.Flat.{flat-append, append-nil}
use Rattle.std.proofs.Common.{◌&&◌}
use Rattle.std.specs.Prelude.{if◌then◌else◌, option_and_then}
use Rattle.tez_ids.specs.declared.AttemptId.{AttemptId}
use Rattle.tez_plan.specs.Dag.{edge}
use Rattle.tez_router.specs.State.{RouterState, LinkState, EdgeInputs, AdmittedState}
use Rattle.tez_router.specs.Table.{input_fetch, can_fetch, source_task, winner_at, without, is_among}
use Rattle.tez_router.proofs.Ranges.{flat_range}

first_append : {Y : Type 0} (ys zs : List Y) (y : Y) → slice_get ys 0 ≡ Some y → slice_get (ys ++ zs) 0 ≡ Some y
first_append [] zs y h = cc
first_append (x ∷ ys) zs y h = h

no_first : {Y : Type 0} (ys : List Y) → slice_get ys 0 ≡ None → ys ≡ []
no_first [] h = refl
no_first (y ∷ ys) h = cc

range_parts : {Y : Type 0} (f : ℕ → List Y) (a k : ℕ) → (ys : List Y) × (flat_map f (range_with_len 0 (a + k)) ≡ flat_map f (range_with_len 0 a) ++ ys)
range_parts f a zero = ([], ap (λ n. flat_map f (range_with_len 0 n)) (add-zero a) ∙ sym (append-nil (flat_map f (range_with_len 0 a))))
range_parts {Y} f a (suc k) =
    let rest = range_parts f a k in
    let next : a + suc k ≡ a + k + 1 = omega arith in
    let longer : flat_map f (range_with_len 0 (a + k + 1)) ≡ flat_map f (range_with_len 0 (a + k)) ++ f (a + k) = sym (flat_range f (a + k) [] (flat_map f (range_with_len 0 (a + k))) (flat_map f (range_with_len 0 (a + k)) ++ f (a + k)) refl refl) in
    (rest.0 ++ f (a + k), ap (λ n. flat_map f (range_with_len 0 n)) next ∙ longer ∙ ap (λ zs. zs ++ f (a + k)) rest.1 ∙ append_assoc (flat_map f (range_with_len 0 a)) rest.0 (f (a + k)))

pub first_in_range : {Y : Type 0} (f : ℕ → List Y) (i n : ℕ) (y : Y) → flat_map f (range_with_len 0 i) ≡ [] → i < n → slice_get (f i) 0 ≡ Some y → slice_get (flat_map f (range_with_len 0 n)) 0 ≡ Some y
first_in_range f i n y none h found =
    let rest = range_parts f (i + 1) (n - (i + 1)) in
    let all : i + 1 + (n - (i + 1)) ≡ n = omega arith in
    let here : flat_map f (range_with_len 0 (i + 1)) ≡ f i = sym (flat_range f i [] [] (f i) (sym none) refl) in
    ap (λ m. slice_get (flat_map f (range_with_len 0 m)) 0) (sym all) ∙ ap (λ zs. slice_get zs 0) (rest.1 ∙ ap (λ zs. zs ++ rest.0) here) ∙ first_append (f i) rest.0 y found

pub next_in_range : {Y : Type 0} (f : ℕ → List Y) (i : ℕ) → flat_map f (range_with_len 0 i) ≡ [] → f i ≡ [] → flat_map f (range_with_len 0 (i + 1)) ≡ []
next_in_range f i none nothing = sym (flat_range f i [] [] [] (sym none) (sym nothing))

flat_parts : {X Y : Type 0} (f : X → List Y) (xs : List X) (i : ℕ) (d : X) → i < length xs → flat_map f xs ≡ flat_map f (take i xs) ++ (f (get_or xs i d) ++ flat_map f (drop (suc i) xs))
flat_parts f [] i d h = absurd (omega arith)
flat_parts f (x ∷ xs) zero d h = refl
flat_parts f (x ∷ xs) (suc i) d h = ap (λ zs. f x ++ zs) (flat_parts f xs i d (omega arith)) ∙ sym (append_assoc (f x) (flat_map f (take i xs)) (f (get_or xs i d) ++ flat_map f (drop (suc i) xs)))

pub first_in_list : {X Y : Type 0} (f : X → List Y) (xs : List X) (i : ℕ) (d : X) (y : Y) → flat_map f (take i xs) ≡ [] → i < length xs → slice_get (f (get_or xs i d)) 0 ≡ Some y → slice_get (flat_map f xs) 0 ≡ Some y
first_in_list f xs i d y none h found =
    ap (λ zs. slice_get zs 0) (flat_parts f xs i d h ∙ ap (λ zs. zs ++ (f (get_or xs i d) ++ flat_map f (drop (suc i) xs))) none) ∙ first_append (f (get_or xs i d)) (flat_map f (drop (suc i) xs)) y found

pub next_in_list : {X Y : Type 0} (f : X → List Y) (xs : List X) (i : ℕ) (d : X) → flat_map f (take i xs) ≡ [] → i < length xs → slice_get (f (get_or xs i d)) 0 ≡ None → flat_map f (take (i + 1) xs) ≡ []
next_in_list f xs i d none h nothing =
    ap (flat_map f) (take_more xs i d h) ∙ flat-append f (take i xs) (get_or xs i d ∷ []) ∙ ap (λ zs. zs ++ (f (get_or xs i d) ++ [])) none ∙ append-nil (f (get_or xs i d)) ∙ no_first (f (get_or xs i d)) nothing

-- ---- numbers that are all set

get_is : (xs : List Bool) (j : ℕ) → j < length xs → slice_get xs j ≡ Some (get_or xs j true)
get_is [] j h = absurd (omega arith)
get_is (x ∷ xs) zero h = refl
get_is (x ∷ xs) (suc j) h = get_is xs j (omega arith)

-- below the first that is not set, and below the end where there is none
below_prefix : (xs : List Bool) (j : ℕ) → j < position_or_len not xs → j < length xs → slice_get xs j ≡ Some true
below_prefix [] j low h = absurd (omega arith)
below_prefix (true ∷ xs) zero low h = refl
below_prefix (true ∷ xs) (suc j) low h = below_prefix xs j (omega arith) (omega arith)
below_prefix (false ∷ xs) j low h = absurd (omega arith)

set_below_first : (xs : List Bool) (i j : ℕ) → Some i ≡ position not xs → j < i → slice_get xs j ≡ Some true
set_below_first xs i j is h = by (nat_lt (position_or_len not xs) (length xs)) refl is where
  by : (b : Bool) → nat_lt (position_or_len not xs) (length xs) ≡ b → Some i ≡ cond b (Some (position_or_len not xs)) None → slice_get xs j ≡ Some true
  by true e k = let same : i ≡ position_or_len not xs = cc in let inside = ltb-true (position_or_len not xs) (length xs) e in below_prefix xs j (omega arith) (omega arith)
  by false e k = cc

set_everywhere : (xs : List Bool) (j : ℕ) → None ≡ position not xs → j < length xs → slice_get xs j ≡ Some true
set_everywhere xs j is h = by (nat_lt (position_or_len not xs) (length xs)) refl is where
  by : (b : Bool) → nat_lt (position_or_len not xs) (length xs) ≡ b → None ≡ cond b (Some (position_or_len not xs)) None → slice_get xs j ≡ Some true
  by true e k = cc
  by false e k = let past = ltb-false (position_or_len not xs) (length xs) e in below_prefix xs j (omega arith) h

inside_first : (xs : List Bool) (k : ℕ) → Some k ≡ position not xs → k < length xs
inside_first xs k is = by (nat_lt (position_or_len not xs) (length xs)) refl is where
  by : (b : Bool) → nat_lt (position_or_len not xs) (length xs) ≡ b → Some k ≡ cond b (Some (position_or_len not xs)) None → k < length xs
  by true e h = let same : k ≡ position_or_len not xs = cc in let inside = ltb-true (position_or_len not xs) (length xs) e in omega arith
  by false e h = cc

get_drop : (xs : List Bool) (i k j : ℕ) → j ≡ i + k → slice_get (drop i xs) k ≡ slice_get xs j
get_drop xs zero k j e = let same : k ≡ j = omega arith in ap (λ n. slice_get xs n) same
get_drop [] (suc i) k j e = refl
get_drop (x ∷ xs) (suc i) k zero e = absurd (omega arith)
get_drop (x ∷ xs) (suc i) k (suc j) e = get_drop xs i k j (omega arith)

drop_inside : (xs : List Bool) (i k : ℕ) → k < length (drop i xs) → i + k < length xs
drop_inside xs zero k h = omega arith
drop_inside [] (suc i) k h = absurd (omega arith)
drop_inside (x ∷ xs) (suc i) k h = let rest = drop_inside xs i k h in omega arith

inside_drop : (xs : List Bool) (i k : ℕ) → i + k < length xs → k < length (drop i xs)
inside_drop xs zero k h = omega arith
inside_drop [] (suc i) k h = absurd (omega arith)
inside_drop (x ∷ xs) (suc i) k h = inside_drop xs i k (omega arith)

-- the first from a number on that is not set: those between are
pub record IsFirstFrom (xs : List Bool) (from i : ℕ) : Type 0 where
  pub low : from ≤ i
  pub inside : i < length xs
  pub set_between : (j : ℕ) → from ≤ j → j < i → slice_get xs j ≡ Some true

pub first_from : (xs : List Bool) (from i : ℕ) → Some i ≡ missing_from xs from → IsFirstFrom xs from i
first_from xs from i is = by (position not (drop from xs)) refl is where
  by : (o : Option ℕ) → position not (drop from xs) ≡ o → Some i ≡ option_map (λ k. from + k) o → IsFirstFrom xs from i
  by None e h = cc
  by (Some k) e h =
      let same : i ≡ from + k = cc in
      let inside : from + k < length xs = drop_inside xs from k (inside_first (drop from xs) k (sym e)) in
      record {
        low = omega arith;
        inside = omega arith;
        set_between = λ j low high. sym (get_drop xs from (j - from) j (omega arith)) ∙ set_below_first (drop from xs) k (j - from) (sym e) (omega arith);
      }

pub set_from : (xs : List Bool) (from : ℕ) → None ≡ missing_from xs from → (j : ℕ) → from ≤ j → j < length xs → slice_get xs j ≡ Some true
set_from xs from is j low high = by (position not (drop from xs)) refl is where
  by : (o : Option ℕ) → position not (drop from xs) ≡ o → None ≡ option_map (λ k. from + k) o → slice_get xs j ≡ Some true
  by None e h = sym (get_drop xs from (j - from) j (omega arith)) ∙ set_everywhere (drop from xs) (j - from) (sym e) (inside_drop xs from (j - from) (omega arith))
  by (Some k) e h = cc

pub set_no_fetch : (rows : List (List (Option AttemptId))) (l : LinkState) (a : AttemptId) (y : EdgeInputs) (j : ℕ) → slice_get y.fetched j ≡ Some true → input_fetch rows l a y j ≡ []
set_no_fetch rows l a y j h = ap (λ b. if not b && is_some (option_and_then (λ t. winner_at rows t.vertex.0 t.index) (source_task l a.task.index j)) then record { attempt = a; edge = edge y.edge; input = j } ∷ [] else []) (ap (λ o. unwrap_or o false) h)

pub test_no_fetch : (rows : List (List (Option AttemptId))) (l : LinkState) (a : AttemptId) (y : EdgeInputs) (j : ℕ) → can_fetch rows l a.task.index y.fetched j ≡ false → input_fetch rows l a y j ≡ []
test_no_fetch rows l a y j h = ap (λ b. if b then record { attempt = a; edge = edge y.edge; input = j } ∷ [] else []) h

pub test_fetch : (rows : List (List (Option AttemptId))) (l : LinkState) (a : AttemptId) (y : EdgeInputs) (j : ℕ) → can_fetch rows l a.task.index y.fetched j ≡ true
    → slice_get (input_fetch rows l a y j) 0 ≡ Some (record { attempt = a; edge = edge y.edge; input = j })
test_fetch rows l a y j h = ap (λ b. slice_get (if b then record { attempt = a; edge = edge y.edge; input = j } ∷ [] else []) 0) h

-- without nobody, the router is as it was
pub without_none : (s : RouterState) → without s [] ≡ s
without_none s = ap (λ (xs : List AdmittedState). record s { admitted = xs }) (all_kept s.admitted) where
  all_kept : (xs : List AdmittedState) → filter (λ x. not (is_among [] x.attempt)) xs ≡ xs
  all_kept [] = refl
  all_kept (x ∷ xs) = ap (λ ys. x ∷ ys) (all_kept xs)
