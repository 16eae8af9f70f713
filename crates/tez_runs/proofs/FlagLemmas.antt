-- The truth values of runs: each by its number, how many there are, and after a change.
use Rattle.std.proofs.Common.{◌≡◌, ℕ, zero, suc, ◌+◌, ◌<◌, ◌≤◌, ◌==◌, ◌||◌, Bool, true, false, not, cond, List, [], ◌∷◌, length, map, drop, replicate, ◌-◌, ◌⊎◌, inl, inr, refl, sym, ap, ◌∙◌, arith, add-zero, zero-add}
use Rattle.std.proofs.Common.{lt-ltb}
use Rattle.std.proofs.lemmas.Bool.{le-ltb, cases_lt}
use Rattle.std.specs.Prelude.{nat_lt, slice_get, slice_set, unwrap_or, Some, None, if◌then◌else◌}
use Rattle.std.specs.List.{count_by, position, position_or_len}
use Rattle.std.proofs.lemmas.List.Sums.{sum_by-cons}
use Rattle.tez_lists.specs.Numbers.{numbers_from}
use Rattle.tez_lists.proofs.Tables.{map_below, get_each, set_each}
use Rattle.tez_runs.specs.declared.edit.Run.{Run}
use Rattle.tez_runs.specs.Flags.{covers, flags}

-- ---- lists of truth values

length_map : {X : Type 0} (f : ℕ → X) (a n : ℕ) → length (map f (numbers_from a n)) ≡ n
length_map f a zero = refl
length_map f a (suc n) = ap suc (length_map f (suc a) n)

none_past : {X : Type 0} (f : ℕ → X) (a n i : ℕ) → n ≤ i → slice_get (map f (numbers_from a n)) i ≡ None
none_past f a zero i h = refl
none_past f a (suc n) zero h = absurd (omega arith)
none_past f a (suc n) (suc i) h = none_past f (suc a) n i (omega arith)

counted : (xs : List Bool) → count_by (λ b. b) xs + count_by not xs ≡ length xs
counted [] = refl
counted (x ∷ xs) =
    let a = sum_by-cons (λ b. cond b 1 0) x xs in
    let c = sum_by-cons (λ b. cond (not b) 1 0) x xs in
    let rest = counted xs in
    one x a c rest
  where
    one : (x : Bool) → count_by (λ b. b) (x ∷ xs) ≡ cond x 1 0 + count_by (λ b. b) xs → count_by not (x ∷ xs) ≡ cond (not x) 1 0 + count_by not xs
        → count_by (λ b. b) xs + count_by not xs ≡ length xs → count_by (λ b. b) (x ∷ xs) + count_by not (x ∷ xs) ≡ suc (length xs)
    one true a c rest = omega arith
    one false a c rest = omega arith

one_more : (xs : List Bool) (i : ℕ) → slice_get xs i ≡ Some false → count_by (λ b. b) (slice_set xs i true) ≡ count_by (λ b. b) xs + 1
one_more [] i h = cc
one_more (x ∷ xs) zero h =
    let is : x ≡ false = cc in
    let now : count_by (λ b. b) (true ∷ xs) ≡ 1 + count_by (λ b. b) xs = sum_by-cons (λ b. cond b 1 0) true xs in
    let was : count_by (λ b. b) (x ∷ xs) ≡ 0 + count_by (λ b. b) xs = sum_by-cons (λ b. cond b 1 0) x xs ∙ ap (λ b. cond b 1 0 + count_by (λ b. b) xs) is in
    now ∙ add_one (count_by (λ b. b) xs) ∙ ap (λ n. n + 1) (sym was)
  where
    add_one : (n : ℕ) → 1 + n ≡ 0 + n + 1
    add_one n = omega arith
one_more (x ∷ xs) (suc i) h =
    let now : count_by (λ b. b) (x ∷ slice_set xs i true) ≡ cond x 1 0 + count_by (λ b. b) (slice_set xs i true) = sum_by-cons (λ b. cond b 1 0) x (slice_set xs i true) in
    let was : count_by (λ b. b) (x ∷ xs) ≡ cond x 1 0 + count_by (λ b. b) xs = sum_by-cons (λ b. cond b 1 0) x xs in
    now ∙ ap (λ n. cond x 1 0 + n) (one_more xs i h) ∙ add_one (cond x 1 0) (count_by (λ b. b) xs) ∙ ap (λ n. n + 1) (sym was)
  where
    add_one : (m n : ℕ) → m + (n + 1) ≡ m + n + 1
    add_one m n = omega arith

none_set : (n : ℕ) → count_by (λ b. b) (replicate n false) ≡ 0
none_set zero = refl
none_set (suc n) = sum_by-cons (λ b. cond b 1 0) false (replicate n false) ∙ ap (λ k. 0 + k) (none_set n)

-- the first that is not set
one_and : (n : ℕ) → 1 + n ≡ suc n
one_and n = omega arith

first_from : (f : ℕ → Bool) (a n k : ℕ) → k < n → ((j : ℕ) → a ≤ j → j < a + k → f j ≡ true) → f (a + k) ≡ false → position_or_len not (map f (numbers_from a n)) ≡ k
first_from f a zero k h all none = absurd (omega arith)
first_from f a (suc n) zero h all none = ap (λ b. cond (not (not b)) (1 + position_or_len not (map f (numbers_from (suc a) n))) 0) (ap f (sym (add-zero a)) ∙ none)
first_from f a (suc n) (suc k) h all none =
    let here : f a ≡ true = all a (omega arith) (omega arith) in
    let same : suc a + k ≡ a + suc k = omega arith in
    let rest : position_or_len not (map f (numbers_from (suc a) n)) ≡ k =
    first_from f (suc a) n k (omega arith) (λ j low high. all j (omega arith) (omega arith)) (ap f same ∙ none) in
    ap (λ b. cond (not (not b)) (1 + position_or_len not (map f (numbers_from (suc a) n))) 0) here ∙ ap (λ m. 1 + m) rest ∙ one_and k

all_from : (f : ℕ → Bool) (a n : ℕ) → ((j : ℕ) → a ≤ j → j < a + n → f j ≡ true) → position_or_len not (map f (numbers_from a n)) ≡ n
all_from f a zero all = refl
all_from f a (suc n) all =
    let here : f a ≡ true = all a (omega arith) (omega arith) in
    let rest : position_or_len not (map f (numbers_from (suc a) n)) ≡ n = all_from f (suc a) n (λ j low high. all j (omega arith) (omega arith)) in
    ap (λ b. cond (not (not b)) (1 + position_or_len not (map f (numbers_from (suc a) n))) 0) here ∙ ap (λ m. 1 + m) rest ∙ one_and n

-- ---- those of runs

pub flags_length : (n : ℕ) (xs : List Run) → length (flags n xs) ≡ n
unfolding flags
flags_length n xs = length_map (covers xs) 0 n

pub flags_none : (n : ℕ) → flags n [] ≡ replicate n false
unfolding flags
flags_none n = from 0 n where
  from : (a n : ℕ) → map (covers []) (numbers_from a n) ≡ replicate n false
  from a zero = refl
  from a (suc n) = ap (λ rest. false ∷ rest) (from (suc a) n)

pub flags_get : (n : ℕ) (xs : List Run) (i : ℕ) → i < n → slice_get (flags n xs) i ≡ Some (covers xs i)
unfolding flags
flags_get n xs i h = get_each (covers xs) 0 n i h ∙ ap (λ m. Some (covers xs m)) (zero-add i)

pub flags_past : (n : ℕ) (xs : List Run) (i : ℕ) → n ≤ i → slice_get (flags n xs) i ≡ None
unfolding flags
flags_past n xs i h = none_past (covers xs) 0 n i h

pub flags_set : (n : ℕ) (xs ys : List Run) (i : ℕ) → ((j : ℕ) → covers ys j ≡ (i == j || covers xs j)) → flags n ys ≡ slice_set (flags n xs) i true
unfolding flags
flags_set n xs ys i h =
    map_below (covers ys) (λ q. if (0 + i) == q then true else covers xs q) 0 n (λ q _ _. h q ∙ either (i == q) (covers xs q) ∙ ap (λ m. if m == q then true else covers xs q) (sym (zero-add i)))
    ∙ sym (set_each (covers xs) true 0 n i)
  where
    either : (b c : Bool) → (b || c) ≡ (if b then true else c)
    either true c = refl
    either false c = refl

set_same : (xs : List Bool) (i : ℕ) → slice_get xs i ≡ Some true → slice_set xs i true ≡ xs
set_same [] i h = refl
set_same (x ∷ xs) zero h = let is : x ≡ true = cc in ap (λ b. b ∷ xs) (sym is)
set_same (x ∷ xs) (suc i) h = ap (λ rest. x ∷ rest) (set_same xs i h)

set_past : (xs : List Bool) (i : ℕ) → slice_get xs i ≡ None → slice_set xs i true ≡ xs
set_past [] i h = refl
set_past (x ∷ xs) zero h = cc
set_past (x ∷ xs) (suc i) h = ap (λ rest. x ∷ rest) (set_past xs i h)

-- nothing to set
pub flags_stay : (n : ℕ) (xs : List Run) (i : ℕ) → i < n → covers xs i ≡ true → flags n xs ≡ slice_set (flags n xs) i true
flags_stay n xs i h is = sym (set_same (flags n xs) i (flags_get n xs i h ∙ ap Some is))

pub flags_end : (n : ℕ) (xs : List Run) (i : ℕ) → n ≤ i → flags n xs ≡ slice_set (flags n xs) i true
flags_end n xs i h = sym (set_past (flags n xs) i (flags_past n xs i h))

pub flags_test : (n : ℕ) (xs : List Run) (i : ℕ) → i < n → unwrap_or (slice_get (flags n xs) i) false ≡ covers xs i
flags_test n xs i h = ap (λ o. unwrap_or o false) (flags_get n xs i h)

pub flags_test_past : (n : ℕ) (xs : List Run) (i : ℕ) → n ≤ i → unwrap_or (slice_get (flags n xs) i) false ≡ false
flags_test_past n xs i h = ap (λ o. unwrap_or o false) (flags_past n xs i h)

pub flags_count : (n : ℕ) (xs ys : List Run) (i : ℕ) → i < n → covers xs i ≡ false → ((j : ℕ) → covers ys j ≡ (i == j || covers xs j)) → count_by (λ b. b) (flags n ys) ≡ count_by (λ b. b) (flags n xs) + 1
flags_count n xs ys i below fresh h = ap (count_by (λ b. b)) (flags_set n xs ys i h) ∙ one_more (flags n xs) i (flags_get n xs i below ∙ ap Some fresh)

pub flags_counted : (n : ℕ) (xs : List Run) → count_by (λ b. b) (flags n xs) + count_by not (flags n xs) ≡ n
flags_counted n xs = counted (flags n xs) ∙ flags_length n xs

pub flags_count_none : (n : ℕ) → count_by (λ b. b) (flags n []) ≡ 0
flags_count_none n = ap (count_by (λ b. b)) (flags_none n) ∙ none_set n

-- ---- from a number on

drop_each : {X : Type 0} (f : ℕ → X) (a n i m : ℕ) → n ≡ i + m → drop i (map f (numbers_from a n)) ≡ map f (numbers_from (a + i) m)
drop_each f a n zero m e =
    let same : n ≡ m = omega arith in
    let there : a ≡ a + 0 = omega arith in
    ap (λ k. map f (numbers_from a k)) same ∙ ap (λ b. map f (numbers_from b m)) there
drop_each f a zero (suc i) m e = absurd (omega arith)
drop_each f a (suc n) (suc i) m e = let same : suc a + i ≡ a + suc i = omega arith in drop_each f (suc a) n i m (omega arith) ∙ ap (λ b. map f (numbers_from b m)) same

drop_past : {X : Type 0} (xs : List X) (i : ℕ) → length xs ≤ i → drop i xs ≡ []
drop_past [] zero h = refl
drop_past [] (suc i) h = refl
drop_past (x ∷ xs) zero h = absurd (omega arith)
drop_past (x ∷ xs) (suc i) h = drop_past xs i (omega arith)

position_at : (bs : List Bool) (k : ℕ) → position_or_len not bs ≡ k → k < length bs → position not bs ≡ Some k
position_at bs k e h = ap (λ q. cond (nat_lt q (length bs)) (Some q) None) e ∙ ap (λ b. cond b (Some k) None) (lt-ltb k (length bs) h)

position_none : (bs : List Bool) → position_or_len not bs ≡ length bs → position not bs ≡ None
position_none bs e = ap (λ q. cond (nat_lt q (length bs)) (Some q) None) e ∙ ap (λ b. cond b (Some (length bs)) None) (le-ltb (length bs) (length bs) (omega arith))

pub flags_from : (n i k : ℕ) (xs : List Run) → i + k < n → ((j : ℕ) → i ≤ j → j < i + k → covers xs j ≡ true) → covers xs (i + k) ≡ false → position not (drop i (flags n xs)) ≡ Some k
unfolding flags
flags_from n i k xs h all none =
    let rest : drop i (map (covers xs) (numbers_from 0 n)) ≡ map (covers xs) (numbers_from i (n - i)) =
    drop_each (covers xs) 0 n i (n - i) (omega arith) ∙ ap (λ b. map (covers xs) (numbers_from b (n - i))) (zero-add i) in
    let long : length (map (covers xs) (numbers_from i (n - i))) ≡ n - i = length_map (covers xs) i (n - i) in
    ap (position not) rest ∙ position_at (map (covers xs) (numbers_from i (n - i))) k (first_from (covers xs) i (n - i) k (omega arith) all none) (omega arith)

pub flags_full_from : (n i : ℕ) (xs : List Run) → ((j : ℕ) → i ≤ j → j < n → covers xs j ≡ true) → position not (drop i (flags n xs)) ≡ None
unfolding flags
flags_full_from n i xs all = by (cases_lt n i) where
  by : (n < i) ⊎ (i ≤ n) → position not (drop i (map (covers xs) (numbers_from 0 n))) ≡ None
  by (inl h) =
      let long : length (map (covers xs) (numbers_from 0 n)) ≡ n = length_map (covers xs) 0 n in
      ap (position not) (drop_past (map (covers xs) (numbers_from 0 n)) i (omega arith))
  by (inr h) =
      let rest : drop i (map (covers xs) (numbers_from 0 n)) ≡ map (covers xs) (numbers_from i (n - i)) =
      drop_each (covers xs) 0 n i (n - i) (omega arith) ∙ ap (λ b. map (covers xs) (numbers_from b (n - i))) (zero-add i) in
      ap (position not) rest
      ∙ position_none (map (covers xs) (numbers_from i (n - i))) (all_from (covers xs) i (n - i) (λ j low high. all j low (omega arith)) ∙ sym (length_map (covers xs) i (n - i)))
