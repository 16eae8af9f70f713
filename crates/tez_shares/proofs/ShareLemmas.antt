-- The shares of tasks.
--     one_share          each record is in the share of exactly one task
--     lines_whole        the tasks of a source get its lines, each once and in order
use Rattle.std.proofs.Common.{◌≡◌, ℕ, zero, suc, ◌+◌, ◌-◌, ◌*◌, ◌/◌, ◌%◌, ◌<◌, ◌≤◌, ◌&&◌, Bool, List, ◌++◌, length, take, drop, slice_range, sym, ap, ◌∙◌, arith, count_by, flat_map, ltb, leb, mod-lt, take-add, drop-drop, mul-div_cancel, le-div_iff_mul-le, le_of_eq, take_all, zero-mul, div-add-mod', add-zero, ap₂}
use Rattle.std.specs.List.{range_with_len}
use Rattle.tez_lists.proofs.Ranges.{one_in_range}
use Rattle.tez_shrink.specs.Formulas.{tasks_of as tasks_for, first_of, end_of}
use Rattle.tez_shrink.proofs.RangeLemmas.{range_is_quotient, tasks_enough}
use Rattle.tez_partition.specs.Partition.{hash}
use Rattle.tez_shares.specs.Shares.{share_of_lines}

pub one_share : (cols : List ℕ) (parts base : ℕ) (k : List ℕ) → 0 < base → 0 < parts
    → count_by (λ t. leb (first_of base t) (hash k % parts) && ltb (hash k % parts) (end_of parts base t)) (range_with_len 0 (tasks_for parts base)) ≡ 1
one_share cols parts base k some any =
    let x = hash k % parts in
    let inside : x < parts = mod-lt (hash k) any in
    ap (λ (p : ℕ → Bool). count_by p (range_with_len 0 (tasks_for parts base))) (λ i t. range_is_quotient parts base x t some inside i)
    ∙ one_in_range (x / base) (tasks_for parts base) (tasks_enough parts base x some inside)

-- ---- the lines of a source

range_join : (rs : List (List ℕ)) (i j k : ℕ) → i ≤ j → j ≤ k → slice_range rs i j ++ slice_range rs j k ≡ slice_range rs i k
range_join rs i j k low high =
    ap (λ n. take (j - i) (drop i rs) ++ take (k - j) (drop n rs)) (sym (up i j low))
    ∙ ap (λ (rest : List (List ℕ)). take (j - i) (drop i rs) ++ take (k - j) rest) (sym (drop-drop (j - i) i rs))
    ∙ sym (take-add (j - i) (k - j) (drop i rs))
    ∙ ap (λ n. take n (drop i rs)) (through i j k low high)
  where
    up : (i j : ℕ) → i ≤ j → i + (j - i) ≡ j
    up i j low = omega arith

    through : (i j k : ℕ) → i ≤ j → j ≤ k → (j - i) + (k - j) ≡ k - i
    through i j k low high = omega arith

rise : (f : ℕ → ℕ) → ((t : ℕ) → f t ≤ f (t + 1)) → (a m : ℕ) → f a ≤ f (a + m)
rise f up a zero = le_of_eq (ap f (sym (add-zero a)))
rise f up a (suc m) =
    let rest = rise f up a m in
    let next = up (a + m) in
    let same : f (a + m + 1) ≡ f (a + suc m) = ap f (omega arith) in
    omega arith

-- ranges that meet are one range
ranges_join : (f : ℕ → ℕ) → ((t : ℕ) → f t ≤ f (t + 1)) → (rs : List (List ℕ)) (a m : ℕ) → flat_map (λ t. slice_range rs (f t) (f (t + 1))) (range_with_len a m) ≡ slice_range rs (f a) (f (a + m))
ranges_join f up rs a zero =
    let same : f (a + 0) ≡ f a = ap f (add-zero a) in
    let none : 0 ≡ f (a + 0) - f a = omega arith in
    ap (λ n. take n (drop (f a) rs)) none
ranges_join f up rs a (suc m) =
    let same : a + 1 + m ≡ a + suc m = omega arith in
    ap (λ (rest : List (List ℕ)). slice_range rs (f a) (f (a + 1)) ++ rest) (ranges_join f up rs (a + 1) m)
    ∙ range_join rs (f a) (f (a + 1)) (f (a + 1 + m)) (up a) (rise f up (a + 1) m)
    ∙ ap (λ n. slice_range rs (f a) (f n)) same

floor_up : (n tasks t : ℕ) → 0 < tasks → t * n / tasks ≤ (t + 1) * n / tasks
floor_up n tasks t some =
    let low : t * n / tasks * tasks ≤ t * n = omega (arith, div-add-mod' (t * n) tasks) in
    (le-div_iff_mul-le {x = t * n / tasks} {y = (t + 1) * n} some).1 (omega arith)

pub lines_whole : (rs : List (List ℕ)) (tasks : ℕ) → 0 < tasks → flat_map (share_of_lines rs tasks) (range_with_len 0 tasks) ≡ rs
lines_whole rs tasks some =
    let n = length rs in
    let none : 0 * n / tasks ≡ 0 = ap (λ x. x / tasks) (zero-mul n ∙ sym (zero-mul tasks)) ∙ mul-div_cancel 0 some in
    let all : (0 + tasks) * n / tasks ≡ n = ap (λ x. x / tasks) (turned n tasks) ∙ mul-div_cancel n some in
    ranges_join (λ t. t * n / tasks) (λ t. floor_up n tasks t some) rs 0 tasks
    ∙ ap₂ (slice_range rs) none all
    ∙ take_all (n - 0) rs (omega arith)
  where
    turned : (n tasks : ℕ) → (0 + tasks) * n ≡ n * tasks
    turned n tasks = omega arith
