-- Runs of numbers, and the truth values that they stand for.
--     is_in i r           the number i is in the run
--     covers rs i         it is in one of the runs
--     flags n rs          of each number below n, whether it is in one of the runs
--     AreApart m rs n     the runs are in order, none is empty, with a gap between any two; the first starts at m or later, the last ends at n or before
--     IsAdded xs ys i     the runs ys cover what xs cover, and i
--     missing_from xs i   the first number from i on that is not set
--     AreKept ..          what a set of runs keeps: runs with gaps, how many numbers they cover, and room for the most runs with gaps below n
use Rattle.std.specs.Prelude.{◌≡◌, ◌≢◌, ℕ, ◌+◌, ◌*◌, ◌-◌, ◌<◌, ◌≤◌, Bool, true, false, ◌==◌, ◌&&◌, ◌||◌, not, nat_lt, nat_le, List, [], ◌∷◌, map, drop, length, slice_index_or, Option}
use Rattle.std.specs.List.{list_any, count_by, position}
use Rattle.std.specs.Option.{option_map}
use Rattle.tez_lists.specs.Numbers.{numbers_from}
use Rattle.tez_runs.specs.declared.edit.Run.{Run}

abbrev pub is_in : ℕ → Run → Bool
is_in i r = nat_le r.start i && nat_lt i r.end

abbrev pub covers : List Run → ℕ → Bool
covers rs i = list_any (is_in i) rs

unfoldable pub flags : ℕ → List Run → List Bool
flags n rs = map (covers rs) (numbers_from 0 n)

abbrev pub missing_from : List Bool → ℕ → Option ℕ
missing_from xs i = option_map (λ k. i + k) (position not (drop i xs))

abbrev pub AreApart : ℕ → List Run → ℕ → Type 0
AreApart m [] n = m ≤ n + 1
AreApart m (r ∷ rs) n = (m ≤ r.start) × (r.start < r.end) × AreApart (r.end + 1) rs n

abbrev pub IsApart : List Run → Type 0
IsApart rs = (n : ℕ) × AreApart 0 rs n

-- the run before this place starts at i or before; that at the place starts later
abbrev pub StartsUpTo : List Run → ℕ → ℕ → Type 0
StartsUpTo rs at i = (p : ℕ) (d : Run) → at ≡ p + 1 → (slice_index_or rs p d).start ≤ i

abbrev pub StartsAfter : List Run → ℕ → ℕ → Type 0
StartsAfter rs at i = (d : Run) → at < length rs → i < (slice_index_or rs at d).start

-- the run before the place ends at i, or not; the run at the place starts at i, or not
abbrev pub EndsAt : List Run → ℕ → ℕ → Type 0
EndsAt rs at i = (d : Run) → (0 < at) × ((slice_index_or rs (at - 1) d).end ≡ i)

abbrev pub EndsElsewhere : List Run → ℕ → ℕ → Type 0
EndsElsewhere rs at i = (p : ℕ) (d : Run) → at ≡ p + 1 → (slice_index_or rs p d).end ≢ i

abbrev pub StartsAt : List Run → ℕ → ℕ → Type 0
StartsAt rs at i = (d : Run) → (at < length rs) × ((slice_index_or rs at d).start ≡ i)

abbrev pub StartsElsewhere : List Run → ℕ → ℕ → Type 0
StartsElsewhere rs at i = (d : Run) → at < length rs → (slice_index_or rs at d).start ≢ i

-- where i is to be added, and whether the runs around it touch it
pub record IsSpot (rs : List Run) (i at : ℕ) (left right : Bool) : Type 0 where
  pub inside : at ≤ length rs
  pub before : StartsUpTo rs at i
  pub after : StartsAfter rs at i
  pub left_is : left ≡ true → EndsAt rs at i
  pub left_not : left ≡ false → EndsElsewhere rs at i
  pub right_is : right ≡ true → StartsAt rs at (i + 1)
  pub right_not : right ≡ false → StartsElsewhere rs at (i + 1)

pub record IsAdded (xs ys : List Run) (i : ℕ) : Type 0 where
  pub apart : (n : ℕ) → AreApart 0 xs n → i < n → AreApart 0 ys n
  pub covered : (j : ℕ) → covers ys j ≡ (i == j || covers xs j)

pub record AreKept (n set capacity : ℕ) (rs : List Run) : Type 0 where
  pub apart : AreApart 0 rs n
  pub counted : set ≡ count_by (λ b. b) (flags n rs)
  pub room : n ≤ 2 * capacity
