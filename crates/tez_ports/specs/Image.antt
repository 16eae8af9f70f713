-- What a disk holds, and what a cut of the power leaves of it.
use Rattle.std.specs.Prelude.{◌≡◌, ◌⊎◌, ℕ, ◌+◌, ◌≤◌, ◌<◌, ◌^◌, max, List, [], ◌∷◌, ◌++◌, length, take, drop, slice_get, Option, option_map}
use Rattle.std.specs.List.{AllByRecursion}
use Rattle.tez_ports.specs.Content.{Told}

-- a place and a number of bytes
abbrev pub Range : Type 0
Range = ℕ × ℕ

-- the bytes that last, the ranges that were written and not synced, and what a read gives
pub record Disk : Type 0 where
  pub stable : List ℕ
  pub pending : List Range
  pub read : List ℕ

abbrev pub IsOutside : ℕ → Range → Type 0
IsOutside place range = (place < range.0) ⊎ (range.0 + range.1 ≤ place)

-- the greatest end of a range
abbrev pub greatest_end : List Range → ℕ
greatest_end [] = 0
greatest_end (range ∷ rest) = max (range.0 + range.1) (greatest_end rest)

-- What a cut of the power may leave: the stable bytes outside the pending ranges, any bytes elsewhere,
-- and any length from the stable one up to the greatest end of a pending range.
pub record IsImage (stable : List ℕ) (pending : List Range) (image : List ℕ) : Type 0 where
  pub outside : (place : ℕ) → place < length stable → AllByRecursion (IsOutside place) pending
      → slice_get image place ≡ slice_get stable place
  pub no_shorter : length stable ≤ length image
  pub no_longer : length image ≤ max (length stable) (greatest_end pending)

-- of a write of n bytes at a place any bytes in its range, and elsewhere what was there
pub record IsTorn (at n : ℕ) (old new : List ℕ) : Type 0 where
  pub before : take at new ≡ take at old
  pub after : drop (at + n) new ≡ drop (at + n) old
  pub no_shorter : length old ≤ length new
  pub no_longer : length new ≤ max (length old) (at + n)

-- what holds of a disk at every moment: a read gives an image, and every image is shorter than 2 ^ 62 bytes
pub record IsSound (disk : Disk) : Type 0 where
  pub read_is_image : IsImage disk.stable disk.pending disk.read
  pub short : length disk.stable < 2 ^ 62
  pub short_pending : greatest_end disk.pending < 2 ^ 62

-- the bytes from a place on give way to these
abbrev pub overwrite : ℕ → List ℕ → List ℕ → List ℕ
overwrite at bytes old = take at old ++ bytes ++ drop (at + length bytes) old

-- the range is pending, and a read gives these bytes from now on
abbrev pub pends : Range → List ℕ → Disk → Disk
pends range bytes disk = record disk { pending = range ∷ disk.pending; read = bytes }

abbrev pub writes : ℕ → List ℕ → Disk → Disk
writes at bytes disk = pends (at, length bytes) (overwrite at bytes disk.read) disk

-- these bytes last, and nothing is pending
abbrev pub settled : List ℕ → Disk
settled bytes = record { stable = bytes; pending = []; read = bytes }

abbrev pub syncs : Disk → Disk
syncs disk = settled disk.read

-- a write of n bytes that did not answer Ok: nothing changed, or the range is pending and a read gives
-- what is torn there
abbrev pub IsBroken : ℕ → ℕ → Option Disk → Option Disk → Type 0
IsBroken at n old new = (new ≡ old)
    ⊎ ((torn : List ℕ) × (new ≡ option_map (pends (at, n) torn) old) × Told old (λ disk. IsTorn at n disk.read torn))

-- a cut of the power: an image stands, and nothing is pending
abbrev pub IsCut : Option Disk → Option Disk → Type 0
IsCut old new = (image : List ℕ) × (new ≡ option_map (λ _. settled image) old)
    × Told old (λ disk. IsImage disk.stable disk.pending image)
