-- The bytes of a disk in memory, and what a cut of the power leaves of them.
use Rattle.std.specs.Prelude.{ℕ, ◌+◌, ◌≤◌, ◌<◌, ◌^◌, List, [], ◌∷◌, ◌++◌, length, take, replicate}
use Rattle.std.specs.List.{AllByRecursion}
use Rattle.tez_ports.specs.Image.{Range, Disk, IsImage, greatest_end, overwrite}
use Rattle.tez_ports_mem.specs.declared.picker.Picker.{Picker}
use Rattle.tez_ports_mem.specs.declared.picker.Picker.TheVariants.{Keep, Drop, Fill}

-- a disk, and the units for which it has room
pub record Kept : Type 0 where
  pub disk : Disk
  pub spare : ℕ

-- each byte of the ranges is this one
abbrev pub filled : ℕ → List Range → List ℕ → List ℕ
filled byte [] bytes = bytes
filled byte (range ∷ rest) bytes = filled byte rest (overwrite range.0 (replicate range.1 byte) bytes)

-- the image that a picker leaves
abbrev pub picked : Picker → Disk → List ℕ
picked Keep disk = disk.read
picked Drop disk = disk.stable
picked (Fill byte) disk = filled byte disk.pending disk.read

-- the first bytes of the content are stable, and behind them those of the tail
abbrev pub stable_of : ℕ → List ℕ → List ℕ → List ℕ
stable_of shared tail content = take shared content ++ tail

-- all that is pending lies behind the shared bytes, and inside the content
pub record IsKept (shared : ℕ) (tail : List ℕ) (pending : List Range) (content : List ℕ) : Type 0 where
  pub shares : shared ≤ length content
  pub behind : AllByRecursion (λ range. shared ≤ range.0) pending
  pub inside : greatest_end pending ≤ length content
  pub image : IsImage (stable_of shared tail content) pending content
  pub short : length content < 2 ^ 62

-- the units that are spare fit behind the content, and so do as many ranges
pub record HasRoom (spare content pending content_room tail_room pending_room : ℕ) : Type 0 where
  pub content_fits : 0 < spare → content + spare ≤ content_room
  pub tail_fits : 0 < spare → content + spare ≤ tail_room
  pub pending_fits : 0 < spare → pending + spare ≤ pending_room
