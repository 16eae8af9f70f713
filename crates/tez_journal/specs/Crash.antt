-- What a cut of the power leaves of a journal.
--     EndsAt gate rs bytes          the bytes are a journal of these records, with its last gate at this place
--     Leaves P d                    whatever a cut of the power leaves of the disk has P
--     IsOneOf ps qs bytes           the bytes are a journal of one of two lists of records
--     IsOneOfThree ps qs rs bytes   or of one of three
--     IsSafe gate kept rs d         a journal of rs, or of kept, its records but the last, stands whatever a cut leaves
--     IsLaid rs b d                 behind the last gate of a journal of rs lies an entry of the body b and a closed gate
use Rattle.std.specs.Prelude.{◌≡◌, ◌≢◌, ◌⊎◌, ℕ, ◌<◌, ◌≤◌, List, [], ◌∷◌, ◌++◌, length}
use Rattle.std.specs.List.{AllByRecursion}
use Rattle.tez_events.specs.declared.JournalRecord.{JournalRecord}
use Rattle.tez_events.specs.Body.{FitsRecord}
use Rattle.tez_ports.specs.Image.{Disk, IsImage, greatest_end, settled}
use Rattle.tez_journal.specs.Text.{framed, entries, IsGated, IsText}

abbrev pub Leaves : (List ℕ → Type 0) → Disk → Type 0
Leaves P d = (image : List ℕ) → IsImage d.stable d.pending image → P image

abbrev pub IsOneOf : List JournalRecord → List JournalRecord → List ℕ → Type 0
IsOneOf ps qs bytes = IsText bytes ps ⊎ IsText bytes qs

abbrev pub IsOneOfThree : List JournalRecord → List JournalRecord → List JournalRecord → List ℕ → Type 0
IsOneOfThree ps qs rs bytes = IsText bytes ps ⊎ IsText bytes qs ⊎ IsText bytes rs

-- the same with the gate there
abbrev pub IsEitherGated : List JournalRecord → List JournalRecord → List ℕ → Type 0
IsEitherGated ps qs bytes = IsGated bytes ps ⊎ IsGated bytes qs

-- all of the records, or all but the last
abbrev pub IsAllOrAllButLast : List JournalRecord → List JournalRecord → Type 0
IsAllOrAllButLast kept rs = (kept ≡ rs) ⊎ ((r : JournalRecord) × (rs ≡ kept ++ r ∷ []))

-- the bytes are a journal of these records, with its last gate at this place
abbrev pub EndsAt : ℕ → List JournalRecord → List ℕ → Type 0
EndsAt gate rs bytes = IsGated bytes rs × (gate ≡ length (entries rs))

-- The gate is the last one, and it has been synced: what is pending lies in front of it.
pub record IsSafe (gate : ℕ) (kept rs : List JournalRecord) (d : Disk) : Type 0 where
  pub last : IsAllOrAllButLast kept rs
  pub images : Leaves (IsEitherGated kept rs) d
  pub inside : gate < length d.stable
  pub behind : greatest_end d.pending ≤ gate

pub record IsLaid (rs : List JournalRecord) (b : List ℕ) (d : Disk) : Type 0 where
  pub fits : AllByRecursion FitsRecord rs
  pub gate : ℕ
  pub more : List ℕ
  pub closed : gate ≢ 1
  pub whole : d ≡ settled (entries rs ++ gate ∷ (framed b ++ 0 ∷ more))
