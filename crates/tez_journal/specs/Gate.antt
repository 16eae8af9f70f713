-- The last gate of a journal, and the disk on which it lies.
--     IsBodyOf r bytes              the bytes are the body of this record
--     HoldsAt disk gate rs          a read of the disk gives a journal of these records, the last gate behind them
--     IsOpenAt disk gate            so it is for some records
--     Survives disk gate kept rs    what a cut of the power leaves is a journal of rs, or of kept, those but the last
--     room_at spare gate            the units for which there is room on a disk that has so many spare
--     IsFull rs bytes               the entry of this body passes the limit of a disk that holds these records
-- and what an append of a body makes of a disk and a gate:
--     WithRecord b disk gate P      P of the records that are there, and of these with the one of this body
--     Adds, AddsLast, AddsSynced    at Ok
--     ReadsOneOf, LeavesOneOf       after an error
use Rattle.std.specs.Prelude.{◌≡◌, ℕ, ◌+◌, ◌<◌, ◌≤◌, ◌^◌, min, List, [], ◌∷◌, ◌++◌, length, Option, vec_capacity}
use Rattle.tez_events.specs.declared.JournalRecord.{JournalRecord}
use Rattle.tez_events.specs.Body.{body, FitsRecord}
use Rattle.tez_ports.specs.Content.{Told}
use Rattle.tez_ports.specs.Image.{Disk}
use Rattle.tez_journal.specs.Text.{entries}
use Rattle.tez_journal.specs.Crash.{EndsAt, IsOneOf, IsOneOfThree, IsSafe, Leaves}
use Rattle.tez_journal.specs.declared.gate.Gate.{Gate}

-- the room of the disk, and that of the block in which an entry is put together
abbrev pub room_at : ℕ → Gate → ℕ
room_at spare g = min spare (vec_capacity g.block + 3)

abbrev pub IsBodyOf : JournalRecord → List ℕ → Type 0
IsBodyOf r bytes = FitsRecord r × (body r ≡ bytes)

pub record HoldsAt (disk : Option Disk) (g : Gate) (rs : List JournalRecord) : Type 0 where
  pub small : g.place < 2 ^ 63
  pub read : Told disk (λ d. EndsAt g.place rs d.read)

abbrev pub IsOpenAt : Option Disk → Gate → Type 0
IsOpenAt disk g = (rs : List JournalRecord) × HoldsAt disk g rs

abbrev pub Survives : Option Disk → Gate → List JournalRecord → List JournalRecord → Type 0
Survives disk g kept rs = Told disk (IsSafe g.place kept rs)

abbrev pub IsFull : List JournalRecord → List ℕ → Type 0
IsFull rs bytes = 2 ^ 62 ≤ length (entries rs) + length bytes + 6

-- P of the records of the journal, and of these with the record of this body behind them
abbrev pub WithRecord : List ℕ → Option Disk → Gate → (List JournalRecord → List JournalRecord → Type 0) → Type 0
WithRecord b disk g P = (rs : List JournalRecord) (r : JournalRecord) → HoldsAt disk g rs → IsBodyOf r b
    → P rs (rs ++ r ∷ [])

-- the journal holds the record of this body behind those that were there
abbrev pub Adds : List ℕ → Option Disk → Gate → Option Disk → Gate → Type 0
Adds b old g new h = WithRecord b old g (λ _ more. HoldsAt new h more)

-- a cut of the power loses at most this one, whole
abbrev pub AddsLast : List ℕ → Option Disk → Gate → Option Disk → Gate → Type 0
AddsLast b old g new h = WithRecord b old g (λ rs more. Survives new h rs more)

-- a cut of the power loses none
abbrev pub AddsSynced : List ℕ → Option Disk → Gate → Option Disk → Gate → Type 0
AddsSynced b old g new h = WithRecord b old g (λ _ more. Survives new h more more)

-- a read gives a journal with the record of this body or without it
abbrev pub ReadsOneOf : List ℕ → Option Disk → Gate → Option Disk → Type 0
ReadsOneOf b old g new = WithRecord b old g (λ rs more. Told new (λ d. IsOneOf rs more d.read))

-- a cut of the power leaves a journal with the record of this body, or without it, or what one before could have left
abbrev pub LeavesOneOf : List ℕ → Option Disk → Gate → Option Disk → Type 0
LeavesOneOf b old g new = WithRecord b old g (λ rs more.
    (kept : List JournalRecord) → Survives old g kept rs → Told new (Leaves (IsOneOfThree kept rs more)))
