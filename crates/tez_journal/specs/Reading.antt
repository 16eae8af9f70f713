-- What reading a journal answers.
use Rattle.std.specs.Prelude.{◌≡◌, ◌≢◌, ℕ, ◌+◌, ◌<◌, ◌^◌, List, ◌∷◌, ◌++◌, length, drop, Option, Some, None}
use Rattle.std.specs.List.{AllByRecursion}
use Rattle.tez_events.specs.declared.JournalRecord.{JournalRecord}
use Rattle.tez_events.specs.Body.{FitsRecord}
use Rattle.tez_journal.specs.declared.text.Text.{Text}
use Rattle.tez_journal.specs.declared.text.Entry.{Entry}
use Rattle.tez_journal.specs.Text.{framed, entry, entries, IsGated, IsText}

-- the records of the text and the place of its last gate, or None where the bytes are no journal
abbrev pub ReadsText : List ℕ → Option Text → Type 0
ReadsText bytes (Some t) = IsText bytes t.records.items × (t.gate ≡ length (entries t.records.items))
ReadsText bytes None = (rs : List JournalRecord) → ¬ IsText bytes rs

abbrev pub ReadsGated : List ℕ → Option Text → Type 0
ReadsGated bytes (Some t) = IsGated bytes t.records.items × (t.gate ≡ length (entries t.records.items))
ReadsGated bytes None = (rs : List JournalRecord) → ¬ IsGated bytes rs

-- an entry stands at the front, with a byte behind it
abbrev pub ReadsEntry : List ℕ → Option Entry → Type 0
ReadsEntry bytes (Some e) = FitsRecord e.record × (e.len < length bytes) × (bytes ≡ entry e.record ++ drop e.len bytes)
ReadsEntry bytes None = (r : JournalRecord) (x : ℕ) (more : List ℕ) → FitsRecord r → bytes ≢ entry r ++ x ∷ more

-- a length and that many bytes stand behind the first byte, and a byte behind them
abbrev pub IsFramed : List ℕ → List ℕ → Type 0
IsFramed bytes b = (5 + length b < length bytes) × (drop 1 bytes ≡ framed b ++ drop (5 + length b) bytes)

abbrev pub IsNotFramed : List ℕ → Type 0
IsNotFramed bytes = (b : List ℕ) (x : ℕ) (more : List ℕ) → length b < 2 ^ 32 → drop 1 bytes ≢ framed b ++ x ∷ more

-- the records so far, and what is left of the bytes
pub record IsPart (bytes rest : List ℕ) (rs : List JournalRecord) : Type 0 where
  pub fits : AllByRecursion FitsRecord rs
  pub some : 0 < length rest
  pub whole : bytes ≡ entries rs ++ rest
  pub later : (qs : List JournalRecord) → IsGated bytes qs → (ps : List JournalRecord) × IsGated rest ps
