-- The bytes of a journal: entries, each behind a gate that is open, and a gate that is not.
--     entry r               an open gate, the length of the body in 4 bytes, and the body
--     IsGated bytes rs      the entries of these records, and a gate that is not open; what follows is not read
--     IsText bytes rs       the bytes are a journal of these records
use Rattle.std.specs.Prelude.{◌≡◌, ◌≢◌, ◌⊎◌, ℕ, ◌≤◌, List, [], ◌∷◌, ◌++◌, length}
use Rattle.std.specs.List.{flat_map, AllByRecursion}
use Rattle.std.specs.Int.{w32, to_le_bytes}
use Rattle.tez_events.specs.declared.JournalRecord.{JournalRecord}
use Rattle.tez_events.specs.Body.{body, FitsRecord}

abbrev pub framed : List ℕ → List ℕ
framed b = to_le_bytes w32 (length b) ++ b

abbrev pub entry : JournalRecord → List ℕ
entry r = 1 ∷ framed (body r)

abbrev pub entries : List JournalRecord → List ℕ
entries rs = flat_map entry rs

pub record IsGated (bytes : List ℕ) (rs : List JournalRecord) : Type 0 where
  pub fits : AllByRecursion FitsRecord rs
  pub gate : ℕ
  pub rest : List ℕ
  pub closed : gate ≢ 1
  pub whole : bytes ≡ entries rs ++ gate ∷ rest

-- one byte or none is a journal of no records, whatever it is
abbrev pub IsText : List ℕ → List JournalRecord → Type 0
IsText bytes rs = ((length bytes ≤ 1) × (rs ≡ [])) ⊎ IsGated bytes rs
