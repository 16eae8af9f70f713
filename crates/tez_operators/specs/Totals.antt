-- Totals by key, as a list of keys with their totals.
--     total_of entries k              the total of k, 0 where it has none
--     amount_of amount r              what a record adds
--     add_record cols amount entries r      the entries with what r adds
--     total_row entry                 the key, a tab and the total
use Rattle.std.specs.Prelude.{ℕ, ℤ, pos, neg_ℤ, ◌+ℤ◌, ◌≤ℤ◌, List}
use Rattle.std.specs.Option.{unwrap_or}
use Rattle.std.specs.Map.{lookup}
use Rattle.std.specs.Str.{bytes_eq}
use Rattle.std.specs.Fmt.{signed_decimal}
use Rattle.indexmap.specs.IndexMap.{insert_entry}
use Rattle.tez_record.specs.Field.{key, number}
use Rattle.tez_values.specs.Heads.{beside}
use Rattle.tez_operators.specs.declared.totals.Amount.{Amount}
use Rattle.tez_operators.specs.declared.totals.Amount.TheVariants.{One, Field}

abbrev pub total_of : List (List ℕ × ℤ) → List ℕ → ℤ
total_of es k = unwrap_or (lookup (bytes_eq k) es) (pos 0)

abbrev pub amount_of : Amount → List ℕ → ℤ
amount_of One r = pos 1
amount_of (Field value) r = unwrap_or (number r value) (pos 0)

-- a key that is there keeps its place, and a new one goes last
abbrev pub add_entry : List (List ℕ × ℤ) → List ℕ → ℤ → List (List ℕ × ℤ)
add_entry es k n = insert_entry bytes_eq es k (total_of es k +ℤ n)

abbrev pub add_record : List ℕ → Amount → List (List ℕ × ℤ) → List ℕ → List (List ℕ × ℤ)
add_record cols amount es r = add_entry es (key cols r) (amount_of amount r)

abbrev pub total_row : List ℕ × ℤ → List ℕ
total_row e = beside e.0 (signed_decimal e.1)

-- at most n away from 0
pub record IsWithin (n : ℕ) (z : ℤ) : Type 0 where
  pub low : neg_ℤ (pos n) ≤ℤ z
  pub high : z ≤ℤ pos n
