-- A row for each run of entries with one key.
--     row_of says those k         what is said of the records of a key
--     rows_of says es             the rows of all keys
--     IsRunPushed says was now k es len      the first len of es are those from the front on with the key k, and their row is new
use Rattle.std.specs.Prelude.{◌≡◌, ◌≤◌, ◌++◌, ◌∷◌, [], ℕ, List, map, length, take, not}
use Rattle.std.specs.List.{position_or_len}
use Rattle.std.specs.Str.{bytes_eq}
use Rattle.std.specs.Fmt.{decimal, signed_decimal}
use Rattle.tez_values.specs.Heads.{beside, distinct, sum_of}
use Rattle.tez_plain.specs.Keyed.{Entries, keys_in, records_in, records_with}
use Rattle.tez_plain.specs.declared.runs.Says.{Says}
use Rattle.tez_plain.specs.declared.runs.Says.TheVariants.{Key, Count, Sum}

abbrev pub row_of : Says → List (List ℕ) → List ℕ → List ℕ
row_of Key those k = k
row_of Count those k = beside k (decimal (length those))
row_of (Sum value) those k = beside k (signed_decimal (sum_of value those))

abbrev pub rows_of : Says → Entries → List (List ℕ)
rows_of says es = map (λ k. row_of says (records_with k es) k) (distinct (keys_in es))

pub record IsRunPushed (says : Says) (was now : List (List ℕ)) (k : List ℕ) (es : Entries) (len : ℕ) : Type 0 where
  pub run : len ≡ position_or_len (λ e. not (bytes_eq e.0 k)) es
  pub bound : len ≤ length es
  pub row : now ≡ was ++ row_of says (records_in (take len es)) k ∷ []
