-- Records beside their keys, each entry a key and a record.
--     records_in es             the records
--     records_with k es         those of a key
--     AreByKey cols rs es       the records rs, each beside its key, in byte order of the keys
--     one_each f rs               f of each record
--     copied_keys cols rs         their keys, or nothing where the key is one column
--     is_chosen keep cols side_cols side r      the key of r is among the keys of the side, or with keep false it is not
use Rattle.std.specs.Prelude.{◌≡◌, ◌==◌, ◌∷◌, [], ℕ, Bool, true, false, not, List, map, length, if◌then◌else◌}
use Rattle.std.specs.List.{filter, flat_map, AllByRecursion}
use Rattle.std.specs.List.Sorted.{IsSortedByKey}
use Rattle.std.specs.Str.{bytes_eq}
use denote.Ref.{Bor}
use Rattle.tez_record.specs.Line.{IsRecord}
use Rattle.tez_record.specs.Field.{key}
use Rattle.tez_record.specs.Bag.{compare, sort}
use Rattle.tez_values.specs.Heads.{is_among}

abbrev pub Entries : Type 0
Entries = List (List ℕ × Bor (List ℕ))

abbrev pub keys_in : Entries → List (List ℕ)
keys_in es = map (λ e. e.0) es

abbrev pub records_in : Entries → List (List ℕ)
records_in es = map (λ e. e.1.now) es

abbrev pub with_key : List ℕ → Entries → Entries
with_key k es = filter (λ e. bytes_eq k e.0) es

abbrev pub records_with : List ℕ → Entries → List (List ℕ)
records_with k es = records_in (with_key k es)

abbrev pub one_each : (List ℕ → List ℕ) → List (List ℕ) → List (List ℕ)
one_each f rs = flat_map (λ r. f r ∷ []) rs

abbrev pub copied_keys : List ℕ → List (List ℕ) → List (List ℕ)
copied_keys cols rs = if length cols == 1 then [] else one_each (key cols) rs

-- in byte order of the keys
abbrev pub AreInOrder : Entries → Type 0
AreInOrder es = IsSortedByKey (λ e. e.0) compare es

pub record AreByKey (cols : List ℕ) (rs : List (List ℕ)) (es : Entries) : Type 0 where
  pub records : sort (records_in es) ≡ sort rs
  pub keys : keys_in es ≡ map (key cols) (records_in es)
  pub order : AreInOrder es
  pub lines : AllByRecursion IsRecord (records_in es)

abbrev pub is_chosen : Bool → List ℕ → List ℕ → List (List ℕ) → List ℕ → Bool
is_chosen true cols side_cols side r = is_among (map (key side_cols) side) (key cols r)
is_chosen false cols side_cols side r = not (is_among (map (key side_cols) side) (key cols r))
