-- Records that are chosen by their key.
--     is_chosen keep cols side_cols side r      the key of r is among the keys of the side, or with keep false it is not
use Rattle.std.specs.Prelude.{ℕ, Bool, true, false, not, List, map}
use Rattle.tez_record.specs.Field.{key}
use Rattle.tez_values.specs.Heads.{is_among}

abbrev pub is_chosen : Bool → List ℕ → List ℕ → List (List ℕ) → List ℕ → Bool
is_chosen true cols side_cols side r = is_among (map (key side_cols) side) (key cols r)
is_chosen false cols side_cols side r = not (is_among (map (key side_cols) side) (key cols r))
