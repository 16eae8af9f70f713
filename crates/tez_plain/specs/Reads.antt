-- What a head reads, from its parts.
use Rattle.std.specs.Prelude.{ℕ, List}
use Rattle.tez_values.specs.Heads.{HeadInputs}

abbrev pub reads : List ℕ → List (List ℕ) → List ℕ → List (List ℕ) → List (List ℕ) → HeadInputs
reads columns primary partner_columns partner side = record {
  columns = columns;
  primary = primary;
  partner_columns = partner_columns;
  partner = partner;
  side = side;
}
