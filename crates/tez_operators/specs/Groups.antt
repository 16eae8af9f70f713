-- Records by key, as a list of keys with their records.
--     group_of entries k      the records of k, none where it is not there
use Rattle.std.specs.Prelude.{ℕ, List, []}
use Rattle.std.specs.Option.{unwrap_or}
use Rattle.std.specs.Map.{lookup}
use Rattle.std.specs.Str.{bytes_eq}

abbrev pub group_of : List (List ℕ × List (List ℕ)) → List ℕ → List (List ℕ)
group_of es k = unwrap_or (lookup (bytes_eq k) es) []
