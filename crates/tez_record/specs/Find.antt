-- Bytes within bytes.
--     has_part bytes part      part stands somewhere in bytes, each of its bytes after the other; an empty part stands everywhere
use Rattle.std.specs.Prelude.{ℕ, Bool, ◌||◌, ◌==◌, List, [], ◌∷◌, length}
use Rattle.std.specs.List.{starts_with}
use Rattle.std.specs.Bool.{nat_eq}

abbrev pub has_part : List ℕ → List ℕ → Bool
has_part [] part = length part == 0
has_part (b ∷ bytes) part = starts_with nat_eq (b ∷ bytes) part || has_part bytes part
