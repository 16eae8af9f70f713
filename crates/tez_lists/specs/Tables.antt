-- Tables: lists of values by number, and rows of them.
--     each_from n f xs       f of each element and its number, where the first has number n
--     table f size n         n rows, of which row v has f v i for each i below size v
--     set_in rows v i x      the table with x at place i of row v
use Rattle.std.specs.Prelude.{ℕ, suc, List, [], ◌∷◌, map, slice_get, slice_set, unwrap_or}
use Rattle.tez_lists.specs.Numbers.{numbers_from}

abbrev pub each_from : {X Y : Type 0} → ℕ → (ℕ → X → Y) → List X → List Y
each_from n f [] = []
each_from n f (x ∷ xs) = f n x ∷ each_from (suc n) f xs

abbrev pub table : {X : Type 0} → (ℕ → ℕ → X) → (ℕ → ℕ) → ℕ → List (List X)
table f size n = map (λ v. map (f v) (numbers_from 0 (size v))) (numbers_from 0 n)

abbrev pub set_in : {X : Type 0} → List (List X) → ℕ → ℕ → X → List (List X)
set_in rows v i x = slice_set rows v (slice_set (unwrap_or (slice_get rows v) []) i x)
