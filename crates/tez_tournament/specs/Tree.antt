-- A tournament of numbers: node k plays its children 2k and 2k + 1, and the leaves are the last half of the nodes.
use Rattle.std.specs.Prelude.{◌≡◌, ℕ, ◌+◌, ◌*◌, ◌<◌, ◌^◌, min, Bool, if◌then◌else◌, List, length, slice_index_or, Option, Some, None, is_some}

-- the lesser of two, where there are two
abbrev pub earlier : Option ℕ → Option ℕ → Option ℕ
earlier None b = b
earlier (Some x) None = Some x
earlier (Some x) (Some y) = Some (min x y)

abbrev pub node_at : List (Option ℕ) → ℕ → Option ℕ
node_at nodes k = slice_index_or nodes k None

-- node k has the winner of its children
abbrev pub IsMatch : List (Option ℕ) → ℕ → Type 0
IsMatch nodes k = node_at nodes k ≡ earlier (node_at nodes (2 * k)) (node_at nodes (2 * k + 1))

-- the leaf of a number names it, or nothing
abbrev pub leaf : ℕ → Bool → Option ℕ
leaf p present = if present then Some p else None

pub record IsTournament (count : ℕ) (nodes : List (Option ℕ)) : Type 0 where
  pub sized : length nodes ≡ count + count
  pub small : count < 2 ^ 32
  pub leaves : (p : ℕ) → p < count → node_at nodes (count + p) ≡ leaf p (is_some (node_at nodes (count + p)))
  pub matches : (k : ℕ) → 0 < k → k < count → IsMatch nodes k
