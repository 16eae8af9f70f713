-- What a program is given, and what it is to answer.
--     reads head keys primary side      what the head reads
--     IsBadAnswer fault bad             the fault that is due where `bad` is the first bad record
use Rattle.std.specs.Prelude.{◌≡◌, ⊤, ℕ, Bool, true, false, not, cond, ◌==◌, List, [], Option, Some, slice_get}
use Rattle.std.specs.List.{filter, flat_map}
use Rattle.std.specs.Option.{option_map_or, unwrap_or}
use Rattle.tez_ids.specs.declared.VertexId.{VertexId}
use Rattle.tez_plan.specs.declared.parts.Head.{Head}
use Rattle.tez_plan.specs.declared.parts.Head.TheVariants.{Each, Sum, Count, Distinct, Join, Lookup, KeepIn, DropIn}
use Rattle.tez_values.specs.Heads.{HeadInputs}
use Rattle.tez_operators.specs.declared.fault.ProcessFault.{ProcessFault}
use Rattle.tez_operators.specs.declared.fault.ProcessFault.TheVariants.{BadRecord, NoMemory}

-- the key columns of the edges from these vertices
abbrev pub Keys : Type 0
Keys = List (VertexId × List ℕ)

-- records, each list from a vertex or from a source file
abbrev pub Primary : Type 0
Primary = List (Option VertexId × List (List ℕ))

abbrev pub is_join : Head → Bool
is_join Each = false
is_join (Sum value) = false
is_join Count = false
is_join Distinct = false
is_join (Join left) = true
is_join (Lookup key side_key) = false
is_join (KeepIn key side_key) = false
is_join (DropIn key side_key) = false

abbrev pub is_vertex : VertexId → Option VertexId → Bool
is_vertex v u = option_map_or (λ w. w.0 == v.0) u false

-- the left side of a join is what comes from the first vertex of the keys; of another head all is left
abbrev pub is_left : Head → Keys → Option VertexId → Bool
is_left head keys u = cond (is_join head) (option_map_or (λ k. is_vertex k.0 u) (slice_get keys 0) false) true

abbrev pub columns_at : Keys → ℕ → List ℕ
columns_at keys n = option_map_or (λ k. k.1) (slice_get keys n) []

abbrev pub records_of : (Option VertexId → Bool) → Primary → List (List ℕ)
records_of passes primary = flat_map (λ part. part.1) (filter (λ part. passes part.0) primary)

abbrev pub reads : Head → Keys → Primary → Option (List (List ℕ)) → HeadInputs
reads head keys primary side = record {
  columns = columns_at keys 0;
  primary = records_of (is_left head keys) primary;
  partner_columns = cond (is_join head) (columns_at keys 1) [];
  partner = records_of (λ u. not (is_left head keys u)) primary;
  side = unwrap_or side [];
}

abbrev pub IsBadAnswer : ProcessFault → Option (List ℕ) → Type 0
IsBadAnswer (BadRecord r) bad = bad ≡ Some r
IsBadAnswer NoMemory bad = ⊤
