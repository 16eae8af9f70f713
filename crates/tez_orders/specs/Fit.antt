-- Whether the parts of an order fit together.
--     side_fits head side            a side is there exactly where the head reads one
--     keys_fit head keys primary     the key columns fit the head, and the records come from the vertices of the keys
--     edges_differ outs              each edge comes once
--     has_parts cut                  the cut has a part
--     is_order head keys inputs outs all of this
use Rattle.std.specs.Prelude.{ℕ, Bool, true, false, not, ◌&&◌, ◌==◌, nat_lt, List, [], ◌∷◌, length, Option, is_some, is_none}
use Rattle.std.specs.List.{list_all, list_any}
use Rattle.std.specs.Str.{bytes_eq}
use Rattle.tez_plan.specs.declared.parts.Head.{Head}
use Rattle.tez_plan.specs.declared.parts.Head.TheVariants.{Each, Sum, Count, Distinct, Join, Lookup, KeepIn, DropIn}
use Rattle.tez_operators.specs.Process.{Keys, Primary, is_vertex, columns_at}
use Rattle.tez_operators.specs.declared.inputs.Inputs.{Inputs}
use Rattle.tez_orders.specs.declared.cut.Cut.{Cut}
use Rattle.tez_orders.specs.declared.cut.Cut.TheVariants.{Whole, ByKey}
use Rattle.tez_orders.specs.Orders.{Outs}

abbrev pub side_fits : Head → Option (List (List ℕ)) → Bool
side_fits Each side = is_none side
side_fits (Sum value) side = is_none side
side_fits Count side = is_none side
side_fits Distinct side = is_none side
side_fits (Join left) side = is_none side
side_fits (Lookup key side_key) side = is_some side
side_fits (KeepIn key side_key) side = is_some side
side_fits (DropIn key side_key) side = is_some side

-- there are keys, all by the same columns
abbrev pub same_columns : Keys → Bool
same_columns keys = nat_lt 0 (length keys) && list_all (λ k. bytes_eq (columns_at keys 0) k.1) keys

-- the keys of two vertices, by as many columns
abbrev pub two_sides : Keys → Bool
two_sides [] = false
two_sides (k ∷ []) = false
two_sides (k ∷ l ∷ []) = not (k.0.0 == l.0.0) && (length k.1 == length l.1)
two_sides (k ∷ l ∷ m ∷ keys) = false

-- all records come from vertices of the keys
abbrev pub come_from : Keys → Primary → Bool
come_from keys primary = list_all (λ part. list_any (λ k. is_vertex k.0 part.0) keys) primary

abbrev pub keys_fit : Head → Keys → Primary → Bool
keys_fit Each keys primary = true
keys_fit (Sum value) keys primary = same_columns keys && come_from keys primary
keys_fit Count keys primary = same_columns keys && come_from keys primary
keys_fit Distinct keys primary = same_columns keys && come_from keys primary
keys_fit (Join left) keys primary = two_sides keys && come_from keys primary
keys_fit (Lookup key side_key) keys primary = length key == length side_key
keys_fit (KeepIn key side_key) keys primary = length key == length side_key
keys_fit (DropIn key side_key) keys primary = length key == length side_key

abbrev pub edges_differ : Outs → Bool
edges_differ [] = true
edges_differ (out ∷ outs) = not (list_any (λ other. other.0.0 == out.0.0) outs) && edges_differ outs

abbrev pub has_parts : Cut → Bool
has_parts Whole = true
has_parts (ByKey cols parts) = nat_lt 0 parts

abbrev pub is_order : Head → Keys → Inputs → Outs → Bool
is_order head keys inputs outs = side_fits head inputs.side && keys_fit head keys inputs.primary && edges_differ outs && list_all (λ out. has_parts out.1) outs
