-- What comes of an order.
--     value_of o, bad_of o       what the program makes of the inputs; the first bad record that it reads
--     cut_of value e cut         the pieces of a value for the edge e
--     pieces_of outs value       the pieces for all edges
--     IsOutcome o outcome        the outcome is due for the order
use Rattle.std.specs.Prelude.{◌≡◌, ◌<◌, ◌^◌, ⊤, ℕ, sum_by, List, [], ◌∷◌, Option, Some, None}
use Rattle.std.specs.List.{flat_map}
use Rattle.tez_ids.specs.declared.EdgeId.{EdgeId}
use Rattle.tez_lists.specs.Tables.{each_from}
use Rattle.tez_partition.specs.Partition.{split}
use Rattle.tez_values.specs.Heads.{HeadInputs}
use Rattle.tez_values.specs.Program.{output, first_bad}
use Rattle.tez_operators.specs.Process.{reads}
use Rattle.tez_orders.specs.declared.cut.Cut.{Cut}
use Rattle.tez_orders.specs.declared.cut.Cut.TheVariants.{Whole, ByKey}
use Rattle.tez_orders.specs.declared.report.Outcome.{Outcome}
use Rattle.tez_orders.specs.declared.report.Outcome.TheVariants.{Done, Bad, NoMemory}
use Rattle.tez_shelves.specs.Piece.{size}
use Rattle.tez_orders.specs.Orders.{OrderParts, Outs}

abbrev pub reads_of : OrderParts → HeadInputs
reads_of o = reads o.program.head o.keys o.inputs.primary o.inputs.side

abbrev pub value_of : OrderParts → List (List ℕ)
value_of o = output o.program.head o.program.steps (reads_of o)

abbrev pub bad_of : OrderParts → Option (List ℕ)
bad_of o = first_bad o.program.head o.program.steps (reads_of o)

abbrev pub cut_of : List (List ℕ) → EdgeId → Cut → List (EdgeId × ℕ × List (List ℕ))
cut_of value e Whole = (e, 0, value) ∷ []
cut_of value e (ByKey cols parts) = each_from 0 (λ p rs. (e, p, rs)) (split cols parts value)

abbrev pub pieces_of : Outs → List (List ℕ) → List (EdgeId × ℕ × List (List ℕ))
pieces_of outs value = flat_map (λ out. cut_of value out.0 out.1) outs

-- a value with its pieces, which have together fewer than 2^63 bytes, or want of memory
abbrev pub IsCutOf : List (List ℕ) → Outs → Outcome → Type 0
IsCutOf value outs (Done made pieces) = (made ≡ value) × (pieces ≡ pieces_of outs value) × (sum_by size pieces < 2 ^ 63)
IsCutOf value outs (Bad r) = ⊥
IsCutOf value outs NoMemory = ⊤

unfoldable pub IsOutcome : OrderParts → Outcome → Type 0
IsOutcome o (Done value pieces) = (bad_of o ≡ None) × (value ≡ value_of o) × (pieces ≡ pieces_of o.outs (value_of o)) × (sum_by size pieces < 2 ^ 63)
IsOutcome o (Bad r) = bad_of o ≡ Some r
IsOutcome o NoMemory = ⊤

pub record ReportParts : Type 0 where
  pub order : OrderParts
  pub outcome : Outcome
