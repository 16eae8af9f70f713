-- Which heads and steps read a field as a number. The others have no bad record.
--     head_reads_number head
--     step_reads_number step
use Rattle.std.specs.Prelude.{Bool, true, false}
use Rattle.tez_plan.specs.declared.parts.Head.{Head}
use Rattle.tez_plan.specs.declared.parts.Head.TheVariants.{Each, Sum, Count, Distinct, Join, Lookup, KeepIn, DropIn}
use Rattle.tez_plan.specs.declared.parts.Step.{Step}
use Rattle.tez_plan.specs.declared.parts.Step.TheVariants.{Tokenise, Filter, Project}
use Rattle.tez_values.specs.Steps.{reads_number}

abbrev pub head_reads_number : Head → Bool
head_reads_number Each = false
head_reads_number (Sum value) = true
head_reads_number Count = false
head_reads_number Distinct = false
head_reads_number (Join left) = false
head_reads_number (Lookup key side_key) = false
head_reads_number (KeepIn key side_key) = false
head_reads_number (DropIn key side_key) = false

abbrev pub step_reads_number : Step → Bool
step_reads_number Tokenise = false
step_reads_number (Filter i test) = reads_number test
step_reads_number (Project cols) = false
