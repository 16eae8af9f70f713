use Rattle.std.proofs.Common.{◌≡◌, map}
use Rattle.tez_lists.specs.Numbers.{numbers_from}
use Rattle.tez_standing.specs.Progress.{new_row}
use Rattle.tez_standing.proofs.rows.new_rows.Given as goal

abbrev pub invariant-loop-index : goal.invariant-loop-index
invariant-loop-index l = l.rows.items ≡ map (new_row l.vertex.0) (numbers_from 0 l.index)
