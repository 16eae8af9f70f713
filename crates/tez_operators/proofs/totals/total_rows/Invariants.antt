use Rattle.std.proofs.Common.{◌≡◌, ◌++◌, map}
use Rattle.tez_operators.specs.Totals.{total_row}
use Rattle.tez_operators.proofs.totals.total_rows.Given as goal

abbrev pub invariant-loop-key : goal.invariant-loop-key
invariant-loop-key l = l.rows ++ map total_row l.key-iterator ≡ map total_row l.fn.totals.entries
