use Rattle.std.proofs.Common.{◌≡◌, ◌++◌}
use Rattle.tez_record.specs.Line.{lines}
use Rattle.tez_values.specs.Heads.{join_rows}
use Rattle.tez_plain.specs.Keyed.{records_in}
use Rattle.tez_plain.proofs.pairs.join.Given as goal

abbrev pub invariant-loop-line : goal.invariant-loop-line
invariant-loop-line l = l.rows ++ join_rows l.fn.cols l.fn.right_cols (lines l.line-iterator.rest.now) (records_in l.entries.items) ≡ join_rows l.fn.cols l.fn.right_cols l.fn.left (records_in l.entries.items)
