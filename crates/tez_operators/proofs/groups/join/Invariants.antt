use Rattle.std.proofs.Common.{◌≡◌, ◌++◌}
use Rattle.tez_record.specs.Line.{lines}
use Rattle.tez_values.specs.Heads.{join_rows}
use Rattle.tez_operators.proofs.groups.join.Given as goal

abbrev pub invariant-loop-line : goal.invariant-loop-line
invariant-loop-line l = l.rows ++ join_rows l.fn.cols l.fn.right_cols (lines l.line-iterator.rest.now) l.fn.right ≡ join_rows l.fn.cols l.fn.right_cols l.fn.left l.fn.right
