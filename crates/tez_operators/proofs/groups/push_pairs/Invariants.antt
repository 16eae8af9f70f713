use Rattle.std.proofs.Common.{◌≡◌, ◌++◌, map}
use Rattle.tez_record.specs.Line.{lines}
use Rattle.tez_values.specs.Heads.{beside}
use Rattle.tez_operators.proofs.groups.push_pairs.Given as goal

abbrev pub invariant-loop-right : goal.invariant-loop-right
invariant-loop-right l = l.rows ++ map (beside l.fn.left) (lines l.right-iterator.rest.now) ≡ l.initial.rows ++ map (beside l.fn.left) l.fn.group
