use Rattle.std.proofs.Common.{◌≡◌, ◌++◌}
use Rattle.std.specs.List.{filter}
use Rattle.tez_record.specs.Line.{lines}
use Rattle.tez_plain.specs.Keyed.{is_chosen}
use Rattle.tez_plain.proofs.pairs.chosen.Given as goal

abbrev pub invariant-loop-line : goal.invariant-loop-line
invariant-loop-line l = l.rows ++ filter (is_chosen l.fn.keep l.fn.cols l.fn.side_cols l.fn.side) (lines l.line-iterator.rest.now) ≡ filter (is_chosen l.fn.keep l.fn.cols l.fn.side_cols l.fn.side) l.fn.records
