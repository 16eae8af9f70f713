use Rattle.std.proofs.Common.{◌≡◌, ◌++◌}
use Rattle.std.specs.List.{flat_map}
use Rattle.tez_record.specs.Line.{lines}
use Rattle.tez_operators.specs.Fuse.{made_of}
use Rattle.tez_operators.proofs.fuse.fused.Given as goal

abbrev pub invariant-loop-line : goal.invariant-loop-line
invariant-loop-line l = l.made ++ flat_map (made_of l.fn.steps) (lines l.line-iterator.rest.now) ≡ flat_map (made_of l.fn.steps) l.fn.rows
