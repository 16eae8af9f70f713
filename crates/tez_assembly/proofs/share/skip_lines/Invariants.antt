use Rattle.std.proofs.Common.{◌≡◌, drop}
use Rattle.tez_record.specs.Line.{lines}
use Rattle.tez_assembly.proofs.share.skip_lines.Given as goal

abbrev pub invariant-loop-passed : goal.invariant-loop-passed
invariant-loop-passed l = lines l.rest.rest.now ≡ drop l._passed (lines l.fn.rest.rest.now)
