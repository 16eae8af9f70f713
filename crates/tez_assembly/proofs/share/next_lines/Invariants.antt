use Rattle.std.proofs.Common.{◌≡◌, take, drop}
use Rattle.tez_record.specs.Line.{lines}
use Rattle.tez_assembly.proofs.share.next_lines.Given as goal

abbrev pub invariant-loop-taken : goal.invariant-loop-taken
invariant-loop-taken l = record {
  taken : l.share ≡ take l._taken (lines l.fn.rest.rest.now);
  left : lines l.rest.rest.now ≡ drop l._taken (lines l.fn.rest.rest.now);
}
