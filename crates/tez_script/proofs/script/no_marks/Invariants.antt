use Rattle.std.proofs.Common.{◌≡◌, map, take}
use Rattle.tez_script.specs.Reading.{none_fired}
use Rattle.tez_script.proofs.script.no_marks.Given as goal

abbrev pub invariant-loop-line : goal.invariant-loop-line
invariant-loop-line l = l.marks.items ≡ map none_fired (take l._line-index l.lines)
