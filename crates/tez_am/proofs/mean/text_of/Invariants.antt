use Rattle.std.proofs.Common.{◌≡◌, flat_map, take}
use Rattle.tez_am.specs.Mean.{text_part}
use Rattle.tez_am.proofs.mean.text_of.Given as goal

abbrev pub invariant-loop-sink : goal.invariant-loop-sink
invariant-loop-sink l = l.text.items ≡ flat_map text_part (take l.sink-index l.sinks)
