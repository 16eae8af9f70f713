use Rattle.std.proofs.Common.{◌≡◌, slice_get}
use Rattle.tez_history.specs.Shape.{sinks}
use Rattle.tez_core.proofs.NextSink.{sinks_on}
use Rattle.tez_core.proofs.sinks.nth_sink.Given as goal

abbrev pub invariant-loop-v : goal.invariant-loop-v
invariant-loop-v l = slice_get (sinks_on l.p l.v) l.left ≡ slice_get (sinks l.p) l.number
