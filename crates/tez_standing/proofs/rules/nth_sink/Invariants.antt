use Rattle.std.proofs.Common.{◌≡◌, slice_get}
use Rattle.tez_standing.specs.Standing.{sink_vertices}
use Rattle.tez_standing.proofs.SinkLemmas.{sinks_on}
use Rattle.tez_standing.proofs.rules.nth_sink.Given as goal

abbrev pub invariant-loop-v : goal.invariant-loop-v
invariant-loop-v l = slice_get (sinks_on l.p l.v) l.left ≡ slice_get (sink_vertices l.p) l.n
