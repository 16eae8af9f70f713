use Rattle.std.proofs.Common.{◌≡◌, take}
use Rattle.std.specs.List.{flat_map}
use Rattle.tez_standing.specs.Progress.{all_failures_of}
use Rattle.tez_standing.proofs.progress.all_failures.Given as goal

abbrev pub invariant-loop-vertex : goal.invariant-loop-vertex
invariant-loop-vertex l = l.failures.items ≡ flat_map all_failures_of (take l.vertex-index l.vertices)
