use Rattle.std.proofs.Common.{◌≡◌, take}
use Rattle.std.specs.List.{flat_map}
use Rattle.tez_standing.specs.Progress.{winners_of}
use Rattle.tez_standing.proofs.progress.all_winners.Given as goal

abbrev pub invariant-loop-vertex : goal.invariant-loop-vertex
invariant-loop-vertex l = l.winners.items ≡ flat_map winners_of (take l.vertex-index l.vertices)
