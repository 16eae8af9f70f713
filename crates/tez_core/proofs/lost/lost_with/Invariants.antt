use Rattle.std.proofs.Common.{◌≡◌, take}
use Rattle.std.specs.List.{flat_map}
use Rattle.tez_core.specs.Lost.{lost_at}
use Rattle.tez_core.proofs.lost.lost_with.Given as goal

abbrev pub invariant-loop-x : goal.invariant-loop-x
invariant-loop-x l = l.found.items ≡ flat_map (lost_at l.p l.locations l.slot) (take l.x-index l.vertices)
