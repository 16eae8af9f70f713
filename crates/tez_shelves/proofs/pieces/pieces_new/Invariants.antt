use Rattle.std.proofs.Common.{◌≡◌, take}
use Rattle.tez_shelves.proofs.pieces.pieces_new.Given as goal

abbrev pub invariant-loop-edge : goal.invariant-loop-edge
invariant-loop-edge l = l.pieces ≡ take l.edge-index l.edge-items
