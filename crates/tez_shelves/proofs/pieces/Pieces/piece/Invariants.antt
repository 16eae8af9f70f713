use Rattle.std.proofs.Common.{◌≡◌, drop}
use Rattle.tez_shelves.specs.Piece.{piece_at}
use Rattle.tez_shelves.specs.Cut.{cut_from, AreCuts}
use Rattle.tez_shelves.proofs.pieces.Pieces.piece.Given as goal

abbrev pub invariant-loop-mark : goal.invariant-loop-mark
invariant-loop-mark l = record {
  cuts : AreCuts l.start l.self-inside.block.items (drop l.mark-index l.mark-items);
  same : piece_at l.edge l.output (cut_from l.start l.self-inside.block.items (drop l.mark-index l.mark-items)) ≡ piece_at l.edge l.output l.self;
}
