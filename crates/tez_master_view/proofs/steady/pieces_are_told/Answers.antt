use Rattle.tez_master_view.proofs.Pieces.{output_told, piece_told}
use Rattle.tez_master_view.proofs.steady.pieces_are_told.Goals as goal

pub returns : goal.returns
returns c = record {
  output = output_told;
  piece = piece_told;
}
