use Rattle.std.proofs.Common.{◌≡◌, ◌≤◌, ℕ, List, drop}
use Rattle.std.specs.Option.{unwrap_or}
use Rattle.tez_shelves.specs.Piece.{bytes_on}
use Rattle.tez_shelves.specs.Cut.{cut_from, AreCuts}
use Rattle.tez_shelves.proofs.CutLemmas.{counted}
use Rattle.tez_shelves.proofs.pieces.Pieces.bytes.Given as goal

abbrev pub invariant-loop-mark : goal.invariant-loop-mark
invariant-loop-mark l = record {
  block : List ℕ;
  cuts : AreCuts l.start block (drop l.mark-index l.mark-items);
  few : unwrap_or l.total 0 ≤ l.start;
  same : counted l.total l.edge (cut_from l.start block (drop l.mark-index l.mark-items)) ≡ bytes_on l.edge l.self;
}
