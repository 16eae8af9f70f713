use Rattle.std.proofs.Common.{◌≡◌, ◌+◌, ◌∙◌, ap, arith, sum_by, length}
use Rattle.tez_shelves.specs.Piece.{size}
use Rattle.tez_shelves.specs.Cut.{cut_from}
use Rattle.tez_shelves.proofs.CutLemmas.{total_bytes}
use Rattle.tez_shelves.proofs.pieces.Pieces.total.Goals as goal

pub returns-clause-value : goal.returns-clause-value
returns-clause-value c =
    let all : 0 + sum_by size (cut_from 0 c.self.inside.block.items c.self.inside.table.items) ≡ length c.self.inside.block.items = total_bytes 0 c.self.inside.block.items c.self.inside.table.items c.self.invariant.cuts in
    let is : c.len.result ≡ sum_by size (cut_from 0 c.self.inside.block.items c.self.inside.table.items) = omega arith in
    is ∙ ap (sum_by size) c.self.view_is
