use Rattle.std.proofs.Common.{arith}
use Rattle.tez_shares.specs.Shares.{HasTasks}
use Rattle.tez_progress.proofs.Fitting.{planned_some}
use Rattle.tez_assembly.proofs.CutLemmas.{piece_is, bytes_are}
use Rattle.tez_assembly.proofs.pieces_are_cut.Goals as goal

pub returns-clause-pieces : goal.returns-clause-pieces
returns-clause-pieces c = piece_is

pub returns-clause-bytes : goal.returns-clause-bytes
returns-clause-bytes c g v e value ranges valid i is =
    let has : HasTasks g = λ u inside. let some = planned_some g u ranges inside in omega (arith, some) in
    bytes_are g v e value valid has i is
