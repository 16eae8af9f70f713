use Rattle.tez_work_view.proofs.Shelving.{shelf_reported}
use Rattle.tez_work_view.proofs.shelves.pieces_are_shelved.Goals as goal

pub returns : goal.returns
returns c = shelf_reported
