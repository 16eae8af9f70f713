use Rattle.tez_work_view.proofs.Shelving.{shelf_lost}
use Rattle.tez_work_view.proofs.shelves.node_loses_shelves.Goals as goal

pub returns : goal.returns
returns c = shelf_lost
