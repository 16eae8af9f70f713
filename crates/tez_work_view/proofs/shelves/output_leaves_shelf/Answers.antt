use Rattle.tez_work_view.proofs.Shelving.{shelf_output_lost}
use Rattle.tez_work_view.proofs.shelves.output_leaves_shelf.Goals as goal

pub returns : goal.returns
returns c = shelf_output_lost
