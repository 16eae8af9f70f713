use Rattle.tez_work_view.proofs.Shelving.{shelf_stopped, shelf_new}
use Rattle.tez_work_view.proofs.shelves.shelves_outlive_masters.Goals as goal

pub returns : goal.returns
returns c = record { begins = shelf_new; stop = shelf_stopped }
