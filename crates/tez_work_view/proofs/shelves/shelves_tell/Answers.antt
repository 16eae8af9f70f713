use Rattle.tez_work_view.proofs.Shelving.{shelf_is, shelf_slot}
use Rattle.tez_work_view.proofs.shelves.shelves_tell.Goals as goal

pub returns : goal.returns
returns c = record { there = shelf_is; slot = shelf_slot }
