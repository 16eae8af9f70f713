use Rattle.tez_work_view.proofs.Shelving.{shelf_answered, shelf_left}
use Rattle.tez_work_view.proofs.shelves.shelves_are_left.Goals as goal

pub returns : goal.returns
returns c = record {
  asked = shelf_answered;
  event = shelf_left;
}
