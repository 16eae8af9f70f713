use Rattle.tez_recovery.proofs.GoingLaw.{can_be_found, goes_on, begins_up}
use Rattle.tez_recovery.proofs.master_goes_on.Goals as goal

pub returns : goal.returns
returns c = record {
  can = can_be_found;
  view = goes_on;
  begun = begins_up;
}
