use Rattle.tez_master_view.proofs.Chosen.{choice_same}
use Rattle.tez_master_view.proofs.choosing.master_chooses.Goals as goal

pub returns : goal.returns
returns c = choice_same
