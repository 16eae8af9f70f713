use Rattle.tez_master_view.proofs.Takes.{asks}
use Rattle.tez_master_view.proofs.answers.master_asks.Goals as goal

pub returns : goal.returns
returns c = asks
