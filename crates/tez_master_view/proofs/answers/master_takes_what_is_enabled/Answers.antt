use Rattle.tez_master_view.proofs.Takes.{takes}
use Rattle.tez_master_view.proofs.answers.master_takes_what_is_enabled.Goals as goal

pub returns : goal.returns
returns c = takes
