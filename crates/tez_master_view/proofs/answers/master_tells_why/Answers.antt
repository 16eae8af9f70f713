use Rattle.tez_master_view.proofs.Reasons.{tells}
use Rattle.tez_master_view.proofs.answers.master_tells_why.Goals as goal

pub returns : goal.returns
returns c = tells
