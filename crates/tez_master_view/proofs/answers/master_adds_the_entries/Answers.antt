use Rattle.tez_master_view.proofs.Lines.{adds}
use Rattle.tez_master_view.proofs.answers.master_adds_the_entries.Goals as goal

pub returns : goal.returns
returns c = adds
