use Rattle.tez_contents.proofs.Whole.{winners_whole}
use Rattle.tez_contents.proofs.winners_make_the_whole.Goals as goal

pub returns : goal.returns
returns c = winners_whole
