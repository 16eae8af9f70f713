use Rattle.tez_shares.proofs.Shared.{shares_whole}
use Rattle.tez_shares.proofs.FitsLemmas.{fits_valid}
use Rattle.tez_shares.proofs.tasks_make_the_whole.Goals as goal

pub returns : goal.returns
returns c = λ job config v valid tasks allowed inside. shares_whole job config valid (fits_valid job.plan valid tasks) allowed v inside
