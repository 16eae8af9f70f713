use Rattle.tez_progress.proofs.Legal.{standing_fits}
use Rattle.tez_progress.proofs.legal_records_fit.Goals as goal

pub returns : goal.returns
returns c = standing_fits
