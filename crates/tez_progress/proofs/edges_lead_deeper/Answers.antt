use Rattle.tez_progress.proofs.Plans.{ranks}
use Rattle.tez_progress.proofs.edges_lead_deeper.Goals as goal

pub returns : goal.returns
returns c = ranks
