use Rattle.tez_progress.proofs.Plans.{fed}
use Rattle.tez_progress.proofs.vertices_are_fed.Goals as goal

pub returns : goal.returns
returns c = fed
