use Rattle.tez_queue.proofs.Shallowest.{shallowest}
use Rattle.tez_queue.proofs.first_is_shallowest.Goals as goal

pub returns : goal.returns
returns c = shallowest
