use Rattle.tez_laws.proofs.Feeding.{sources_done}
use Rattle.tez_laws.proofs.vertex_is_ready.Goals as goal

pub returns : goal.returns
returns c = sources_done
