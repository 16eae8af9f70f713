use Rattle.tez_assembly.proofs.FitLemmas.{orders_fit}
use Rattle.tez_assembly.proofs.orders_fit.Goals as goal

pub returns : goal.returns
returns c = orders_fit
