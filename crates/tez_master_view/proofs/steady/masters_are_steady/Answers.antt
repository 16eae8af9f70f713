use Rattle.tez_master_view.proofs.SteadyLaw.{steady}
use Rattle.tez_master_view.proofs.steady.masters_are_steady.Goals as goal

pub returns : goal.returns
returns c = steady
