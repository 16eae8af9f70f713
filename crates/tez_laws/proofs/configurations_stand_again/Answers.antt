use Rattle.tez_laws.proofs.StandingAgain.{run_configs}
use Rattle.tez_laws.proofs.configurations_stand_again.Goals as goal

pub returns : goal.returns
returns c = run_configs
