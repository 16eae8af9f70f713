use Rattle.tez_laws.proofs.RunLaw.{run_sound}
use Rattle.tez_laws.proofs.every_run_is_sound.Goals as goal

pub returns : goal.returns
returns c = run_sound
