use Rattle.tez_contents.proofs.Running.{run_right, anew_right}
use Rattle.tez_contents.proofs.every_run_is_right.Goals as goal

pub returns : goal.returns
returns c = record { found = run_right; anew = anew_right }
