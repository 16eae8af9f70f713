use Rattle.tez_laws.proofs.Unbroken.{run_unbroken}
use Rattle.tez_laws.proofs.no_run_breaks_a_rule.Goals as goal

pub returns : goal.returns
returns c = run_unbroken
