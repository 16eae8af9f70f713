use Rattle.tez_rules.proofs.Unbroken.{one_answered, one_unbroken}
use Rattle.tez_rules.proofs.one_master_breaks_no_rule.Goals as goal

pub returns : goal.returns
returns c = record { answered = one_answered; unbroken = one_unbroken }
