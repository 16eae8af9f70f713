use Rattle.tez_contents.proofs.Allowed.{allowed_next, allowed_always, allowed_now, kept_right}
use Rattle.tez_contents.proofs.configurations_are_allowed.Goals as goal

pub returns-clause-next : goal.returns-clause-next
returns-clause-next c = allowed_next

pub returns-clause-always : goal.returns-clause-always
returns-clause-always c = allowed_always

pub returns-clause-now : goal.returns-clause-now
returns-clause-now c = allowed_now

pub returns-clause-kept : goal.returns-clause-kept
returns-clause-kept c = kept_right
