use Rattle.tez_script.proofs.Prefixes.{one_script, none_refused, one_refused}
use Rattle.tez_script.proofs.read.one_answer_is_due.Goals as goal

pub returns-clause-one : goal.returns-clause-one
returns-clause-one c = one_script

pub returns-clause-none : goal.returns-clause-none
returns-clause-none c = none_refused

pub returns-clause-first : goal.returns-clause-first
returns-clause-first c = one_refused
