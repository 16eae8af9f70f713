use Rattle.tez_plan.proofs.CheckLemmas.{same_fault, no_fault}
use Rattle.tez_plan_checks.proofs.first_fault_is_one.Goals as goal

pub returns-clause-one : goal.returns-clause-one
returns-clause-one c = same_fault

pub returns-clause-none : goal.returns-clause-none
returns-clause-none c = no_fault
