use Rattle.tez_sinks.proofs.TakenUp.{none_taken_up, own_commit}
use Rattle.tez_sinks.proofs.staging.first_masters_take_up_no_commit.Goals as goal

pub returns-clause-none : goal.returns-clause-none
returns-clause-none c = none_taken_up

pub returns-clause-own : goal.returns-clause-own
returns-clause-own c = own_commit
