use Rattle.tez_sinks.proofs.Commits.{ready_named, ready_staged, ready_merged, ready_right, ready_again, ready_harmless}
use Rattle.tez_sinks.proofs.commit.sinks_are_prepared.Goals as goal

pub returns-clause-named : goal.returns-clause-named
returns-clause-named c = ready_named

pub returns-clause-staged : goal.returns-clause-staged
returns-clause-staged c = ready_staged

pub returns-clause-merged : goal.returns-clause-merged
returns-clause-merged c = ready_merged

pub returns-clause-store : goal.returns-clause-store
returns-clause-store c = ready_right

pub returns-clause-harmless : goal.returns-clause-harmless
returns-clause-harmless c = ready_harmless

pub returns-clause-again : goal.returns-clause-again
returns-clause-again c = ready_again
