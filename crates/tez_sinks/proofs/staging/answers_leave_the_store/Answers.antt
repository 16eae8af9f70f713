use Rattle.tez_sinks.proofs.Stores.{answered_store, answered_good}
use Rattle.tez_sinks.proofs.staging.answers_leave_the_store.Goals as goal

pub returns-clause-store : goal.returns-clause-store
returns-clause-store c = answered_store

pub returns-clause-good : goal.returns-clause-good
returns-clause-good c = answered_good
