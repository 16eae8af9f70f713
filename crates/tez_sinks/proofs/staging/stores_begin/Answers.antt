use Rattle.tez_sinks.proofs.Stores.{opened_store, first_store, opened_good}
use Rattle.tez_sinks.proofs.staging.stores_begin.Goals as goal

pub returns-clause-store : goal.returns-clause-store
returns-clause-store c = opened_store

pub returns-clause-first : goal.returns-clause-first
returns-clause-first c = first_store

pub returns-clause-good : goal.returns-clause-good
returns-clause-good c = opened_good
