use Rattle.tez_sinks.proofs.Quiet.{quiet_step, quiet_store}
use Rattle.tez_sinks.proofs.Stores.{event_good}
use Rattle.tez_history.specs.History.{extend}
use Rattle.tez_history.specs.Steps.{entries_of}
use Rattle.tez_sinks.proofs.staging.events_leave_the_store.Goals as goal

pub returns-clause-store : goal.returns-clause-store
returns-clause-store c = λ job k past e before store m on none. quiet_store job past (extend past (entries_of job.plan k past e)) before store (quiet_step job k past e m on none)

pub returns-clause-good : goal.returns-clause-good
returns-clause-good c = event_good
