use Rattle.tez_sinks.proofs.Stores.{staged_store, reported_plain, reported_staged, reported_good}
use Rattle.tez_sinks.proofs.staging.reports_are_staged.Goals as goal

pub returns-clause-before : goal.returns-clause-before
returns-clause-before c = λ job k past a bytes before store m runs. staged_store job k past before store a bytes m runs

pub returns-clause-staged : goal.returns-clause-staged
returns-clause-staged c = λ job k past a bytes before store m runs. reported_staged job k past a bytes m runs before store

pub returns-clause-was_staged : goal.returns-clause-was_staged
returns-clause-was_staged c = λ job k past a bytes before store m runs there called. reported_plain job k past a bytes m runs before store (λ name s. there) (λ name s. called)

pub returns-clause-no_sink : goal.returns-clause-no_sink
returns-clause-no_sink c = λ job k past a bytes before store m runs none. reported_plain job k past a bytes m runs before store (λ name s. cc) (λ name s. cc)

pub returns-clause-good : goal.returns-clause-good
returns-clause-good c = reported_good
