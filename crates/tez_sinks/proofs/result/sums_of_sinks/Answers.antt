use Rattle.tez_sinks.proofs.Names.{sums_are}
use Rattle.tez_sinks.proofs.Sums.{all_readied, own_committed}
use Rattle.tez_sinks.proofs.TakenUp.{own_commit}
use Rattle.tez_sinks.proofs.result.sums_of_sinks.Goals as goal

pub returns-clause-sinks : goal.returns-clause-sinks
returns-clause-sinks c = sums_are

pub returns-clause-readied : goal.returns-clause-readied
returns-clause-readied c = all_readied

pub returns-clause-committing : goal.returns-clause-committing
returns-clause-committing c = λ job k past w none committing. all_readied job k past w.made none (w.committed committing (own_commit past none))

pub returns-clause-own : goal.returns-clause-own
returns-clause-own c = own_committed
