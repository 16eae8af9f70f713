use Rattle.tez_tables.proofs.TableLemmas.{broadcast_law, broadcast_inside}
use Rattle.tez_tables.proofs.broadcast_has_each_consumer.Goals as goal

pub returns-clause-covered : goal.returns-clause-covered
returns-clause-covered c = broadcast_law

pub returns-clause-inside : goal.returns-clause-inside
returns-clause-inside c = broadcast_inside
