use Rattle.tez_tables.proofs.TableLemmas.{scatter_gather_law, scatter_gather_inside}
use Rattle.tez_tables.proofs.scatter_gather_has_one_consumer.Goals as goal

pub returns-clause-covered : goal.returns-clause-covered
returns-clause-covered c = scatter_gather_law

pub returns-clause-inside : goal.returns-clause-inside
returns-clause-inside c = scatter_gather_inside
