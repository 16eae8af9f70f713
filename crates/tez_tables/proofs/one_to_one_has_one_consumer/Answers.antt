use Rattle.tez_tables.proofs.TableLemmas.{one_to_one_law, one_to_one_inside}
use Rattle.tez_tables.proofs.one_to_one_has_one_consumer.Goals as goal

pub returns-clause-covered : goal.returns-clause-covered
returns-clause-covered c = one_to_one_law

pub returns-clause-inside : goal.returns-clause-inside
returns-clause-inside c = one_to_one_inside
