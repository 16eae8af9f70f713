use Rattle.tez_values.proofs.SameLemmas.{output-same, first_bad-same}
use Rattle.tez_values.proofs.order_does_not_matter.Goals as goal

pub returns-clause-bad : goal.returns-clause-bad
returns-clause-bad c = first_bad-same

pub returns-clause-made : goal.returns-clause-made
returns-clause-made c = output-same
