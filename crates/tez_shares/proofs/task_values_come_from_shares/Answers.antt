use Rattle.tez_shares.proofs.TaskLemmas.{task_value-step}
use Rattle.tez_shares.proofs.task_values_come_from_shares.Goals as goal

pub returns : goal.returns
returns c = task_value-step
