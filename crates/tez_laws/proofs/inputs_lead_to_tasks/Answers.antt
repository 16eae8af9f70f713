use Rattle.tez_laws.proofs.Feeding.{inputs_inside}
use Rattle.tez_laws.proofs.inputs_lead_to_tasks.Goals as goal

pub returns : goal.returns
returns c = inputs_inside
