use Rattle.tez_sinks.proofs.Called.{tasks_staged}
use Rattle.tez_sinks.proofs.result.tasks_were_staged.Goals as goal

pub returns : goal.returns
returns c = λ job k past before store well done right. tasks_staged job k past store.stage_calls well done right.called
