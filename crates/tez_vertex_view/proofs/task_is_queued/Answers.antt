use Rattle.tez_vertex_view.proofs.Stepping.{queue_step}
use Rattle.tez_vertex_view.proofs.task_is_queued.Goals as goal

pub returns : goal.returns
returns c = queue_step
