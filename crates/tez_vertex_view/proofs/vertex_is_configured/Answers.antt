use Rattle.tez_vertex_view.proofs.Configuring.{configure_step}
use Rattle.tez_vertex_view.proofs.vertex_is_configured.Goals as goal

pub returns : goal.returns
returns c = configure_step
