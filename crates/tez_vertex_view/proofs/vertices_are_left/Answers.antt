use Rattle.tez_vertex_view.proofs.Losing.{other_step, answer_step}
use Rattle.tez_vertex_view.proofs.vertices_are_left.Goals as goal

pub returns : goal.returns
returns c = record {
  event = other_step;
  asked = answer_step;
}
