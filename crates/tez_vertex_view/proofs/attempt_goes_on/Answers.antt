use Rattle.tez_vertex_view.proofs.Stepping.{place_step, send_step}
use Rattle.tez_vertex_view.proofs.attempt_goes_on.Goals as goal

pub returns : goal.returns
returns c = record {
  place = place_step;
  send = send_step;
}
