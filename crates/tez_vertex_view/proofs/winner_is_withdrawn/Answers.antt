use Rattle.tez_vertex_view.proofs.Losing.{found_step, missed_step}
use Rattle.tez_vertex_view.proofs.winner_is_withdrawn.Goals as goal

pub returns : goal.returns
returns c = record {
  found = found_step;
  missed = missed_step;
}
