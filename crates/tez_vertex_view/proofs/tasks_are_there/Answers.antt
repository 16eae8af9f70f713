use Rattle.tez_vertex_view.proofs.Telling.{read_there, alive_there, winner_there}
use Rattle.tez_vertex_view.proofs.tasks_are_there.Goals as goal

pub returns : goal.returns
returns c = record {
  task = read_there;
  live = alive_there;
  winner = winner_there;
}
