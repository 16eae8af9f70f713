use Rattle.tez_vertex_view.proofs.Answering.{read_vertex, read_task, read_live, read_next, read_done, read_failed}
use Rattle.tez_vertex_view.proofs.Telling.{read_count, read_state, read_lives, read_winners}
use Rattle.tez_vertex_view.proofs.readings_agree.Goals as goal

pub returns : goal.returns
returns c = record {
  vertex = read_vertex;
  task = read_task;
  count = read_count;
  state = read_state;
  all_live = read_lives;
  all_winners = read_winners;
  live = read_live;
  next = read_next;
  done = read_done;
  failed = read_failed;
}
