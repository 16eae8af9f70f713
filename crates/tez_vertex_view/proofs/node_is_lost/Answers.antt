use Rattle.tez_vertex_view.proofs.Losing.{lost_step, commit_step}
use Rattle.tez_vertex_view.proofs.node_is_lost.Goals as goal

pub returns : goal.returns
returns c = record {
  before = lost_step;
  commit = commit_step;
}
