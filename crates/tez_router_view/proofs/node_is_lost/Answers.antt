use Rattle.tez_router_view.proofs.Losing.{node_loss_view, node_loss_lines}
use Rattle.tez_router_view.proofs.ByEvent.{late_loss_leaves}
use Rattle.tez_router_view.proofs.Killing.{dismissed_all}
use Rattle.tez_router_view.proofs.node_is_lost.Goals as goal

pub returns : goal.returns
returns c = record {
  lost = node_loss_view;
  lines = node_loss_lines;
  late = late_loss_leaves;
  dismissals = dismissed_all;
}
