use Rattle.tez_router_view.proofs.ByEvent.{place_admits, send_dismisses, preempt_dismisses}
use Rattle.tez_router_view.proofs.attempts_come_and_go.Goals as goal

pub returns : goal.returns
returns c = record {
  placed = place_admits;
  sent = send_dismisses;
  gives_way = preempt_dismisses;
}
