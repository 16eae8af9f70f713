use Rattle.tez_router_view.proofs.Moving.{done_view, withdrawal_view}
use Rattle.tez_router_view.proofs.Told.{kept_announces}
use Rattle.tez_router_view.proofs.Losing.{withdrawal_read}
use Rattle.tez_router_view.proofs.winners_come_and_go.Goals as goal

pub returns : goal.returns
returns c = record {
  done = done_view;
  kept = kept_announces;
  withdrawn = withdrawal_view;
  lines = withdrawal_read;
}
