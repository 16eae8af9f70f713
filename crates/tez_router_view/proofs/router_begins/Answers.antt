use Rattle.tez_router_view.proofs.Told.{first_view, start_view, stop_view}
use Rattle.tez_router_view.proofs.router_begins.Goals as goal

pub returns : goal.returns
returns c = record {
  first = first_view;
  start = start_view;
  stop = stop_view;
}
