use Rattle.tez_router_view.proofs.Choosing.{fetches_same, next_fetch_same, next_send_same}
use Rattle.tez_router_view.proofs.router_chooses.Goals as goal

pub returns : goal.returns
returns c = record {
  fetches = fetches_same;
  fetch = next_fetch_same;
  send = next_send_same;
}
