use Rattle.tez_router_view.proofs.Testing.{among_waiting, fetch_test, send_test}
use Rattle.tez_router_view.proofs.router_tests.Goals as goal

pub returns : goal.returns
returns c = record {
  waiting = among_waiting;
  fetch = fetch_test;
  send = send_test;
}
