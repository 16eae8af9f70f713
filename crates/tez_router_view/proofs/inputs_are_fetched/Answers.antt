use Rattle.tez_router_view.proofs.ByEvent.{fetch_marks, read_error_withdraws, read_error_lines}
use Rattle.tez_router_view.proofs.inputs_are_fetched.Goals as goal

pub returns : goal.returns
returns c = record {
  fetched = fetch_marks;
  read_error = read_error_withdraws;
  lines = read_error_lines;
}
