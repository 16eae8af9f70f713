use Rattle.tez_laws.proofs.Stopping.{stops_counted, run_stops}
use Rattle.tez_laws.proofs.opens_and_stops_are_right.Goals as goal

pub returns : goal.returns
returns c = record {
  counted = stops_counted;
  rule = run_stops;
}
