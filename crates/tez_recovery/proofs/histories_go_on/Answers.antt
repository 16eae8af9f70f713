use Rattle.tez_recovery.proofs.Lasting.{goes_first, goes_stop, goes_start}
use Rattle.tez_recovery.proofs.histories_go_on.Goals as goal

pub returns : goal.returns
returns c = record {
  first = goes_first;
  stop = goes_stop;
  start = goes_start;
}
