use Rattle.tez_progress.proofs.Ending.{goes_further, never_stuck}
use Rattle.tez_progress.proofs.master_is_never_stuck.Goals as goal

pub returns : goal.returns
returns c = record {
  history = goes_further;
  run = never_stuck;
}
