use Rattle.tez_progress.proofs.Configured.{fits_next}
use Rattle.tez_progress.proofs.RunFits.{run_fits}
use Rattle.tez_progress.proofs.configurations_fit.Goals as goal

pub returns : goal.returns
returns c = record {
  next = fits_next;
  run = run_fits;
}
