use Rattle.tez_recovery.proofs.Entries.{unspent, few_unspent}
use Rattle.tez_recovery.proofs.GoingLaw.{starts, run_starts}
use Rattle.tez_recovery.proofs.what_is_found_is_taken.Goals as goal

pub returns : goal.returns
returns c = record {
  entries = starts;
  unspent = λ d s ks. (unspent d s ks, few_unspent d s ks);
  run = run_starts;
}
