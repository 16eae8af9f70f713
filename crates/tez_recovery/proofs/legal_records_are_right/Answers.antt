use Rattle.tez_recovery.proofs.Legal.{right}
use Rattle.tez_recovery.proofs.Whole.{whole as is_whole}
use Rattle.tez_recovery.proofs.legal_records_are_right.Goals as goal

pub returns : goal.returns
returns c = record {
  right = right;
  whole = is_whole;
}
