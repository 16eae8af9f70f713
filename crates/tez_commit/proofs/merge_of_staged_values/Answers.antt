use Rattle.tez_commit.proofs.Merging.{values_merged}
use Rattle.tez_commit.proofs.merge_of_staged_values.Goals as goal

pub returns : goal.returns
returns c = values_merged
