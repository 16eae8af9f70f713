use Rattle.tez_shrink.proofs.RangeLemmas.{in_one_range}
use Rattle.tez_shrink.proofs.ranges_cover.Goals as goal

pub returns : goal.returns
returns c = in_one_range
