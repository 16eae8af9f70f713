use Rattle.tez_pool_view.proofs.Reading.{are_in}
use Rattle.tez_pool_view.proofs.holders_are_in_the_plan.Goals as goal

pub returns : goal.returns
returns c = are_in
