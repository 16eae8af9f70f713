use Rattle.tez_pool_view.proofs.Choosing.{place_choice}
use Rattle.tez_pool_view.proofs.free_place_is_given.Goals as goal

pub returns : goal.returns
returns c = place_choice
