use Rattle.tez_pool_view.proofs.Reading.{queued_unheld, given}
use Rattle.tez_pool_view.proofs.Stepping.{placed_step}
use Rattle.tez_pool_view.proofs.place_is_given.Goals as goal

pub returns : goal.returns
returns c = record {
  before = queued_unheld;
  container = given;
  after = placed_step;
}
