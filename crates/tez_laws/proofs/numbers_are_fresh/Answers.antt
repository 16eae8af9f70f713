use Rattle.tez_laws.proofs.Places.{fresh, queued_fetched}
use Rattle.tez_laws.proofs.Fresh.{never_queued}
use Rattle.tez_laws.proofs.numbers_are_fresh.Goals as goal

pub returns : goal.returns
returns c = record {
  fresh = fresh;
  never = never_queued;
  fetched = queued_fetched;
}
