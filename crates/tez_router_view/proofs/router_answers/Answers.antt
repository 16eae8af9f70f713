use Rattle.tez_router_view.proofs.Reading.{notices_read, no_notices, source_read, fetched_read, fetched_behind}
use Rattle.tez_router_view.proofs.Choosing.{missing_read}
use Rattle.tez_router_view.proofs.router_answers.Goals as goal

pub returns : goal.returns
returns c = record {
  notices = notices_read;
  silent = no_notices;
  source = source_read;
  fetched = fetched_read;
  fetched_behind = fetched_behind;
  missing = missing_read;
}
