use Rattle.tez_laws.proofs.Obeying.{places_obeyed, commit_obeyed, configs_obeyed}
use Rattle.tez_laws.proofs.Fetches.{fetches_obeyed}
use Rattle.tez_laws.proofs.Queues.{queues_obeyed}
use Rattle.tez_laws.proofs.rules_hold.Goals as goal

pub returns : goal.returns
returns c = record {
  places = places_obeyed;
  queues = queues_obeyed;
  commit = commit_obeyed;
  configs = configs_obeyed;
  fetches = fetches_obeyed;
}
