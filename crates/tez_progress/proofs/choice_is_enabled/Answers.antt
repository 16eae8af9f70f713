use Rattle.tez_history.specs.Steps.{enabled, candidates}
use Rattle.tez_progress.proofs.Members.{find_some, find_none}
use Rattle.tez_progress.proofs.choice_is_enabled.Goals as goal

pub returns : goal.returns
returns c = record {
  some = λ g k past e h. (find_some (enabled g k past) (candidates g k past) e h).1;
  none = λ g k past e h m. find_none (enabled g k past) (candidates g k past) e h m;
}
