use Rattle.tez_world_invariant.proofs.PartsInputs.{found_keeps, missed_keeps, fetch_keeps}
use Rattle.tez_world_invariant.proofs.inputs.input_is_fetched.Goals as goal

pub returns-clause-found : goal.returns-clause-found
returns-clause-found c = found_keeps

pub returns-clause-missed : goal.returns-clause-missed
returns-clause-missed c = missed_keeps

pub returns-clause-kept : goal.returns-clause-kept
returns-clause-kept c = fetch_keeps
