use Rattle.tez_world_invariant.proofs.PartsKeep.{same_taken}
use Rattle.tez_world_invariant.proofs.PartsTaking.{events_taken, stays_up, asks_none, choice_taken}
use Rattle.tez_world_invariant.proofs.taking.events_are_taken.Goals as goal

pub returns-clause-enabled : goal.returns-clause-enabled
returns-clause-enabled c = same_taken

pub returns-clause-entries : goal.returns-clause-entries
returns-clause-entries c = events_taken

pub returns-clause-up : goal.returns-clause-up
returns-clause-up c = stays_up

pub returns-clause-asks : goal.returns-clause-asks
returns-clause-asks c = asks_none

pub returns-clause-choice : goal.returns-clause-choice
returns-clause-choice c = choice_taken
