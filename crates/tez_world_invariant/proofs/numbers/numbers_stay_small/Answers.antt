use Rattle.tez_world_invariant.proofs.PartsNumbers.{parts_attempts, parts_lives, parts_nodes, parts_containers}
use Rattle.tez_world_invariant.proofs.numbers.numbers_stay_small.Goals as goal

pub returns-clause-attempts : goal.returns-clause-attempts
returns-clause-attempts c = parts_attempts

pub returns-clause-lives : goal.returns-clause-lives
returns-clause-lives c = parts_lives

pub returns-clause-nodes : goal.returns-clause-nodes
returns-clause-nodes c = parts_nodes

pub returns-clause-containers : goal.returns-clause-containers
returns-clause-containers c = parts_containers
