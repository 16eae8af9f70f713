use Rattle.tez_world_invariant.proofs.EndsReports.{outcome_value, outcome_pieces, outcome_good, outcome_bad, outcome_blames}
use Rattle.tez_world_invariant.proofs.reports.outcome_is_of_the_attempt.Goals as goal

pub returns : goal.returns
returns c = record { value = outcome_value; pieces = outcome_pieces; good = outcome_good; met = outcome_bad; blames = outcome_blames }
