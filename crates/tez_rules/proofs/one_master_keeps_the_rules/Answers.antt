use Rattle.tez_rules.proofs.Kept.{begins_ruled, opens_ruled, event_ruled, report_ruled}
use Rattle.tez_rules.proofs.one_master_keeps_the_rules.Goals as goal

pub returns : goal.returns
returns c = record { begins = begins_ruled; opens = opens_ruled; event = event_ruled; report = report_ruled }
