use Rattle.tez_world_invariant.proofs.EndsReports.{made_right, report_holds}
use Rattle.tez_world_invariant.proofs.reports.report_is_taken.Goals as goal

pub returns : goal.returns
returns c = record { bytes = made_right; holds = report_holds }
