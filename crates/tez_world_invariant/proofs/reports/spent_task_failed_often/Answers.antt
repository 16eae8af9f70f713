use Rattle.tez_world_invariant.proofs.EndsReports.{spent_counts}
use Rattle.tez_world_invariant.proofs.reports.spent_task_failed_often.Goals as goal

pub returns : goal.returns
returns c = spent_counts
