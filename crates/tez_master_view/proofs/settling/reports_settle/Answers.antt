use Rattle.tez_master_view.proofs.Simple.{report_settles}
use Rattle.tez_master_view.proofs.settling.reports_settle.Goals as goal

pub returns : goal.returns
returns c = λ g k past a made go runs _. report_settles g k past a made go runs
