use Rattle.tez_work_view.proofs.Copies.{gathered_is_copied}
use Rattle.tez_work_view.proofs.gathering.what_is_gathered_is_copied.Goals as goal

pub returns : goal.returns
returns c = gathered_is_copied
