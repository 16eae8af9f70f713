use Rattle.tez_world_invariant.proofs.EndsBegin.{begun_view, begun_holds}
use Rattle.tez_world_invariant.proofs.begin.first_master_begins.Goals as goal

pub returns : goal.returns
returns c = record { master = begun_view; holds = begun_holds }
