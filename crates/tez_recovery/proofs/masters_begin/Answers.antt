use Rattle.tez_recovery.proofs.Beginning.{begun_view, begun_fresh, committed_fresh, none_recorded, over_fresh}
use Rattle.tez_recovery.proofs.masters_begin.Goals as goal

pub returns : goal.returns
returns c = record {
  opens = begun_view;
  fresh = begun_fresh;
  committed = committed_fresh;
  unrecorded = none_recorded;
  over = over_fresh;
}
