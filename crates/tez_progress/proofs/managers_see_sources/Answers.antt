use Rattle.tez_progress.proofs.Configured.{sees_sources}
use Rattle.tez_progress.proofs.Ready.{ready}
use Rattle.tez_progress.proofs.managers_see_sources.Goals as goal

pub returns : goal.returns
returns c = record {
  sources = sees_sources;
  ready = ready;
}
