use Rattle.tez_laws.proofs.Tasks.{no_both, unscheduled, winner_task}
use Rattle.tez_laws.proofs.Ranges.{scheduled_is_task, configured_is_vertex}
use Rattle.tez_laws.proofs.live_or_winner.Goals as goal

pub returns : goal.returns
returns c = record {
  never_both = no_both;
  unscheduled = unscheduled;
  winner = winner_task;
  configured = configured_is_vertex;
  there = scheduled_is_task;
}
