use Rattle.tez_laws.proofs.Listed.{tasks_listed, live_listed, winner_listed, tasks_order}
use Rattle.tez_laws.proofs.tasks_are_listed.Goals as goal

pub returns : goal.returns
returns c = record {
  tasks = tasks_listed;
  live = live_listed;
  winner = winner_listed;
  order = tasks_order;
}
