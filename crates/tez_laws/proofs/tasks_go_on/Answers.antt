use Rattle.tez_laws.proofs.Going.{event_going, done_going, asked_going}
use Rattle.tez_laws.proofs.tasks_go_on.Goals as goal

pub returns : goal.returns
returns c = record {
  event = event_going;
  report = done_going;
  asked = asked_going;
}
