use Rattle.tez_laws.proofs.Withdrawals.{event_owes, done_owes, asked_owes}
use Rattle.tez_laws.proofs.withdrawals_are_whole.Goals as goal

pub returns : goal.returns
returns c = record {
  event = event_owes;
  report = done_owes;
  asked = asked_owes;
}
