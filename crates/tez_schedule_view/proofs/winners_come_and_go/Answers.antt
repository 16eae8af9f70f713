use Rattle.tez_schedule_view.proofs.Told.{told_tells}
use Rattle.tez_schedule_view.proofs.Winning.{done_view, kept_view, withdrawal_view}
use Rattle.tez_schedule_view.proofs.winners_come_and_go.Goals as goal

pub returns : goal.returns
returns c = record {
  done = done_view;
  kept = kept_view;
  told = told_tells;
  withdrawn = withdrawal_view;
}
