use Rattle.tez_router_view.proofs.Keeping.{fits_planned, entry_fits, event_fits, opened_fits, taken_up_fits, report_fits, answer_fits}
use Rattle.tez_router_view.proofs.tasks_fit_the_plan.Goals as goal

pub returns : goal.returns
returns c = record {
  first = fits_planned;
  entry = entry_fits;
  event = event_fits;
  opened = opened_fits;
  taken_up = taken_up_fits;
  report = report_fits;
  asked = λ g c past v there fits h. answer_fits g past v there fits;
}
