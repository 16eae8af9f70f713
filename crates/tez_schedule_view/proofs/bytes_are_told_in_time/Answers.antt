use Rattle.tez_schedule_view.proofs.Bytes.{nothing_told, first_tells, event_tells, report_keeps, answer_keeps, stop_keeps, over_keeps, opened_keeps, taken_up_keeps}
use Rattle.tez_schedule_view.proofs.bytes_are_told_in_time.Goals as goal

pub returns : goal.returns
returns c = record {
  processing = nothing_told;
  first = first_tells;
  event = event_tells;
  report = report_keeps;
  asked = λ g c past v there t h. answer_keeps past v there t;
  stop = stop_keeps;
  over = over_keeps;
  opened = opened_keeps;
  taken_up = taken_up_keeps;
}
