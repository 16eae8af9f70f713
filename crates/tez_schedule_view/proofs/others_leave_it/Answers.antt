use Rattle.tez_events.specs.declared.Entry.TheVariants.{Carried, Placed, Ordered, Committing, Ready, Published, CommitStarted, Finished, Purged}
use Rattle.tez_history.specs.History.{container_of}
use Rattle.tez_schedule_view.proofs.Asking.{enough}
use Rattle.tez_schedule_view.proofs.Staying.{silent_view}
use Rattle.tez_schedule_view.proofs.ByEvent.{preempt_view, fail_view, output_view, answer_view}
use Rattle.tez_schedule_view.proofs.others_leave_it.Goals as goal

pub returns : goal.returns
returns c = record {
  place = λ g c past a p. silent_view g c past (Placed a (record { 0 = container_of c p past }) p) tt;
  send = λ g c past a. silent_view g c past (Ordered a) tt;
  preempt = preempt_view;
  fail = fail_view;
  output = output_view;
  ready = λ g c past v. silent_view g c past (Ready v) tt;
  commit = λ g c past. silent_view g c past CommitStarted tt;
  asked = answer_view;
  publish = λ g c past v. silent_view g c past (Published v) tt;
  finish = λ g c past. silent_view g c past Finished tt;
  purge = λ g c past. silent_view g c past Purged tt;
  carried = λ g c past t n. silent_view g c past (Carried t n) tt;
  committing = λ g c past n. silent_view g c past (Committing n) tt;
  enough = enough;
}
