use Rattle.tez_pool_view.proofs.Committing.{none_holds, whole_new, whole_event, whole_report, whole_answer, whole_stop, whole_start, whole_run}
use Rattle.tez_pool_view.proofs.nobody_holds_a_place_in_the_commit.Goals as goal

pub returns : goal.returns
returns c = record {
  nobody = λ g c past m w u k. none_holds g c past m (w.committing u k);
  begins = whole_new;
  event = whole_event;
  report = whole_report;
  asked = λ g c past v there w h. whole_answer g past v there w;
  stop = whole_stop;
  start = whole_start;
  run = whole_run;
}
