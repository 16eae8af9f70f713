use Rattle.std.specs.Prelude.{refl}
use Rattle.tez_vertex_view.proofs.Configuring.{failed_event, failed_report, failed_answer}
use Rattle.tez_vertex_view.proofs.Opening.{failed_start}
use Rattle.tez_vertex_view.proofs.failed_are_tasks.Goals as goal

pub returns : goal.returns
returns c = record {
  begins = λ g u t a. refl;
  event = failed_event;
  report = failed_report;
  asked = λ g c past v there f h. failed_answer g past v there f;
  stop = λ g c r cause u t a. cc;
  start = failed_start;
}
