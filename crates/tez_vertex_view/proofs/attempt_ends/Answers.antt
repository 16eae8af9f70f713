use Rattle.tez_vertex_view.proofs.Stepping.{done_step, fail_step, preempt_step}
use Rattle.tez_vertex_view.proofs.attempt_ends.Goals as goal

pub returns : goal.returns
returns c = record {
  report = done_step;
  fail = fail_step;
  preempt = preempt_step;
}
