use Rattle.std.specs.Prelude.{refl}
use Rattle.tez_router_view.proofs.ByEvent.{queue_leaves, fail_leaves, output_leaves, answer_leaves}
use Rattle.tez_router_view.proofs.others_leave_it.Goals as goal

pub returns : goal.returns
returns c = record {
  queue = queue_leaves;
  fail = fail_leaves;
  output = output_leaves;
  ready = λ g c past v. refl;
  commit = λ g c past. refl;
  asked = answer_leaves;
  publish = λ g c past v. refl;
  finish = λ g c past. refl;
  purge = λ g c past. refl;
  carried = λ g past t n. refl;
  committing = λ g past n. refl;
}
