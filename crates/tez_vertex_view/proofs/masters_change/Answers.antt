use Rattle.std.specs.Prelude.{refl}
use Rattle.tez_vertex_view.proofs.Opening.{stopped_step, opened_step, taken_up_step}
use Rattle.tez_vertex_view.proofs.masters_change.Goals as goal

pub returns : goal.returns
returns c = record {
  begins = λ g c. refl;
  stop = stopped_step;
  over = λ g c r. refl;
  start = opened_step;
  taken_up = taken_up_step;
}
