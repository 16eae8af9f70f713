use Rattle.tez_schedule_view.proofs.Changing.{stands_view}
use Rattle.tez_schedule_view.proofs.ByEvent.{configure_view}
use Rattle.tez_schedule_view.proofs.vertex_is_configured.Goals as goal

pub returns : goal.returns
returns c = record {
  now = configure_view;
  again = λ g c past v n b m may fits. stands_view g c past v n b (may, m) fits;
}
