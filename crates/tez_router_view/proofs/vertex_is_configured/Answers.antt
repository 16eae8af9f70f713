use Rattle.tez_router_view.proofs.Told.{configured, stands_again}
use Rattle.tez_router_view.proofs.vertex_is_configured.Goals as goal

pub returns : goal.returns
returns c = record {
  can = λ g c past v m on fits. (configured g c past v m on fits).0;
  set = λ g c past v m on fits. (configured g c past v m on fits).1;
  can_again = λ g c past v n b m may fits. (stands_again g c past v n b m may fits).0;
  set_again = λ g c past v n b m may fits. (stands_again g c past v n b m may fits).1;
}
