use Rattle.tez_router_view.proofs.Opening.{opened_view}
use Rattle.tez_router_view.proofs.master_opens.Goals as goal

pub returns : goal.returns
returns c = record {
  can = λ g k past s m later is. (opened_view g k past s m later is).0;
  opened = λ g k past s m later is. (opened_view g k past s m later is).1;
}
