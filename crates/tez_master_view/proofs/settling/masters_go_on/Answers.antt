use Rattle.tez_master_view.proofs.Lasting.{goes_event, goes_report, goes_answer}
use Rattle.tez_master_view.proofs.settling.masters_go_on.Goals as goal

pub returns : goal.returns
returns c = record {
  event = λ g k past e go on _ spends. goes_event g k past e go on spends;
  report = goes_report;
  asked = goes_answer;
}
