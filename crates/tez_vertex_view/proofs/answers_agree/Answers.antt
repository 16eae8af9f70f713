use Rattle.tez_vertex_view.proofs.Answering.{queue_answer, place_answer, send_answer, report_answer, spent_answer, fail_answer, kill_answer, lose_answer}
use Rattle.tez_vertex_view.proofs.answers_agree.Goals as goal

pub returns : goal.returns
returns c = record {
  queue = queue_answer;
  place = place_answer;
  send = send_answer;
  report = report_answer;
  spent = spent_answer;
  fail = fail_answer;
  kill = kill_answer;
  lose = lose_answer;
}
