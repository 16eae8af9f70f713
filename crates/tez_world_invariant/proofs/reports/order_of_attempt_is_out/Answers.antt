use Rattle.tez_world_invariant.proofs.EndsReports.{order_out, why_told, life_told}
use Rattle.tez_world_invariant.proofs.reports.order_of_attempt_is_out.Goals as goal

pub returns : goal.returns
returns c = record { order = order_out; why = why_told; life = life_told }
