use Rattle.tez_meaning.specs.Value.{lines_of}
use Rattle.tez_shares.specs.Shares.{share_of_lines}
use Rattle.tez_values.proofs.SameLemmas.{output-same}
use Rattle.tez_orders.specs.Outcomes.{reads_of}
use Rattle.tez_assembly.specs.Order.{order_for}
use Rattle.tez_values.proofs.SameLemmas.{first_bad-same}
use Rattle.tez_assembly.proofs.BagLemmas.{orders_same}
use Rattle.tez_assembly.proofs.order_of_bags.Goals as goal

pub returns-clause-value : goal.returns-clause-value
returns-clause-value c job tasks a place copy other s h =
    output-same s.head s.steps (reads_of (order_for job tasks a place copy s)) (reads_of (order_for job tasks a place other s)) (orders_same job.plan a.task.vertex.0 s (λ name. share_of_lines (lines_of job name) tasks a.task.index) copy other h)

pub returns-clause-bad : goal.returns-clause-bad
returns-clause-bad c job tasks a place copy other s h =
    first_bad-same s.head s.steps (reads_of (order_for job tasks a place copy s)) (reads_of (order_for job tasks a place other s)) (orders_same job.plan a.task.vertex.0 s (λ name. share_of_lines (lines_of job name) tasks a.task.index) copy other h)
