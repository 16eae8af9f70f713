-- An order reads what the attempt copied, and makes what the attempt makes.
use Rattle.std.specs.Prelude.{◌≡◌, ℕ, Some, is_some}
use Rattle.tez_ids.specs.declared.AttemptId.{AttemptId}
use Rattle.tez_plan.specs.Faults.{IsValid}
use Rattle.tez_conf.specs.declared.values.ConfValues.{ConfValues}
use Rattle.tez_values.proofs.SameLemmas.{output-same}
use Rattle.tez_history.specs.History.{Past, Runs, stage}
use Rattle.tez_history.specs.Derived.{task_count}
use Rattle.tez_history.specs.Follows.{IsMade}
use Rattle.tez_orders.specs.Orders.{OrderParts}
use Rattle.tez_orders.specs.Outcomes.{value_of, bad_of, reads_of}
use Rattle.tez_meaning.specs.Jobs.{Job}
use Rattle.tez_meaning.specs.Value.{lines_of}
use Rattle.tez_shares.specs.Shares.{share_of_lines}
use Rattle.tez_contents.specs.Contents.{made, met_bad, fetched_over}
use Rattle.tez_assembly.specs.Order.{order_for}
use Rattle.tez_assembly.proofs.EdgeLemmas.{number_same}
use Rattle.tez_assembly.proofs.ReadLemmas.{reads_are}
use Rattle.tez_values.proofs.SameLemmas.{first_bad-same}
use Rattle.tez_assembly.proofs.BagLemmas.{orders_same}
use Rattle.tez_work_view.specs.Holdings.{order_view}
use Rattle.tez_work_view.proofs.OrderLemmas.{OrdersRead, order_is_right}

orders_read : (job : Job) → IsValid job.plan → OrdersRead job
orders_read job valid = record {
  numbers = λ e h. number_same job.plan e valid h;
  reads = λ past a p copy taken s here agrees.
      reads_are job.plan a.task.vertex.0 s (λ name. share_of_lines (lines_of job name) (task_count job.plan a.task.vertex.0 past) a.task.index) (fetched_over job past a.task.index taken) copy valid here agrees;
  value = λ tasks a p copy other s same.
      output-same s.head s.steps (reads_of (order_for job tasks a p copy s)) (reads_of (order_for job tasks a p other s)) (orders_same job.plan a.task.vertex.0 s (λ name. share_of_lines (lines_of job name) tasks a.task.index) copy other same);
  bad = λ tasks a p copy other s same.
      first_bad-same s.head s.steps (reads_of (order_for job tasks a p copy s)) (reads_of (order_for job tasks a p other s)) (orders_same job.plan a.task.vertex.0 s (λ name. share_of_lines (lines_of job name) tasks a.task.index) copy other same);
}

pub order_value : (job : Job) (c : ConfValues) (past : Past) (a : AttemptId) (p : ℕ) (o : OrderParts) → IsValid job.plan → IsMade job.plan c past → stage a past ≡ Runs p → order_view job past a p ≡ Some o → value_of o ≡ made job a past
order_value job c past a p o valid m runs is = (order_is_right job c past a p o (orders_read job valid) m runs is).0

pub order_bad : (job : Job) (c : ConfValues) (past : Past) (a : AttemptId) (p : ℕ) (o : OrderParts) → IsValid job.plan → IsMade job.plan c past → stage a past ≡ Runs p → order_view job past a p ≡ Some o → is_some (bad_of o) ≡ met_bad job a past
order_bad job c past a p o valid m runs is = (order_is_right job c past a p o (orders_read job valid) m runs is).1
