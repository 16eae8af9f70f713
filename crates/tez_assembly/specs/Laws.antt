-- What is said of orders.
--     IsFitting o                     the parts of an order fit together
--     task_reads job tasks a f s      what the task of an attempt reads, where its vertex has so many tasks and f gives what it has of each edge
--     SameBags copy other             the same bag of each edge
--     IsOutput m parts o              o is the number of an output over an edge of this movement
use Rattle.std.specs.Prelude.{◌≡◌, ℕ, ◌<◌, IsTrue}
use Rattle.tez_ids.specs.declared.AttemptId.{AttemptId}
use Rattle.tez_record.specs.Bag.{sort}
use Rattle.tez_plan.specs.declared.parts.VertexSpec.{VertexSpec}
use Rattle.tez_plan.specs.declared.parts.EdgeSpec.{EdgeSpec}
use Rattle.tez_plan.specs.declared.parts.Movement.{Movement}
use Rattle.tez_plan.specs.declared.parts.Movement.TheVariants.{OneToOne, Broadcast, ScatterGather}
use Rattle.tez_values.specs.Heads.{HeadInputs}
use Rattle.tez_meaning.specs.Jobs.{Job}
use Rattle.tez_meaning.specs.Value.{inputs, lines_of}
use Rattle.tez_shares.specs.Shares.{share_of_lines}
use Rattle.tez_orders.specs.Orders.{OrderParts}
use Rattle.tez_orders.specs.Fit.{is_order}
use Rattle.tez_assembly.specs.Order.{Records}

abbrev pub IsFitting : OrderParts → Type 0
IsFitting o = IsTrue (is_order o.program.head o.keys o.inputs o.outs)

abbrev pub task_reads : Job → ℕ → AttemptId → (EdgeSpec → Records) → VertexSpec → HeadInputs
task_reads job tasks a of_edge s = inputs job.plan a.task.vertex.0 s (λ name. share_of_lines (lines_of job name) tasks a.task.index) of_edge

abbrev pub SameBags : (ℕ → Records) → (ℕ → Records) → Type 0
SameBags copy other = (n : ℕ) → sort (copy n) ≡ sort (other n)

abbrev pub IsOutput : Movement → ℕ → ℕ → Type 0
IsOutput OneToOne parts o = o ≡ 0
IsOutput Broadcast parts o = o ≡ 0
IsOutput (ScatterGather keys) parts o = o < parts
