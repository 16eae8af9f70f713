use Rattle.std.proofs.Common.{arith}
use Rattle.tez_schedule.proofs.VertexLemmas.{open_sized, scheduled_kept}
use Rattle.tez_schedule.proofs.vertex.VertexSchedule.schedule.Goals as goal

pub set-requires-then-task-self : goal.set-requires-then-task-self
set-requires-then-task-self c = omega (arith, open_sized _ _ c.self.invariant)

pub invariant_of-self : goal.invariant_of-self
invariant_of-self c = rw (c.set.ensures, c.set-then-task-self.ensures) (scheduled_kept _ _ c.args.task c.self.invariant c.if-task-self.true)
