use Rattle.std.proofs.Common.{◌∙◌, sym}
use Rattle.tez_schedule.proofs.VertexLemmas.{next_is}
use Rattle.tez_schedule.proofs.vertex.VertexSchedule.next_task.Goals as goal

pub returns-then-has_more : goal.returns-then-has_more
returns-then-has_more c = next_is _ _ _ c.args.most c.least.result c.self.view_is c.self.invariant c.least.ensures (sym c.has_more.ensures ∙ c.if-has_more.true)
