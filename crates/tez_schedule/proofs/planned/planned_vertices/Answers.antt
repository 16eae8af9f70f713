use Rattle.tez_schedule.specs.Planned.{planned_vertex}
use Rattle.tez_schedule.proofs.PlanLemmas.{one_more}
use Rattle.tez_schedule.proofs.planned.planned_vertices.Goals as goal

pub loop-v-preserved : goal.loop-v-preserved
loop-v-preserved c =
    one_more (planned_vertex c.args.p.now c.args.c.now) c.loop-v.v c.loop-v.vertices.items c.push.new.self.items c.in_ok-planned_vertex.field-0 c.loop-v.invariant c.in_ok-planned_vertex.ensures c.in_ok-push.ensures.items
