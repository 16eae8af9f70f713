use Rattle.std.proofs.Common.{◌≡◌, ℕ, ◌∙◌, ap, replicate}
use Rattle.tez_ids.specs.declared.VertexId.{VertexId}
use Rattle.tez_plan.specs.Dag.{source_of, vertex, tasks_of}
use Rattle.tez_schedule.specs.Planned.{planned_edge}
use Rattle.tez_schedule.proofs.PlanLemmas.{one_more}
use Rattle.tez_schedule.proofs.planned.planned_edges.Goals as goal

pub loop-e-preserved : goal.loop-e-preserved
loop-e-preserved c =
    let g = c.args.p.now in
    let source : c.ends.result.0 ≡ vertex (source_of g c.loop-e.e) = ap vertex c.ends.ensures.source in
    let is : c.in_ok-new.field-0 ≡ planned_edge g c.loop-e.e =
    c.in_ok-new.ensures
    ∙ ap (λ (n : ℕ). record { source = c.ends.result.0; made = replicate n 0 }) c.tasks_of.ensures.count
    ∙ ap (λ (u : VertexId). record { source = u; made = replicate (tasks_of g u.0) 0 }) source in
    one_more (planned_edge g) c.loop-e.e c.loop-e.edges.items c.push.new.self.items c.in_ok-new.field-0 c.loop-e.invariant is c.in_ok-push.ensures.items
