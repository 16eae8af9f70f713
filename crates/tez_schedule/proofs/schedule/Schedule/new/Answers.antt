use Rattle.std.proofs.Common.{◌≤◌, ◌∙◌, ap, subst, length}
use Rattle.std.proofs.lemmas.List.{length-replicate}
use Rattle.tez_schedule.proofs.PlanLemmas.{first_is_kept}
use Rattle.tez_schedule.proofs.schedule.Schedule.new.Goals as goal

pub invariant_of-result : goal.invariant_of-result
invariant_of-result c =
    let g = c.args.p.now in
    first_is_kept g c.args.c.now c.in_ok-planned_vertices.field-0.items c.in_ok-planned_edges.field-0.items c.in_ok-vec.field-0.items c.vertices.ensures.valid
    (subst (λ n. n ≤ 64) (ap length c.vertices.ensures.same) c.vertices.ensures.few)
    c.in_ok-planned_vertices.ensures c.in_ok-planned_edges.ensures (ap length (c.in_ok-vec.ensures.items_if_clones_equal (λ y e. e)) ∙ length-replicate (length c.vertices.result.now) 0 ∙ ap length c.vertices.ensures.same)
