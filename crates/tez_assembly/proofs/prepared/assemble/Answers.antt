use Rattle.std.proofs.Common.{◌≡◌, ◌∙◌, ◌<◌, ◌≤◌, ◌++◌, length, sym, ap, subst, arith, rules, get_or, slice_get, Some, None}
use Rattle.std.specs.List.{AllByRecursion}
use Rattle.tez_plan.specs.declared.parts.VertexSpec.{VertexSpec}
use Rattle.tez_plan.specs.Dag.{Dag}
use Rattle.tez_plan.specs.Faults.{IsValid}
use Rattle.tez_plan.specs.Ranges.{IsInRanges}
use Rattle.tez_meaning.proofs.Loops.{at_number}
use Rattle.tez_meaning.proofs.JoinLemmas.{few_edges}
use Rattle.tez_assembly.specs.Order.{order_for}
use Rattle.tez_assembly.specs.Laws.{IsFitting}
use Rattle.tez_assembly.specs.Filling.{parts_in, side_in}
use Rattle.tez_assembly.proofs.FitLemmas.{orders_fit}
use Rattle.tez_assembly.proofs.FillLemmas.{copy_in, gathered_is, all_inside, few_gathered, order_made}
use Rattle.tez_assembly.proofs.prepared.assemble.Goals as goal

pub prepare-requires-clause-edges : goal.prepare-requires-clause-edges
prepare-requires-clause-edges c = few_edges c.args.job.now.plan (subst IsValid c.plan-plan.ensures c.vertices.ensures.valid)

pub prepare-requires-clause-few : goal.prepare-requires-clause-few
prepare-requires-clause-few c =
    let g = c.args.job.now.plan in
    let few = few_edges g (subst IsValid c.plan-plan.ensures c.vertices.ensures.valid) in
    let most = few_gathered g c.args.a.task.vertex.0 c.args.gathered.items c.requires.gathered in
    let same : c.len.result ≡ length c.args.gathered.items = search rules in
    omega arith

pub filled-inputs-requires-clause-edges : goal.filled-inputs-requires-clause-edges
filled-inputs-requires-clause-edges c =
    subst (λ (p : Dag). AllByRecursion (λ part. part.0.0 < length p.edges) c.args.gathered.items) (sym c.plan-plan.ensures) (all_inside c.args.job.now.plan c.args.a.task.vertex.0 c.args.gathered.items c.requires.gathered)

pub new-requires : goal.new-requires
new-requires c =
    let job = c.args.job.now in
    let v = c.args.a.task.vertex.0 in
    let x = c.index-vertices-a.result in
    let copy = copy_in c.args.gathered.items in
    let valid = subst IsValid c.plan-plan.ensures c.vertices.ensures.valid in
    let ranges = subst IsInRanges c.plan-plan.ensures c.vertices.ensures.in_ranges in
    let same = c.vertices.ensures.same ∙ ap (λ (p : Dag). p.vertices) c.plan-plan.ensures in
    let here : slice_get job.plan.vertices v ≡ Some x = at_number job.plan.vertices v x c.requires.vertex (c.index-vertices-a.is ∙ ap (λ (vs : _). get_or vs v x) same) in
    let p = c.in-Ok.prepared in
    let made = order_made job c.args.tasks c.args.a c.args.place x copy c.args.gathered.items valid here (gathered_is job.plan v c.args.gathered.items c.requires.gathered)
    p.program p.keys.items p.primary.items c.filled-inputs.result p.outs.items c.in-Ok.ensures.program c.in-Ok.ensures.keys c.in-Ok.ensures.primary
    (c.filled-inputs.ensures.primary ∙ ap (λ (g : Dag). p.primary.items ++ parts_in g c.args.gathered.items) c.plan-plan.ensures)
    (c.filled-inputs.ensures.side ∙ ap (λ (g : Dag). side_in g None c.args.gathered.items) c.plan-plan.ensures)
    c.in-Ok.ensures.outs in
    subst IsFitting (sym made) (orders_fit job c.args.tasks c.args.a c.args.place copy x ranges valid here)

pub returns-clause-order : goal.returns-clause-order
returns-clause-order c s copy at gather =
    let job = c.args.job.now in
    let v = c.args.a.task.vertex.0 in
    let x = c.index-vertices-a.result in
    let valid = subst IsValid c.plan-plan.ensures c.vertices.ensures.valid in
    let same = c.vertices.ensures.same ∙ ap (λ (p : Dag). p.vertices) c.plan-plan.ensures in
    let here : slice_get job.plan.vertices v ≡ Some x = at_number job.plan.vertices v x c.requires.vertex (c.index-vertices-a.is ∙ ap (λ (vs : _). get_or vs v x) same) in
    let is : x ≡ s = (let both_are : Some x ≡ Some s = sym here ∙ at in cc) in
    let p = c.in-Ok.prepared in
    c.new.ensures
    ∙ order_made job c.args.tasks c.args.a c.args.place x copy c.args.gathered.items valid here gather
    p.program p.keys.items p.primary.items c.filled-inputs.result p.outs.items c.in-Ok.ensures.program c.in-Ok.ensures.keys c.in-Ok.ensures.primary
    (c.filled-inputs.ensures.primary ∙ ap (λ (g : Dag). p.primary.items ++ parts_in g c.args.gathered.items) c.plan-plan.ensures)
    (c.filled-inputs.ensures.side ∙ ap (λ (g : Dag). side_in g None c.args.gathered.items) c.plan-plan.ensures)
    c.in-Ok.ensures.outs
    ∙ ap (order_for job c.args.tasks c.args.a c.args.place copy) is
