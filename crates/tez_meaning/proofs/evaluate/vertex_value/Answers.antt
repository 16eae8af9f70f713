use Rattle.std.proofs.Common.{◌∙◌, get_or, refl, ap, subst}
use Rattle.tez_plan.specs.Dag.{Dag}
use Rattle.tez_plan.specs.Faults.{IsValid}
use Rattle.tez_meaning.specs.Known.{known_in}
use Rattle.tez_meaning.proofs.Loops.{at_number}
use Rattle.tez_meaning.proofs.JoinLemmas.{few_edges}
use Rattle.tez_meaning.proofs.WalkLemmas.{vertex_made, vertex_good, vertex_bad}
use Rattle.tez_meaning.proofs.evaluate.vertex_value.Goals as goal

pub reads_of-requires : goal.reads_of-requires
reads_of-requires c = few_edges c.args.job.now.plan (subst IsValid c.plan.ensures c.vertices.ensures.valid)

pub returns-in-Ok-evaluate-clause-value : goal.returns-in-Ok-evaluate-clause-value
returns-in-Ok-evaluate-clause-value c =
    let here = at_number c.args.job.now.plan.vertices c.args.v.0 c.index-vertices-v.result c.requires
    (c.index-vertices-v.is ∙ ap (λ vs. get_or vs c.args.v.0 c.index-vertices-v.result) (c.vertices.ensures.same ∙ ap (λ (p : Dag). p.vertices) c.plan.ensures)) in
    vertex_made c.args.job.now c.args.v.0 c.index-vertices-v.result (known_in c.args.values.now) c.index-vertices-v.result.head c.as_slice.result.now _ _ here refl c.as_slice.ensures c.in-Ok.ensures
    c.in-Ok-evaluate.ensures.value

pub returns-in-Ok-evaluate-clause-good : goal.returns-in-Ok-evaluate-clause-good
returns-in-Ok-evaluate-clause-good c =
    let here = at_number c.args.job.now.plan.vertices c.args.v.0 c.index-vertices-v.result c.requires
    (c.index-vertices-v.is ∙ ap (λ vs. get_or vs c.args.v.0 c.index-vertices-v.result) (c.vertices.ensures.same ∙ ap (λ (p : Dag). p.vertices) c.plan.ensures)) in
    vertex_good c.args.job.now c.args.v.0 c.index-vertices-v.result (known_in c.args.values.now) c.index-vertices-v.result.head c.as_slice.result.now _ here refl c.as_slice.ensures c.in-Ok.ensures
    c.in-Ok-evaluate.ensures.no_bad

pub returns-in-Err-BadRecord-clause-bad : goal.returns-in-Err-BadRecord-clause-bad
returns-in-Err-BadRecord-clause-bad c =
    let here = at_number c.args.job.now.plan.vertices c.args.v.0 c.index-vertices-v.result c.requires
    (c.index-vertices-v.is ∙ ap (λ vs. get_or vs c.args.v.0 c.index-vertices-v.result) (c.vertices.ensures.same ∙ ap (λ (p : Dag). p.vertices) c.plan.ensures)) in
    let due = rw c.in-Err-BadRecord.field-0-is at c.in-Err-BadRecord.ensures.bad in (
      refl,
      vertex_bad c.args.job.now c.args.v.0 c.index-vertices-v.result (known_in c.args.values.now) c.index-vertices-v.result.head c.as_slice.result.now _ _ here refl c.as_slice.ensures c.in-Ok.ensures due,
    )
