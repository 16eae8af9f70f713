use Rattle.std.proofs.Common.{◌≡◌, ◌∙◌, ℕ, ◌<◌, false, length, get_or, subst, refl, ap, arith, Bool, length-set}
use Rattle.tez_ids.specs.declared.VertexId.{VertexId}
use Rattle.std.proofs.lemmas.List.{get_or-replicate}
use Rattle.tez_plan.specs.Graph.{waits_for}
use Rattle.tez_plan.proofs.StepLemmas.{waits_more}
use Rattle.tez_plan.proofs.order.mark_waiting.Goals as goal

pub loop-source-init : goal.loop-source-init
unfolding waits_for
loop-source-init c = λ v below.
    ap (λ xs. get_or xs v false) (c.fill.ensures.after (λ y e. e)) ∙ get_or-replicate (length c.args.waits.now) v false false (omega arith)

pub loop-source-preserved : goal.loop-source-preserved
loop-source-preserved c =
    let none : VertexId × VertexId = (record { 0 = 0 }, record { 0 = 0 }) in
    let inside = c.requires.inside c.loop-source.source-index none c.loop-source-test.true in
    let same : length c.loop-source.waits ≡ length c.args.out.now = c.loop-source.auto.waits ∙ c.fill.ensures.len ∙ c.requires.as_many in
    λ v below. waits_more c.args.ends.now c.args.out.now c.loop-source.waits c.loop-source.source-index none c.loop-source-test.true (omega (arith, inside.1)) c.loop-source.invariant v (omega (arith, length-set {A = Bool}))
