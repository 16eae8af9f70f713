use Rattle.std.proofs.Common.{◌≡◌, ◌∙◌, ℕ, ◌<◌, false, length, get_or, subst, refl, ap, arith, length-set}
use Rattle.tez_ids.specs.declared.VertexId.{VertexId}
use Rattle.std.proofs.lemmas.List.{get_or-replicate}
use Rattle.tez_plan.specs.Graph.{longest_into}
use Rattle.tez_plan.proofs.StepLemmas.{longest_more}
use Rattle.tez_plan.proofs.order.lengthen.Goals as goal

pub loop-source-init : goal.loop-source-init
unfolding longest_into
loop-source-init c = λ v below.
    ap (λ xs. get_or xs v 0) (c.fill.ensures.after (λ y e. e)) ∙ get_or-replicate (length c.args.longer.now) v 0 0 (omega arith)

pub loop-source-preserved : goal.loop-source-preserved
loop-source-preserved c =
    let none : VertexId × VertexId = (record { 0 = 0 }, record { 0 = 0 }) in
    let inside = c.requires.inside c.loop-source.source-index none c.loop-source-test.true in
    let same : length c.loop-source.longer ≡ length c.args.known.now = c.loop-source.auto.longer ∙ c.fill.ensures.len ∙ c.requires.as_many in
    λ v below. longest_more c.args.ends.now c.args.known.now c.loop-source.longer c.loop-source.source-index c.max.result none c.loop-source-test.true (omega (arith, inside.1)) c.max.ensures c.loop-source.invariant v (omega (arith, length-set {A = ℕ}))
