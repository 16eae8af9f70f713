use Rattle.std.proofs.Common.{◌≡◌, ◌∙◌, ◌<◌, length, sym, ap, subst, arith, get_or}
use Rattle.std.proofs.lemmas.List.FromFn.{length-map-range_with_len, get_or-map-range_with_len}
use Rattle.tez_plan.specs.Kept.{IsKept}
use Rattle.tez_plan.specs.Order.{depth}
use Rattle.tez_plan.proofs.plan.depth.Goals as goal

pub index-requires : goal.index-requires
index-requires c =
    let p = c.args.p.now in
    let kept = subst (λ q. IsKept q c.p.inside.order.items c.p.inside.depths.items) c.p.view_is c.p.invariant in
    let long : length c.p.inside.depths.items ≡ length p.vertices = ap length kept.depths_are ∙ length-map-range_with_len (depth p) 0 (length p.vertices) in
    omega (arith, c.p.inside.depths.ok)

pub returns : goal.returns
returns c =
    let p = c.args.p.now in
    let kept = subst (λ q. IsKept q c.p.inside.order.items c.p.inside.depths.items) c.p.view_is c.p.invariant in
    c.index.ensures ∙ ap (λ ds. get_or ds c.args.v.0 c.index.result.now) kept.depths_are ∙ get_or-map-range_with_len (depth p) 0 (length p.vertices) c.args.v.0 c.args.v.0 c.index.result.now c.requires (omega arith)
