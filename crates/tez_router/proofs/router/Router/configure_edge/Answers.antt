use Rattle.std.proofs.Common.{◌≡◌, ◌∙◌, ◌<◌, true, false, length, sym, ap, subst}
use Rattle.std.specs.Prelude.{IsTrue, slice_get, Some}
use Rattle.tez_router.specs.State.{RouterState, routing_of}
use Rattle.tez_router.specs.Table.{after_set_edge, can_set_edge}
use Rattle.tez_router.specs.Edges.{AreNumberedFrom}
use Rattle.tez_router.specs.Configure.{is_at, rerouted}
use Rattle.tez_router.proofs.Configuring.{got, number_at, may_set, set_can, set_rest, skipped, skipped_can}
use Rattle.tez_router.proofs.router.Router.configure_edge.Goals as goal

pub set_edge-requires : goal.set_edge-requires
set_edge-requires c =
    let r = c.args.self.now in
    let l = c.index-link.result.now in
    let same = ap (λ (s : RouterState). s.links) c.self.view_is in
    let at : slice_get r.links c.args.e.0 ≡ Some l = subst (λ ls. slice_get ls c.args.e.0 ≡ Some l) same (got c.self.inside.links.items c.args.e.0 l (subst (λ ls. c.args.e.0 < length ls) (sym same) c.requires.there) c.index-link.ensures) in
    let number = number_at r.links c.args.e.0 l (subst (AreNumberedFrom 0) same c.self.invariant.numbered) at in
    let here : is_at c.args.v.0 l ≡ true = sym c.is_at.ensures ∙ c.if-is_at.true in
    subst (λ q. IsTrue (can_set_edge r c.args.e.0 q)) (sym c.rerouted-manager.ensures) (may_set r c.args.v.0 c.args.config c.args.e.0 l at here number c.requires.can)

pub returns-then-is_at-clause-can : goal.returns-then-is_at-clause-can
returns-then-is_at-clause-can c =
    let r = c.args.self.now in
    let l = c.index-link.result.now in
    let same = ap (λ (s : RouterState). s.links) c.self.view_is in
    let at : slice_get r.links c.args.e.0 ≡ Some l = subst (λ ls. slice_get ls c.args.e.0 ≡ Some l) same (got c.self.inside.links.items c.args.e.0 l (subst (λ ls. c.args.e.0 < length ls) (sym same) c.requires.there) c.index-link.ensures) in
    let number = number_at r.links c.args.e.0 l (subst (AreNumberedFrom 0) same c.self.invariant.numbered) at in
    let here : is_at c.args.v.0 l ≡ true = sym c.is_at.ensures ∙ c.if-is_at.true in
    let is : c.set_edge.new.self ≡ after_set_edge r c.args.e.0 (rerouted c.args.v.0 c.args.config l l.routing) = c.set_edge.ensures ∙ ap (after_set_edge r c.args.e.0) c.rerouted-manager.ensures in
    set_can r c.args.v.0 c.args.config c.args.e.0 l c.set_edge.new.self at here number is c.requires.can

pub returns-then-is_at-clause-rest : goal.returns-then-is_at-clause-rest
returns-then-is_at-clause-rest c =
    let r = c.args.self.now in
    let l = c.index-link.result.now in
    let same = ap (λ (s : RouterState). s.links) c.self.view_is in
    let at : slice_get r.links c.args.e.0 ≡ Some l = subst (λ ls. slice_get ls c.args.e.0 ≡ Some l) same (got c.self.inside.links.items c.args.e.0 l (subst (λ ls. c.args.e.0 < length ls) (sym same) c.requires.there) c.index-link.ensures) in
    let number = number_at r.links c.args.e.0 l (subst (AreNumberedFrom 0) same c.self.invariant.numbered) at in
    let here : is_at c.args.v.0 l ≡ true = sym c.is_at.ensures ∙ c.if-is_at.true in
    let is : c.set_edge.new.self ≡ after_set_edge r c.args.e.0 (rerouted c.args.v.0 c.args.config l l.routing) = c.set_edge.ensures ∙ ap (after_set_edge r c.args.e.0) c.rerouted-manager.ensures in
    set_rest r c.args.v.0 c.args.config c.args.e.0 l c.set_edge.new.self at here number is

pub returns-else-is_at-clause-can : goal.returns-else-is_at-clause-can
returns-else-is_at-clause-can c =
    let r = c.args.self.now in
    let l = c.index-link.result.now in
    let same = ap (λ (s : RouterState). s.links) c.self.view_is in
    let at : slice_get r.links c.args.e.0 ≡ Some l = subst (λ ls. slice_get ls c.args.e.0 ≡ Some l) same (got c.self.inside.links.items c.args.e.0 l (subst (λ ls. c.args.e.0 < length ls) (sym same) c.requires.there) c.index-link.ensures) in
    let away : is_at c.args.v.0 l ≡ false = sym c.is_at.ensures ∙ c.if-is_at.false in
    skipped_can r c.args.v.0 c.args.config c.args.e.0 l at away c.requires.can

pub returns-else-is_at-clause-rest : goal.returns-else-is_at-clause-rest
returns-else-is_at-clause-rest c =
    let r = c.args.self.now in
    let l = c.index-link.result.now in
    let same = ap (λ (s : RouterState). s.links) c.self.view_is in
    let at : slice_get r.links c.args.e.0 ≡ Some l = subst (λ ls. slice_get ls c.args.e.0 ≡ Some l) same (got c.self.inside.links.items c.args.e.0 l (subst (λ ls. c.args.e.0 < length ls) (sym same) c.requires.there) c.index-link.ensures) in
    let away : is_at c.args.v.0 l ≡ false = sym c.is_at.ensures ∙ c.if-is_at.false in
    ap (λ ls. Rattle.tez_router.specs.Configure.after_set_edges r ls) (skipped r c.args.v.0 c.args.config c.args.e.0 l at away)
