use Rattle.std.proofs.Common.{◌≡◌, ◌∙◌, sym, ap, subst}
use Rattle.std.specs.List.{list_all}
use Rattle.tez_router.specs.State.{RouterState}
use Rattle.tez_router.specs.Configure.{may_reroute}
use Rattle.tez_router.specs.Edges.{AreNumberedFrom}
use Rattle.tez_router.proofs.MayConfigure.{can}
use Rattle.tez_router.proofs.router.Router.can_configure.Goals as goal

pub returns-then-has_numbers-clause-can : goal.returns-then-has_numbers-clause-can
returns-then-has_numbers-clause-can c h =
    let r = c.args.self.now in
    let same = ap (λ (s : RouterState). s.links) c.self.view_is in
    can r c.args.v.0 c.args.config (subst (AreNumberedFrom 0) same c.self.invariant.numbered) (sym c.has_numbers.ensures ∙ c.if-has_numbers.true)
    (ap (list_all (may_reroute r c.args.v.0 c.args.config)) (sym (c.as_slice.ensures.value ∙ same)) ∙ sym c.may_reroute_all.ensures ∙ h)
