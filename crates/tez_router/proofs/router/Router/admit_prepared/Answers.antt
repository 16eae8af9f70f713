use Rattle.std.proofs.Common.{◌≡◌, ◌∙◌, sym, ap, subst}
use Rattle.tez_router.specs.State.{RouterState}
use Rattle.tez_router.specs.Admission.{AdmissionState}
use Rattle.tez_router.specs.Table.{blank}
use Rattle.tez_router.specs.Edges.{AreInto}
use Rattle.tez_router.proofs.Into.{blank_into}
use Rattle.tez_router.proofs.router.Router.admit_prepared.Goals as goal

pub invariant_of-self : goal.invariant_of-self
invariant_of-self c =
    let links = c.self.inside.links.items in
    let a = c.args.x.blank.attempt in
    let is : c.x.inside.blank ≡ blank links a = ap (λ (y : AdmissionState). y.blank) c.x.view_is ∙ c.requires.inputs ∙ ap (λ (s : RouterState). blank s.links a) (sym c.self.view_is) in
    record {
      few = c.self.invariant.few;
      numbered = c.self.invariant.numbered;
      ordered = c.put_within.ensures.order;
      into = c.put_within.ensures.into links (subst (AreInto links) (sym is) (blank_into links a c.self.invariant.numbered)) c.self.invariant.into;
    }
