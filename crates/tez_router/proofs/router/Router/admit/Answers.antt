use Rattle.std.proofs.Common.{◌≡◌, ◌∙◌, List, sym, ap, subst}
use Rattle.tez_router.specs.State.{LinkState}
use Rattle.tez_router.specs.Table.{blank}
use Rattle.tez_router.specs.Edges.{AreInto}
use Rattle.tez_router.proofs.Into.{blank_into}
use Rattle.tez_router.proofs.router.Router.admit.Goals as goal

pub invariant_of-self : goal.invariant_of-self
invariant_of-self c =
    let links = c.self.inside.links.items in
    let is : c.in_ok-x.x ≡ blank links c.args.a = c.in_ok-x.ensures ∙ ap (λ (ls : List LinkState). blank ls c.args.a) c.as_slice.ensures.value in
    record {
      few = c.self.invariant.few;
      numbered = c.self.invariant.numbered;
      ordered = c.put.ensures.order;
      into = c.put.ensures.into links (subst (AreInto links) (sym is) (blank_into links c.args.a c.self.invariant.numbered)) c.self.invariant.into;
    }
