use Rattle.std.proofs.Common.{◌∙◌, List, sym, ap, subst}
use Rattle.tez_router.specs.State.{RouterState, AdmittedState}
use Rattle.tez_router.specs.Table.{after_fetched}
use Rattle.tez_router.specs.Order.{AreInOrder, IsOnly, IsNowhere}
use Rattle.std.specs.List.{AllByRecursion}
use Rattle.tez_router.specs.Edges.{AreInto}
use Rattle.tez_router.proofs.Into.{fetched_into}
use Rattle.tez_router.proofs.Ordered.{fetched_at, fetched_nowhere, fetched_order}
use Rattle.tez_router.proofs.router.Router.fetched.Goals as goal

pub invariant_of-self : goal.invariant_of-self
invariant_of-self c =
    let xs = c.self.inside.admitted.items in
    let only = subst (λ ys. IsOnly ys c.args.a c.in-Some.at) c.as_slice.ensures.value c.in-Some.ensures.some in
    let is = fetched_at c.args.a c.args.e.0 c.args.input xs c.in-Some.at c.index_mut.result.now c.fetch.new.self only c.index_mut.ensures.value c.fetch.ensures in
    record {
      few = c.self.invariant.few;
      numbered = c.self.invariant.numbered;
      into = subst (AllByRecursion (AreInto c.self.inside.links.items)) (sym is) (fetched_into c.self.inside.links.items c.args.a c.args.e.0 c.args.input xs c.self.invariant.into);
      ordered = subst AreInOrder (sym is) (fetched_order c.args.a c.args.e.0 c.args.input xs c.self.invariant.ordered);
    }

pub returns-in-Some : goal.returns-in-Some
returns-in-Some c =
    let xs = c.self.inside.admitted.items in
    let v : RouterState = record { links = c.self.inside.links.items; winners = c.self.inside.winners.items; admitted = xs } in
    let only = subst (λ ys. IsOnly ys c.args.a c.in-Some.at) c.as_slice.ensures.value c.in-Some.ensures.some in
    let is = fetched_at c.args.a c.args.e.0 c.args.input xs c.in-Some.at c.index_mut.result.now c.fetch.new.self only c.index_mut.ensures.value c.fetch.ensures in
    ap (λ (ys : List AdmittedState). record v { admitted = ys }) is ∙ ap (λ s. after_fetched s c.args.a c.args.e.0 c.args.input) c.self.view_is

pub returns-in_default : goal.returns-in_default
returns-in_default c =
    let xs = c.self.inside.admitted.items in
    let v : RouterState = record { links = c.self.inside.links.items; winners = c.self.inside.winners.items; admitted = xs } in
    let none = subst (λ ys. IsNowhere ys c.args.a) c.as_slice.ensures.value c.in_default.ensures.none in
    sym c.self.view_is ∙ ap (λ (ys : List AdmittedState). record v { admitted = ys }) (fetched_nowhere c.args.a c.args.e.0 c.args.input xs none) ∙ ap (λ s. after_fetched s c.args.a c.args.e.0 c.args.input) c.self.view_is
