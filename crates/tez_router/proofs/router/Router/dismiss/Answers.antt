use Rattle.std.proofs.Common.{◌∙◌, List, not, sym, ap, subst}
use Rattle.tez_ids.specs.Same.{same_attempt}
use Rattle.tez_router.specs.State.{RouterState, AdmittedState}
use Rattle.tez_router.specs.Table.{after_dismiss}
use Rattle.tez_router.specs.Order.{AreInOrder, IsOnly, IsNowhere}
use Rattle.std.specs.List.{AllByRecursion}
use Rattle.tez_router.specs.Edges.{AreInto}
use Rattle.tez_router.proofs.Ordered.{all_filtered, only_removed, nowhere_kept, filtered_order}
use Rattle.tez_router.proofs.router.Router.dismiss.Goals as goal

pub invariant_of-self : goal.invariant_of-self
invariant_of-self c =
    let xs = c.self.inside.admitted.items in
    let only = subst (λ ys. IsOnly ys c.args.a c.in-Some.at) c.as_slice.ensures.value c.in-Some.ensures.some in
    record {
      few = c.self.invariant.few;
      numbered = c.self.invariant.numbered;
      into = subst (AllByRecursion (AreInto c.self.inside.links.items)) (sym (c.remove.ensures.items ∙ only_removed c.args.a xs c.in-Some.at only))
          (all_filtered (AreInto c.self.inside.links.items) (λ x. not (same_attempt x.attempt c.args.a)) xs c.self.invariant.into);
      ordered = subst AreInOrder (sym (c.remove.ensures.items ∙ only_removed c.args.a xs c.in-Some.at only)) (filtered_order (λ x. not (same_attempt x.attempt c.args.a)) xs c.self.invariant.ordered);
    }

pub returns-in-Some : goal.returns-in-Some
returns-in-Some c =
    let xs = c.self.inside.admitted.items in
    let v : RouterState = record { links = c.self.inside.links.items; winners = c.self.inside.winners.items; admitted = xs } in
    let only = subst (λ ys. IsOnly ys c.args.a c.in-Some.at) c.as_slice.ensures.value c.in-Some.ensures.some in
    ap (λ (ys : List AdmittedState). record v { admitted = ys }) (c.remove.ensures.items ∙ only_removed c.args.a xs c.in-Some.at only) ∙ ap (λ s. after_dismiss s c.args.a) c.self.view_is

pub returns-in_default : goal.returns-in_default
returns-in_default c =
    let xs = c.self.inside.admitted.items in
    let v : RouterState = record { links = c.self.inside.links.items; winners = c.self.inside.winners.items; admitted = xs } in
    let none = subst (λ ys. IsNowhere ys c.args.a) c.as_slice.ensures.value c.in_default.ensures.none in
    sym c.self.view_is ∙ ap (λ (ys : List AdmittedState). record v { admitted = ys }) (nowhere_kept c.args.a xs none) ∙ ap (λ s. after_dismiss s c.args.a) c.self.view_is
