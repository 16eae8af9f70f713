use Rattle.std.proofs.Common.{◌∙◌, ap, subst}
use Rattle.tez_router.specs.Table.{missing_in, missing_of}
use Rattle.tez_router.specs.Order.{IsOnly, IsNowhere}
use Rattle.tez_router.proofs.Ordered.{missing_at, missing_nowhere}
use Rattle.tez_router.proofs.router.Router.missing.Goals as goal

pub returns-in-Some : goal.returns-in-Some
returns-in-Some c =
    let xs = c.self.inside.admitted.items in
    let only = subst (λ ys. IsOnly ys c.args.a c.in-Some.at) c.as_slice.ensures.value c.in-Some.ensures.some in
    c.missing.ensures ∙ ap missing_of c.index.ensures ∙ missing_at c.args.a xs c.in-Some.at c.index.result.now only ∙ ap (λ s. missing_in s c.args.a) c.self.view_is

pub returns-in-None : goal.returns-in-None
returns-in-None c =
    let none = subst (λ ys. IsNowhere ys c.args.a) c.as_slice.ensures.value c.in-None.ensures.none in
    missing_nowhere c.args.a c.self.inside.admitted.items none ∙ ap (λ s. missing_in s c.args.a) c.self.view_is
