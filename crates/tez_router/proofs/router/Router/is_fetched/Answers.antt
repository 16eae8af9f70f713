use Rattle.std.proofs.Common.{◌∙◌, sym, ap, subst}
use Rattle.std.specs.List.{list_any}
use Rattle.tez_router.specs.State.{AdmittedState}
use Rattle.tez_router.specs.Table.{fetched_in, has_over}
use Rattle.tez_router.specs.Order.{IsOnly, IsNowhere}
use Rattle.tez_router.proofs.Ordered.{only_any, nowhere_any}
use Rattle.tez_router.proofs.router.Router.is_fetched.Goals as goal

pub returns-in-Some : goal.returns-in-Some
returns-in-Some c =
    let xs = c.self.inside.admitted.items in
    let only = subst (λ ys. IsOnly ys c.args.a c.in-Some.at) c.as_slice.ensures.value c.in-Some.ensures.some in
    c.has.ensures ∙ ap (λ (x : AdmittedState). list_any (has_over c.args.e.0 c.args.input) x.edges) c.index.ensures
    ∙ sym (only_any c.args.a (λ x. list_any (has_over c.args.e.0 c.args.input) x.edges) xs c.in-Some.at c.index.result.now only) ∙ ap (λ s. fetched_in s c.args.a c.args.e.0 c.args.input) c.self.view_is

pub returns-in-None : goal.returns-in-None
returns-in-None c =
    let none = subst (λ ys. IsNowhere ys c.args.a) c.as_slice.ensures.value c.in-None.ensures.none in
    sym (nowhere_any c.args.a (λ x. list_any (has_over c.args.e.0 c.args.input) x.edges) c.self.inside.admitted.items none) ∙ ap (λ s. fetched_in s c.args.a c.args.e.0 c.args.input) c.self.view_is
