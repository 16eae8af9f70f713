use Rattle.std.proofs.Common.{◌∷◌, [], ◌∙◌, ◌==◌, List, sym, ap, subst}
use Rattle.tez_router.specs.State.{AdmittedState, EdgeInputs}
use Rattle.tez_router.specs.Edges.{IsOneAt, IsNone}
use Rattle.tez_router.specs.Between.{over}
use Rattle.tez_router.proofs.Edges.{one_picked, none_picked}
use Rattle.tez_router.proofs.admitted.Admitted.over.Goals as goal

pub returns-in-Some-clause-some : goal.returns-in-Some-clause-some
returns-in-Some-clause-some c =
    let ys = c.self.inside.edges.items in
    let e = c.args.edge.0 in
    let one = subst (λ (zs : List EdgeInputs). IsOneAt (λ y. y.edge == e) zs c.in-Some.at) c.as_slice.ensures.value c.in-Some.ensures.some in
    sym (ap (λ (x : AdmittedState). over e x.edges) c.self.view_is) ∙ one_picked (λ y. y.edge == e) ys c.in-Some.at c.index.result.now one ∙ ap (λ (y : EdgeInputs). y ∷ []) (sym c.index.ensures)

pub returns-in-None-clause-none : goal.returns-in-None-clause-none
returns-in-None-clause-none c =
    let e = c.args.edge.0 in
    let none = subst (λ (zs : List EdgeInputs). IsNone (λ y. y.edge == e) zs) c.as_slice.ensures.value c.in-None.ensures.none in
    sym (ap (λ (x : AdmittedState). over e x.edges) c.self.view_is) ∙ none_picked (λ y. y.edge == e) c.self.inside.edges.items none
