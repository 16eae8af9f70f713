use Rattle.std.proofs.Common.{◌∙◌, ◌==◌, List, Bool, false, sym, ap, subst}
use Rattle.std.specs.Prelude.{slice_get, unwrap_or}
use Rattle.std.specs.List.{list_any}
use Rattle.tez_router.specs.State.{AdmittedState, EdgeInputs}
use Rattle.tez_router.specs.Table.{has_over}
use Rattle.tez_router.specs.Edges.{IsOneAt, IsNone}
use Rattle.tez_router.proofs.Edges.{one_any, none_any}
use Rattle.tez_router.proofs.admitted.Admitted.has.Goals as goal

pub returns-in-Some : goal.returns-in-Some
returns-in-Some c =
    let ys = c.self.inside.edges.items in
    let e = c.args.edge.0 in
    let one = subst (λ (zs : List EdgeInputs). IsOneAt (λ y. y.edge == e) zs c.in-Some.at) c.as_slice.ensures.value c.in-Some.ensures.some in
    c.is_set.ensures ∙ ap (λ (fs : List Bool). unwrap_or (slice_get fs c.args.input) false) (c.fetched.ensures ∙ ap (λ (y : EdgeInputs). y.fetched) c.index.ensures)
    ∙ sym (one_any (λ y. y.edge == e) (λ y. unwrap_or (slice_get y.fetched c.args.input) false) ys c.in-Some.at c.index.result.now one)
    ∙ ap (λ (x : AdmittedState). list_any (has_over e c.args.input) x.edges) c.self.view_is

pub returns-in-None : goal.returns-in-None
returns-in-None c =
    let e = c.args.edge.0 in
    let none = subst (λ (zs : List EdgeInputs). IsNone (λ y. y.edge == e) zs) c.as_slice.ensures.value c.in-None.ensures.none in
    sym (none_any (λ y. y.edge == e) (λ y. unwrap_or (slice_get y.fetched c.args.input) false) c.self.inside.edges.items none)
    ∙ ap (λ (x : AdmittedState). list_any (has_over e c.args.input) x.edges) c.self.view_is
