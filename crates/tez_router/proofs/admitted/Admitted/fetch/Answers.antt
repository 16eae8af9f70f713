use Rattle.std.proofs.Common.{◌≤◌, ◌∙◌, ◌==◌, List, map, sym, ap, subst}
use Rattle.std.proofs.lemmas.List.{length-map}
use Rattle.tez_router.specs.State.{AdmittedState, EdgeInputs}
use Rattle.tez_router.specs.Table.{fetch_over}
use Rattle.tez_router.specs.Edges.{AreInputs, IsOneAt, IsNone}
use Rattle.tez_router.proofs.Edges.{edge_fetched_at, edge_fetched_nowhere, fetched_by_edge}
use Rattle.tez_router.proofs.admitted.Admitted.fetch.Goals as goal

pub invariant_of-self : goal.invariant_of-self
invariant_of-self c =
    let ys = c.self.inside.edges.items in
    let e = c.args.edge.0 in
    let one = subst (λ (zs : List EdgeInputs). IsOneAt (λ y. y.edge == e) zs c.in-Some.at) c.as_slice.ensures.value c.in-Some.ensures.some in
    let is = edge_fetched_at e c.args.input ys c.in-Some.at c.index_mut.result.now c.fetch.new.self one c.index_mut.ensures.value c.fetch.ensures in
    subst AreInputs (sym is) (record {
      few = subst (λ n. n ≤ 256) (sym (length-map ys (fetch_over e c.args.input))) c.self.invariant.few;
      ordered = fetched_by_edge e c.args.input ys c.self.invariant.ordered;
    })

pub returns-in-Some : goal.returns-in-Some
returns-in-Some c =
    let ys = c.self.inside.edges.items in
    let e = c.args.edge.0 in
    let v : AdmittedState = record { attempt = c.self.inside.attempt; edges = ys } in
    let one = subst (λ (zs : List EdgeInputs). IsOneAt (λ y. y.edge == e) zs c.in-Some.at) c.as_slice.ensures.value c.in-Some.ensures.some in
    let is = edge_fetched_at e c.args.input ys c.in-Some.at c.index_mut.result.now c.fetch.new.self one c.index_mut.ensures.value c.fetch.ensures in
    ap (λ (zs : List EdgeInputs). record v { edges = zs }) is ∙ ap (λ (x : AdmittedState). record x { edges = map (fetch_over e c.args.input) x.edges }) c.self.view_is

pub returns-in_default : goal.returns-in_default
returns-in_default c =
    let ys = c.self.inside.edges.items in
    let e = c.args.edge.0 in
    let v : AdmittedState = record { attempt = c.self.inside.attempt; edges = ys } in
    let none = subst (λ (zs : List EdgeInputs). IsNone (λ y. y.edge == e) zs) c.as_slice.ensures.value c.in_default.ensures.none in
    sym c.self.view_is ∙ ap (λ (zs : List EdgeInputs). record v { edges = zs }) (edge_fetched_nowhere e c.args.input ys none)
    ∙ ap (λ (x : AdmittedState). record x { edges = map (fetch_over e c.args.input) x.edges }) c.self.view_is
