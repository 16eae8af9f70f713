use Rattle.std.proofs.Common.{◌∙◌, ◌==◌, ap, sym, false, Option}
use Rattle.std.specs.Option.{option_map, option_map_or}
use Rattle.tez_ids.specs.declared.VertexId.{VertexId}
use Rattle.tez_core.proofs.parts.Core.is_next.Goals as goal

pub returns-in-Some : goal.returns-in-Some
returns-in-Some c =
    let v = c.args.v.0 in
    let found = ap (λ (o : Option VertexId). option_map_or (λ w. w == v) (option_map (λ u. u.0) o) false) (sym c.in-Some.is) in
    c.eq.ensures ∙ found ∙ ap (λ o. option_map_or (λ w. w == v) o false) c.next_sink.ensures

pub returns-in-None : goal.returns-in-None
returns-in-None c =
    let v = c.args.v.0 in
    let found = ap (λ (o : Option VertexId). option_map_or (λ w. w == v) (option_map (λ u. u.0) o) false) (sym c.in-None.is) in
    found ∙ ap (λ o. option_map_or (λ w. w == v) o false) c.next_sink.ensures
