use Rattle.std.proofs.Common.{◌≡◌, ◌∙◌, ◌<◌, ap, subst}
use Rattle.tez_router.specs.State.{routing_of, table_for}
use Rattle.tez_router.specs.Table.{inputs_in}
use Rattle.tez_router.proofs.Spans.{gather_span}
use Rattle.tez_router.proofs.link.span_of.Goals as goal

pub returns-then-source-m : goal.returns-then-source-m
returns-then-source-m c i below leads =
    let m = c.in-ScatterGather.m in
    let e = ap routing_of c.in-ScatterGather.is in
    gather_span m.sources m.parts m.base c.args.consumer c.inputs_of-inputs.result i c.args.source m.some
    (c.inputs_of-inputs.ensures ∙ ap (λ q. inputs_in q c.args.consumer) e) (subst (λ q. i < inputs_in q c.args.consumer) e below) (subst (λ q. ((table_for q).leads c.args.consumer i).0 ≡ c.args.source) e leads)
