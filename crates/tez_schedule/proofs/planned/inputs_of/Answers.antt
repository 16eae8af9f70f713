use Rattle.std.proofs.Common.{◌≡◌, ◌+◌, ◌<◌, ◌∙◌, ap, sym, arith, refl, length, map, Vec, Global}
use Rattle.std.proofs.lemmas.List.{length-append}
use Rattle.tez_schedule.specs.declared.input.Input.{Input}
use Rattle.tez_schedule.specs.Planned.{input_of}
use Rattle.tez_schedule.proofs.PlanLemmas.{input_more, inputs_are, passing_no, passing, feeds}
use Rattle.tez_schedule.proofs.planned.inputs_of.Goals.{then-feeds+in_ok-push, else-feeds}
use Rattle.tez_schedule.proofs.planned.inputs_of.Goals as goal

pub loop-e-preserved : goal.loop-e-preserved
loop-e-preserved c =
    let g = c.args.p.now in
    let v = c.args.v.0 in
    let e = c.loop-e.e in
    let inv = c.loop-e.invariant in
    let inside : e < length g.edges = omega (arith, c.edge_count-e-end.ensures.count, c.loop-e-test.true) in
    elim c.if-feeds.branch [
      | then-feeds+in_ok-push w ↦
          let now : w.push.new.self.items ≡ map (input_of g) (passing (feeds g v) 0 (e + 1) g.edges) =
          input_more g v e c.loop-e.inputs.items w.push.new.self.items _ inside inv.inputs (sym c.feeds.ensures ∙ w.if-feeds.true) refl w.ends.ensures.source w.in_ok-push.ensures.items in
          let more = ap length w.in_ok-push.ensures.items ∙ length-append c.loop-e.inputs.items _ in
          let items = ap (λ (xs : Vec Input Global). xs.items) w.inputs-is in
          let few = inv.few in
          record { inputs = items ∙ now; few = omega (arith, ap length items, more) }
      | else-feeds w ↦
          let items = ap (λ (xs : Vec Input Global). xs.items) w.inputs-is in
          let few = inv.few in
          record {
            inputs = items ∙ inv.inputs ∙ sym (ap (map (input_of g)) (passing_no (feeds g v) g.edges e inside (sym c.feeds.ensures ∙ w.if-feeds.false)));
            few = omega (arith, ap length items);
          }
    ]

pub returns-clause-inputs : goal.returns-clause-inputs
returns-clause-inputs c =
    let all : c.loop-e.e ≡ length c.args.p.now.edges = omega (arith, c.edge_count-e-end.ensures.count, c.loop-e.auto.e-end, c.loop-e-test.false) in
    inputs_are c.args.p.now c.args.v.0 c.loop-e.e c.loop-e.inputs.items all c.loop-e.invariant.inputs
