use Rattle.std.specs.Prelude.{◌<◌, ◌≤◌, ◌+◌, length, slice_get}
use Rattle.std.proofs.Common.{ap, sym, ◌∙◌, arith}
use Rattle.tez_core.proofs.NextSink.{sinks_on, at_start, reached, skipped, passed, none_left}
use Rattle.tez_core.proofs.sinks.nth_sink.Goals.{then-has_sink+else-left-eq0, else-has_sink}
use Rattle.tez_core.proofs.sinks.nth_sink.Goals as goal

pub loop-v-init : goal.loop-v-init
loop-v-init c = at_start c.args.p.now c.args.number

pub returns-then-left-eq0 : goal.returns-then-left-eq0
returns-then-left-eq0 c =
    let p = c.args.p.now in
    let v = c.loop-v.v in
    let low : v < length p.vertices = omega (arith, c.loop-v-test.true, ap length c.vertices.ensures.same) in
    let has = sym c.has_sink.ensures ∙ c.if-has_sink.true in
    reached p v c.loop-v.left c.args.number low has c.if-left-eq0.true c.loop-v.invariant

pub loop-v-preserved : goal.loop-v-preserved
loop-v-preserved c =
    let p = c.args.p.now in
    let v = c.loop-v.v in
    let low : v < length p.vertices = omega (arith, c.loop-v-test.true, ap length c.vertices.ensures.same) in
    elim c.if-has_sink.branch [
      | then-has_sink+else-left-eq0 w ↦ ap (slice_get (sinks_on p (v + 1))) w.left-is ∙ skipped p v c.loop-v.left c.args.number low (sym c.has_sink.ensures ∙ w.if-has_sink.true) w.if-left-eq0.false c.loop-v.invariant
      | else-has_sink w ↦ ap (slice_get (sinks_on p (v + 1))) w.left-is ∙ passed p v c.loop-v.left c.args.number low (sym c.has_sink.ensures ∙ w.if-has_sink.false) c.loop-v.invariant
    ]

pub returns : goal.returns
returns c =
    let p = c.args.p.now in
    let over : length p.vertices ≤ c.loop-v.v = omega (arith, c.loop-v-test.false, ap length c.vertices.ensures.same) in
    none_left p c.loop-v.v c.loop-v.left c.args.number over c.loop-v.invariant
