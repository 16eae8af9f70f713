use Rattle.std.proofs.Common.{◌≡◌, ◌∙◌, sym, refl}
use Rattle.tez_record.specs.Line.{lines}
use Rattle.tez_record.proofs.BlockLemmas.{first_is_record}
use Rattle.tez_record.proofs.LoopLemmas.{kept_one, passed_over}
use Rattle.tez_record.proofs.records.Records.kept.Goals as goal

pub push-requires : goal.push-requires
push-requires g c = first_is_record c.loop-line.line-iterator.rest.now _ _ c.in-Some.ensures.steps

pub loop-line-preserved-in-Continue-1 : goal.loop-line-preserved-in-Continue-1
loop-line-preserved-in-Continue-1 g c = (
  tt,
  tt,
  λ p t.
      let answer : c.test.result ≡ p c.in-Some.line.now = t c.in-Some.line.now c.test.result record { shown = c.in-Some.line; shows = refl; says = record { met = c.test.ensures } } in
      kept_one p c.loop-line.kept (lines c.loop-line.line-iterator.rest.now) (lines c.next.new.self.rest.now) c.in-Some.line.now c.push.new.self c.args.self.now
      c.in-Some.ensures.steps (sym answer ∙ c.if-test.true) c.in_ok-push.ensures (c.loop-line.invariant.2 p t),
)

pub loop-line-preserved : goal.loop-line-preserved
loop-line-preserved g c = (
  tt,
  tt,
  λ p t.
      let answer : c.test.result ≡ p c.in-Some.line.now = t c.in-Some.line.now c.test.result record { shown = c.in-Some.line; shows = refl; says = record { met = c.test.ensures } } in
      passed_over p c.loop-line.kept (lines c.loop-line.line-iterator.rest.now) (lines c.next.new.self.rest.now) c.in-Some.line.now c.args.self.now
      c.in-Some.ensures.steps (sym answer ∙ c.if-test.false) (c.loop-line.invariant.2 p t),
)
