use Rattle.std.proofs.Common.{◌∙◌}
use Rattle.tez_am.specs.Drive.{moment}
use Rattle.tez_am.proofs.Driving.{ended_at, goes_after, stands_on, sure_at}
use Rattle.tez_am.proofs.drive.drive.Goals as goal

pub returns-in-Ok-Some-clause-ended : goal.returns-in-Ok-Some-clause-ended
returns-in-Ok-Some-clause-ended g c =
    ended_at (moment g.S.OutputStore.store g.S.OutputStore.faults g.S.OutputStore.stops c.args.run.now c.args.store.now)
    (moment g.S.OutputStore.store g.S.OutputStore.faults g.S.OutputStore.stops c.loop-turn.run c.loop-turn.store)
    (moment g.S.OutputStore.store g.S.OutputStore.faults g.S.OutputStore.stops c.turn.new.run c.turn.new.store)
    c.in-Ok-Some.field-0 c.in-Ok-Some.verdict c.in-Ok-Some.field-0-is c.loop-turn.invariant.goes c.in-Ok-Some.ensures.ended

pub returns-in-Ok-Some-clause-sure : goal.returns-in-Ok-Some-clause-sure
returns-in-Ok-Some-clause-sure g c = λ before sure told.
    sure_at c.in-Ok-Some.field-0 c.in-Ok-Some.verdict c.in-Ok-Some.field-0-is
    (c.in-Ok-Some.ensures.sure before (c.loop-turn.invariant.sure sure)
    (stands_on (moment g.S.OutputStore.store g.S.OutputStore.faults g.S.OutputStore.stops c.args.run.now c.args.store.now)
    (moment g.S.OutputStore.store g.S.OutputStore.faults g.S.OutputStore.stops c.loop-turn.run c.loop-turn.store) before c.loop-turn.invariant.goes told))

pub returns-in-Err-clause-refused : goal.returns-in-Err-clause-refused
returns-in-Err-clause-refused g c =
    goes_after (moment g.S.OutputStore.store g.S.OutputStore.faults g.S.OutputStore.stops c.args.run.now c.args.store.now)
    (moment g.S.OutputStore.store g.S.OutputStore.faults g.S.OutputStore.stops c.loop-turn.run c.loop-turn.store)
    (moment g.S.OutputStore.store g.S.OutputStore.faults g.S.OutputStore.stops c.turn.new.run c.turn.new.store)
    c.loop-turn.invariant.goes c.in-Err.ensures.refused

pub loop-turn-preserved : goal.loop-turn-preserved
loop-turn-preserved g c = record {
  conf = c.in-Ok-None.ensures.conf ∙ c.loop-turn.invariant.conf;
  goes = goes_after (moment g.S.OutputStore.store g.S.OutputStore.faults g.S.OutputStore.stops c.args.run.now c.args.store.now)
      (moment g.S.OutputStore.store g.S.OutputStore.faults g.S.OutputStore.stops c.loop-turn.run c.loop-turn.store)
      (moment g.S.OutputStore.store g.S.OutputStore.faults g.S.OutputStore.stops c.turn.new.run c.turn.new.store)
      c.loop-turn.invariant.goes (c.in-Ok-None.ensures.goes_on c.in-Ok-None.field-0-is);
  lent = c.in-Ok-None.ensures.lent ∙ c.loop-turn.invariant.lent;
  sure = λ sure. c.in-Ok-None.ensures.stays_sure (c.loop-turn.invariant.sure sure);
}
