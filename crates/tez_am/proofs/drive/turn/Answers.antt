use Rattle.tez_am.proofs.Driving.{mid_goes, turn_on, turn_ends}
use Rattle.tez_am.proofs.drive.turn.Goals as goal

pub returns-in-Ok-clause-goes_on : goal.returns-in-Ok-clause-goes_on
returns-in-Ok-clause-goes_on g c = λ none.
    turn_on c.args.run.now c.coming.new.run c.step.new.self _ _ _ _ _ _ c.in-Some.event c.in-Ok.took c.end_of.result
    (mid_goes c.args.run.now c.coming.new.run (g.S.OutputStore.store c.args.store.now) _ _ c.requires c.in-Some.ensures.job c.in-Some.ensures.phase c.in-Some.ensures.past c.in-Some.ensures.notes)
    (record { job = c.in-Ok.ensures.job; step = c.in-Ok.ensures.step; told = c.in-Ok.ensures.told; later = c.in-Ok.ensures.later; fault = c.in-Ok.ensures.fault; store = c.in-Ok.ensures.store })
    c.end_of.ensures none

pub returns-in-Ok-clause-ended : goal.returns-in-Ok-clause-ended
returns-in-Ok-clause-ended g c =
    turn_ends c.args.run.now c.coming.new.run c.step.new.self _ _ _ _ _ _ c.in-Some.event c.in-Ok.took c.end_of.result c.in-Some.ensures.no_fail
    (mid_goes c.args.run.now c.coming.new.run (g.S.OutputStore.store c.args.store.now) _ _ c.requires c.in-Some.ensures.job c.in-Some.ensures.phase c.in-Some.ensures.past c.in-Some.ensures.notes)
    (record { job = c.in-Ok.ensures.job; step = c.in-Ok.ensures.step; told = c.in-Ok.ensures.told; later = c.in-Ok.ensures.later; fault = c.in-Ok.ensures.fault; store = c.in-Ok.ensures.store })
    c.end_of.ensures
