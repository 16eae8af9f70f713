use Rattle.tez_steps.proofs.Steps.{quiet_step}
use Rattle.tez_steps.proofs.stepping.take_event.Goals as goal

pub returns-in_default : goal.returns-in_default
returns-in_default g c = quiet_step g.S.OutputStore.store g.S.OutputStore.faults g.S.OutputStore.stops g.S.OutputStore.lent g.S.OutputStore.is_sure c.args.job.now c.args.conf.now c.args.e c.args.running.now c.args.log.now c.args.store.now c.take_quiet.result c.take_quiet.new.running c.take_quiet.new.log c.take_quiet.ensures
