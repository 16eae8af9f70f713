use Rattle.std.proofs.Common.{◌∙◌, ap}
use Rattle.std.specs.Prelude.{reverse}
use Rattle.tez_am.proofs.Ran.{run_ends, run_same, run_staged, run_sure, staged_later, stands_first, traced}
use Rattle.tez_am.proofs.run.run.Goals as goal

pub returns-clause-published : goal.returns-clause-published
returns-clause-published g c =
    (run_ends c.args.job c.args.conf c.open-run.result c.drive-ended.new.run (g.S.OutputStore.store c.args.store.now) (g.S.OutputStore.store c.drive-ended.new.store)
    (g.S.OutputStore.faults c.args.store.now) (g.S.OutputStore.faults c.drive-ended.new.store) (g.S.OutputStore.stops c.args.store.now) (g.S.OutputStore.stops c.drive-ended.new.store)
    c.open-run.ensures c.requires.valid c.drive-ended.result c.finish-answered.result c.drive-ended.ensures.ended c.drive-ended.ensures.refused c.publishes_in_order.ensures c.job.result.now
    (c.job.ensures ∙ run_same c.args.job c.args.conf c.open-run.result c.drive-ended.new.run (g.S.OutputStore.store c.args.store.now) (g.S.OutputStore.store c.drive-ended.new.store)
    (g.S.OutputStore.faults c.args.store.now) (g.S.OutputStore.faults c.drive-ended.new.store) (g.S.OutputStore.stops c.args.store.now) (g.S.OutputStore.stops c.drive-ended.new.store)
    c.open-run.ensures c.drive-ended.result c.drive-ended.ensures.ended c.drive-ended.ensures.refused) c.finish-answered.ensures).published

pub returns-clause-text : goal.returns-clause-text
returns-clause-text g c =
    (run_ends c.args.job c.args.conf c.open-run.result c.drive-ended.new.run (g.S.OutputStore.store c.args.store.now) (g.S.OutputStore.store c.drive-ended.new.store)
    (g.S.OutputStore.faults c.args.store.now) (g.S.OutputStore.faults c.drive-ended.new.store) (g.S.OutputStore.stops c.args.store.now) (g.S.OutputStore.stops c.drive-ended.new.store)
    c.open-run.ensures c.requires.valid c.drive-ended.result c.finish-answered.result c.drive-ended.ensures.ended c.drive-ended.ensures.refused c.publishes_in_order.ensures c.job.result.now
    (c.job.ensures ∙ run_same c.args.job c.args.conf c.open-run.result c.drive-ended.new.run (g.S.OutputStore.store c.args.store.now) (g.S.OutputStore.store c.drive-ended.new.store)
    (g.S.OutputStore.faults c.args.store.now) (g.S.OutputStore.faults c.drive-ended.new.store) (g.S.OutputStore.stops c.args.store.now) (g.S.OutputStore.stops c.drive-ended.new.store)
    c.open-run.ensures c.drive-ended.result c.drive-ended.ensures.ended c.drive-ended.ensures.refused) c.finish-answered.ensures).text

pub returns-clause-cause : goal.returns-clause-cause
returns-clause-cause g c =
    (run_ends c.args.job c.args.conf c.open-run.result c.drive-ended.new.run (g.S.OutputStore.store c.args.store.now) (g.S.OutputStore.store c.drive-ended.new.store)
    (g.S.OutputStore.faults c.args.store.now) (g.S.OutputStore.faults c.drive-ended.new.store) (g.S.OutputStore.stops c.args.store.now) (g.S.OutputStore.stops c.drive-ended.new.store)
    c.open-run.ensures c.requires.valid c.drive-ended.result c.finish-answered.result c.drive-ended.ensures.ended c.drive-ended.ensures.refused c.publishes_in_order.ensures c.job.result.now
    (c.job.ensures ∙ run_same c.args.job c.args.conf c.open-run.result c.drive-ended.new.run (g.S.OutputStore.store c.args.store.now) (g.S.OutputStore.store c.drive-ended.new.store)
    (g.S.OutputStore.faults c.args.store.now) (g.S.OutputStore.faults c.drive-ended.new.store) (g.S.OutputStore.stops c.args.store.now) (g.S.OutputStore.stops c.drive-ended.new.store)
    c.open-run.ensures c.drive-ended.result c.drive-ended.ensures.ended c.drive-ended.ensures.refused) c.finish-answered.ensures).cause

pub returns-clause-sure : goal.returns-clause-sure
returns-clause-sure g c = λ sure.
    let first_at = stands_first c.args.job c.args.conf c.open-run.result (g.S.OutputStore.store c.args.store.now) c.open-run.ensures in
    run_sure c.job.result.now c.drive-ended.result c.finish-answered.result (c.drive-ended.ensures.sure first_at.0 sure first_at.1) c.finish-answered.ensures

pub returns-clause-trace : goal.returns-clause-trace
returns-clause-trace g c =
    let one = run_same c.args.job c.args.conf c.open-run.result c.drive-ended.new.run (g.S.OutputStore.store c.args.store.now) (g.S.OutputStore.store c.drive-ended.new.store)
    (g.S.OutputStore.faults c.args.store.now) (g.S.OutputStore.faults c.drive-ended.new.store) (g.S.OutputStore.stops c.args.store.now) (g.S.OutputStore.stops c.drive-ended.new.store)
    c.open-run.ensures c.drive-ended.result c.drive-ended.ensures.ended c.drive-ended.ensures.refused in
    let conf = c.drive-ended.ensures.conf ∙ ap (λ r. r.conf) c.open-run.ensures in
    traced c.args.job c.args.conf c.drive-ended.new.run one conf (reverse c.into_trace.result.entries) c.into_trace.ensures c.is_lawful.ensures.trace

pub returns-clause-staged : goal.returns-clause-staged
returns-clause-staged g c =
    let one = run_same c.args.job c.args.conf c.open-run.result c.drive-ended.new.run (g.S.OutputStore.store c.args.store.now) (g.S.OutputStore.store c.drive-ended.new.store)
    (g.S.OutputStore.faults c.args.store.now) (g.S.OutputStore.faults c.drive-ended.new.store) (g.S.OutputStore.stops c.args.store.now) (g.S.OutputStore.stops c.drive-ended.new.store)
    c.open-run.ensures c.drive-ended.result c.drive-ended.ensures.ended c.drive-ended.ensures.refused in
    staged_later c.args.job (g.S.OutputStore.store c.drive-ended.new.store) c.finish-answered.result c.drive-ended.new.run.past (reverse c.into_trace.result.entries) c.into_trace.ensures
    (run_staged c.args.job c.args.conf c.open-run.result c.drive-ended.new.run (g.S.OutputStore.store c.args.store.now) (g.S.OutputStore.store c.drive-ended.new.store)
    (g.S.OutputStore.faults c.args.store.now) (g.S.OutputStore.faults c.drive-ended.new.store) (g.S.OutputStore.stops c.args.store.now) (g.S.OutputStore.stops c.drive-ended.new.store)
    c.open-run.ensures c.requires.valid c.drive-ended.result c.finish-answered.result c.drive-ended.ensures.ended c.job.result.now (c.job.ensures ∙ one) c.finish-answered.ensures)
