use Rattle.std.specs.Prelude.{◌≡◌, true}
use Rattle.tez_events.specs.declared.CoreEvent.TheVariants.{Fail}
use Rattle.tez_master_model.specs.Enabled.{enabled_in}
use Rattle.tez_master_view.specs.View.{master_view}
use Rattle.std.proofs.Common.{refl, sym, ◌∙◌, subst}
use Rattle.tez_ids.specs.declared.AttemptId.{AttemptId}
use Rattle.tez_orders.specs.Orders.{OrderParts}
use Rattle.tez_orders.specs.Outcomes.{IsOutcome}
use Rattle.tez_orders.specs.declared.report.Outcome.TheVariants.{Done, Bad}
use Rattle.tez_steps.specs.declared.verdict.Took.TheVariants.{Ignored}
use Rattle.tez_steps.specs.Parts.{IsFailed}
use Rattle.tez_steps.specs.Reporting.{IsDoneReport}
use Rattle.tez_steps.proofs.StepLaws.{ok_map, reported_is}
use Rattle.tez_steps.proofs.Steps.{quiet_leaves, ignored_leaves}
use Rattle.tez_steps.proofs.Reported.{IsBlamed, fail_on, blamed, done_reported, bad_reported, ignored_reported, same_due}
use Rattle.tez_steps.proofs.reporting.report.Goals as goal

pub returns-in-Err : goal.returns-in-Err
returns-in-Err g c = record {
  taken = reported_is c.args.job.now c.args.conf.now c.args.r c.args.running.now c.args.log.now (Ignored c.in-Err.why) c.args.running.now c.args.log.now
      (ignored_reported c.args.job.now c.args.conf.now c.args.r c.args.running.now c.args.log.now c.in-Err.why c.requires.holds c.in-Err.ensures.ignored);
  leaves = ignored_leaves g.S.OutputStore.store g.S.OutputStore.faults g.S.OutputStore.stops g.S.OutputStore.lent g.S.OutputStore.is_sure c.args.job.now c.args.running.now c.args.log.now c.args.store.now c.in-Err.why c.args.running.now c.args.log.now
      (record { parts = refl; queue = refl }) (record { past = refl; records = refl });
}

pub done-requires-clause-due : goal.done-requires-clause-due
done-requires-clause-due g c = λ o there.
    let here = c.in-Done.is in
    let done : c.into_parts-order.result.1 ≡ Done c.in-Done.value c.in-Done.pieces = cc in
    subst (λ (x : OrderParts). IsOutcome x (Done c.in-Done.value c.in-Done.pieces)) (c.into_parts-order.ensures.order ∙ same_due c.args.r.order o (sym c.in-Ok.ensures.there ∙ there)) (subst (IsOutcome c.into_parts-order.result.0) done c.into_parts-order.ensures.is_due)

pub returns : goal.returns
returns g c =
    let here = c.in-Done.is in
    let done : c.into_parts-order.result.1 ≡ Done c.in-Done.value c.in-Done.pieces = cc in
    record {
      taken = ok_map _ _ c.done.result (λ took k. reported_is c.args.job.now c.args.conf.now c.args.r c.args.running.now c.args.log.now took c.done.new.running c.done.new.log (done_reported c.args.job.now c.args.conf.now c.args.r c.in-Done.value c.in-Done.pieces c.args.running.now c.args.log.now took c.done.new.running c.done.new.log (sym c.into_parts-order.ensures.outcome ∙ done) (subst (λ (a : AttemptId). IsDoneReport c.args.job.now c.args.conf.now a (Done c.in-Done.value c.in-Done.pieces) c.args.running.now c.args.log.now took c.done.new.running c.done.new.log) c.in-Ok.ensures.own k))) c.done.ensures.taken;
      leaves = c.done.ensures.leaves;
    }

pub returns-in-Bad : goal.returns-in-Bad
returns-in-Bad g c =
    let here = c.in-Bad.is in
    let bad : c.into_parts-order.result.1 ≡ Bad c.in-Bad._record = cc in
    let outcome : c.args.r.outcome ≡ Bad c.in-Bad._record = sym c.into_parts-order.ensures.outcome ∙ bad in
    let due : IsOutcome c.args.r.order (Bad c.in-Bad._record) = subst (λ (o : OrderParts). IsOutcome o (Bad c.in-Bad._record)) c.into_parts-order.ensures.order (subst (IsOutcome c.into_parts-order.result.0) bad c.into_parts-order.ensures.is_due) in
    let blame = blamed c.args.job.now c.args.conf.now c.args.running.now c.args.log.now.past c.in-Ok.at c.args.r.order c.in-Bad._record c.requires.holds c.in-Ok.ensures.works c.in-Ok.ensures.there due in
    let may = fail_on c.args.job.now c.args.conf.now c.args.running.now c.args.log.now.past c.in-Ok.at.a c.requires.holds c.in-Ok.ensures.works.works in
    record {
      taken = ok_map _ _ c.fail.result (λ took k. reported_is c.args.job.now c.args.conf.now c.args.r c.args.running.now c.args.log.now took c.fail.new.running c.fail.new.log (bad_reported c.args.job.now c.args.conf.now c.args.r c.in-Bad._record c.args.running.now c.args.log.now took c.fail.new.running c.fail.new.log outcome (subst (IsBlamed c.args.job.now c.args.log.now.past) c.in-Ok.ensures.own blame)
          (subst (λ (a : AttemptId). enabled_in (master_view c.args.job.now.plan c.args.conf.now c.args.log.now.past) (Fail a) ≡ true) c.in-Ok.ensures.own may)
          (subst (λ (a : AttemptId). IsFailed c.args.job.now c.args.conf.now a c.args.running.now c.args.log.now took c.fail.new.running c.fail.new.log) c.in-Ok.ensures.own k))) c.fail.ensures.failed;
      leaves = quiet_leaves g.S.OutputStore.store g.S.OutputStore.faults g.S.OutputStore.stops g.S.OutputStore.lent g.S.OutputStore.is_sure c.args.job.now c.args.conf.now (Fail c.in-Ok.at.a) c.args.running.now c.args.log.now c.args.store.now c.fail.result c.fail.new.running c.fail.new.log c.fail.ensures.step;
    }
