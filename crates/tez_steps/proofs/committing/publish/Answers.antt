use Rattle.std.specs.Prelude.{length, is_some, ◌≤◌, refl}
use Rattle.std.proofs.Common.{rules, ap, sym, subst}
use Rattle.tez_events.specs.declared.CoreEvent.TheVariants.{Publish}
use Rattle.tez_master_view.specs.View.{master_view}
use Rattle.tez_steps.proofs.Taking.{is_on, went, short_later}
use Rattle.tez_steps.specs.Holds.{parts_of, notes_of}
use Rattle.tez_steps.proofs.Taking.{notes_settled}
use Rattle.tez_steps.proofs.Commits.{publish_kept, noted_changed, noted_past, publish_told, publish_fault, publish_sure, same_name}
use Rattle.tez_steps.specs.declared.verdict.Device.TheVariants as device
use Rattle.tez_steps.specs.declared.verdict.Verdict.TheVariants.{DeviceFault}
use Rattle.tez_steps.specs.declared.verdict.Took.TheVariants.{Changed, Ended}
use Rattle.tez_steps.proofs.StepLaws.{taken_is, done_is}
use Rattle.tez_ports.specs.Content.{publishes}
use Rattle.tez_steps.proofs.Tellings.{tells_still}
use Rattle.tez_steps.proofs.Devices.{device_fault}
use Rattle.tez_steps.proofs.committing.publish.Goals as goal

pub settle-requires : goal.settle-requires
settle-requires g c =
    let on = is_on (master_view c.args.job.now.plan c.args.conf.now c.args.log.now.past) (Publish c.args.v) c.in_ok-handled.handled c.in_ok-handled.ensures.taken (went c.in_ok-handled.handled c.in_default.not-Ignored) in
    let asked = c.in_ok-handled.ensures.asked on in
    record {
      pending = ap is_some asked.pending;
      numbers = c.ask.ensures.numbers;
      steady = c.ask.ensures.steady;
      entries = subst (λ es. length es ≤ c.ask.new.log.entry_room) (sym asked.told) asked.entries_fit;
      records = asked.records_fit;
    }

pub returns-in-Ok : goal.returns-in-Ok
returns-in-Ok g c =
    let on = is_on (master_view c.args.job.now.plan c.args.conf.now c.args.log.now.past) (Publish c.args.v) c.in_ok-handled.handled c.in_ok-handled.ensures.taken (went c.in_ok-handled.handled c.in_default.not-Ignored) in
    let asked = c.in_ok-handled.ensures.asked on in
    record {
      taken = taken_is c.args.job.now c.args.conf.now (Publish c.args.v) c.args.running.now c.args.log.now Changed c.settle.new.running c.settle.new.log
          (noted_changed c.args.job.now c.args.conf.now (Publish c.args.v) c.args.running.now c.ask.new.running c.settle.new.running c.args.log.now c.ask.new.log c.settle.new.log c.in_ok-handled.handled on c.ask.ensures.parts c.ask.ensures.log asked
          (record { master = c.settle.ensures.master; seats = c.settle.ensures.seats; shelves = c.settle.ensures.shelves; past = c.settle.ensures.past })
          (publish_kept c.args.job.now c.args.conf.now (parts_of c.args.running.now) c.args.log.now.past c.args.v c.requires.holds on (short_later c.args.job.now c.args.conf.now (Publish c.args.v) c.ask.new.running c.args.log.now c.ask.new.log c.in_ok-handled.handled c.ask.ensures.log asked)));
      leaves = record {
        refused_parts = tt;
        refused_log = tt;
        store = λ before told.
            publish_told c.args.job.now c.args.conf.now c.args.running.now c.args.log.now.past c.args.v c.in-Some.name.now c.requires.holds on (same_name c.args.job.now c.args.conf.now c.args.running.now c.args.log.now.past c.args.v c.in-Some.name.now c.requires.holds on c.in-Some.ensures) before (notes_of c.args.running.now) (notes_of c.settle.new.running) c.settle.new.log.past (g.S.OutputStore.store c.args.store.now) (g.S.OutputStore.store c.publish_next.new.store) c.in-Ok.ensures.ok
            (notes_settled c.args.running.now c.ask.new.running c.settle.new.running c.ask.ensures.notes c.settle.ensures.texts c.settle.ensures.sums)
            (noted_past c.args.job.now c.args.conf.now (Publish c.args.v) c.ask.new.running c.settle.new.running c.args.log.now c.ask.new.log c.settle.new.log c.in_ok-handled.handled c.ask.ensures.log asked (record { master = c.settle.ensures.master; seats = c.settle.ensures.seats; shelves = c.settle.ensures.shelves; past = c.settle.ensures.past })) told;
        store_refused = λ before told. tt;
        same_store = λ no. absurd no;
        later = search rules;
        fault = tt;
        told = tells_still (publishes c.in-Some.name.now) (g.S.OutputStore.store c.args.store.now) (g.S.OutputStore.store c.publish_next.new.store) c.publish_next.result c.publish_next.ensures.ok c.publish_next.ensures.err;
        lent = search rules;
        stays_sure = search rules;
        sure = λ before sure told. tt;
      };
    }

pub returns-in-Err : goal.returns-in-Err
returns-in-Err g c =
    let on = is_on (master_view c.args.job.now.plan c.args.conf.now c.args.log.now.past) (Publish c.args.v) c.in_ok-handled.handled c.in_ok-handled.ensures.taken (went c.in_ok-handled.handled c.in_default.not-Ignored) in
    let asked = c.in_ok-handled.ensures.asked on in
    record {
      taken = done_is c.args.job.now c.args.conf.now (Publish c.args.v) c.args.running.now c.args.log.now (Ended (DeviceFault device.Store)) c.ask.new.running c.ask.new.log (on, refl, c.ask.ensures.log);
      leaves = record {
        refused_parts = tt;
        refused_log = tt;
        store = λ before told.
            publish_fault c.args.job.now c.args.conf.now c.args.running.now c.args.log.now.past c.args.v c.in-Some.name.now c.requires.holds on (same_name c.args.job.now c.args.conf.now c.args.running.now c.args.log.now.past c.args.v c.in-Some.name.now c.requires.holds on c.in-Some.ensures) before (notes_of c.args.running.now) c.ask.new.log.past (g.S.OutputStore.store c.args.store.now) (g.S.OutputStore.store c.publish_next.new.store) c.in-Err.ensures.err c.ask.ensures.log.past told;
        store_refused = λ before told. tt;
        same_store = λ no. absurd no;
        later = search rules;
        fault = (refl, device_fault _ _ _ _ _ c.in-Err.ensures.cause);
        told = tells_still (publishes c.in-Some.name.now) (g.S.OutputStore.store c.args.store.now) (g.S.OutputStore.store c.publish_next.new.store) c.publish_next.result c.publish_next.ensures.ok c.publish_next.ensures.err;
        lent = search rules;
        stays_sure = search rules;
        sure = λ before sure told.
            publish_sure c.args.job.now c.args.conf.now c.args.running.now c.args.log.now.past c.args.v c.in-Some.name.now c.requires.holds on (same_name c.args.job.now c.args.conf.now c.args.running.now c.args.log.now.past c.args.v c.in-Some.name.now c.requires.holds on c.in-Some.ensures)
            before (notes_of c.args.running.now) (g.S.OutputStore.store c.args.store.now) (g.met.S.OutputStore.sure_tells _ sure) (c.in-Err.ensures.sure sure) told;
      };
    }
