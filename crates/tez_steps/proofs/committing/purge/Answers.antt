use Rattle.std.specs.Prelude.{length, is_some, ◌≤◌, refl}
use Rattle.std.proofs.Common.{rules, ap, sym, ◌∙◌, subst}
use Rattle.tez_events.specs.declared.CoreEvent.TheVariants.{Purge}
use Rattle.tez_master_view.specs.View.{master_view}
use Rattle.tez_steps.proofs.Taking.{is_on, went}
use Rattle.tez_steps.specs.Step.{Notes}
use Rattle.tez_steps.specs.Holds.{notes_of}
use Rattle.tez_steps.proofs.Commits.{noted_past, purge_taken, purge_told_now, purge_fault}
use Rattle.tez_steps.specs.declared.verdict.Device.TheVariants as device
use Rattle.tez_steps.specs.declared.verdict.Verdict.TheVariants.{Succeeded, DeviceFault}
use Rattle.tez_steps.specs.declared.verdict.Took.TheVariants.{Ended}
use Rattle.tez_steps.proofs.StepLaws.{done_is}
use Rattle.tez_ports.specs.Content.{purges}
use Rattle.tez_steps.proofs.Tellings.{tells_still}
use Rattle.tez_steps.proofs.Devices.{device_fault}
use Rattle.tez_steps.proofs.committing.purge.Goals as goal

pub settle-requires : goal.settle-requires
settle-requires g c =
    let on = is_on (master_view c.args.job.now.plan c.args.conf.now c.args.log.now.past) Purge c.in_ok-handled.handled c.in_ok-handled.ensures.taken (went c.in_ok-handled.handled c.in_default.not-Ignored) in
    let asked = c.in_ok-handled.ensures.asked on in
    record {
      pending = ap is_some asked.pending;
      numbers = c.ask.ensures.numbers;
      steady = c.ask.ensures.steady;
      entries = subst (λ es. length es ≤ c.ask.new.log.entry_room) (sym asked.told) asked.entries_fit;
      records = asked.records_fit;
    }

pub returns-in-Ok : goal.returns-in-Ok
returns-in-Ok g c =
    let on = is_on (master_view c.args.job.now.plan c.args.conf.now c.args.log.now.past) Purge c.in_ok-handled.handled c.in_ok-handled.ensures.taken (went c.in_ok-handled.handled c.in_default.not-Ignored) in
    let asked = c.in_ok-handled.ensures.asked on in
    let past = (noted_past c.args.job.now c.args.conf.now Purge c.ask.new.running c.settle.new.running c.args.log.now c.ask.new.log c.settle.new.log c.in_ok-handled.handled c.ask.ensures.log asked (record { master = c.settle.ensures.master; seats = c.settle.ensures.seats; shelves = c.settle.ensures.shelves; past = c.settle.ensures.past })) in
    record {
      taken = done_is c.args.job.now c.args.conf.now Purge c.args.running.now c.args.log.now (Ended (Succeeded c.replace-sums.result)) c.settle.new.running c.settle.new.log (on, purge_taken c.args.job.now c.args.conf.now c.args.running.now c.args.log.now.past c.requires.holds on c.settle.new.log.past past, past);
      leaves = record {
        refused_parts = tt;
        refused_log = tt;
        store = λ before told.
            purge_told_now c.args.job.now c.args.conf.now c.args.running.now c.args.log.now.past c.requires.holds on before c.replace-sums.result.items c.settle.new.log.past (g.S.OutputStore.store c.args.store.now) (g.S.OutputStore.store c.purge.new.self) c.in-Ok.ensures.ok
            (ap (λ v. v.items) c.replace-sums.ensures.value ∙ c.settle.ensures.sums ∙ ap (λ (n : Notes). n.sums) c.ask.ensures.notes)
            (noted_past c.args.job.now c.args.conf.now Purge c.ask.new.running c.settle.new.running c.args.log.now c.ask.new.log c.settle.new.log c.in_ok-handled.handled c.ask.ensures.log asked (record { master = c.settle.ensures.master; seats = c.settle.ensures.seats; shelves = c.settle.ensures.shelves; past = c.settle.ensures.past })) told;
        store_refused = λ before told. tt;
        same_store = λ no. absurd no;
        later = search rules;
        fault = tt;
        told = tells_still purges (g.S.OutputStore.store c.args.store.now) (g.S.OutputStore.store c.purge.new.self) c.purge.result c.purge.ensures.ok c.purge.ensures.err;
        lent = search rules;
        stays_sure = search rules;
        sure = λ before sure told. tt;
      };
    }

pub returns-in-Err : goal.returns-in-Err
returns-in-Err g c =
    let on = is_on (master_view c.args.job.now.plan c.args.conf.now c.args.log.now.past) Purge c.in_ok-handled.handled c.in_ok-handled.ensures.taken (went c.in_ok-handled.handled c.in_default.not-Ignored) in
    let asked = c.in_ok-handled.ensures.asked on in
    record {
      taken = done_is c.args.job.now c.args.conf.now Purge c.args.running.now c.args.log.now (Ended (DeviceFault device.Store)) c.ask.new.running c.ask.new.log (on, refl, c.ask.ensures.log);
      leaves = record {
        refused_parts = tt;
        refused_log = tt;
        store = λ before told.
            purge_fault c.args.job.now c.args.conf.now c.args.running.now c.args.log.now.past c.requires.holds on before (notes_of c.args.running.now) c.ask.new.log.past (g.S.OutputStore.store c.args.store.now) (g.S.OutputStore.store c.purge.new.self) c.in-Err.ensures.err c.ask.ensures.log.past told;
        store_refused = λ before told. tt;
        same_store = λ no. absurd no;
        later = search rules;
        fault = (refl, device_fault _ _ _ _ _ c.in-Err.ensures.cause);
        told = tells_still purges (g.S.OutputStore.store c.args.store.now) (g.S.OutputStore.store c.purge.new.self) c.purge.result c.purge.ensures.ok c.purge.ensures.err;
        lent = search rules;
        stays_sure = search rules;
        sure = search rules;
      };
    }
