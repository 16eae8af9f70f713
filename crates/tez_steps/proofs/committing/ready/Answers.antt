use Rattle.std.specs.Prelude.{Err, length, is_some, ◌≤◌, refl}
use Rattle.std.proofs.Common.{rules, inl, inr, ap, sym, subst}
use Rattle.tez_events.specs.declared.CoreEvent.TheVariants.{Ready}
use Rattle.tez_master_view.specs.View.{master_view}
use Rattle.tez_steps.proofs.Taking.{is_on, went, short_later}
use Rattle.tez_sinks.specs.Sinks.{sink_name}
use Rattle.tez_steps.specs.Holds.{parts_of, notes_of}
use Rattle.tez_steps.specs.Committing.{winners_in}
use Rattle.tez_steps.proofs.Commits.{ready_kept, noted_changed, noted_past, winners_same, ready_told, ready_refused, ready_fault, ready_sure, ready_next, not_memory}
use Rattle.tez_steps.specs.declared.verdict.Device.TheVariants as device
use Rattle.tez_steps.specs.declared.verdict.Verdict.TheVariants.{DeviceFault}
use Rattle.tez_steps.specs.declared.verdict.Took.TheVariants.{Changed, Ended}
use Rattle.tez_steps.proofs.StepLaws.{taken_is, done_is}
use Rattle.tez_steps.proofs.committing.ready.Goals as goal

pub settle-requires : goal.settle-requires
settle-requires g c =
    let on = is_on (master_view c.args.job.now.plan c.args.conf.now c.args.log.now.past) (Ready c.args.v) c.in_ok-handled.handled c.in_ok-handled.ensures.taken (went c.in_ok-handled.handled c.in_default.not-Ignored) in
    let asked = c.in_ok-handled.ensures.asked on in
    record {
      pending = ap is_some asked.pending;
      numbers = c.ask.ensures.numbers;
      steady = c.ask.ensures.steady;
      entries = subst (λ es. length es ≤ c.ask.new.log.entry_room) (sym asked.told) asked.entries_fit;
      records = asked.records_fit;
    }

pub returns-in-Ok : goal.returns-in-Ok
returns-in-Ok g c =
    let on = is_on (master_view c.args.job.now.plan c.args.conf.now c.args.log.now.past) (Ready c.args.v) c.in_ok-handled.handled c.in_ok-handled.ensures.taken (went c.in_ok-handled.handled c.in_default.not-Ignored) in
    let asked = c.in_ok-handled.ensures.asked on in
    record {
      taken = taken_is c.args.job.now c.args.conf.now (Ready c.args.v) c.args.running.now c.args.log.now Changed c.settle.new.running c.settle.new.log
          (noted_changed c.args.job.now c.args.conf.now (Ready c.args.v) c.args.running.now c.ask.new.running c.settle.new.running c.args.log.now c.ask.new.log c.settle.new.log c.in_ok-handled.handled on c.ask.ensures.parts c.ask.ensures.log asked
          (record { master = c.settle.ensures.master; seats = c.settle.ensures.seats; shelves = c.settle.ensures.shelves; past = c.settle.ensures.past })
          (ready_kept c.args.job.now c.args.conf.now (parts_of c.args.running.now) c.args.log.now.past c.args.v c.requires.holds on (short_later c.args.job.now c.args.conf.now (Ready c.args.v) c.ask.new.running c.args.log.now c.ask.new.log c.in_ok-handled.handled c.ask.ensures.log asked)));
      leaves = record {
        refused_parts = tt;
        refused_log = tt;
        store = λ before told.
            ready_told c.args.job.now c.args.conf.now c.args.running.now c.args.log.now.past c.args.v (winners_in c.ask.new.running.master.state c.args.v.0) (sink_name c.args.job.now.plan c.args.v.0) c.requires.holds on (winners_same c.args.job.now c.args.conf.now c.args.running.now c.ask.new.running c.args.log.now.past c.args.v c.ask.ensures.parts c.requires.holds on) refl c.in-Ok.sum before (notes_of c.args.running.now) (notes_of c.settle.new.running) c.settle.new.log.past (g.S.OutputStore.store c.args.store.now) (g.S.OutputStore.store c.put_aside.new.store) (short_later c.args.job.now c.args.conf.now (Ready c.args.v) c.ask.new.running c.args.log.now c.ask.new.log c.in_ok-handled.handled c.ask.ensures.log asked) c.in-Ok.ensures.ok c.in-Ok.ensures.sum
            (ready_next c.args.running.now c.ask.new.running c.settle.new.running c.args.v.0 c.in-Ok.sum _ c.note_text.ensures c.settle.ensures.texts c.settle.ensures.sums c.ask.ensures.notes)
            (noted_past c.args.job.now c.args.conf.now (Ready c.args.v) c.ask.new.running c.settle.new.running c.args.log.now c.ask.new.log c.settle.new.log c.in_ok-handled.handled c.ask.ensures.log asked (record { master = c.settle.ensures.master; seats = c.settle.ensures.seats; shelves = c.settle.ensures.shelves; past = c.settle.ensures.past })) told;
        store_refused = λ before told. tt;
        same_store = λ no. absurd no;
        later = search rules;
        fault = tt;
        told = search rules;
        lent = search rules;
        stays_sure = search rules;
        sure = λ before sure told. tt;
      };
    }

pub returns-in-Err-NoMemory : goal.returns-in-Err-NoMemory
returns-in-Err-NoMemory g c =
    let on = is_on (master_view c.args.job.now.plan c.args.conf.now c.args.log.now.past) (Ready c.args.v) c.in_ok-handled.handled c.in_ok-handled.ensures.taken (went c.in_ok-handled.handled c.in_default.not-Ignored) in
    let asked = c.in_ok-handled.ensures.asked on in
    record {
      taken = tt;
      leaves = record {
        refused_parts = c.ask.ensures.parts;
        refused_log = c.ask.ensures.log;
        store = λ before told. tt;
        store_refused = λ before told.
            ready_refused c.args.job.now c.args.conf.now c.args.running.now c.args.log.now.past c.args.v (winners_in c.ask.new.running.master.state c.args.v.0) (sink_name c.args.job.now.plan c.args.v.0) c.requires.holds on (winners_same c.args.job.now c.args.conf.now c.args.running.now c.ask.new.running c.args.log.now.past c.args.v c.ask.ensures.parts c.requires.holds on) refl before (notes_of c.args.running.now) (notes_of c.ask.new.running) c.ask.new.log.past (g.S.OutputStore.store c.args.store.now) (g.S.OutputStore.store c.put_aside.new.store) c.in-Err-NoMemory.ensures.err c.ask.ensures.notes c.ask.ensures.log.past told;
        same_store = tt;
        later = search rules;
        fault = tt;
        told = search rules;
        lent = search rules;
        stays_sure = search rules;
        sure = λ before sure told. tt;
      };
    }

pub returns-in-Err-Failed : goal.returns-in-Err-Failed
returns-in-Err-Failed g c =
    let on = is_on (master_view c.args.job.now.plan c.args.conf.now c.args.log.now.past) (Ready c.args.v) c.in_ok-handled.handled c.in_ok-handled.ensures.taken (went c.in_ok-handled.handled c.in_default.not-Ignored) in
    let asked = c.in_ok-handled.ensures.asked on in
    record {
      taken = done_is c.args.job.now c.args.conf.now (Ready c.args.v) c.args.running.now c.args.log.now (Ended (DeviceFault device.Store)) c.ask.new.running c.ask.new.log (on, refl, c.ask.ensures.log);
      leaves = record {
        refused_parts = tt;
        refused_log = tt;
        store = λ before told.
            ready_fault c.args.job.now c.args.conf.now c.args.running.now c.args.log.now.past c.args.v (winners_in c.ask.new.running.master.state c.args.v.0) (sink_name c.args.job.now.plan c.args.v.0) c.requires.holds on (winners_same c.args.job.now c.args.conf.now c.args.running.now c.ask.new.running c.args.log.now.past c.args.v c.ask.ensures.parts c.requires.holds on) refl before (notes_of c.args.running.now) c.ask.new.log.past (g.S.OutputStore.store c.args.store.now) (g.S.OutputStore.store c.put_aside.new.store) c.in-Err-Failed.ensures.err c.ask.ensures.log.past told;
        store_refused = λ before told. tt;
        same_store = λ no. absurd no;
        later = search rules;
        fault = (refl, inl (c.in-Err-Failed.ensures.cause.failed (ap Err c.in-Err-Failed.field-0-is)));
        told = search rules;
        lent = search rules;
        stays_sure = search rules;
        sure = λ before sure told.
            ready_sure c.args.job.now c.args.conf.now c.args.running.now c.args.log.now.past c.args.v (winners_in c.ask.new.running.master.state c.args.v.0) (sink_name c.args.job.now.plan c.args.v.0) c.requires.holds on (winners_same c.args.job.now c.args.conf.now c.args.running.now c.ask.new.running c.args.log.now.past c.args.v c.ask.ensures.parts c.requires.holds on) refl before (notes_of c.args.running.now) (g.S.OutputStore.store c.args.store.now) (g.met.S.OutputStore.sure_tells _ sure) (not_memory c.in-Err-Failed.field-0 c.in-Err-Failed.field-0-is (c.in-Err-Failed.ensures.sure sure)) told;
      };
    }

pub returns : goal.returns
returns g c =
    let on = is_on (master_view c.args.job.now.plan c.args.conf.now c.args.log.now.past) (Ready c.args.v) c.in_ok-handled.handled c.in_ok-handled.ensures.taken (went c.in_ok-handled.handled c.in_default.not-Ignored) in
    let asked = c.in_ok-handled.ensures.asked on in
    record {
      taken = done_is c.args.job.now c.args.conf.now (Ready c.args.v) c.args.running.now c.args.log.now (Ended (DeviceFault device.Store)) c.ask.new.running c.ask.new.log (on, refl, c.ask.ensures.log);
      leaves = record {
        refused_parts = tt;
        refused_log = tt;
        store = λ before told.
            ready_fault c.args.job.now c.args.conf.now c.args.running.now c.args.log.now.past c.args.v (winners_in c.ask.new.running.master.state c.args.v.0) (sink_name c.args.job.now.plan c.args.v.0) c.requires.holds on (winners_same c.args.job.now c.args.conf.now c.args.running.now c.ask.new.running c.args.log.now.past c.args.v c.ask.ensures.parts c.requires.holds on) refl before (notes_of c.args.running.now) c.ask.new.log.past (g.S.OutputStore.store c.args.store.now) (g.S.OutputStore.store c.put_aside.new.store) c.in-Err-Stopped.ensures.err c.ask.ensures.log.past told;
        store_refused = λ before told. tt;
        same_store = λ no. absurd no;
        later = search rules;
        fault = (refl, inr (c.in-Err-Stopped.ensures.cause.stopped (ap Err c.in-Err-Stopped.field-0-is)));
        told = search rules;
        lent = search rules;
        stays_sure = search rules;
        sure = λ before sure told. c.in-Err-Stopped.ensures.never_stops sure (ap Err c.in-Err-Stopped.field-0-is);
      };
    }
