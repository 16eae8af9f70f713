use Rattle.std.specs.Prelude.{Some, None, if◌then◌else◌, length, ◌≤◌, ◌<◌, ◌+◌}
use Rattle.std.proofs.Common.{rules, ap, sym, ◌∙◌, subst}
use Rattle.tez_master_model.specs.Steady.{IsSteady}
use Rattle.tez_entries.specs.Records.{records_of}
use Rattle.tez_master.specs.Master.{Took, HasNumbers}
use Rattle.tez_world_invariant.specs.Keeping.{most_entries}
use Rattle.tez_steps.proofs.Taking.{numbers_of, steady_of, on_state, entries_taken}
use Rattle.tez_steps.proofs.asking.ask.Goals as goal

pub handle-requires : goal.handle-requires
handle-requires c = record { numbers = numbers_of c.args.job.now c.args.conf.now c.args.running.now c.args.log.now.past c.requires.holds }

pub returns-in_err-handled-clause-numbers : goal.returns-in_err-handled-clause-numbers
returns-in_err-handled-clause-numbers c = subst HasNumbers (sym c.handle.ensures.same) (numbers_of c.args.job.now c.args.conf.now c.args.running.now c.args.log.now.past c.requires.holds)

pub returns-in_err-handled-clause-steady : goal.returns-in_err-handled-clause-steady
returns-in_err-handled-clause-steady c = subst IsSteady (sym c.handle.ensures.same) (steady_of c.args.job.now c.args.conf.now c.args.running.now c.args.log.now.past c.requires.holds)

pub returns-in_err-make_room-clause-numbers : goal.returns-in_err-make_room-clause-numbers
returns-in_err-make_room-clause-numbers c = subst HasNumbers (sym c.handle.ensures.same) (numbers_of c.args.job.now c.args.conf.now c.args.running.now c.args.log.now.past c.requires.holds)

pub returns-in_err-make_room-clause-steady : goal.returns-in_err-make_room-clause-steady
returns-in_err-make_room-clause-steady c = subst IsSteady (sym c.handle.ensures.same) (steady_of c.args.job.now c.args.conf.now c.args.running.now c.args.log.now.past c.requires.holds)

pub returns-clause-asked : goal.returns-clause-asked
returns-clause-asked c = λ on.
    let is = on_state c.args.job.now c.args.conf.now c.args.running.now c.args.log.now.past c.args.e.now c.requires.holds on in
    let told = c.in_ok-handled.ensures.entries is ∙ entries_taken c.args.job.now c.args.conf.now c.args.running.now c.args.log.now.past c.args.e.now c.requires.holds on in
    record {
      told = told;
      pending = c.in_ok-handled.ensures.pending ∙ ap (λ b. if b then Some (Took c.args.e.now) else None) is;
      entries_fit = subst (λ es. length es ≤ c.make_room.new.log.entry_room) told c.in_ok-make_room.ensures.entries;
      records_fit = c.in_ok-make_room.ensures.records;
      short = subst (λ es. length c.make_room.new.log.past + length es < most_entries) told (search rules);
    }

pub returns-clause-records : goal.returns-clause-records
returns-clause-records c = λ on.
    let is = on_state c.args.job.now c.args.conf.now c.args.running.now c.args.log.now.past c.args.e.now c.requires.holds on in
    c.in_ok-handled.ensures.records is ∙ ap records_of (entries_taken c.args.job.now c.args.conf.now c.args.running.now c.args.log.now.past c.args.e.now c.requires.holds on)

pub returns-clause-numbers : goal.returns-clause-numbers
returns-clause-numbers c = subst HasNumbers (sym c.handle.ensures.same) (numbers_of c.args.job.now c.args.conf.now c.args.running.now c.args.log.now.past c.requires.holds)

pub returns-clause-steady : goal.returns-clause-steady
returns-clause-steady c = subst IsSteady (sym c.handle.ensures.same) (steady_of c.args.job.now c.args.conf.now c.args.running.now c.args.log.now.past c.requires.holds)
