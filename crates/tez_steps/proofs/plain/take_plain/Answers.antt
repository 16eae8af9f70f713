use Rattle.std.specs.Prelude.{length, is_some, ◌≤◌}
use Rattle.std.proofs.Common.{ap, sym, refl, subst}
use Rattle.tez_master_view.specs.View.{master_view}
use Rattle.tez_steps.proofs.Taking.{is_on, went, changed, short_later, notes_settled}
use Rattle.tez_steps.proofs.Events.{quiet_kept}
use Rattle.tez_steps.proofs.Steps.{changed_quiet, master_only_quiet, master_only_no_commit}
use Rattle.tez_steps.proofs.plain.take_plain.Goals as goal

pub settle-requires : goal.settle-requires
settle-requires c =
    let on = is_on (master_view c.args.job.now.plan c.args.conf.now c.args.log.now.past) c.args.e c.in_ok-handled.handled c.in_ok-handled.ensures.taken (went c.in_ok-handled.handled c.in_default.not-Ignored) in
    let asked = c.in_ok-handled.ensures.asked on in
    record {
      pending = ap is_some asked.pending;
      numbers = c.ask.ensures.numbers;
      steady = c.ask.ensures.steady;
      entries = subst (λ es. length es ≤ c.ask.new.log.entry_room) (sym asked.told) asked.entries_fit;
      records = asked.records_fit;
    }

pub returns : goal.returns
returns c =
    let on = is_on (master_view c.args.job.now.plan c.args.conf.now c.args.log.now.past) c.args.e c.in_ok-handled.handled c.in_ok-handled.ensures.taken (went c.in_ok-handled.handled c.in_default.not-Ignored) in
    let asked = c.in_ok-handled.ensures.asked on in
    changed_quiet c.args.job.now c.args.conf.now c.args.e c.args.running.now c.args.log.now c.settle.new.running c.settle.new.log c.requires.holds (master_only_quiet c.args.e c.requires.plain) (master_only_no_commit c.args.e c.requires.plain)
    (changed c.args.job.now c.args.conf.now c.args.e c.args.running.now c.ask.new.running c.ask.new.running c.settle.new.running c.args.log.now c.ask.new.log c.settle.new.log c.in_ok-handled.handled on c.ask.ensures.parts c.ask.ensures.log asked
    (record { kept = refl; master = c.settle.ensures.master; seats = c.settle.ensures.seats; shelves = c.settle.ensures.shelves; texts = c.settle.ensures.texts; sums = c.settle.ensures.sums; past = c.settle.ensures.past })
    (quiet_kept c.args.job.now c.args.conf.now c.args.running.now c.ask.new.running c.args.log.now.past c.args.e c.ask.ensures.parts c.requires.plain c.requires.holds on
    (short_later c.args.job.now c.args.conf.now c.args.e c.ask.new.running c.args.log.now c.ask.new.log c.in_ok-handled.handled c.ask.ensures.log asked)))
    (notes_settled c.args.running.now c.ask.new.running c.settle.new.running c.ask.ensures.notes (c.settle.ensures.texts) (c.settle.ensures.sums))
