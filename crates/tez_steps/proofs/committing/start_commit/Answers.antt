use Rattle.std.specs.Prelude.{◌≤◌, length, is_some}
use Rattle.std.proofs.Common.{ap, sym, ◌∙◌, subst, arith}
use Rattle.tez_events.specs.declared.CoreEvent.TheVariants.{CommitStart}
use Rattle.tez_history.specs.History.{Past, extend}
use Rattle.tez_master_view.specs.View.{master_view}
use Rattle.tez_master.specs.Master.{entries_told}
use Rattle.tez_steps.specs.Holds.{parts_of, notes_of}
use Rattle.tez_steps.proofs.Taking.{is_on, went, short_later}
use Rattle.tez_steps.proofs.Commits.{start_kept, noted_changed, noted_past, start_next, start_right}
use Rattle.tez_steps.proofs.Steps.{started_quiet}
use Rattle.tez_steps.proofs.committing.start_commit.Goals as goal

pub settle-requires : goal.settle-requires
settle-requires c =
    let on = is_on (master_view c.args.job.now.plan c.args.conf.now c.args.log.now.past) CommitStart c.in_ok-handled.handled c.in_ok-handled.ensures.taken (went c.in_ok-handled.handled c.in_default.not-Ignored) in
    let asked = c.in_ok-handled.ensures.asked on in
    let none : 0 ≤ c.note.new.self.record_room = omega arith in
    record {
      pending = ap is_some asked.pending;
      numbers = c.ask.ensures.numbers;
      steady = c.ask.ensures.steady;
      entries = subst (λ n. n ≤ c.note.new.self.entry_room) (sym (ap length asked.told)) (subst (λ n. 1 ≤ n) (sym c.note.ensures.entry_room) c.in_ok-reserve.ensures.entry_room);
      records = subst (λ rs. length rs ≤ c.note.new.self.record_room) (sym (c.in_ok-handled.ensures.records on)) none;
    }

pub returns : goal.returns
returns c =
    let on = is_on (master_view c.args.job.now.plan c.args.conf.now c.args.log.now.past) CommitStart c.in_ok-handled.handled c.in_ok-handled.ensures.taken (went c.in_ok-handled.handled c.in_default.not-Ignored) in
    let asked = c.in_ok-handled.ensures.asked on in
    let past = noted_past c.args.job.now c.args.conf.now CommitStart c.ask.new.running c.settle.new.running c.args.log.now c.ask.new.log c.settle.new.log c.in_ok-handled.handled c.ask.ensures.log asked (record { master = c.settle.ensures.master; seats = c.settle.ensures.seats; shelves = c.settle.ensures.shelves; past = c.settle.ensures.past ∙ ap (λ (p : Past). extend p (entries_told c.in_ok-handled.handled)) (c.note.ensures.past ∙ c.reserve.ensures.past) }) in
    started_quiet c.args.job.now c.args.conf.now c.args.running.now c.args.log.now c.settle.new.running c.settle.new.log c.requires.holds
    (noted_changed c.args.job.now c.args.conf.now CommitStart c.args.running.now c.ask.new.running c.settle.new.running c.args.log.now c.ask.new.log c.settle.new.log c.in_ok-handled.handled on c.ask.ensures.parts c.ask.ensures.log asked
    (record { master = c.settle.ensures.master; seats = c.settle.ensures.seats; shelves = c.settle.ensures.shelves; past = c.settle.ensures.past ∙ ap (λ (p : Past). extend p (entries_told c.in_ok-handled.handled)) (c.note.ensures.past ∙ c.reserve.ensures.past) })
    (start_kept c.args.job.now c.args.conf.now (parts_of c.args.running.now) c.args.log.now.past c.requires.holds on (short_later c.args.job.now c.args.conf.now CommitStart c.ask.new.running c.args.log.now c.ask.new.log c.in_ok-handled.handled c.ask.ensures.log asked)))
    (start_right c.args.job.now c.args.conf.now c.args.running.now c.args.log.now.past c.settle.new.log.past (notes_of c.settle.new.running) c.requires.holds on (short_later c.args.job.now c.args.conf.now CommitStart c.ask.new.running c.args.log.now c.ask.new.log c.in_ok-handled.handled c.ask.ensures.log asked) past
    (start_next c.args.job.now c.args.running.now c.ask.new.running c.settle.new.running c.as_slice.result.now c.in_ok-sums.sums.items c.as_slice.ensures.value c.in_ok-sums.ensures c.settle.ensures.texts c.settle.ensures.sums c.ask.ensures.notes))
