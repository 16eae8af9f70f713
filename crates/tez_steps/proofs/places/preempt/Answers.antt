use Rattle.std.specs.Prelude.{length, is_some, ◌≤◌}
use Rattle.std.proofs.Common.{ap, sym, ◌∙◌, subst}
use Rattle.tez_events.specs.declared.CoreEvent.TheVariants.{Preempt}
use Rattle.tez_master_view.specs.View.{master_view}
use Rattle.tez_master_model.specs.Steady.{IsSteady}
use Rattle.tez_master.specs.Master.{MasterParts, HasNumbers}
use Rattle.tez_steps.proofs.Taking.{is_on, went, changed, short_later, notes_settled}
use Rattle.tez_steps.proofs.Events.{preempt_kept}
use Rattle.tez_steps.proofs.Steps.{changed_quiet}
use Rattle.tez_steps.proofs.places.preempt.Goals as goal

pub settle-requires : goal.settle-requires
settle-requires c =
    let on = is_on (master_view c.args.job.now.plan c.args.conf.now c.args.log.now.past) (Preempt c.args.a) c.in_ok-handled.handled c.in_ok-handled.ensures.taken (went c.in_ok-handled.handled c.in_default.not-Ignored) in
    let asked = c.in_ok-handled.ensures.asked on in
    record {
      pending = ap (λ (m : MasterParts). is_some m.pending) c.leave.ensures.master ∙ ap is_some asked.pending;
      numbers = subst (λ (m : MasterParts). HasNumbers m.state) (sym c.leave.ensures.master) c.ask.ensures.numbers;
      steady = subst (λ (m : MasterParts). IsSteady m.state) (sym c.leave.ensures.master) c.ask.ensures.steady;
      entries = subst (λ es. length es ≤ c.ask.new.log.entry_room) (sym asked.told) asked.entries_fit;
      records = asked.records_fit;
    }

pub returns : goal.returns
returns c =
    let on = is_on (master_view c.args.job.now.plan c.args.conf.now c.args.log.now.past) (Preempt c.args.a) c.in_ok-handled.handled c.in_ok-handled.ensures.taken (went c.in_ok-handled.handled c.in_default.not-Ignored) in
    let asked = c.in_ok-handled.ensures.asked on in
    changed_quiet c.args.job.now c.args.conf.now (Preempt c.args.a) c.args.running.now c.args.log.now c.settle.new.running c.settle.new.log c.requires.holds tt (λ e. cc)
    (changed c.args.job.now c.args.conf.now (Preempt c.args.a) c.args.running.now c.ask.new.running c.leave.new.running c.settle.new.running c.args.log.now c.ask.new.log c.settle.new.log c.in_ok-handled.handled on c.ask.ensures.parts c.ask.ensures.log asked
    (record { kept = c.leave.ensures.master; master = c.settle.ensures.master; seats = c.settle.ensures.seats; shelves = c.settle.ensures.shelves; texts = c.settle.ensures.texts ∙ ap (λ v. v.items) c.leave.ensures.texts; sums = c.settle.ensures.sums ∙ ap (λ v. v.items) c.leave.ensures.sums; past = c.settle.ensures.past })
    (preempt_kept c.args.job.now c.args.conf.now c.args.running.now c.ask.new.running c.leave.new.running c.args.log.now.past c.args.a c.ask.ensures.parts c.requires.holds on
    (short_later c.args.job.now c.args.conf.now (Preempt c.args.a) c.ask.new.running c.args.log.now c.ask.new.log c.in_ok-handled.handled c.ask.ensures.log asked)
    c.leave.ensures.seats c.leave.ensures.shelves))
    (notes_settled c.args.running.now c.ask.new.running c.settle.new.running c.ask.ensures.notes (c.settle.ensures.texts ∙ ap (λ v. v.items) c.leave.ensures.texts) (c.settle.ensures.sums ∙ ap (λ v. v.items) c.leave.ensures.sums))
