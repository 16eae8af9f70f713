use Rattle.std.specs.Prelude.{length, is_some, ◌≤◌}
use Rattle.std.proofs.Common.{ap, sym, ◌∙◌, subst}
use Rattle.tez_events.specs.declared.CoreEvent.TheVariants.{Fetch}
use Rattle.tez_master_view.specs.View.{master_view}
use Rattle.tez_master_model.specs.Steady.{IsSteady}
use Rattle.tez_master.specs.Master.{MasterParts, HasNumbers}
use Rattle.tez_steps.specs.declared.running.Running.{Running}
use Rattle.tez_steps.proofs.Taking.{is_on, went, changed, short_later, notes_settled}
use Rattle.tez_steps.proofs.Events.{fetch_kept}
use Rattle.tez_steps.proofs.Steps.{changed_quiet}
use Rattle.tez_steps.proofs.inputs.fetch.Goals as goal

pub settle-requires : goal.settle-requires
settle-requires c =
    let on = is_on (master_view c.args.job.now.plan c.args.conf.now c.args.log.now.past) (Fetch c.args.a c.args.e c.args.input) c.in_ok-handled.handled c.in_ok-handled.ensures.taken (went c.in_ok-handled.handled c.in_default.not-Ignored) in
    let asked = c.in_ok-handled.ensures.asked on in
    record {
      pending = ap (λ (m : MasterParts). is_some m.pending) (ap (λ (r : Running). r.master) c.in_ok-copy_piece.ensures.ok) ∙ ap is_some asked.pending;
      numbers = subst (λ (m : MasterParts). HasNumbers m.state) (sym (ap (λ (r : Running). r.master) c.in_ok-copy_piece.ensures.ok)) c.ask.ensures.numbers;
      steady = subst (λ (m : MasterParts). IsSteady m.state) (sym (ap (λ (r : Running). r.master) c.in_ok-copy_piece.ensures.ok)) c.ask.ensures.steady;
      entries = subst (λ es. length es ≤ c.ask.new.log.entry_room) (sym asked.told) asked.entries_fit;
      records = asked.records_fit;
    }

pub returns : goal.returns
returns c =
    let on = is_on (master_view c.args.job.now.plan c.args.conf.now c.args.log.now.past) (Fetch c.args.a c.args.e c.args.input) c.in_ok-handled.handled c.in_ok-handled.ensures.taken (went c.in_ok-handled.handled c.in_default.not-Ignored) in
    let asked = c.in_ok-handled.ensures.asked on in
    changed_quiet c.args.job.now c.args.conf.now (Fetch c.args.a c.args.e c.args.input) c.args.running.now c.args.log.now c.settle.new.running c.settle.new.log c.requires.holds tt (λ e. cc)
    (changed c.args.job.now c.args.conf.now (Fetch c.args.a c.args.e c.args.input) c.args.running.now c.ask.new.running c.copy_piece.new.running c.settle.new.running c.args.log.now c.ask.new.log c.settle.new.log c.in_ok-handled.handled on c.ask.ensures.parts c.ask.ensures.log asked
    (record { kept = ap (λ (r : Running). r.master) c.in_ok-copy_piece.ensures.ok; master = c.settle.ensures.master; seats = c.settle.ensures.seats; shelves = c.settle.ensures.shelves; texts = c.settle.ensures.texts ∙ ap (λ (r : Running). r.texts.items) c.in_ok-copy_piece.ensures.ok; sums = c.settle.ensures.sums ∙ ap (λ (r : Running). r.sums.items) c.in_ok-copy_piece.ensures.ok; past = c.settle.ensures.past })
    (fetch_kept c.args.job.now c.args.conf.now c.args.running.now c.ask.new.running c.copy_piece.new.running c.args.log.now.past c.args.a c.args.e c.args.input c.ask.ensures.parts c.requires.holds on
    (short_later c.args.job.now c.args.conf.now (Fetch c.args.a c.args.e c.args.input) c.ask.new.running c.args.log.now c.ask.new.log c.in_ok-handled.handled c.ask.ensures.log asked)
    (ap (λ (r : Running). r.seats) c.in_ok-copy_piece.ensures.ok) (ap (λ (r : Running). r.shelves) c.in_ok-copy_piece.ensures.ok)))
    (notes_settled c.args.running.now c.ask.new.running c.settle.new.running c.ask.ensures.notes (c.settle.ensures.texts ∙ ap (λ (r : Running). r.texts.items) c.in_ok-copy_piece.ensures.ok) (c.settle.ensures.sums ∙ ap (λ (r : Running). r.sums.items) c.in_ok-copy_piece.ensures.ok))
