use Rattle.std.specs.Prelude.{length, is_some, ◌≤◌, Some, None}
use Rattle.std.proofs.Common.{◌≡◌, ap, sym, ◌∙◌, subst}
use Rattle.tez_events.specs.declared.CoreEvent.TheVariants.{Fail}
use Rattle.tez_master_view.specs.View.{master_view}
use Rattle.tez_master_model.specs.Steady.{IsSteady}
use Rattle.tez_master.specs.Master.{MasterParts, HasNumbers, spent_in}
use Rattle.tez_steps.proofs.Taking.{is_on, went, notes_settled}
use Rattle.tez_steps.proofs.Failing.{failed, spent}
use Rattle.tez_steps.specs.declared.verdict.Verdict.TheVariants.{AttemptsSpent}
use Rattle.tez_steps.specs.declared.verdict.Took.TheVariants.{Changed, Ended}
use Rattle.tez_steps.specs.Parts.{IsFailed}
use Rattle.tez_steps.proofs.Steps.{failed_quiet}
use Rattle.tez_steps.proofs.places.fail.Goals as goal

pub settle-requires : goal.settle-requires
settle-requires c =
    let on = is_on (master_view c.args.job.now.plan c.args.conf.now c.args.log.now.past) (Fail c.args.a) c.in_ok-handled.handled c.in_ok-handled.ensures.taken (went c.in_ok-handled.handled c.in_default.not-Ignored) in
    let asked = c.in_ok-handled.ensures.asked on in
    record {
      pending = ap (λ (m : MasterParts). is_some m.pending) c.leave.ensures.master ∙ ap is_some asked.pending;
      numbers = subst (λ (m : MasterParts). HasNumbers m.state) (sym c.leave.ensures.master) c.ask.ensures.numbers;
      steady = subst (λ (m : MasterParts). IsSteady m.state) (sym c.leave.ensures.master) c.ask.ensures.steady;
      entries = subst (λ es. length es ≤ c.ask.new.log.entry_room) (sym asked.told) asked.entries_fit;
      records = asked.records_fit;
    }

pub returns-in-Some : goal.returns-in-Some
returns-in-Some c =
    let on = is_on (master_view c.args.job.now.plan c.args.conf.now c.args.log.now.past) (Fail c.args.a) c.in_ok-handled.handled c.in_ok-handled.ensures.taken (went c.in_ok-handled.handled c.in_default.not-Ignored) in
    let asked = c.in_ok-handled.ensures.asked on in
    let told = c.in_ok-handled.ensures.spent on in
    let by = c.spent_by-spent.ensures in
    let here = c.in-Some.is in
    let this : spent_in c.args.running.now.master.state (Fail c.args.a) ≡ Some c.in-Some.t = cc in
    let failure : IsFailed c.args.job.now c.args.conf.now c.args.a c.args.running.now c.args.log.now (Ended (AttemptsSpent c.in-Some.t)) c.settle.new.running c.settle.new.log = spent c.args.job.now c.args.conf.now c.args.a c.in-Some.t c.args.running.now c.ask.new.running c.leave.new.running c.settle.new.running c.args.log.now c.ask.new.log c.settle.new.log c.in_ok-handled.handled c.requires.holds on this c.ask.ensures.log asked
    (record { kept = c.leave.ensures.master; master = c.settle.ensures.master; seats = c.settle.ensures.seats; shelves = c.settle.ensures.shelves; texts = c.settle.ensures.texts ∙ ap (λ v. v.items) c.leave.ensures.texts; sums = c.settle.ensures.sums ∙ ap (λ v. v.items) c.leave.ensures.sums; past = c.settle.ensures.past }) in
    record {
      failed = failure;
      step = failed_quiet c.args.job.now c.args.conf.now c.args.a c.args.running.now c.args.log.now (Ended (AttemptsSpent c.in-Some.t)) c.settle.new.running c.settle.new.log c.requires.holds failure
          (notes_settled c.args.running.now c.ask.new.running c.settle.new.running c.ask.ensures.notes (c.settle.ensures.texts ∙ ap (λ v. v.items) c.leave.ensures.texts) (c.settle.ensures.sums ∙ ap (λ v. v.items) c.leave.ensures.sums));
    }

pub returns-in-None : goal.returns-in-None
returns-in-None c =
    let on = is_on (master_view c.args.job.now.plan c.args.conf.now c.args.log.now.past) (Fail c.args.a) c.in_ok-handled.handled c.in_ok-handled.ensures.taken (went c.in_ok-handled.handled c.in_default.not-Ignored) in
    let asked = c.in_ok-handled.ensures.asked on in
    let told = c.in_ok-handled.ensures.spent on in
    let by = c.spent_by-spent.ensures in
    let here = c.in-None.is in
    let this : spent_in c.args.running.now.master.state (Fail c.args.a) ≡ None = cc in
    let failure : IsFailed c.args.job.now c.args.conf.now c.args.a c.args.running.now c.args.log.now Changed c.settle.new.running c.settle.new.log = failed c.args.job.now c.args.conf.now c.args.a c.args.running.now c.ask.new.running c.leave.new.running c.settle.new.running c.args.log.now c.ask.new.log c.settle.new.log c.in_ok-handled.handled c.requires.holds on this c.ask.ensures.parts c.ask.ensures.log asked
    (record { kept = c.leave.ensures.master; master = c.settle.ensures.master; seats = c.settle.ensures.seats; shelves = c.settle.ensures.shelves; texts = c.settle.ensures.texts ∙ ap (λ v. v.items) c.leave.ensures.texts; sums = c.settle.ensures.sums ∙ ap (λ v. v.items) c.leave.ensures.sums; past = c.settle.ensures.past })
    c.leave.ensures.seats c.leave.ensures.shelves in
    record {
      failed = failure;
      step = failed_quiet c.args.job.now c.args.conf.now c.args.a c.args.running.now c.args.log.now Changed c.settle.new.running c.settle.new.log c.requires.holds failure
          (notes_settled c.args.running.now c.ask.new.running c.settle.new.running c.ask.ensures.notes (c.settle.ensures.texts ∙ ap (λ v. v.items) c.leave.ensures.texts) (c.settle.ensures.sums ∙ ap (λ v. v.items) c.leave.ensures.sums));
    }
