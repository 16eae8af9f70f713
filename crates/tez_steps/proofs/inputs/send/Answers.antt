use Rattle.std.specs.Prelude.{length, is_some, ◌≤◌, Some}
use Rattle.std.proofs.Common.{ap, sym, ◌∙◌, subst, refl}
use Rattle.tez_events.specs.declared.CoreEvent.TheVariants.{Send}
use Rattle.tez_pool.specs.Table.{place_held}
use Rattle.tez_master_view.specs.View.{master_view}
use Rattle.tez_inflight.specs.Seats.{order_out}
use Rattle.tez_steps.proofs.Taking.{is_on, went, changed, short_later, notes_settled}
use Rattle.tez_steps.proofs.Sending.{not_gone, due_placed, due_waits, due_numbers, due_alone, due_vertex, due_configured, due_index, due_attempt, send_kept}
use Rattle.tez_steps.proofs.Steps.{changed_quiet}
use Rattle.tez_steps.proofs.inputs.send.Goals as goal

pub returns-in_default-place_of : goal.returns-in_default-place_of
returns-in_default-place_of c =
    let on = is_on (master_view c.args.job.now.plan c.args.conf.now c.args.log.now.past) (Send c.args.a) c.in_ok-handled.handled c.in_ok-handled.ensures.taken (went c.in_ok-handled.handled c.in_default.not-Ignored) in
    absurd (not_gone (place_held c.ask.new.running.master.state.pool.places c.args.a) (due_placed c.args.job.now c.args.conf.now c.args.running.now c.ask.new.running c.args.log.now.past c.args.a c.ask.ensures.parts c.requires.holds on) (sym c.in_default-place_of.ensures.place))

pub order_of-requires : goal.order_of-requires
order_of-requires c =
    let on = is_on (master_view c.args.job.now.plan c.args.conf.now c.args.log.now.past) (Send c.args.a) c.in_ok-handled.handled c.in_ok-handled.ensures.taken (went c.in_ok-handled.handled c.in_default.not-Ignored) in
    record {
      vertex = due_vertex c.args.job.now c.args.conf.now c.args.running.now c.args.log.now.past c.args.a c.requires.holds on;
      configured = due_index c.args.job.now c.args.conf.now c.args.running.now c.ask.new.running c.args.log.now.past c.args.a c.ask.ensures.parts c.requires.holds on;
      there = due_configured c.args.job.now c.args.conf.now c.args.running.now c.ask.new.running c.args.log.now.past c.args.a c.ask.ensures.parts c.requires.holds on;
      gathers = due_waits c.args.job.now c.args.conf.now c.args.running.now c.ask.new.running c.args.log.now.past c.args.a c.in-Some.place c.ask.ensures.parts c.requires.holds on (sym c.in-Some.ensures.place);
      gathered = λ parts is. due_numbers c.args.job.now c.args.conf.now c.args.running.now c.ask.new.running c.args.log.now.past c.args.a c.in-Some.place parts c.ask.ensures.parts c.requires.holds on (sym c.in-Some.ensures.place) is;
    }

pub put_out-requires : goal.put_out-requires
put_out-requires c =
    let on = is_on (master_view c.args.job.now.plan c.args.conf.now c.args.log.now.past) (Send c.args.a) c.in_ok-handled.handled c.in_ok-handled.ensures.taken (went c.in_ok-handled.handled c.in_default.not-Ignored) in
    let same = due_attempt c.args.job.now c.args.conf.now c.args.running.now c.ask.new.running c.args.log.now.past c.args.a c.in-Some.place c.in_ok-order.order c.ask.ensures.parts c.requires.holds on (sym c.in-Some.ensures.place) c.in_ok-order.ensures in
    record {
      same = c.in_ok-given.ensures;
      waits = due_waits c.args.job.now c.args.conf.now c.args.running.now c.ask.new.running c.args.log.now.past c.args.a c.in-Some.place c.ask.ensures.parts c.requires.holds on (sym c.in-Some.ensures.place) ∙ ap Some (sym same);
      alone = ap (order_out c.ask.new.running.seats.seats) same ∙ due_alone c.args.job.now c.args.conf.now c.args.running.now c.ask.new.running c.args.log.now.past c.args.a c.ask.ensures.parts c.requires.holds on;
    }

pub settle-requires : goal.settle-requires
settle-requires c =
    let on = is_on (master_view c.args.job.now.plan c.args.conf.now c.args.log.now.past) (Send c.args.a) c.in_ok-handled.handled c.in_ok-handled.ensures.taken (went c.in_ok-handled.handled c.in_default.not-Ignored) in
    let asked = c.in_ok-handled.ensures.asked on in
    record {
      pending = ap is_some asked.pending;
      numbers = c.ask.ensures.numbers;
      steady = c.ask.ensures.steady;
      entries = subst (λ es. length es ≤ c.ask.new.log.entry_room) (sym asked.told) asked.entries_fit;
      records = asked.records_fit;
    }

pub returns : goal.returns
returns c =
    let on = is_on (master_view c.args.job.now.plan c.args.conf.now c.args.log.now.past) (Send c.args.a) c.in_ok-handled.handled c.in_ok-handled.ensures.taken (went c.in_ok-handled.handled c.in_default.not-Ignored) in
    let asked = c.in_ok-handled.ensures.asked on in
    changed_quiet c.args.job.now c.args.conf.now (Send c.args.a) c.args.running.now c.args.log.now c.settle.new.running c.settle.new.log c.requires.holds tt (λ e. cc)
    (changed c.args.job.now c.args.conf.now (Send c.args.a) c.args.running.now c.ask.new.running (record c.ask.new.running { seats = c.put_out.new.self }) c.settle.new.running c.args.log.now c.ask.new.log c.settle.new.log c.in_ok-handled.handled on c.ask.ensures.parts c.ask.ensures.log asked
    (record { kept = refl; master = c.settle.ensures.master; seats = c.settle.ensures.seats; shelves = c.settle.ensures.shelves; texts = c.settle.ensures.texts; sums = c.settle.ensures.sums; past = c.settle.ensures.past })
    (send_kept c.args.job.now c.args.conf.now c.args.running.now c.ask.new.running (record c.ask.new.running { seats = c.put_out.new.self }) c.args.log.now.past c.args.a c.in-Some.place c.in_ok-order.order c.ask.ensures.parts c.requires.holds on
    (short_later c.args.job.now c.args.conf.now (Send c.args.a) c.ask.new.running c.args.log.now c.ask.new.log c.in_ok-handled.handled c.ask.ensures.log asked)
    (sym c.in-Some.ensures.place) c.in_ok-order.ensures c.put_out.ensures refl))
    (notes_settled c.args.running.now c.ask.new.running c.settle.new.running c.ask.ensures.notes (c.settle.ensures.texts) (c.settle.ensures.sums))
