use Rattle.std.specs.Prelude.{length, is_some, ◌≤◌, map}
use Rattle.std.proofs.Common.{ap, sym, ◌∙◌, subst, refl}
use Rattle.tez_plan.specs.Dag.{edge}
use Rattle.tez_events.specs.declared.CoreEvent.TheVariants.{Place}
use Rattle.tez_history.specs.Shape.{edges_to}
use Rattle.tez_master_view.specs.View.{master_view}
use Rattle.tez_steps.proofs.Taking.{is_on, went, changed, short_later, notes_settled}
use Rattle.tez_steps.proofs.Events.{seat_free, edges_in_differ, place_kept}
use Rattle.tez_steps.proofs.Steps.{changed_quiet}
use Rattle.tez_steps.proofs.places.place.Goals as goal

pub seat-requires : goal.seat-requires
seat-requires c =
    let on = is_on (master_view c.args.job.now.plan c.args.conf.now c.args.log.now.past) (Place c.args.a c.args.place) c.in_ok-handled.handled c.in_ok-handled.ensures.taken (went c.in_ok-handled.handled c.in_default.not-Ignored) in
    let asked = c.in_ok-handled.ensures.asked on in
    record {
      free = seat_free c.args.job.now c.args.conf.now c.args.running.now c.ask.new.running c.args.log.now.past c.args.a c.args.place c.ask.ensures.parts c.requires.holds on;
      differ = edges_in_differ c.args.job.now c.args.a.task.vertex.0 c.as_slice.result.now (c.as_slice.ensures.value ∙ c.in_ok-edges.ensures ∙ ap (λ g. map (λ e. edge e.0) (edges_to g c.args.a.task.vertex.0)) c.plan.ensures);
    }

pub settle-requires : goal.settle-requires
settle-requires c =
    let on = is_on (master_view c.args.job.now.plan c.args.conf.now c.args.log.now.past) (Place c.args.a c.args.place) c.in_ok-handled.handled c.in_ok-handled.ensures.taken (went c.in_ok-handled.handled c.in_default.not-Ignored) in
    let asked = c.in_ok-handled.ensures.asked on in
    record {
      pending = ap is_some asked.pending;
      numbers = c.ask.ensures.numbers;
      steady = c.ask.ensures.steady;
      entries = subst (λ es. length es ≤ c.ask.new.log.entry_room) (sym asked.told) asked.entries_fit;
      records = asked.records_fit;
    }

pub returns : goal.returns
returns c =
    let on = is_on (master_view c.args.job.now.plan c.args.conf.now c.args.log.now.past) (Place c.args.a c.args.place) c.in_ok-handled.handled c.in_ok-handled.ensures.taken (went c.in_ok-handled.handled c.in_default.not-Ignored) in
    let asked = c.in_ok-handled.ensures.asked on in
    changed_quiet c.args.job.now c.args.conf.now (Place c.args.a c.args.place) c.args.running.now c.args.log.now c.settle.new.running c.settle.new.log c.requires.holds tt (λ e. cc)
    (changed c.args.job.now c.args.conf.now (Place c.args.a c.args.place) c.args.running.now c.ask.new.running (record c.ask.new.running { seats = c.seat.new.self }) c.settle.new.running c.args.log.now c.ask.new.log c.settle.new.log c.in_ok-handled.handled on c.ask.ensures.parts c.ask.ensures.log asked
    (record { kept = refl; master = c.settle.ensures.master; seats = c.settle.ensures.seats; shelves = c.settle.ensures.shelves; texts = c.settle.ensures.texts; sums = c.settle.ensures.sums; past = c.settle.ensures.past })
    (place_kept c.args.job.now c.args.conf.now c.args.running.now c.ask.new.running (record c.ask.new.running { seats = c.seat.new.self }) c.args.log.now.past c.args.a c.args.place c.as_slice.result.now c.ask.ensures.parts c.requires.holds on
    (short_later c.args.job.now c.args.conf.now (Place c.args.a c.args.place) c.ask.new.running c.args.log.now c.ask.new.log c.in_ok-handled.handled c.ask.ensures.log asked)
    (c.as_slice.ensures.value ∙ c.in_ok-edges.ensures ∙ ap (λ g. map (λ e. edge e.0) (edges_to g c.args.a.task.vertex.0)) c.plan.ensures) c.in_ok-seat.ensures refl))
    (notes_settled c.args.running.now c.ask.new.running c.settle.new.running c.ask.ensures.notes (c.settle.ensures.texts) (c.settle.ensures.sums))
