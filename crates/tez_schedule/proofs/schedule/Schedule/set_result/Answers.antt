use Rattle.std.proofs.Common.{◌∙◌, ap, sym, length}
use Rattle.tez_lists.proofs.Tables.{length-each}
use Rattle.tez_schedule.specs.State.{ScheduleState}
use Rattle.tez_schedule.specs.Table.{with_winner, with_made, asked_at}
use Rattle.tez_schedule.proofs.ScheduleLemmas.{result_is_kept}
use Rattle.tez_schedule.proofs.schedule.Schedule.set_result.Goals as goal

pub invariant_of-self : goal.invariant_of-self
invariant_of-self c =
    let s : ScheduleState = record { vertices = c.self.inside.vertices.items; edges = c.self.inside.edges.items; greatest = c.self.inside.greatest.items } in
    result_is_kept s c.self.inside.vertices.len c.self.inside.edges.len c.self.inside.greatest.len c.set_winner.new.vertices c.set_made.new.edges c.ask.new.greatest
    c.args.t c.args.has c.args.made.now c.self.invariant
    (sym c.deref_mut.ensures.len ∙ ap length c.deref_mut.ensures.value)
    (sym c.deref_mut-2.ensures.len ∙ ap length c.deref_mut-2.ensures.value)
    (sym c.deref_mut-3.ensures.len ∙ ap length c.deref_mut-3.ensures.value)
    (c.set_winner.ensures ∙ ap (λ vs. with_winner vs c.args.t c.args.has) c.deref_mut.ensures.value)
    (c.set_made.ensures ∙ ap (λ es. with_made es c.args.t c.args.made.now) c.deref_mut-2.ensures.value)
    (ap length c.ask.ensures ∙ length-each (asked_at c.deref.result.now c.deref-2.result.now) 0 c.deref_mut-3.result.now ∙ ap length c.deref_mut-3.ensures.value)
