use Rattle.std.proofs.Common.{◌∙◌, ap, sym, length}
use Rattle.tez_lists.proofs.Tables.{length-each}
use Rattle.tez_schedule.specs.State.{ScheduleState}
use Rattle.tez_schedule.specs.Table.{changed_at, configured_with, asked_at}
use Rattle.tez_schedule.proofs.ScheduleLemmas.{configured_is_kept}
use Rattle.tez_schedule.proofs.schedule.Schedule.configure.Goals as goal

pub invariant_of-self : goal.invariant_of-self
invariant_of-self c =
    let s : ScheduleState = record { vertices = c.self.inside.vertices.items; edges = c.self.inside.edges.items; greatest = c.self.inside.greatest.items } in
    configured_is_kept s c.self.inside.vertices.len c.self.inside.greatest.len c.configure.new.vertices c.ask.new.greatest c.args.v.0 c.args.config c.self.invariant
    (sym c.deref_mut.ensures.len ∙ ap length c.deref_mut.ensures.value)
    (sym c.deref_mut-2.ensures.len ∙ ap length c.deref_mut-2.ensures.value)
    (c.configure.ensures ∙ ap (λ vs. changed_at vs c.args.v.0 (configured_with c.args.config)) c.deref_mut.ensures.value)
    (ap length c.ask.ensures ∙ length-each (asked_at c.deref.result.now c.deref-2.result.now) 0 c.deref_mut-2.result.now ∙ ap length c.deref_mut-2.ensures.value)
