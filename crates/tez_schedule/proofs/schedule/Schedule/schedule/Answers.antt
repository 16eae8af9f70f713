use Rattle.std.proofs.Common.{◌∙◌, ap, sym, length}
use Rattle.tez_schedule.specs.State.{ScheduleState}
use Rattle.tez_schedule.specs.Table.{changed_at, scheduled_with}
use Rattle.tez_schedule.proofs.ScheduleLemmas.{scheduled_is_kept}
use Rattle.tez_schedule.proofs.schedule.Schedule.schedule.Goals as goal

pub invariant_of-self : goal.invariant_of-self
invariant_of-self c =
    let s : ScheduleState = record { vertices = c.self.inside.vertices.items; edges = c.self.inside.edges.items; greatest = c.self.inside.greatest.items } in
    scheduled_is_kept s c.self.inside.vertices.len c.schedule.new.vertices c.args.t c.self.invariant
    (sym c.deref_mut.ensures.len ∙ ap length c.deref_mut.ensures.value)
    (c.schedule.ensures ∙ ap (λ vs. changed_at vs c.args.t.vertex.0 (scheduled_with c.args.t.index)) c.deref_mut.ensures.value)
