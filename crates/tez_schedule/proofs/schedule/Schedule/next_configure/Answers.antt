use Rattle.std.proofs.Common.{◌≡◌, ◌<◌, ◌∙◌, ap, sym, arith, is_some, length, true, false}
use Rattle.tez_schedule.specs.State.{ScheduleState}
use Rattle.tez_schedule.specs.Table.{configures_at}
use Rattle.tez_schedule.proofs.ScheduleLemmas.{found_first, none_more}
use Rattle.tez_schedule.proofs.schedule.Schedule.next_configure.Goals as goal

pub returns-then-is_some : goal.returns-then-is_some
returns-then-is_some c =
    let passes : is_some (configures_at c.args.self.now c.loop-v.v) ≡ true = sym (ap is_some c.configuration.ensures.value) ∙ sym c.is_some.ensures ∙ c.if-is_some.true in
    let same : length c.self.inside.vertices.items ≡ length c.args.self.now.vertices = ap (λ (s : ScheduleState). length s.vertices) c.self.view_is in
    let below : c.loop-v.v < length c.args.self.now.vertices = omega (arith, c.len-v-end.ensures, c.loop-v-test.true) in
    sym (found_first (λ v. is_some (configures_at c.args.self.now v)) c.loop-v.v (length c.args.self.now.vertices) below c.loop-v.invariant passes)

pub loop-v-preserved : goal.loop-v-preserved
loop-v-preserved c =
    let fails : is_some (configures_at c.args.self.now c.loop-v.v) ≡ false = sym (ap is_some c.configuration.ensures.value) ∙ sym c.is_some.ensures ∙ c.if-is_some.false in
    none_more (λ v. is_some (configures_at c.args.self.now v)) c.loop-v.v c.loop-v.invariant fails
