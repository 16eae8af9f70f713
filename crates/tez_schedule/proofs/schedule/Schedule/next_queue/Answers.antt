use Rattle.std.proofs.Common.{◌≡◌, ◌<◌, ◌∙◌, ap, sym, arith, is_some, length, true}
use Rattle.std.specs.Option.{option_and_then}
use Rattle.tez_schedule.specs.State.{ScheduleState}
use Rattle.tez_schedule.specs.Table.{next_at}
use Rattle.tez_schedule.proofs.ScheduleLemmas.{found_first, none_more}
use Rattle.tez_schedule.proofs.schedule.Schedule.next_queue.Goals as goal

pub returns-in-Some : goal.returns-in-Some
returns-in-Some c =
    let is = sym c.next_of.ensures ∙ c.in-Some.is in
    let passes : is_some (next_at c.args.self.now c.loop-v.v) ≡ true = ap is_some is in
    let same : length c.self.inside.vertices.items ≡ length c.args.self.now.vertices = ap (λ (s : ScheduleState). length s.vertices) c.self.view_is in
    let below : c.loop-v.v < length c.args.self.now.vertices = omega (arith, c.len-v-end.ensures, c.loop-v-test.true) in
    let first = found_first (λ v. is_some (next_at c.args.self.now v)) c.loop-v.v (length c.args.self.now.vertices) below c.loop-v.invariant passes in
    sym (ap (option_and_then (next_at c.args.self.now)) first ∙ is)

pub loop-v-preserved : goal.loop-v-preserved
loop-v-preserved c = none_more (λ v. is_some (next_at c.args.self.now v)) c.loop-v.v c.loop-v.invariant (ap is_some (sym c.next_of.ensures ∙ c.in_default.is))
