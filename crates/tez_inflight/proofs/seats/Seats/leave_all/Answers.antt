use Rattle.std.proofs.Common.{◌∙◌, sym}
use Rattle.tez_inflight.proofs.LeaveLemmas.{leaves_step}
use Rattle.tez_inflight.proofs.seats.Seats.leave_all.Goals as goal

pub loop-place-preserved : goal.loop-place-preserved
loop-place-preserved c = rw c.leave_at.ensures (sym (leaves_step c.loop-place.self c.loop-place.place _ c.loop-place-test.true) ∙ c.loop-place.invariant)
