use Rattle.std.proofs.Common.{◌≡◌, ◌-◌}
use Rattle.tez_lists.specs.Numbers.{numbers_from}
use Rattle.tez_inflight.specs.Seats.{after_leaves}
use Rattle.tez_inflight.proofs.seats.Seats.leave_all.Given as goal

abbrev pub invariant-loop-place : goal.invariant-loop-place
invariant-loop-place l = after_leaves l.self (numbers_from l.place (l.end - l.place)) ≡ after_leaves l.fn.self (numbers_from l.first l.count)
