use Rattle.std.proofs.Common.{◌≡◌, replicate}
use Rattle.tez_inflight.specs.Seats.{Vacant}
use Rattle.tez_inflight.proofs.seats.vacant_seats.Given as goal

abbrev pub invariant-loop-place : goal.invariant-loop-place
invariant-loop-place l = l.seats.items ≡ replicate l.place Vacant
