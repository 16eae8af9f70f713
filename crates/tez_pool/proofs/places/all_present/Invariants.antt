use Rattle.std.proofs.Common.{◌≡◌, true, length, take, replicate}
use Rattle.tez_pool.proofs.places.all_present.Given as goal

abbrev pub invariant-loop-place : goal.invariant-loop-place
invariant-loop-place l = record { long : length l.all ≡ l.count; first : take l.place l.all ≡ replicate l.place true }
