use Rattle.std.proofs.Common.{map}
use Rattle.tez_inflight.specs.Seats.{number}
use Rattle.tez_inflight.proofs.PartLemmas.{over_nothing}
use Rattle.tez_inflight.proofs.seat.Held.gathering.Goals as goal

pub invariant_of-result : goal.invariant_of-result
invariant_of-result c = rw (c.in_ok-parts.ensures, over_nothing (map number c.args.edges.now)) c.requires
