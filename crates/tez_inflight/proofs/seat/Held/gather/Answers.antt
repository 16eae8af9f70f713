use Rattle.std.proofs.Common.{is_ok}
use Rattle.tez_inflight.specs.Held.{seat_of}
use Rattle.tez_inflight.proofs.PartLemmas.{numbered_after}
use Rattle.tez_inflight.proofs.seat.Held.gather.Goals as goal

pub invariant_of-self : goal.invariant_of-self
invariant_of-self c = numbered_after (is_ok c.gather_to.result) c.args.edge.0 c.args.piece.now (seat_of c.self.inside.work) _ c.self.invariant c.gather_to.ensures
