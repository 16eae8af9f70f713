use Rattle.std.proofs.Common.{is_ok}
use Rattle.tez_inflight.proofs.QueueLemmas.{given_gathered}
use Rattle.tez_inflight.proofs.seats.Seats.gather.Goals as goal

pub invariant_of-self : goal.invariant_of-self
invariant_of-self c = given_gathered (is_ok c.gather_at.result) c.self.inside.seats.items _ c.self.inside.orders.items _ _ c.args.place c.args.edge.0 c.args.piece.now c.self.invariant c.gather_at.ensures
