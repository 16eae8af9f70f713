use Rattle.std.proofs.Common.{is_ok, arith}
use Rattle.tez_inflight.proofs.QueueLemmas.{seat_gathered, none_gathered}
use Rattle.tez_inflight.proofs.seats.gather_at.Goals as goal

pub returns-then-place-len : goal.returns-then-place-len
returns-then-place-len c = seat_gathered (is_ok c.gather.result) c.args.seats.now.items c.args.place c.index_mut.result.now _ c.args.edge.0 c.args.piece.now (omega arith) c.index_mut.ensures.value c.gather.ensures

pub returns : goal.returns
returns c = none_gathered c.args.seats.now.items c.args.place c.args.edge.0 c.args.piece.now (omega arith)
