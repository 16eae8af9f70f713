use Rattle.std.proofs.Common.{arith}
use Rattle.tez_pool.proofs.IndexLemmas.{noted}
use Rattle.tez_pool.proofs.index.note.Goals as goal

pub returns-clause-kept : goal.returns-clause-kept
returns-clause-kept c = record {
  finds = noted c.args.places.now c.make_room.new.index c.put.new.index c.args.place c.args.attempt c.make_room.ensures.kept c.requires.absent c.put.ensures.updates;
  room = omega (arith, c.make_room.ensures.kept.room, c.put.ensures.room);
}
