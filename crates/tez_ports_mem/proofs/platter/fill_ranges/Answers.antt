use Rattle.std.proofs.Common.{arith}
use Rattle.tez_ports_mem.proofs.KeptLemmas.{end_of}
use Rattle.tez_ports_mem.proofs.platter.fill_ranges.Goals as goal

pub fill_part-requires : goal.fill_part-requires
fill_part-requires c = let ends = end_of c.args.ranges.now c.loop-range.range-index (0, 0) c.loop-range-test.true in omega arith
