use Rattle.std.proofs.Common.{◌≡◌, ◌++◌, map, take, drop}
use Rattle.tez_record.specs.Bag.{sort}
use Rattle.tez_partition.proofs.sort_each.Given as goal

abbrev pub invariant-loop-part : goal.invariant-loop-part
invariant-loop-part l = l.part-items ≡ map sort (take l.part-index l.fn.parts) ++ drop l.part-index l.fn.parts
