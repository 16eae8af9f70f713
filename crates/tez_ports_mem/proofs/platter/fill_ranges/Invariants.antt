use Rattle.std.proofs.Common.{◌≡◌, ◌≤◌, drop}
use Rattle.std.specs.Vec.{vec_len, vec_capacity}
use Rattle.tez_ports_mem.specs.Kept.{filled}
use Rattle.tez_ports_mem.proofs.platter.fill_ranges.Given as goal

abbrev pub invariant-loop-range : goal.invariant-loop-range
invariant-loop-range l = record {
  filled : filled l.byte (drop l.range-index l.ranges) l.content.items ≡ filled l.byte l.ranges l.initial.content.items;
  len : vec_len l.content ≡ vec_len l.initial.content;
  capacity : vec_capacity l.initial.content ≤ vec_capacity l.content;
}
