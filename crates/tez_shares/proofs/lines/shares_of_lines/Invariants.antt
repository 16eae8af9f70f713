use Rattle.std.proofs.Common.{◌≡◌, map, drop, length}
use Rattle.std.specs.List.{range_with_len}
use Rattle.tez_record.specs.Line.{lines}
use Rattle.tez_shares.specs.Shares.{first_line, share_of_lines}
use Rattle.tez_shares.proofs.lines.shares_of_lines.Given as goal

abbrev pub invariant-loop-t : goal.invariant-loop-t
invariant-loop-t l = record {
  shares : l.shares.items ≡ map (share_of_lines l.rs l.tasks) (range_with_len 0 l.t);
  left : lines l.rest.rest.now ≡ drop (first_line (length l.rs) l.tasks l.t) l.rs;
}
