use Rattle.std.proofs.Common.{◌≡◌, ◌*◌, length, take}
use Rattle.std.specs.Prelude.{All}
use Rattle.std.specs.List.{flat_map}
use Rattle.tez_events.specs.Body.{pair_bytes, FitsPair}
use Rattle.tez_events.proofs.codec.pairs_of.Given as goal

abbrev pub invariant-loop-i : goal.invariant-loop-i
invariant-loop-i l = record {
  len : length l.pairs.items ≡ l.i;
  fits : All FitsPair l.pairs.items;
  bytes : flat_map pair_bytes l.pairs.items ≡ take (16 * l.i) l.bytes;
}
