use Rattle.std.proofs.Common.{◌≡◌, ◌≤◌, ◌<◌, ◌+◌, ◌++◌, length, None}
use Rattle.std.specs.Prelude.{vec_capacity}
use Rattle.std.specs.List.{AllByRecursion}
use Rattle.std.specs.Vec.Iter.{into_iter_items}
use Rattle.tez_assembly.specs.Filling.{parts_in, side_in}
use Rattle.tez_assembly.proofs.prepared.filled.Given as goal

abbrev pub invariant-loop-part : goal.invariant-loop-part
invariant-loop-part l = let rest = into_iter_items l.part-iterator in record {
  room : length l.primary.items + length rest ≤ vec_capacity l.primary;
  inside : AllByRecursion (λ part. part.0.0 < length l.plan.edges) rest;
  parts : l.primary.items ++ parts_in l.plan rest ≡ l.fn.primary.items ++ parts_in l.plan l.fn.gathered.items;
  side : side_in l.plan l.side rest ≡ side_in l.plan None l.fn.gathered.items;
}
