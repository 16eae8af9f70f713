use Rattle.std.proofs.Common.{◌≡◌, length}
use Rattle.tez_record.specs.Find.{has_part}
use Rattle.tez_record.proofs.find.contains_by_places.Given as goal

abbrev pub invariant-loop-rest : goal.invariant-loop-rest
invariant-loop-rest l = has_part l.rest l.part ≡ has_part l.fn.text l.part

abbrev pub decreases-loop-rest : goal.decreases-loop-rest
decreases-loop-rest l = length l.rest
