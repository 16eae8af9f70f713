use Rattle.std.proofs.Common.{◌≡◌, ◌*◌, ◌^◌, take}
use Rattle.tez_values.specs.Heads.{sum_of}
use Rattle.tez_plain.specs.Keyed.{records_in}
use Rattle.tez_plain.proofs.NumberLemmas.{IsWithin}
use Rattle.tez_plain.proofs.runs.total_of.Given as goal

abbrev pub invariant-loop-entry : goal.invariant-loop-entry
invariant-loop-entry l = record {
  made : l.total ≡ sum_of l.fn.value (records_in (take l.entry-index l.fn.run));
  small : IsWithin (2 ^ 63 * l.entry-index) l.total;
}
