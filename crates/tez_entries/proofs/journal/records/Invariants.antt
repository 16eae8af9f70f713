use Rattle.std.proofs.Common.{◌≡◌, take}
use Rattle.tez_entries.specs.Records.{records_of}
use Rattle.tez_entries.proofs.journal.records.Given as goal

abbrev pub invariant-loop-entry : goal.invariant-loop-entry
invariant-loop-entry l = l.found.items ≡ records_of (take l.entry-index l.entries)
