use Rattle.std.proofs.Common.{◌≡◌, ◌++◌, take}
use Rattle.tez_record.proofs.records.push_all.Given as goal

abbrev pub invariant-loop-key : goal.invariant-loop-key
invariant-loop-key l = l.records ≡ l.initial.records ++ take l.key-index l.keys
