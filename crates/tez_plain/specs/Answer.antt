-- The fault that is due.
--     IsBadAnswer fault bad             where `bad` is the first bad record
use Rattle.std.specs.Prelude.{◌≡◌, ⊤, ℕ, List, Option, Some}
use Rattle.tez_plain.specs.declared.fault.PlainFault.{PlainFault}
use Rattle.tez_plain.specs.declared.fault.PlainFault.TheVariants.{BadRecord, NoMemory}

abbrev pub IsBadAnswer : PlainFault → Option (List ℕ) → Type 0
IsBadAnswer (BadRecord r) bad = bad ≡ Some r
IsBadAnswer NoMemory bad = ⊤
