-- A journal over a disk of its own.
--     disk_of j                     the disk under it
--     gate_of j                     its last gate
--     room spare j                  the units for which there is room
use Rattle.std.specs.Prelude.{ℕ}
use Rattle.tez_journal.specs.Gate.{room_at}
use Rattle.tez_journal.specs.declared.gate.Gate.{Gate}
use Rattle.tez_journal.specs.declared.journal.Journal.{Journal}

abbrev pub disk_of : {D : Type 0} → Journal D → D
disk_of j = j.disk

abbrev pub gate_of : {D : Type 0} → Journal D → Gate
gate_of j = j.gate

abbrev pub room : {D : Type 0} → (D → ℕ) → Journal D → ℕ
room spare j = room_at (spare j.disk) j.gate
