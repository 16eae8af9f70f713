use Rattle.std.proofs.Common.{◌≡◌, drop}
use Rattle.tez_ports.specs.Content.{bytes_of}
use Rattle.tez_ports_mem.proofs.named.find.Given as goal

abbrev pub invariant-loop-entry : goal.invariant-loop-entry
invariant-loop-entry l = bytes_of l.name (drop l.entry-index l.entries) ≡ bytes_of l.name l.entries
