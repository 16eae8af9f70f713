use Rattle.std.proofs.Common.{◌≡◌, drop}
use Rattle.tez_ports.specs.Content.{staged_at}
use Rattle.tez_ports_mem.proofs.staged.find.Given as goal

abbrev pub invariant-loop-entry : goal.invariant-loop-entry
invariant-loop-entry l = staged_at l.attempt (drop l.entry-index l.entries) ≡ staged_at l.attempt l.entries
