use Rattle.std.proofs.Common.{◌≡◌, ◌≤◌, drop, length}
use Rattle.tez_history.specs.History.{extend}
use Rattle.tez_log.proofs.log.Log.write_all.Given as goal

abbrev pub invariant-loop-e : goal.invariant-loop-e
invariant-loop-e l = record {
  past : extend l.self.past (drop l.e-index l.entries) ≡ extend l.initial.self.past l.entries;
  records : l.self.records ≡ l.initial.self.records;
  room : length (drop l.e-index l.entries) ≤ l.self.entry_room;
  record_room : l.self.record_room ≡ l.initial.self.record_room;
}
