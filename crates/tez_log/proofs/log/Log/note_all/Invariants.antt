use Rattle.std.proofs.Common.{◌≡◌, ◌≤◌, ◌++◌, length}
use Rattle.std.specs.Vec.Iter.{into_iter_items}
use Rattle.tez_log.proofs.log.Log.note_all.Given as goal

abbrev pub invariant-loop-r : goal.invariant-loop-r
invariant-loop-r l = record {
  past : l.self.past ≡ l.initial.self.past;
  records : l.self.records ++ into_iter_items l.r-iterator ≡ l.initial.self.records ++ l.fn.records.items;
  room : length (into_iter_items l.r-iterator) ≤ l.self.record_room;
  entry_room : l.self.entry_room ≡ l.initial.self.entry_room;
}
