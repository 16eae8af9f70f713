-- What a run has written: its history, and the records that went into the journal, with the room for more of both.
use Rattle.std.specs.Prelude.{ℕ, List}
use Rattle.tez_events.specs.declared.JournalRecord.{JournalRecord}
use Rattle.tez_history.specs.History.{Past}

pub record LogState : Type 0 where
  pub past : Past
  pub records : List JournalRecord
  pub entry_room : ℕ
  pub record_room : ℕ
