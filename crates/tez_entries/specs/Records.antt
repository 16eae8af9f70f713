-- What entries append to the journal.
--     record_of e       the record of an entry that is kept: a configuration, a success, a failure, a sink that is published or
--                       was there, the end of the job
--     records_of es     those of a list of entries, in its order
-- The records of an open and of the start of the commit say more than their entries, and are made elsewhere. A commit that is
-- taken up stands in the journal already.
use Rattle.std.specs.Prelude.{List, [], ◌∷◌}
use Rattle.std.specs.List.{flat_map}
use Rattle.tez_events.specs.declared.Entry.{Entry}
use Rattle.tez_events.specs.declared.Entry.TheVariants.{Opened, Over, Stands, Carried, Kept, Committing, Configured, Queued, Placed, Fetched, ReadError, InputFailed, Ordered, Succeeded, Made, Failed, Killed, NodeLost, OutputLost, Rerun, Stopped, Ready, Asked, Settled, Published, CommitStarted, Finished, Purged}
use Rattle.tez_events.specs.declared.JournalRecord.{JournalRecord}
use Rattle.tez_events.specs.declared.JournalRecord.TheVariants.{Configured as ConfiguredRecord, TaskSucceeded, AttemptFailed, SinkPublished, Finished as FinishedRecord}

abbrev pub record_of : Entry → List JournalRecord
record_of (Opened epoch) = []
record_of Over = []
record_of (Stands v tasks base) = []
record_of (Carried t n) = []
record_of (Kept a) = []
record_of (Committing n) = []
record_of (Configured v tasks base) = ConfiguredRecord v tasks base ∷ []
record_of (Queued a) = []
record_of (Placed a container p) = []
record_of (Fetched a e i w) = []
record_of (ReadError a e i w) = []
record_of (InputFailed a e i w) = []
record_of (Ordered a) = []
record_of (Succeeded a) = TaskSucceeded a ∷ []
record_of (Made a e n) = []
record_of (Failed a) = AttemptFailed a ∷ []
record_of (Killed a cause) = []
record_of (NodeLost slot life) = []
record_of (OutputLost w) = []
record_of (Rerun w) = []
record_of (Stopped cause) = []
record_of (Ready v) = []
record_of (Asked v) = []
record_of (Settled v) = SinkPublished v ∷ []
record_of (Published v) = SinkPublished v ∷ []
record_of CommitStarted = []
record_of Finished = FinishedRecord ∷ []
record_of Purged = []

abbrev pub records_of : List Entry → List JournalRecord
records_of es = flat_map record_of es
