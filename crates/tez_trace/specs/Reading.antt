-- Which bytes hold the text of which trace, and which hold none.
--     FitsEntry e            each number of an entry is in the range of its type
--     HasText bytes es       the bytes begin with the text of these entries
--     IsStuck rest           neither the line `end` nor the line of an entry comes next
--     IsRefusedAt bytes n    lines of entries, and then line n, which is neither or is not there
--     IsLineOf line found    the line of that entry, or of none
use Rattle.std.specs.Prelude.{◌≡◌, ℕ, ◌+◌, ◌<◌, ◌^◌, List, ◌++◌, codes, length, ◌≢◌, Option, MatchOption, ◌⊎◌}
use Rattle.std.specs.List.{AllByRecursion, flat_map}
use Rattle.tez_ids.specs.Fixed.{FitsFixed}
use Rattle.tez_events.specs.declared.Entry.{Entry}
use Rattle.tez_events.specs.declared.Entry.TheVariants.{Opened, Over, Stands, Carried, Kept, Configured, Queued, Placed, Fetched, ReadError, InputFailed, Ordered, Succeeded, Made, Failed, Killed, NodeLost, OutputLost, Rerun, Stopped, Committing, Ready, Asked, Settled, Published, CommitStarted, Finished, Purged}
use Rattle.tez_trace.specs.Text.{entry_line, trace_text_of, with_end}

abbrev pub FitsEntry : Entry → Type 0
FitsEntry (Opened epoch) = epoch.0 < 2 ^ 64
FitsEntry Over = Unit {0}
FitsEntry (Stands vertex tasks base) = (vertex.0 < 2 ^ 16) × (tasks < 2 ^ 32) × (base < 2 ^ 32)
FitsEntry (Carried t failures) = (t.vertex.0 < 2 ^ 16) × (t.index < 2 ^ 32) × (failures < 2 ^ 64)
FitsEntry (Kept a) = FitsFixed a
FitsEntry (Configured vertex tasks base) = (vertex.0 < 2 ^ 16) × (tasks < 2 ^ 32) × (base < 2 ^ 32)
FitsEntry (Queued a) = FitsFixed a
FitsEntry (Placed a container place) = FitsFixed a × (container.0 < 2 ^ 128) × (place < 2 ^ 32)
FitsEntry (Fetched a edge input source) = FitsFixed a × (edge.0 < 2 ^ 16) × (input < 2 ^ 32) × FitsFixed source
FitsEntry (ReadError a edge input source) = FitsFixed a × (edge.0 < 2 ^ 16) × (input < 2 ^ 32) × FitsFixed source
FitsEntry (InputFailed a edge input source) = FitsFixed a × (edge.0 < 2 ^ 16) × (input < 2 ^ 32) × FitsFixed source
FitsEntry (Ordered a) = FitsFixed a
FitsEntry (Succeeded a) = FitsFixed a
FitsEntry (Made a edge bytes) = FitsFixed a × (edge.0 < 2 ^ 16) × (bytes < 2 ^ 64)
FitsEntry (Failed a) = FitsFixed a
FitsEntry (Killed a cause) = FitsFixed a
FitsEntry (NodeLost slot life) = (slot < 2 ^ 16) × (life < 2 ^ 64)
FitsEntry (OutputLost a) = FitsFixed a
FitsEntry (Rerun a) = FitsFixed a
FitsEntry (Stopped cause) = Unit {0}
FitsEntry (Committing sinks) = sinks < 2 ^ 64
FitsEntry (Ready vertex) = vertex.0 < 2 ^ 16
FitsEntry (Asked vertex) = vertex.0 < 2 ^ 16
FitsEntry (Settled vertex) = vertex.0 < 2 ^ 16
FitsEntry (Published vertex) = vertex.0 < 2 ^ 16
FitsEntry CommitStarted = Unit {0}
FitsEntry Finished = Unit {0}
FitsEntry Purged = Unit {0}

-- what follows the line `end` does not matter
abbrev pub HasText : List ℕ → List Entry → Type 0
HasText bytes entries = AllByRecursion FitsEntry entries × ((rest : List ℕ) × (trace_text_of entries ++ rest ≡ bytes))

abbrev pub BeginsWith : List ℕ → List ℕ → Type 0
BeginsWith start bytes = (rest : List ℕ) × (start ++ rest ≡ bytes)

abbrev pub IsLineOf : List ℕ → Option Entry → Type 0
IsLineOf line found = MatchOption found ((e : Entry) → FitsEntry e → entry_line e ≢ line) (λ e. FitsEntry e × (entry_line e ≡ line))

-- a line is one with its LF, so a last piece without LF is none
pub record IsStuck (rest : List ℕ) : Type 0 where
  pub no_end : ¬ (BeginsWith (codes "end\n") rest)
  pub no_entry : (e : Entry) → FitsEntry e → ¬ (BeginsWith (with_end e) rest)

-- lines are counted from 1
pub record IsRefusedAt (bytes : List ℕ) (n : ℕ) : Type 0 where
  pub lines : List Entry
  pub fit : AllByRecursion FitsEntry lines
  pub rest : List ℕ
  pub text : flat_map with_end lines ++ rest ≡ bytes
  pub line : n ≡ length lines + 1
  pub stuck : IsStuck rest

abbrev pub IsReadOrRefused : List ℕ → Type 0
IsReadOrRefused bytes = ((es : List Entry) × HasText bytes es) ⊎ ((n : ℕ) × IsRefusedAt bytes n)
