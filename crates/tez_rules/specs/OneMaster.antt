-- What the history of a job has that one master runs from its start to its end.
--     comes_in_one begun e    an entry that this master writes, where something came before or not: the open comes first, and
--                             only there; nothing is found of another master, and no master stops
--     has_begun past          something came before
--     IsOfOne past            each entry is one of these
--     FitsBytes e             a number of bytes in a report is below 2 ^ 64
--     BytesFit past           so is each in the history
--     AllFit made             and each in a report
--     IsRuled g c past        what such a history keeps, beside that it is made
use Rattle.std.specs.Prelude.{◌≡◌, ℕ, ◌<◌, ◌^◌, ⊤, Bool, true, false, not, List, [], ◌∷◌}
use Rattle.std.specs.List.{AllByRecursion}
use Rattle.tez_plan.specs.Dag.{Dag}
use Rattle.tez_conf.specs.declared.values.ConfValues.{ConfValues}
use Rattle.tez_events.specs.declared.Entry.{Entry}
use Rattle.tez_events.specs.declared.Entry.TheVariants.{Opened, Over, Stands, Carried, Kept, Configured, Queued, Placed, Fetched, ReadError, InputFailed, Ordered, Succeeded, Made, Failed, Killed, NodeLost, OutputLost, Rerun, Stopped, Committing, Ready, Asked, Settled, Published, CommitStarted, Finished, Purged}
use Rattle.tez_history.specs.History.{Past}
use Rattle.tez_history.specs.Rules.{withdrawals_right}
use Rattle.tez_laws.specs.Laws.{Obeys}

abbrev pub comes_in_one : Bool → Entry → Bool
comes_in_one begun (Opened e) = not begun
comes_in_one begun Over = false
comes_in_one begun (Stands v tasks base) = false
comes_in_one begun (Carried t n) = false
comes_in_one begun (Kept a) = false
comes_in_one begun (Configured v tasks base) = true
comes_in_one begun (Queued a) = true
comes_in_one begun (Placed a k p) = true
comes_in_one begun (Fetched a e i w) = true
comes_in_one begun (ReadError a e i w) = true
comes_in_one begun (InputFailed a e i w) = true
comes_in_one begun (Ordered a) = true
comes_in_one begun (Succeeded a) = true
comes_in_one begun (Made a e n) = true
comes_in_one begun (Failed a) = true
comes_in_one begun (Killed a cause) = true
comes_in_one begun (NodeLost slot l) = true
comes_in_one begun (OutputLost w) = true
comes_in_one begun (Rerun w) = true
comes_in_one begun (Stopped cause) = false
comes_in_one begun (Committing n) = false
comes_in_one begun (Ready v) = true
comes_in_one begun (Asked v) = false
comes_in_one begun (Settled v) = false
comes_in_one begun (Published v) = true
comes_in_one begun CommitStarted = true
comes_in_one begun Finished = true
comes_in_one begun Purged = true

abbrev pub has_begun : Past → Bool
has_begun [] = false
has_begun (e ∷ past) = true

abbrev pub IsOfOne : Past → Type 0
IsOfOne [] = ⊤
IsOfOne (e ∷ past) = (comes_in_one (has_begun past) e ≡ true) × IsOfOne past

-- ---- bytes

abbrev pub FitsBytes : Entry → Type 0
FitsBytes (Made a e n) = n < 2 ^ 64
FitsBytes _ = ⊤

abbrev pub BytesFit : Past → Type 0
BytesFit [] = ⊤
BytesFit (e ∷ past) = FitsBytes e × BytesFit past

abbrev pub AllFit : List (ℕ × ℕ) → Type 0
AllFit made = AllByRecursion (λ m. m.1 < 2 ^ 64) made

-- ---- what is kept

pub record IsRuled (g : Dag) (c : ConfValues) (past : Past) : Type 0 where
  pub one : IsOfOne past
  pub withdrawals : Obeys withdrawals_right g c past
  pub bytes : BytesFit past
