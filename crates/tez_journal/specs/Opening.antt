-- How a journal is opened.
--     opens d                       the disk once its journal is open
--     IsSynced d                    nothing is pending
--     IsNoText d                    a read gives no journal
--     KeepsTexts old new            a journal that a read gave, a read still gives
--     KeepsImages old new           of a disk with nothing pending a cut of the power leaves the journal that it had
--     disk_after result             the disk, whatever opening answered
--     answer result                 the answer without the disk
--     JournalHasCause ..            Failed where the faults rose, Stopped where the stops rose
use Rattle.std.specs.Prelude.{◌≡◌, ◌⊎◌, ◌≤◌, ℕ, List, [], ◌∷◌, length, if◌then◌else◌, nat_le, Option, Result, Ok, Err, IsErrOf}
use Rattle.tez_events.specs.declared.JournalRecord.{JournalRecord}
use Rattle.tez_ports.specs.Causes.{Rose}
use Rattle.tez_ports.specs.Content.{Told}
use Rattle.tez_ports.specs.Image.{Disk, settled}
use Rattle.tez_journal.specs.Text.{IsText}
use Rattle.tez_journal.specs.Crash.{Leaves}
use Rattle.tez_journal.specs.declared.fault.JournalFault.{JournalFault}
use Rattle.tez_journal.specs.declared.fault.JournalFault.TheVariants.{Failed, Stopped}
use Rattle.tez_journal.specs.declared.journal.Journal.{Journal}

-- a content of one byte or none becomes a closed gate, and nothing is pending
abbrev pub opens : Disk → Disk
opens d = if nat_le (length d.read) 1 then settled (0 ∷ []) else d

abbrev pub IsSynced : Disk → Type 0
IsSynced d = d.pending ≡ []

abbrev pub IsNoText : Disk → Type 0
IsNoText d = (rs : List JournalRecord) → ¬ IsText d.read rs

abbrev pub KeepsTexts : Option Disk → Option Disk → Type 0
KeepsTexts old new = (rs : List JournalRecord) → Told old (λ d. IsText d.read rs) → Told new (λ d. IsText d.read rs)

abbrev pub KeepsImages : Option Disk → Option Disk → Type 0
KeepsImages old new = (rs : List JournalRecord) → Told old (λ d. IsSynced d × IsText d.read rs)
    → Told new (Leaves (λ image. IsText image rs))

abbrev pub disk_after : {D T : Type 0} → Result (Journal D × T) (D × JournalFault) → D
disk_after (Ok opened) = opened.0.disk
disk_after (Err e) = e.0

abbrev pub answer : {D T : Type 0} → Result T (D × JournalFault) → Result T JournalFault
answer (Ok opened) = Ok opened
answer (Err e) = Err e.1

pub record JournalHasCause {T : Type 0} (faults stops new_faults new_stops : ℕ)
    (result : Result T JournalFault) : Type 0 where
  pub later : faults ≤ new_faults
  pub later_stops : stops ≤ new_stops
  pub failed : IsErrOf result Failed → Rose faults new_faults
  pub stopped : IsErrOf result Stopped → Rose stops new_stops
  pub steady : IsErrOf result Failed ⊎ (new_faults ≡ faults)
  pub steady_stops : IsErrOf result Stopped ⊎ (new_stops ≡ stops)
