-- What a walk over the file answers: what it read, or its first fault. A walk is written as a `do` block, one line for each thing that is read.
--     Reads result due            the code's answer is the one that is due, unless it lacked memory
--     ReadsAs seen result due     so is what is seen of the code's answer
use Rattle.std.specs.Prelude.{◌≡◌, ◌≢◌, Result, Ok, Err}
use Rattle.tez_dag_json.specs.declared.fault.DagFault.{DagFault}
use Rattle.tez_dag_json.specs.declared.fault.DagFault.TheVariants.{NoMemory}

abbrev pub Answer : Type 0 → Type 0
Answer X = Result X DagFault

infixl 20 ◌>>=◌
infixl 20 ◌>>◌
-- what is read after the first, if that was no fault
abbrev pub ◌>>=◌ : {X Y : Type 0} → Answer X → (X → Answer Y) → Answer Y
◌>>=◌ (Ok x) next = next x
◌>>=◌ (Err fault) next = Err fault

abbrev pub ◌>>◌ : {X Y : Type 0} → Answer X → Answer Y → Answer Y
◌>>◌ (Ok x) next = next
◌>>◌ (Err fault) next = Err fault

abbrev pub ReadsAs : {R X : Type 0} → (R → X) → Result R DagFault → Answer X → Type 0
ReadsAs seen (Ok r) due = due ≡ Ok (seen r)
ReadsAs seen (Err e) due = e ≢ NoMemory → due ≡ Err e

abbrev pub Reads : {X : Type 0} → Result X DagFault → Answer X → Type 0
Reads (Ok x) due = due ≡ Ok x
Reads (Err e) due = e ≢ NoMemory → due ≡ Err e
