-- A call: its words, and what its devices told before and after it. `before` and `now` are counts of failures.
use Rattle.std.specs.Prelude.{◌≡◌, ◌⊎◌, ℕ, List, ◌++◌, take, Option, option_map}
use Rattle.tez_ports.specs.Causes.{Rose}
use Rattle.tez_ports.specs.Content.{Named, Store}

-- the input files, and the name of the last read that failed
pub record Reads : Type 0 where
  pub files : Option Named
  pub before : ℕ
  pub now : ℕ
  pub failed : List ℕ

-- the output store
pub record Stored : Type 0 where
  pub old : Option Store
  pub new : Option Store
  pub before : ℕ
  pub now : ℕ
  pub stops_before : ℕ
  pub stops_now : ℕ

-- the text
pub record Writes : Type 0 where
  pub old : Option (List ℕ)
  pub new : Option (List ℕ)
  pub before : ℕ
  pub now : ℕ

pub record Call : Type 0 where
  pub words : List (List ℕ)
  pub reads : Reads
  pub store : Stored
  pub out : Writes

-- those of devices before and after a call, by what the devices tell
abbrev pub reads_of : {A : Type 0} → (A → Option Named) → (A → ℕ) → (A → List ℕ) → A → A → Reads
reads_of files faults failed old new = record { files = files old; before = faults old; now = faults new; failed = failed new }

abbrev pub stored_of : {A : Type 0} → (A → Option Store) → (A → ℕ) → (A → ℕ) → A → A → Stored
stored_of store faults stops old new = record { old = store old; new = store new; before = faults old; now = faults new; stops_before = stops old; stops_now = stops new }

abbrev pub writes_of : {A : Type 0} → (A → Option (List ℕ)) → (A → ℕ) → A → A → Writes
writes_of written faults old new = record { old = written old; new = written new; before = faults old; now = faults new }

-- a call of the store failed, or was stopped
abbrev pub StoreFailed : Stored → Type 0
StoreFailed store = Rose store.before store.now ⊎ Rose store.stops_before store.stops_now

-- this was written
abbrev pub Wrote : List ℕ → Writes → Type 0
Wrote text out = out.new ≡ option_map (λ b. b ++ text) out.old

-- a first part of this was written
abbrev pub WrotePart : List ℕ → Writes → Type 0
WrotePart text out = (n : ℕ) × (out.new ≡ option_map (λ b. b ++ take n text) out.old)
