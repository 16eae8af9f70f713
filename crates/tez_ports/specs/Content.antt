-- What devices hold, where they tell it.
use Rattle.std.specs.Prelude.{◌≡◌, ◌⊎◌, ℕ, List, [], ◌∷◌, ◌++◌, filter, not, bytes_eq, if◌then◌else◌, Option, Some, None, option_map}
use Rattle.tez_ids.specs.declared.AttemptId.{AttemptId}
use Rattle.tez_ids.specs.Same.{same_attempt}

-- names, each with its bytes; the first of a name counts
abbrev pub Named : Type 0
Named = List (List ℕ × List ℕ)

abbrev pub bytes_of : List ℕ → Named → Option (List ℕ)
bytes_of name [] = None
bytes_of name (entry ∷ rest) = if bytes_eq entry.0 name then Some entry.1 else bytes_of name rest

-- the entries of other names
abbrev pub without : List ℕ → Named → Named
without name entries = filter (λ entry. not (bytes_eq entry.0 name)) entries

-- attempts, each with its bytes; the first of an attempt counts
abbrev pub Staged : Type 0
Staged = List (AttemptId × List ℕ)

-- staged bytes by attempt, readied bytes by name, and the lists of publications and of stage calls
pub record Store : Type 0 where
  pub staged : Staged
  pub readied : Named
  pub publications : Named
  pub stage_calls : Staged

-- the entries with one more at the end, in place of any of its name
abbrev pub put : List ℕ → List ℕ → Named → Named
put name bytes entries = without name entries ++ (name, bytes) ∷ []

-- the sink's bytes are put aside, in place of any before
abbrev pub readies : List ℕ → List ℕ → Store → Store
readies name bytes store = record store { readied = put name bytes store.readied }

-- readied bytes become the last publication
abbrev pub moves : List ℕ → Store → Option (List ℕ) → Store
moves name store None = store
moves name store (Some bytes) = record store {
  readied = without name store.readied;
  publications = store.publications ++ (name, bytes) ∷ [];
}

abbrev pub publishes : List ℕ → Store → Store
publishes name store = moves name store (bytes_of name store.readied)

-- the staged bytes of an attempt
abbrev pub staged_at : AttemptId → Staged → Option (List ℕ)
staged_at attempt [] = None
staged_at attempt (entry ∷ rest) = if same_attempt entry.0 attempt then Some entry.1 else staged_at attempt rest

-- the entries of other attempts
abbrev pub without_attempt : AttemptId → Staged → Staged
without_attempt attempt entries = filter (λ entry. not (same_attempt entry.0 attempt)) entries

-- the attempt's bytes are put aside, in place of any before, and the call is noted
abbrev pub stages : AttemptId → List ℕ → Store → Store
stages attempt bytes store = record store {
  staged = without_attempt attempt store.staged ++ (attempt, bytes) ∷ [];
  stage_calls = store.stage_calls ++ (attempt, bytes) ∷ [];
}

abbrev pub purges : Store → Store
purges store = record store { staged = []; readied = [] }

-- nothing is put aside under the name
abbrev pub LacksReadied : List ℕ → Store → Type 0
LacksReadied name store = bytes_of name store.readied ≡ None

-- the attempt is not staged
abbrev pub LacksStaged : AttemptId → Store → Type 0
LacksStaged attempt store = staged_at attempt store.staged ≡ None

-- it took effect, or not, and nothing else changed
abbrev pub IsEither : {C : Type 0} → (C → C) → Option C → Option C → Type 0
IsEither effect old new = (new ≡ old) ⊎ (new ≡ option_map effect old)

-- a fact about what is told, where it is told
abbrev pub Told : {C : Type 0} → Option C → (C → Type 0) → Type 0
Told {C} told P = (c : C) → told ≡ Some c → P c
