-- The merge of what attempts staged.
--     AreStaged staged attempts        each of these attempts is staged
--     LacksOne attempts store          not each of them is
--     staged_records staged attempts   the lines of their staged bytes, one attempt after another
--     merged staged attempts           these records in byte order
--     prepares attempts name store     the store after the text of the merge was put aside under the name
use Rattle.std.specs.Prelude.{ℕ, List, [], unwrap_or, IsSome}
use Rattle.std.specs.List.{AllByRecursion, flat_map}
use Rattle.tez_ids.specs.declared.AttemptId.{AttemptId}
use Rattle.tez_record.specs.Line.{lines}
use Rattle.tez_record.specs.Bag.{sort, text}
use Rattle.tez_ports.specs.Content.{Staged, Store, readies, staged_at}

abbrev pub AreStaged : Staged → List AttemptId → Type 0
AreStaged staged attempts = AllByRecursion (λ a. IsSome (staged_at a staged)) attempts

abbrev pub LacksOne : List AttemptId → Store → Type 0
LacksOne attempts store = ¬ AreStaged store.staged attempts

-- the staged bytes of an attempt, none where it is not staged
abbrev pub staged_bytes : Staged → AttemptId → List ℕ
staged_bytes staged attempt = unwrap_or (staged_at attempt staged) []

abbrev pub staged_records : Staged → List AttemptId → List (List ℕ)
staged_records staged attempts = flat_map (λ a. lines (staged_bytes staged a)) attempts

abbrev pub merged : Staged → List AttemptId → List (List ℕ)
merged staged attempts = sort (staged_records staged attempts)

abbrev pub prepares : List AttemptId → List ℕ → Store → Store
prepares attempts name store = readies name (text (merged store.staged attempts)) store
