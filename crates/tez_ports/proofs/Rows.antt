-- The store on small rows: a sink readied twice and published, an attempt staged twice, a purge.
use Rattle.std.proofs.Common.{◌≡◌, ℕ, List, [], ◌∷◌, Some, refl}
use Rattle.tez_ids.specs.declared.AttemptId.{AttemptId}
use Rattle.tez_ids.specs.Same.{task, attempt}
use Rattle.tez_ports.specs.Content.{Store, staged_at, readies, publishes, stages, purges}

abbrev empty : Store
empty = record { staged = []; readied = []; publications = []; stage_calls = [] }

abbrev kept : List ℕ
kept = 107 ∷ []

abbrev first : AttemptId
first = attempt 1 (task 0 0) 0

abbrev second : AttemptId
second = attempt 1 (task 0 0) 1

abbrev filled : Store
filled = stages first (3 ∷ []) (stages second (2 ∷ []) (stages first (1 ∷ []) (readies kept (8 ∷ []) (readies kept (7 ∷ []) empty))))

readied-row : filled.readied ≡ (kept, 8 ∷ []) ∷ []
readied-row = refl

staged-row : filled.staged ≡ (second, 2 ∷ []) ∷ (first, 3 ∷ []) ∷ []
staged-row = refl

calls-row : filled.stage_calls ≡ (first, 1 ∷ []) ∷ (second, 2 ∷ []) ∷ (first, 3 ∷ []) ∷ []
calls-row = refl

loaded-row : staged_at first filled.staged ≡ Some (3 ∷ [])
loaded-row = refl

published-row : (publishes kept filled).publications ≡ (kept, 8 ∷ []) ∷ []
published-row = refl

unreadied-row : (publishes kept filled).readied ≡ []
unreadied-row = refl

twice-row : publishes kept (publishes kept filled) ≡ publishes kept filled
twice-row = refl

purged-row : purges (publishes kept filled) ≡ record empty { publications = (kept, 8 ∷ []) ∷ []; stage_calls = filled.stage_calls }
purged-row = refl
