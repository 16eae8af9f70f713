-- The attempts of a log that stand at a place.
use Rattle.std.specs.Prelude.{ℕ, List, map, filter, ◌==◌}
use Rattle.tez_ids.specs.declared.AttemptId.{AttemptId}

unfoldable pub marked : ℕ → List (ℕ × AttemptId) → List AttemptId
marked p log = map (λ x. x.1) (filter (λ x. x.0 == p) log)
