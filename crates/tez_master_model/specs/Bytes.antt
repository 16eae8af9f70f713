-- The bytes of a report.
--     bytes_of m          an edge's number with its bytes
--     IsMadeFor g a made  a pair for each scatter-gather edge out of the attempt's vertex, by edge
use Rattle.std.specs.Prelude.{◌≡◌, ℕ, Bool, ◌&&◌, ◌==◌, List, map}
use Rattle.std.specs.List.{filter, enumerate_from}
use Rattle.tez_ids.specs.declared.EdgeId.{EdgeId}
use Rattle.tez_ids.specs.declared.AttemptId.{AttemptId}
use Rattle.tez_plan.specs.Dag.{Dag, from, is_scatter_gather}
use Rattle.tez_plan.specs.declared.parts.EdgeSpec.{EdgeSpec}

abbrev pub bytes_of : EdgeId × ℕ → ℕ × ℕ
bytes_of m = (m.0.0, m.1)

-- one pair for each scatter-gather edge out of the attempt's vertex, by edge
abbrev pub leaves_by_key : Dag → ℕ → ℕ × EdgeSpec → Bool
leaves_by_key g v e = is_scatter_gather e.1 && (from g e.1 == v)

abbrev pub IsMadeFor : Dag → AttemptId → List (EdgeId × ℕ) → Type 0
IsMadeFor g a made = map (λ m. m.0.0) made ≡ map (λ e. e.0) (filter (leaves_by_key g a.task.vertex.0) (enumerate_from 0 g.edges))
