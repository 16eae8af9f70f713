-- What is noted of the sinks.
--     noted job ps v       with the records and bytes of one more sink
--     noted_sums job ps    those of the sinks, in the order of vertices
use Rattle.std.specs.Prelude.{ℕ, List, map, slice_set, slice_index_or}
use Rattle.tez_ids.specs.declared.VertexId.{VertexId}
use Rattle.tez_meaning.specs.Jobs.{Job}
use Rattle.tez_history.specs.Shape.{sinks}
use Rattle.tez_world_invariant.specs.Keeping.{Parts, sum_of}

abbrev pub noted : Job → Parts → VertexId → List (ℕ × ℕ)
noted job ps v = slice_set ps.texts v.0 (sum_of job v.0)

abbrev pub noted_sums : Job → Parts → List (ℕ × ℕ)
noted_sums job ps = map (λ v. slice_index_or ps.texts v (0, 0)) (sinks job.plan)
