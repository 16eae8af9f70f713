-- A plan with its source files.
--     IsThereOnce files s      the source file of a vertex is there once
--     HasSources plan files    so is that of each vertex
use Rattle.std.specs.Prelude.{◌≡◌, ◌==◌, ℕ, Bool, true, List, IfSome, count_by}
use Rattle.std.specs.List.{AllByRecursion}
use Rattle.std.specs.Option.{option_map_or}
use Rattle.std.specs.Str.{bytes_eq}
use Rattle.tez_plan.specs.declared.parts.VertexSpec.{VertexSpec}
use Rattle.tez_plan.specs.Dag.{Dag}

-- files by name, each with its bytes
abbrev pub Files : Type 0
Files = List (List ℕ × List ℕ)

pub record Job : Type 0 where
  pub plan : Dag
  pub sources : Files

abbrev pub job_of : Dag → Files → Job
job_of plan sources = record { plan = plan; sources = sources }

abbrev pub IsThereOnce : Files → VertexSpec → Type 0
IsThereOnce files s = IfSome s.source (λ name. count_by (λ file. bytes_eq file.0 name) files ≡ 1)

abbrev pub HasSources : Dag → Files → Type 0
HasSources plan files = AllByRecursion (IsThereOnce files) plan.vertices

-- the same as a test
abbrev pub is_there_once : Files → VertexSpec → Bool
is_there_once files s = option_map_or (λ name. count_by (λ file. bytes_eq file.0 name) files == 1) s.source true
