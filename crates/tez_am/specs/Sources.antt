-- The source files that are still to be read.
--     names_after read vertices      the names of the files of these vertices that are not among those that were read
--     contents_after m left sources vertices      these sources, and the bytes of those files after them
use Rattle.std.specs.Prelude.{ℕ, Bool, not, List, ◌++◌, map, Result, Ok}
use Rattle.std.specs.List.{filter, flat_map, list_any}
use Rattle.std.specs.Str.{bytes_eq}
use Rattle.tez_plan.specs.declared.parts.VertexSpec.{VertexSpec}
use Rattle.tez_ports.specs.Content.{Named}
use Rattle.tez_am.specs.Accept.{and_then, contents, each_once, source_of}
use Rattle.tez_am.specs.declared.status.Status.{Status}

abbrev pub names_of : Named → List (List ℕ)
names_of files = map (λ file. file.0) files

abbrev pub is_named : List (List ℕ) → List ℕ → Bool
is_named names name = list_any (λ other. bytes_eq other name) names

abbrev pub not_read : List (List ℕ) → List (List ℕ) → List (List ℕ)
not_read read names = filter (λ name. not (is_named read name)) names

abbrev pub names_after : List (List ℕ) → List VertexSpec → List (List ℕ)
names_after read vertices = not_read read (each_once (flat_map source_of vertices))

abbrev pub contents_after : Named → ℕ → Named → List VertexSpec → Result Named Status
contents_after m left sources vertices = and_then (contents m left (names_after (names_of sources) vertices)) (λ rest. Ok (sources ++ rest))
