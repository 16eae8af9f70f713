-- What is gathered over edges, put into inputs part by part.
--     broadcasts g n          the edge of this number is a broadcast
--     parts_in g gathered     the lists that the head reads
--     side_in g side gathered the records over the last broadcast, or else the side that was there
use Rattle.std.specs.Prelude.{ℕ, Bool, false, not, if◌then◌else◌, List, map, slice_get, Option, Some}
use Rattle.std.specs.List.{filter, fold}
use Rattle.std.specs.Option.{option_map_or}
use Rattle.tez_ids.specs.declared.VertexId.{VertexId}
use Rattle.tez_ids.specs.declared.EdgeId.{EdgeId}
use Rattle.tez_plan.specs.Dag.{Dag, vertex, source_of, is_broadcast}
use Rattle.tez_operators.specs.Process.{Primary}
use Rattle.tez_assembly.specs.Order.{Records, Gathered}

abbrev pub broadcasts : Dag → ℕ → Bool
broadcasts g n = option_map_or is_broadcast (slice_get g.edges n) false

abbrev pub part_of : Dag → EdgeId × Records → Option VertexId × Records
part_of g part = (Some (vertex (source_of g part.0.0)), part.1)

abbrev pub parts_in : Dag → Gathered → Primary
parts_in g gathered = map (part_of g) (filter (λ part. not (broadcasts g part.0.0)) gathered)

abbrev pub side_in : Dag → Option Records → Gathered → Option Records
side_in g side gathered = fold (λ side part. if broadcasts g part.0.0 then Some part.1 else side) side gathered
