-- What the vertices of a job make, and what goes into its sinks.
--     inputs p v s ..       what the head of v reads, given the records of its source and of each edge
--     value job v           the bag that v makes
--     bad job v             some record that v reads is bad
--     IsDefined job         no vertex is bad
--     sink_text job v       the text of a sink
--     sums job              the records and bytes of each sink
--     sink_texts job        the name and text of each sink
--     IsBadVertex job f     the fault that is due
use Rattle.std.specs.Prelude.{◌≡◌, ⊤, Some, ℕ, suc, Bool, true, false, not, List, [], ◌∷◌, ◌++◌, map, length, IsFalse, Option, slice_get}
use Rattle.std.specs.List.{filter, flat_map, find}
use Rattle.std.specs.Option.{option_map_or}
use Rattle.std.specs.Str.{bytes_eq}
use Rattle.tez_record.specs.Line.{lines}
use Rattle.tez_record.specs.Bag.{text}
use Rattle.tez_plan.specs.declared.parts.VertexSpec.{VertexSpec}
use Rattle.tez_plan.specs.declared.parts.EdgeSpec.{EdgeSpec}
use Rattle.tez_plan.specs.declared.parts.Head.{Head}
use Rattle.tez_plan.specs.declared.parts.Head.TheVariants.{Each, Sum, Count, Distinct, Join, Lookup, KeepIn, DropIn}
use Rattle.tez_plan.specs.Dag.{Dag, from, edges_into, is_broadcast, keys_of}
use Rattle.tez_plan.specs.Order.{by_sources, topo}
use Rattle.tez_meaning.specs.Jobs.{Job}
use Rattle.tez_meaning.specs.declared.fault.MeaningFault.{MeaningFault}
use Rattle.tez_meaning.specs.declared.fault.MeaningFault.TheVariants.{Bad, NoMemory}
use Rattle.tez_values.specs.Heads.{HeadInputs}
use Rattle.tez_values.specs.Program.{output, is_bad}

-- the edge is from the left source of a join; at another head each is
abbrev pub is_left : Head → EdgeSpec → Bool
is_left Each e = true
is_left (Sum value) e = true
is_left Count e = true
is_left Distinct e = true
is_left (Join left) e = bytes_eq e.source left
is_left (Lookup key side_key) e = true
is_left (KeepIn key side_key) e = true
is_left (DropIn key side_key) e = true

-- the columns of the first of the edges
abbrev pub columns_of : List EdgeSpec → List ℕ
columns_of [] = []
columns_of (e ∷ es) = keys_of e

abbrev pub inputs : Dag → ℕ → VertexSpec → (List ℕ → List (List ℕ)) → (EdgeSpec → List (List ℕ)) → HeadInputs
inputs p v s of_source of_edge =
    let ahead = filter (λ e. not (is_broadcast e)) (edges_into p v) in
    let left = filter (is_left s.head) ahead in
    let right = filter (λ e. not (is_left s.head e)) ahead in
    record {
      columns = columns_of left;
      primary = option_map_or of_source s.source [] ++ flat_map of_edge left;
      partner_columns = columns_of right;
      partner = flat_map of_edge right;
      side = flat_map of_edge (filter is_broadcast (edges_into p v));
    }

-- the lines of a source file
abbrev pub lines_of : Job → List ℕ → List (List ℕ)
lines_of job name = option_map_or (λ file. lines file.1) (find (λ file. bytes_eq file.0 name) job.sources) []

-- what v reads, where its sources make what is known
abbrev pub inputs_of : Job → ℕ → VertexSpec → (ℕ → List (List ℕ)) → HeadInputs
inputs_of job v s known = inputs job.plan v s (lines_of job) (λ e. known (from job.plan e))

abbrev pub value_from : Job → ℕ → (ℕ → List (List ℕ)) → List (List ℕ)
value_from job v known = option_map_or (λ s. output s.head s.steps (inputs_of job v s known)) (slice_get job.plan.vertices v) []

unfoldable pub value : Job → ℕ → List (List ℕ)
value job = by_sources [] (value_from job) (length job.plan.vertices)

abbrev pub bad : Job → ℕ → Bool
bad job v = option_map_or (λ s. is_bad s.head s.steps (inputs_of job v s (value job))) (slice_get job.plan.vertices v) false

abbrev pub IsDefined : Job → Type 0
IsDefined job = (v : ℕ) → IsFalse (bad job v)

-- the first bad vertex in the order of `topo`
abbrev pub first_bad_vertex : Job → Option ℕ
first_bad_vertex job = find (bad job) (topo job.plan)

abbrev pub sink_text : Job → ℕ → List ℕ
sink_text job v = text (value job v)

-- the vertices that have a sink, each with its name
abbrev pub sinks : ℕ → List VertexSpec → List (ℕ × List ℕ)
sinks v [] = []
sinks v (s ∷ ss) = option_map_or (λ sink. (v, sink) ∷ sinks (suc v) ss) s.sink (sinks (suc v) ss)

abbrev pub sums : Job → List (ℕ × ℕ)
sums job = map (λ s. (length (value job s.0), length (sink_text job s.0))) (sinks 0 job.plan.vertices)

-- each sink's name and text, in the order of vertices
abbrev pub sink_texts : Job → List (List ℕ × List ℕ)
sink_texts job = map (λ s. (s.1, sink_text job s.0)) (sinks 0 job.plan.vertices)

-- what goes wrong, where it does: the first bad vertex
abbrev pub IsBadVertex : Job → MeaningFault → Type 0
IsBadVertex job (Bad v) = first_bad_vertex job ≡ Some v.0
IsBadVertex job NoMemory = ⊤
