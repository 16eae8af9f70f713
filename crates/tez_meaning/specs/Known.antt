-- A plan that is evaluated vertex by vertex.
--     known_in values v             the bag that a table has for v, and none past its end
--     bad_from job v known          some record that v reads is bad, where its sources make what is known
--     is_ahead p v head left e      e leads into v past its side: to the left of its head, or else to the right
--     is_beside p v e               e leads into the side of v
--     AreValues job values          a table has the bag of each vertex
use Rattle.std.specs.Prelude.{◌≡◌, ⊤, ℕ, ◌<◌, ◌==◌, ◌&&◌, Bool, false, not, cond, List, [], length, IsTrue, slice_get, slice_index_or}
use Rattle.std.specs.Option.{option_map_or}
use Rattle.tez_ids.specs.declared.VertexId.{VertexId}
use Rattle.tez_plan.specs.declared.parts.EdgeSpec.{EdgeSpec}
use Rattle.tez_plan.specs.declared.parts.Head.{Head}
use Rattle.tez_plan.specs.Dag.{Dag, to, is_broadcast}
use Rattle.tez_values.specs.Program.{is_bad}
use Rattle.tez_meaning.specs.Jobs.{Job}
use Rattle.tez_meaning.specs.Value.{is_left, inputs_of, value}
use Rattle.tez_meaning.specs.declared.fault.MeaningFault.{MeaningFault}
use Rattle.tez_meaning.specs.declared.fault.MeaningFault.TheVariants.{Bad, NoMemory}

-- a bag for each vertex, by its number
abbrev pub Table : Type 0
Table = List (List (List ℕ))

abbrev pub known_in : Table → ℕ → List (List ℕ)
known_in values v = slice_index_or values v []

abbrev pub bad_from : Job → ℕ → (ℕ → List (List ℕ)) → Bool
bad_from job v known = option_map_or (λ s. is_bad s.head s.steps (inputs_of job v s known)) (slice_get job.plan.vertices v) false

abbrev pub is_on_side : Head → Bool → EdgeSpec → Bool
is_on_side head left e = not (is_broadcast e) && cond left (is_left head e) (not (is_left head e))

abbrev pub is_ahead : Dag → ℕ → Head → Bool → EdgeSpec → Bool
is_ahead p v head left e = (to p e == v) && is_on_side head left e

abbrev pub is_beside : Dag → ℕ → EdgeSpec → Bool
is_beside p v e = (to p e == v) && is_broadcast e

-- the vertex is bad where its sources make what is known
abbrev pub IsBadAt : Job → VertexId → Table → MeaningFault → Type 0
IsBadAt job v values (Bad w) = (w ≡ v) × IsTrue (bad_from job v.0 (known_in values))
IsBadAt job v values NoMemory = ⊤

pub record AreValues (job : Job) (values : Table) : Type 0 where
  pub size : length values ≡ length job.plan.vertices
  pub bags : (v : ℕ) → v < length job.plan.vertices → known_in values v ≡ value job v
