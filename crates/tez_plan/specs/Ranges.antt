-- The ranges of the parts of a plan.
--     is_name, is_file, is_sink     texts that may stand there
--     are_columns                   1 to 8 columns
--     most_tasks                    the most tasks of a vertex
--     IsInRanges p                  each part of the plan is in its range
use Rattle.std.specs.Prelude.{ℕ, ℤ, pos, negsuc, ◌<◌, Bool, true, false, not, ◌&&◌, ◌||◌, ◌==◌, nat_lt, nat_le, List, [], ◌∷◌, length, slice_get, IsTrue, Option, None, Some}
use Rattle.std.specs.List.{list_all}
use Rattle.std.specs.Option.{option_map_or}
use Rattle.std.specs.Str.{is_utf8}
use Rattle.tez_plan.specs.declared.parts.VertexSpec.{VertexSpec}
use Rattle.tez_plan.specs.declared.parts.EdgeSpec.{EdgeSpec}
use Rattle.tez_plan.specs.declared.parts.Head.{Head}
use Rattle.tez_plan.specs.declared.parts.Head.TheVariants.{Each, Sum, Count, Distinct, Join, Lookup, KeepIn, DropIn}
use Rattle.tez_plan.specs.declared.parts.Movement.{Movement}
use Rattle.tez_plan.specs.declared.parts.Movement.TheVariants.{OneToOne, Broadcast, ScatterGather}
use Rattle.tez_plan.specs.declared.parts.Step.{Step}
use Rattle.tez_plan.specs.declared.parts.Step.TheVariants.{Tokenise, Filter, Project}
use Rattle.tez_plan.specs.declared.parts.Test.{Test}
use Rattle.tez_plan.specs.declared.parts.Test.TheVariants.{Eq, Ne, Contains, Lt, Gt}
use Rattle.tez_plan.specs.Dag.{Dag}

abbrev pub is_within : ℕ → ℕ → ℕ → Bool
is_within low high n = nat_le low n && nat_le n high

-- an ASCII letter, a digit, `_` or `-`
abbrev pub is_name_byte : ℕ → Bool
is_name_byte b = is_within 97 122 b || is_within 65 90 b || is_within 48 57 b || b == 95 || b == 45

-- or `.`
abbrev pub is_sink_byte : ℕ → Bool
is_sink_byte b = is_name_byte b || b == 46

-- or `/`
abbrev pub is_file_byte : ℕ → Bool
is_file_byte b = is_sink_byte b || b == 47

abbrev pub is_name : List ℕ → Bool
is_name text = is_within 1 64 (length text) && list_all is_name_byte text

abbrev pub is_file : List ℕ → Bool
is_file text = is_within 1 255 (length text) && list_all is_file_byte text

abbrev pub begins_with_dot : List ℕ → Bool
begins_with_dot [] = false
begins_with_dot (b ∷ bs) = b == 46

abbrev pub is_sink : List ℕ → Bool
is_sink text = is_within 1 255 (length text) && list_all is_sink_byte text && not (begins_with_dot text)

abbrev pub is_column : ℕ → Bool
is_column n = nat_le n 255

abbrev pub are_columns : List ℕ → Bool
are_columns columns = is_within 1 8 (length columns) && list_all is_column columns

abbrev pub is_filter_text : List ℕ → Bool
is_filter_text text = nat_le (length text) 255 && is_utf8 text

-- of at most 18 digits
abbrev pub is_number : ℤ → Bool
is_number (pos n) = nat_le n 999999999999999999
is_number (negsuc n) = nat_lt n 999999999999999999

abbrev pub test_in_range : Test → Bool
test_in_range (Eq text) = is_filter_text text
test_in_range (Ne text) = is_filter_text text
test_in_range (Contains text) = is_filter_text text
test_in_range (Lt number) = is_number number
test_in_range (Gt number) = is_number number

abbrev pub step_in_range : Step → Bool
step_in_range Tokenise = true
step_in_range (Filter field test) = is_column field && test_in_range test
step_in_range (Project cols) = are_columns cols

abbrev pub head_in_range : Head → Bool
head_in_range Each = true
head_in_range (Sum value) = is_column value
head_in_range Count = true
head_in_range Distinct = true
head_in_range (Join left) = is_name left
head_in_range (Lookup key side_key) = are_columns key && are_columns side_key
head_in_range (KeepIn key side_key) = are_columns key && are_columns side_key
head_in_range (DropIn key side_key) = are_columns key && are_columns side_key

abbrev pub are_steps : List Step → Bool
are_steps steps = nat_le (length steps) 64 && list_all step_in_range steps

-- the most tasks that a vertex may have
abbrev pub most_tasks : ℕ
most_tasks = 10000

abbrev pub vertex_in_range : VertexSpec → Bool
vertex_in_range s =
    is_name s.name && is_within 1 most_tasks s.tasks && option_map_or is_file s.source true && head_in_range s.head && are_steps s.steps && option_map_or is_sink s.sink true

abbrev pub movement_in_range : Movement → Bool
movement_in_range OneToOne = true
movement_in_range Broadcast = true
movement_in_range (ScatterGather keys) = are_columns keys

abbrev pub edge_in_range : EdgeSpec → Bool
edge_in_range e = is_name e.source && is_name e.target && movement_in_range e.movement

-- there is a vertex, and each part is in its range
pub record IsInRanges (p : Dag) : Type 0 where
  pub name : IsTrue (is_name p.name)
  pub some : 0 < length p.vertices
  pub vertices : IsTrue (list_all vertex_in_range p.vertices)
  pub edges : IsTrue (list_all edge_in_range p.edges)
