-- The form of a DAG file, as tables: a line for each key of an object, in the order in which the keys are read. The first line that meets a fault ends the walk.
--     document d       the plan and the configuration that a value says, or its first fault
--     form bytes       the same of the bytes of a file
-- Each table is a total function from a value to what it says or to its first fault. So the form and its faults are one definition: a value is of the form exactly where the table answers
-- `Ok`. A relation 'is of the form' beside a list of checks would say every key twice, and both would have to be proved to agree.
use Rattle.std.specs.Prelude.{ℕ, ◌*◌, ℤ, true, false, nat_le, List, [], ◌∷◌, codes, Option, None, unwrap_or, Ok, Err, if◌then◌else◌}
use Rattle.std.specs.Option.{option_map_or}
use Rattle.std.specs.Str.{is_utf8}
use Rattle.serde_json.specs.Data.{Data, object, no_members}
use Rattle.serde_json.specs.Find.{get}
use Rattle.serde_json.specs.Read.{read}
use Rattle.tez_conf.specs.declared.values.ConfValues.{ConfValues}
use Rattle.tez_plan.specs.declared.parts.VertexSpec.{VertexSpec}
use Rattle.tez_plan.specs.declared.parts.EdgeSpec.{EdgeSpec}
use Rattle.tez_plan.specs.declared.parts.Head.{Head}
use Rattle.tez_plan.specs.declared.parts.Head.TheVariants.{Each, Sum, Count, Distinct, Join, Lookup, KeepIn, DropIn}
use Rattle.tez_plan.specs.declared.parts.Movement.{Movement}
use Rattle.tez_plan.specs.declared.parts.Movement.TheVariants.{OneToOne, Broadcast, ScatterGather}
use Rattle.tez_plan.specs.declared.parts.Step.{Step}
use Rattle.tez_plan.specs.declared.parts.Step.TheVariants.{Tokenise, Filter, Project}
use Rattle.tez_plan.specs.declared.parts.Test.{Test}
use Rattle.tez_plan.specs.declared.parts.Test.TheVariants.{Eq, Ne, Contains, Lt, Gt}
use Rattle.tez_plan.specs.Dag.{Dag}
use Rattle.tez_plan.specs.Ranges.{is_name, is_file, is_sink, most_tasks}
use Rattle.tez_dag_json.specs.Answers.{Answer, ◌>>=◌, ◌>>◌}
use Rattle.tez_dag_json.specs.Paths.{Path, at_key, shape, out_of_range}
use Rattle.tez_dag_json.specs.Kinds.{Reader, text_of, word, whole, number, flag, list, list_within, an_object, required, defaulted, optional, absent, chosen, no_others}
use Rattle.tez_dag_json.specs.declared.fault.DagFault.TheVariants.{NotJson}

-- a number of a field of a record
abbrev pub column : Reader ℕ
column = whole 0 255

abbrev pub columns : Reader (List ℕ)
columns = list_within 1 8 column

-- ---- heads, by their `op`

unfoldable pub plain_head : Head → Reader Head
plain_head it at d = do
  no_others (codes "op" ∷ []) at d
  Ok it

unfoldable pub sum_head : Reader Head
sum_head at d = do
  value ← required (codes "value") column at d
  no_others (codes "op" ∷ codes "value" ∷ []) at d
  Ok (Sum value)

unfoldable pub join_head : Reader Head
join_head at d = do
  left ← required (codes "left") (word is_name) at d
  no_others (codes "op" ∷ codes "left" ∷ []) at d
  Ok (Join left)

unfoldable pub two_keys : Reader (List ℕ × List ℕ)
two_keys at d = do
  key ← required (codes "key") columns at d
  side_key ← required (codes "side_key") columns at d
  no_others (codes "op" ∷ codes "key" ∷ codes "side_key" ∷ []) at d
  Ok (key, side_key)

unfoldable pub lookup_head : Reader Head
lookup_head at d = do
  keys ← two_keys at d
  Ok (Lookup keys.0 keys.1)

unfoldable pub keep_in_head : Reader Head
keep_in_head at d = do
  keys ← two_keys at d
  Ok (KeepIn keys.0 keys.1)

unfoldable pub drop_in_head : Reader Head
drop_in_head at d = do
  keys ← two_keys at d
  Ok (DropIn keys.0 keys.1)

unfoldable pub heads : List (List ℕ × Reader Head)
heads =
    (codes "each", plain_head Each)
    ∷ (codes "count", plain_head Count)
    ∷ (codes "distinct", plain_head Distinct)
    ∷ (codes "sum", sum_head)
    ∷ (codes "join", join_head)
    ∷ (codes "lookup", lookup_head)
    ∷ (codes "keep_in", keep_in_head)
    ∷ (codes "drop_in", drop_in_head)
    ∷ []

unfoldable pub head : Reader Head
head at d = do
  an_object at d
  further ← chosen (codes "op") heads at d
  further at d

-- ---- steps, by their `op`

unfoldable pub tokenise_step : Reader Step
tokenise_step at d = do
  no_others (codes "op" ∷ []) at d
  Ok Tokenise

unfoldable pub text_test : (List ℕ → Test) → Reader Test
text_test it at d = do
  text ← text_of 255 at d
  Ok (it text)

unfoldable pub number_test : (ℤ → Test) → Reader Test
number_test it at d = do
  z ← number at d
  Ok (it z)

-- how the `value` of each test is read
unfoldable pub tests : List (List ℕ × Reader Test)
tests =
    (codes "eq", text_test (λ text. Eq text))
    ∷ (codes "ne", text_test (λ text. Ne text))
    ∷ (codes "contains", text_test (λ text. Contains text))
    ∷ (codes "lt", number_test (λ z. Lt z))
    ∷ (codes "gt", number_test (λ z. Gt z))
    ∷ []

unfoldable pub filter_test : Reader Test
filter_test at d = do
  test ← chosen (codes "test") tests at d
  required (codes "value") test at d

unfoldable pub filter_step : Reader Step
filter_step at d = do
  field ← required (codes "field") column at d
  it ← filter_test at d
  no_others (codes "op" ∷ codes "field" ∷ codes "test" ∷ codes "value" ∷ []) at d
  Ok (Filter field it)

unfoldable pub project_step : Reader Step
project_step at d = do
  cols ← required (codes "cols") columns at d
  no_others (codes "op" ∷ codes "cols" ∷ []) at d
  Ok (Project cols)

unfoldable pub steps : List (List ℕ × Reader Step)
steps = (codes "tokenise", tokenise_step) ∷ (codes "filter", filter_step) ∷ (codes "project", project_step) ∷ []

unfoldable pub step : Reader Step
step at d = do
  an_object at d
  further ← chosen (codes "op") steps at d
  further at d

-- ---- vertices and edges

unfoldable pub vertex : Reader VertexSpec
vertex at d = do
  an_object at d
  name ← required (codes "name") (word is_name) at d
  tasks ← required (codes "tasks") (whole 1 most_tasks) at d
  source ← optional (codes "source") (word is_file) at d
  it ← required (codes "head") head at d
  rest ← defaulted (codes "steps") [] (list_within 0 64 step) at d
  sink ← optional (codes "sink") (word is_sink) at d
  no_others (codes "name" ∷ codes "tasks" ∷ codes "source" ∷ codes "head" ∷ codes "steps" ∷ codes "sink" ∷ []) at d
  Ok (record { name = name; tasks = tasks; source = source; head = it; steps = rest; sink = sink })

-- an empty list of vertices is of the wrong kind
abbrev pub unless_empty : Path → List VertexSpec → Answer (List VertexSpec)
unless_empty at [] = shape at
unless_empty at (v ∷ vs) = Ok (v ∷ vs)

unfoldable pub vertices : Reader (List VertexSpec)
vertices at d = list vertex at d >>= unless_empty at

unfoldable pub keyless : Movement → Reader Movement
keyless it at d = do
  absent (codes "keys") at d
  Ok it

unfoldable pub by_keys : Reader Movement
by_keys at d = do
  keys ← required (codes "keys") columns at d
  Ok (ScatterGather keys)

unfoldable pub movements : List (List ℕ × Reader Movement)
movements = (codes "ONE_TO_ONE", keyless OneToOne) ∷ (codes "BROADCAST", keyless Broadcast) ∷ (codes "SCATTER_GATHER", by_keys) ∷ []

unfoldable pub movement : Reader Movement
movement at d = do
  keys ← chosen (codes "movement") movements at d
  keys at d

unfoldable pub edge : Reader EdgeSpec
edge at d = do
  an_object at d
  source ← required (codes "from") (word is_name) at d
  target ← required (codes "to") (word is_name) at d
  it ← movement at d
  no_others (codes "from" ∷ codes "to" ∷ codes "movement" ∷ codes "keys" ∷ []) at d
  Ok (record { source = source; target = target; movement = it })

-- ---- the configuration

-- the ranges that hold between keys
abbrev pub balanced : Path → ConfValues → Answer ConfValues
balanced at c =
    if nat_le c.min_src c.max_src then (if nat_le (c.nodes * c.per_node) 64 then Ok c else out_of_range (at_key at (codes "per_node"))) else out_of_range (at_key at (codes "max_src"))

abbrev pub conf_keys : List (List ℕ)
conf_keys =
    codes "min_src" ∷ codes "max_src" ∷ codes "auto_parallel" ∷ codes "desired_bytes" ∷ codes "min_tasks" ∷ codes "max_failed" ∷ codes "max_masters" ∷ codes "reuse" ∷ codes "nodes"
    ∷ codes "per_node" ∷ []

unfoldable pub conf : Reader ConfValues
conf at d = do
  an_object at d
  min_src ← defaulted (codes "min_src") 250 (whole 0 1000) at d
  max_src ← defaulted (codes "max_src") 750 (whole 0 1000) at d
  auto_parallel ← defaulted (codes "auto_parallel") false flag at d
  desired_bytes ← defaulted (codes "desired_bytes") 104857600 (whole 1 1099511627776) at d
  min_tasks ← defaulted (codes "min_tasks") 1 (whole 1 10000) at d
  max_failed ← defaulted (codes "max_failed") 4 (whole 1 100) at d
  max_masters ← defaulted (codes "max_masters") 2 (whole 1 100) at d
  reuse ← defaulted (codes "reuse") true flag at d
  nodes ← defaulted (codes "nodes") 2 (whole 1 64) at d
  per_node ← defaulted (codes "per_node") 2 (whole 1 64) at d
  no_others conf_keys at d
  balanced at (record { min_src = min_src; max_src = max_src; auto_parallel = auto_parallel; desired_bytes = desired_bytes; min_tasks = min_tasks; max_failed = max_failed; max_masters = max_masters; reuse = reuse; nodes = nodes; per_node = per_node })

-- a missing configuration is one without keys
unfoldable pub conf_of : Data → Answer ConfValues
conf_of d = conf (codes "conf") (unwrap_or (get (codes "conf") d) (object no_members))

-- ---- the document

unfoldable pub document : Data → Answer (Dag × ConfValues)
document d = do
  an_object [] d
  name ← required (codes "name") (word is_name) [] d
  configuration ← conf_of d
  some ← required (codes "vertices") vertices [] d
  joins ← defaulted (codes "edges") [] (list edge) [] d
  no_others (codes "name" ∷ codes "conf" ∷ codes "vertices" ∷ codes "edges" ∷ []) [] d
  Ok (record { name = name; vertices = some; edges = joins }, configuration)

-- the value of a JSON text
unfoldable pub json : List ℕ → Option Data
json bytes = if is_utf8 bytes then read bytes else None

unfoldable pub form : List ℕ → Answer (Dag × ConfValues)
form bytes = option_map_or document (json bytes) (Err NotJson)
