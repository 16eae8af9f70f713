-- The canonical text of a plan and its configuration: compact JSON, the keys of each object in byte order, every key written but for a source or a sink that is missing.
use Rattle.std.specs.Prelude.{ℕ, ℤ, List, map, codes, Option, Some, None}
use Rattle.serde_json.specs.Data.{Data, boolean, number, string, array, object, unsigned, Members, no_members, member, put}
use Rattle.serde_json.specs.Find.{of_integer}
use Rattle.serde_json.specs.View.{items_of}
use Rattle.serde_json.specs.Written.{compact_text}
use Rattle.tez_conf.specs.declared.values.ConfValues.{ConfValues}
use Rattle.tez_plan.specs.declared.parts.VertexSpec.{VertexSpec}
use Rattle.tez_plan.specs.declared.parts.EdgeSpec.{EdgeSpec}
use Rattle.tez_plan.specs.declared.parts.Head.{Head}
use Rattle.tez_plan.specs.declared.parts.Head.TheVariants.{Each, Sum, Count, Distinct, Join, Lookup, KeepIn, DropIn}
use Rattle.tez_plan.specs.declared.parts.Movement.{Movement}
use Rattle.tez_plan.specs.declared.parts.Movement.TheVariants.{OneToOne, Broadcast, ScatterGather}
use Rattle.tez_plan.specs.declared.parts.Step.{Step}
use Rattle.tez_plan.specs.declared.parts.Step.TheVariants.{Tokenise, Filter, Project}
use Rattle.tez_plan.specs.declared.parts.Test.{Test}
use Rattle.tez_plan.specs.declared.parts.Test.TheVariants.{Eq, Ne, Contains, Lt, Gt}
use Rattle.tez_plan.specs.Dag.{Dag}

abbrev pub count : ℕ → Data
count n = number (unsigned n)

abbrev pub signed : ℤ → Data
signed z = number (of_integer z)

abbrev pub list_of : {X : Type 0} → (X → Data) → List X → Data
list_of value xs = array (items_of (map value xs))

abbrev pub cols_value : List ℕ → Data
cols_value cols = list_of count cols

-- the key where there is a text for it
abbrev pub if_there : List ℕ → Option (List ℕ) → Members → Members
if_there key None rest = rest
if_there key (Some text) rest = member key (string text) rest

-- the members with the text at the key, where there is one
abbrev pub with_text : List ℕ → Option (List ℕ) → Members → Members
with_text key None members = members
with_text key (Some text) members = put key (string text) members

abbrev pub op : List ℕ → Members → Members
op word rest = member (codes "op") (string word) rest

abbrev pub keyed : List ℕ → List ℕ → List ℕ → Data
keyed word key side_key = object (member (codes "key") (cols_value key) (op word (member (codes "side_key") (cols_value side_key) no_members)))

unfoldable pub head_value : Head → Data
head_value Each = object (op (codes "each") no_members)
head_value (Sum value) = object (op (codes "sum") (member (codes "value") (count value) no_members))
head_value Count = object (op (codes "count") no_members)
head_value Distinct = object (op (codes "distinct") no_members)
head_value (Join left) = object (member (codes "left") (string left) (op (codes "join") no_members))
head_value (Lookup key side_key) = keyed (codes "lookup") key side_key
head_value (KeepIn key side_key) = keyed (codes "keep_in") key side_key
head_value (DropIn key side_key) = keyed (codes "drop_in") key side_key

abbrev pub test_word : Test → List ℕ
test_word (Eq text) = codes "eq"
test_word (Ne text) = codes "ne"
test_word (Contains text) = codes "contains"
test_word (Lt z) = codes "lt"
test_word (Gt z) = codes "gt"

abbrev pub test_value : Test → Data
test_value (Eq text) = string text
test_value (Ne text) = string text
test_value (Contains text) = string text
test_value (Lt z) = signed z
test_value (Gt z) = signed z

unfoldable pub step_value : Step → Data
step_value Tokenise = object (op (codes "tokenise") no_members)
step_value (Filter field test) =
    object (member (codes "field") (count field) (op (codes "filter") (member (codes "test") (string (test_word test)) (member (codes "value") (test_value test) no_members))))
step_value (Project cols) = object (member (codes "cols") (cols_value cols) (op (codes "project") no_members))

unfoldable pub vertex_value : VertexSpec → Data
vertex_value v =
    object (member (codes "head") (head_value v.head) (member (codes "name") (string v.name) (if_there (codes "sink") v.sink (if_there (codes "source") v.source
    (member (codes "steps") (list_of step_value v.steps) (member (codes "tasks") (count v.tasks) no_members))))))

abbrev pub edge_members : List ℕ → List ℕ → Movement → Members
edge_members source target OneToOne =
    member (codes "from") (string source) (member (codes "movement") (string (codes "ONE_TO_ONE")) (member (codes "to") (string target) no_members))
edge_members source target Broadcast =
    member (codes "from") (string source) (member (codes "movement") (string (codes "BROADCAST")) (member (codes "to") (string target) no_members))
edge_members source target (ScatterGather keys) =
    member (codes "from") (string source) (member (codes "keys") (cols_value keys) (member (codes "movement") (string (codes "SCATTER_GATHER")) (member (codes "to") (string target) no_members)))

unfoldable pub edge_value : EdgeSpec → Data
edge_value e = object (edge_members e.source e.target e.movement)

unfoldable pub conf_value : ConfValues → Data
conf_value c =
    object (member (codes "auto_parallel") (boolean c.auto_parallel) (member (codes "desired_bytes") (count c.desired_bytes) (member (codes "max_failed") (count c.max_failed)
    (member (codes "max_masters") (count c.max_masters) (member (codes "max_src") (count c.max_src) (member (codes "min_src") (count c.min_src) (member (codes "min_tasks") (count c.min_tasks)
    (member (codes "nodes") (count c.nodes) (member (codes "per_node") (count c.per_node) (member (codes "reuse") (boolean c.reuse) no_members))))))))))

unfoldable pub document_value : Dag → ConfValues → Data
document_value p c =
    object (member (codes "conf") (conf_value c) (member (codes "edges") (list_of edge_value p.edges) (member (codes "name") (string p.name) (member (codes "vertices") (list_of vertex_value p.vertices) no_members))))

unfoldable pub canonical : Dag → ConfValues → List ℕ
canonical p c = compact_text (document_value p c)
