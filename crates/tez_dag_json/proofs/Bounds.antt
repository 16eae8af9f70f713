-- The canonical text is shorter than 2 ^ 23 bytes: a step has at most 1800 bytes, a vertex 120200, an edge 1520.
use Rattle.std.proofs.Common.{◌≡◌, ℕ, ◌+◌, ◌*◌, ◌≤◌, ◌<◌, ◌^◌, ◌&&◌, true, nat_le, nat_lt, List, length, map, Option, Some, None, arith}
use Rattle.std.proofs.lemmas.Bool.{and_parts}
use Rattle.std.specs.List.{list_all}
use Rattle.std.specs.Str.{is_utf8}
use Rattle.serde_json.specs.View.{items_of}
use Rattle.serde_json.specs.Written.{compact_text}
use Rattle.tez_conf.specs.declared.values.ConfValues.{ConfValues}
use Rattle.tez_plan.specs.declared.parts.VertexSpec.{VertexSpec}
use Rattle.tez_plan.specs.declared.parts.EdgeSpec.{EdgeSpec}
use Rattle.tez_plan.specs.declared.parts.Head.{Head}
use Rattle.tez_plan.specs.declared.parts.Head.TheVariants.{Each, Sum, Count, Distinct, Join, Lookup, KeepIn, DropIn}
use Rattle.tez_plan.specs.declared.parts.Movement.{Movement}
use Rattle.tez_plan.specs.declared.parts.Movement.TheVariants.{OneToOne, Broadcast, ScatterGather}
use Rattle.tez_plan.specs.declared.parts.Step.{Step}
use Rattle.tez_plan.specs.declared.parts.Step.TheVariants.{Tokenise, Filter, Project}
use Rattle.tez_plan.specs.declared.parts.Test.TheVariants.{Eq, Ne, Contains, Lt, Gt}
use Rattle.tez_plan.specs.Dag.{Dag}
use Rattle.tez_plan.specs.Ranges.{is_within, is_name, is_file, is_sink, is_name_byte, is_file_byte, is_sink_byte, is_column, are_columns, is_filter_text, head_in_range, step_in_range, are_steps, vertex_in_range, movement_in_range, edge_in_range, IsInRanges}
use Rattle.tez_plan.specs.Faults.{IsValid, checks}
use Rattle.tez_dag_json.specs.Canonical.{count, head_value, step_value, vertex_value, edge_value, conf_value, document_value, canonical}
use Rattle.tez_dag_json.proofs.BackWhole.{Parts, parts_of}
use Rattle.tez_dag_json.proofs.Sizes.{size, items_size, text_length, list_size}

within_le : (low high n : ℕ) → is_within low high n ≡ true → n ≤ high
within_le low high n fits = let h : nat_le n high ≡ true = (and_parts (nat_le low n) (nat_le n high) fits).1 in grind (arith, h)

name_length : (t : List ℕ) → is_name t ≡ true → length t ≤ 64
name_length t fits = within_le 1 64 (length t) ((and_parts (is_within 1 64 (length t)) (list_all is_name_byte t) fits).0)

file_length : (t : List ℕ) → is_file t ≡ true → length t ≤ 255
file_length t fits = within_le 1 255 (length t) ((and_parts (is_within 1 255 (length t)) (list_all is_file_byte t) fits).0)

sink_length : (t : List ℕ) → is_sink t ≡ true → length t ≤ 255
sink_length t fits = within_le 1 255 (length t) ((and_parts (is_within 1 255 (length t)) (list_all is_sink_byte t) ((and_parts (is_within 1 255 (length t) && list_all is_sink_byte t) _ fits).0)).0)

at_most : (a b : ℕ) → nat_le a b ≡ true → a ≤ b
at_most a b h = grind (arith, h)

column_size : (n : ℕ) → is_column n ≡ true → size (count n) ≤ 65
column_size n fits = omega arith

cols_size : (cols : List ℕ) → are_columns cols ≡ true → items_size (items_of (map count cols)) ≤ 529
cols_size cols fits =
    let parts = and_parts (is_within 1 8 (length cols)) (list_all is_column cols) fits in
    let few : length cols ≤ 8 = within_le 1 8 (length cols) parts.0 in
    let all : items_size (items_of (map count cols)) ≤ 66 * length cols + 1 = list_size count is_column 65 column_size cols parts.1 in
    omega arith

head_size : (h : Head) → head_in_range h ≡ true → size (head_value h) ≤ 1200
unfolding head_value
head_size Each fits = omega arith
head_size (Sum value) fits = omega arith
head_size Count fits = omega arith
head_size Distinct fits = omega arith
head_size (Join left) fits = omega (arith, name_length left fits)
head_size (Lookup key side_key) fits = let parts = and_parts (are_columns key) (are_columns side_key) fits in omega (arith, cols_size key parts.0, cols_size side_key parts.1)
head_size (KeepIn key side_key) fits = let parts = and_parts (are_columns key) (are_columns side_key) fits in omega (arith, cols_size key parts.0, cols_size side_key parts.1)
head_size (DropIn key side_key) fits = let parts = and_parts (are_columns key) (are_columns side_key) fits in omega (arith, cols_size key parts.0, cols_size side_key parts.1)

text_fits : (t : List ℕ) → is_filter_text t ≡ true → length t ≤ 255
text_fits t fits = at_most (length t) 255 ((and_parts (nat_le (length t) 255) (is_utf8 t) fits).0)

step_size : (s : Step) → step_in_range s ≡ true → size (step_value s) ≤ 1800
unfolding step_value
step_size Tokenise fits = omega arith
step_size (Filter field (Eq text)) fits = omega (arith, text_fits text ((and_parts (is_column field) (is_filter_text text) fits).1))
step_size (Filter field (Ne text)) fits = omega (arith, text_fits text ((and_parts (is_column field) (is_filter_text text) fits).1))
step_size (Filter field (Contains text)) fits = omega (arith, text_fits text ((and_parts (is_column field) (is_filter_text text) fits).1))
step_size (Filter field (Lt z)) fits = omega arith
step_size (Filter field (Gt z)) fits = omega arith
step_size (Project cols) fits = omega (arith, cols_size cols fits)

steps_size : (ss : List Step) → are_steps ss ≡ true → items_size (items_of (map step_value ss)) ≤ 115265
steps_size ss fits =
    let parts = and_parts (nat_le (length ss) 64) (list_all step_in_range ss) fits in
    let few : length ss ≤ 64 = at_most (length ss) 64 parts.0 in
    let all : items_size (items_of (map step_value ss)) ≤ 1801 * length ss + 1 = list_size step_value step_in_range 1800 step_size ss parts.1 in
    omega arith

vertex_size_at : (name : List ℕ) (tasks : ℕ) (source : Option (List ℕ)) (it : Head) (rest : List Step) (sink : Option (List ℕ)) → Parts name tasks source it rest sink
    → size (vertex_value (record { name = name; tasks = tasks; source = source; head = it; steps = rest; sink = sink })) ≤ 120200
unfolding vertex_value
vertex_size_at name tasks None it rest None p = omega (arith, name_length name p.named, head_size it p.headed, steps_size rest p.stepped)
vertex_size_at name tasks None it rest (Some sink) p = omega (arith, name_length name p.named, head_size it p.headed, steps_size rest p.stepped, sink_length sink p.sunk)
vertex_size_at name tasks (Some source) it rest None p = omega (arith, name_length name p.named, head_size it p.headed, steps_size rest p.stepped, file_length source p.file)
vertex_size_at name tasks (Some source) it rest (Some sink) p =
    omega (arith, name_length name p.named, head_size it p.headed, steps_size rest p.stepped, file_length source p.file, sink_length sink p.sunk)

vertex_size : (v : VertexSpec) → vertex_in_range v ≡ true → size (vertex_value v) ≤ 120200
vertex_size v fits = vertex_size_at v.name v.tasks v.source v.head v.steps v.sink (parts_of v.name v.tasks v.source v.head v.steps v.sink fits)

edge_size_at : (source target : List ℕ) (it : Movement) → is_name source ≡ true → is_name target ≡ true → movement_in_range it ≡ true
    → size (edge_value (record { source = source; target = target; movement = it })) ≤ 1520
unfolding edge_value
edge_size_at source target OneToOne s t m = omega (arith, name_length source s, name_length target t)
edge_size_at source target Broadcast s t m = omega (arith, name_length source s, name_length target t)
edge_size_at source target (ScatterGather keys) s t m = omega (arith, name_length source s, name_length target t, cols_size keys m)

edge_size : (e : EdgeSpec) → edge_in_range e ≡ true → size (edge_value e) ≤ 1520
edge_size e fits =
    let a = and_parts (is_name e.source && is_name e.target) (movement_in_range e.movement) fits in
    let b = and_parts (is_name e.source) (is_name e.target) a.0 in
    edge_size_at e.source e.target e.movement b.0 b.1 a.1

-- a valid plan has at most 64 vertices and 256 edges
few : (n most : ℕ) → (nat_lt most n ≡ true → ⊥) → n ≤ most
few n most not_more = grind (arith, not_more)

vertex_count : (p : Dag) → IsValid p → length p.vertices ≤ 64
unfolding IsValid checks
vertex_count p valid = few (length p.vertices) 64 (λ h. valid.0 64 (rw h))

edge_count : (p : Dag) → IsValid p → length p.edges ≤ 256
unfolding IsValid checks
edge_count p valid = few (length p.edges) 256 (λ h. valid.0 256 (rw h))

conf_size : (c : ConfValues) → size (conf_value c) ≤ 1300
unfolding conf_value
conf_size c = omega arith

document_size : (p : Dag) (c : ConfValues) → IsInRanges p → IsValid p → size (document_value p c) ≤ 8100000
unfolding document_value
document_size p c range valid =
    let vertices : items_size (items_of (map vertex_value p.vertices)) ≤ 120201 * length p.vertices + 1 = list_size vertex_value vertex_in_range 120200 vertex_size p.vertices range.vertices in
    let edges : items_size (items_of (map edge_value p.edges)) ≤ 1521 * length p.edges + 1 = list_size edge_value edge_in_range 1520 edge_size p.edges range.edges in
    omega (arith, vertex_count p valid, edge_count p valid, conf_size c, name_length p.name range.name)

pub canonical_length : (p : Dag) (c : ConfValues) → IsInRanges p → IsValid p → length (canonical p c) < 2 ^ 23
unfolding canonical
canonical_length p c range valid = let h : length (compact_text (document_value p c)) ≤ size (document_value p c) = text_length (document_value p c) in omega (arith, document_size p c range valid)
