-- What is written reads back: vertices, edges, the configuration and the document.
use Rattle.std.proofs.Common.{◌≡◌, ℕ, ◌*◌, ◌≤◌, ◌<◌, true, ◌&&◌, nat_le, List, [], ◌∷◌, length, Option, Some, None, codes, Ok, refl, arith}
use Rattle.std.proofs.Math.Nat.{le-mul_of_pos_right, mul_comm}
use Rattle.std.proofs.lemmas.Bool.{and_parts}
use Rattle.std.specs.List.{list_all}
use Rattle.std.specs.Option.{option_map_or}
use Rattle.tez_conf.specs.declared.values.ConfValues.{ConfValues}
use Rattle.tez_conf.specs.Ranges.{IsInRange}
use Rattle.tez_plan.specs.declared.parts.VertexSpec.{VertexSpec}
use Rattle.tez_plan.specs.declared.parts.EdgeSpec.{EdgeSpec}
use Rattle.tez_plan.specs.declared.parts.Head.{Head}
use Rattle.tez_plan.specs.declared.parts.Step.{Step}
use Rattle.tez_plan.specs.declared.parts.Movement.{Movement}
use Rattle.tez_plan.specs.declared.parts.Movement.TheVariants.{OneToOne, Broadcast, ScatterGather}
use Rattle.tez_plan.specs.Dag.{Dag}
use Rattle.tez_plan.specs.Ranges.{is_within, is_name, is_file, is_sink, head_in_range, step_in_range, are_steps, vertex_in_range, movement_in_range, edge_in_range, IsInRanges, most_tasks}
use Rattle.tez_dag_json.specs.Paths.{Path, at_key}
use Rattle.tez_dag_json.specs.Kinds.{list_within}
use Rattle.tez_dag_json.specs.Form.{step, vertex, unless_empty, vertices, keyless, by_keys, movements, movement, edge, conf, conf_of, document}
use Rattle.tez_dag_json.specs.Canonical.{list_of, step_value, vertex_value, edge_value, conf_value, document_value}
use Rattle.tez_dag_json.proofs.Back.{head_back, step_back, columns_back, list_within_back, each_back}

steps_back : (path : Path) (ss : List Step) → are_steps ss ≡ true → list_within 0 64 step path (list_of step_value ss) ≡ Ok ss
steps_back path ss fits =
    let parts = and_parts (nat_le (length ss) 64) (list_all step_in_range ss) fits in
    let long : is_within 0 64 (length ss) ≡ true = grind (arith, parts.0) in
    list_within_back 0 64 step step_value step_in_range step_back path ss long parts.1

-- the parts of a vertex are in their ranges
pub record Parts (name : List ℕ) (tasks : ℕ) (source : Option (List ℕ)) (it : Head) (rest : List Step) (sink : Option (List ℕ)) : Type 0 where
  pub named : is_name name ≡ true
  pub some : is_within 1 most_tasks tasks ≡ true
  pub file : option_map_or is_file source true ≡ true
  pub headed : head_in_range it ≡ true
  pub stepped : are_steps rest ≡ true
  pub sunk : option_map_or is_sink sink true ≡ true

pub parts_of : (name : List ℕ) (tasks : ℕ) (source : Option (List ℕ)) (it : Head) (rest : List Step) (sink : Option (List ℕ))
    → vertex_in_range (record { name = name; tasks = tasks; source = source; head = it; steps = rest; sink = sink }) ≡ true → Parts name tasks source it rest sink
parts_of name tasks source it rest sink fits =
    let a = and_parts (is_name name && is_within 1 most_tasks tasks && option_map_or is_file source true && head_in_range it && are_steps rest) (option_map_or is_sink sink true) fits in
    let b = and_parts (is_name name && is_within 1 most_tasks tasks && option_map_or is_file source true && head_in_range it) (are_steps rest) a.0 in
    let c = and_parts (is_name name && is_within 1 most_tasks tasks && option_map_or is_file source true) (head_in_range it) b.0 in
    let d = and_parts (is_name name && is_within 1 most_tasks tasks) (option_map_or is_file source true) c.0 in
    let e = and_parts (is_name name) (is_within 1 most_tasks tasks) d.0 in
    record { named = e.0; some = e.1; file = d.1; headed = c.1; stepped = b.1; sunk = a.1 }

vertex_back_at : (path : Path) (name : List ℕ) (tasks : ℕ) (source : Option (List ℕ)) (it : Head) (rest : List Step) (sink : Option (List ℕ)) → Parts name tasks source it rest sink
    → vertex path (vertex_value (record { name = name; tasks = tasks; source = source; head = it; steps = rest; sink = sink })) ≡ Ok (record { name = name; tasks = tasks; source = source; head = it; steps = rest; sink = sink })
unfolding vertex vertex_value
vertex_back_at path name tasks None it rest None p = rw (p.named, p.some, head_back (at_key path (codes "head")) it p.headed, steps_back (at_key path (codes "steps")) rest p.stepped)
vertex_back_at path name tasks None it rest (Some sink) p = rw (p.named, p.some, head_back (at_key path (codes "head")) it p.headed, steps_back (at_key path (codes "steps")) rest p.stepped, p.sunk)
vertex_back_at path name tasks (Some source) it rest None p = rw (p.named, p.some, p.file, head_back (at_key path (codes "head")) it p.headed, steps_back (at_key path (codes "steps")) rest p.stepped)
vertex_back_at path name tasks (Some source) it rest (Some sink) p = rw (p.named, p.some, p.file, head_back (at_key path (codes "head")) it p.headed, steps_back (at_key path (codes "steps")) rest p.stepped, p.sunk)

vertex_back : (path : Path) (v : VertexSpec) → vertex_in_range v ≡ true → vertex path (vertex_value v) ≡ Ok v
vertex_back path v fits = vertex_back_at path v.name v.tasks v.source v.head v.steps v.sink (parts_of v.name v.tasks v.source v.head v.steps v.sink fits)

edge_back_at : (path : Path) (source target : List ℕ) (it : Movement) → is_name source ≡ true → is_name target ≡ true → movement_in_range it ≡ true
    → edge path (edge_value (record { source = source; target = target; movement = it })) ≡ Ok (record { source = source; target = target; movement = it })
unfolding edge movement movements keyless by_keys edge_value
edge_back_at path source target OneToOne s t m = rw (s, t)
edge_back_at path source target Broadcast s t m = rw (s, t)
edge_back_at path source target (ScatterGather keys) s t m = rw (s, t, columns_back (at_key path (codes "keys")) keys m)

edge_back : (path : Path) (e : EdgeSpec) → edge_in_range e ≡ true → edge path (edge_value e) ≡ Ok e
edge_back path e fits =
    let a = and_parts (is_name e.source && is_name e.target) (movement_in_range e.movement) fits in
    let b = and_parts (is_name e.source) (is_name e.target) a.0 in
    edge_back_at path e.source e.target e.movement b.0 b.1 a.1

within : (low high n : ℕ) → low ≤ n → n ≤ high → is_within low high n ≡ true
within low high n above below = grind arith

below_test : (a b : ℕ) → a ≤ b → nat_le a b ≡ true
below_test a b h = grind arith

conf_back : (path : Path) (c : ConfValues) → IsInRange c → conf path (conf_value c) ≡ Ok c
unfolding conf conf_value
conf_back path c r =
    let nodes : c.nodes ≤ c.nodes * c.per_node = le-mul_of_pos_right c.nodes r.some_places in
    let places : c.per_node ≤ c.nodes * c.per_node = rw (mul_comm c.nodes c.per_node) (le-mul_of_pos_right c.per_node r.some_nodes) in
    rw (
      within 0 1000 c.min_src (omega arith) (omega arith),
      within 0 1000 c.max_src (omega arith) r.thousandths,
      within 1 1099511627776 c.desired_bytes r.some_bytes r.bytes,
      within 1 10000 c.min_tasks r.some_tasks r.tasks,
      within 1 100 c.max_failed r.some_failed r.failed,
      within 1 100 c.max_masters r.some_masters r.masters,
      within 1 64 c.nodes r.some_nodes (omega arith),
      within 1 64 c.per_node r.some_places (omega arith),
      below_test c.min_src c.max_src r.sources,
      below_test (c.nodes * c.per_node) 64 r.places,
    )

some_vertices : (at : Path) (vs : List VertexSpec) → 0 < length vs → unless_empty at vs ≡ Ok vs
some_vertices at [] some = absurd (omega arith)
some_vertices at (v ∷ vs) some = refl

-- the value of a plan and its configuration says them
pub document_back : (p : Dag) (c : ConfValues) → IsInRanges p → IsInRange c → document (document_value p c) ≡ Ok (p, c)
unfolding document document_value conf_of vertices
document_back p c r range =
    rw (
      r.name,
      conf_back (codes "conf") c range,
      each_back vertex vertex_value vertex_in_range vertex_back (codes "vertices") 0 p.vertices r.vertices,
      some_vertices (codes "vertices") p.vertices r.some,
      each_back edge edge_value edge_in_range edge_back (codes "edges") 0 p.edges r.edges,
    )
