-- The canonical value has no float, and nests six deep at most.
use Rattle.std.proofs.Common.{◌≡◌, ℕ, ◌≤◌, pos, negsuc, ℤ, false, List, [], ◌∷◌, map, Option, Some, None, refl, arith}
use Rattle.serde_json.specs.Data.{Data, depth, items_depth}
use Rattle.serde_json.specs.View.{items_of}
use Rattle.serde_json.specs.Written.{has_float, items_have_float}
use Rattle.tez_conf.specs.declared.values.ConfValues.{ConfValues}
use Rattle.tez_plan.specs.declared.parts.Head.{Head}
use Rattle.tez_plan.specs.declared.parts.Head.TheVariants.{Each, Sum, Count, Distinct, Join, Lookup, KeepIn, DropIn}
use Rattle.tez_plan.specs.declared.parts.Movement.{Movement}
use Rattle.tez_plan.specs.declared.parts.Movement.TheVariants.{OneToOne, Broadcast, ScatterGather}
use Rattle.tez_plan.specs.declared.parts.Step.{Step}
use Rattle.tez_plan.specs.declared.parts.Step.TheVariants.{Tokenise, Filter, Project}
use Rattle.tez_plan.specs.declared.parts.Test.{Test}
use Rattle.tez_plan.specs.declared.parts.Test.TheVariants.{Eq, Ne, Contains, Lt, Gt}
use Rattle.tez_plan.specs.Dag.{Dag}
use Rattle.tez_dag_json.specs.Canonical.{count, signed, head_value, step_value, test_value, vertex_value, edge_value, conf_value, document_value}

list_no_float : {X : Type 0} (value : X → Data) → ((x : X) → has_float (value x) ≡ false) → (xs : List X) → items_have_float (items_of (map value xs)) ≡ false
list_no_float value none [] = refl
list_no_float value none (x ∷ xs) = rw (none x, list_no_float value none xs)

cols_no_float : (cols : List ℕ) → items_have_float (items_of (map count cols)) ≡ false
cols_no_float cols = list_no_float count (λ _. refl) cols

head_no_float : (h : Head) → has_float (head_value h) ≡ false
unfolding head_value
head_no_float Each = refl
head_no_float (Sum value) = refl
head_no_float Count = refl
head_no_float Distinct = refl
head_no_float (Join left) = refl
head_no_float (Lookup key side_key) = rw (cols_no_float key, cols_no_float side_key)
head_no_float (KeepIn key side_key) = rw (cols_no_float key, cols_no_float side_key)
head_no_float (DropIn key side_key) = rw (cols_no_float key, cols_no_float side_key)

signed_no_float : (z : ℤ) → has_float (signed z) ≡ false
signed_no_float (pos n) = refl
signed_no_float (negsuc n) = refl

test_no_float : (t : Test) → has_float (test_value t) ≡ false
test_no_float (Eq text) = refl
test_no_float (Ne text) = refl
test_no_float (Contains text) = refl
test_no_float (Lt z) = signed_no_float z
test_no_float (Gt z) = signed_no_float z

step_no_float : (s : Step) → has_float (step_value s) ≡ false
unfolding step_value
step_no_float Tokenise = refl
step_no_float (Filter field test) = rw (test_no_float test)
step_no_float (Project cols) = rw (cols_no_float cols)

vertex_no_float_at : (name : List ℕ) (tasks : ℕ) (source : Option (List ℕ)) (it : Head) (rest : List Step) (sink : Option (List ℕ))
    → has_float (vertex_value (record { name = name; tasks = tasks; source = source; head = it; steps = rest; sink = sink })) ≡ false
unfolding vertex_value
vertex_no_float_at name tasks None it rest None = rw (head_no_float it, list_no_float step_value step_no_float rest)
vertex_no_float_at name tasks None it rest (Some sink) = rw (head_no_float it, list_no_float step_value step_no_float rest)
vertex_no_float_at name tasks (Some source) it rest None = rw (head_no_float it, list_no_float step_value step_no_float rest)
vertex_no_float_at name tasks (Some source) it rest (Some sink) = rw (head_no_float it, list_no_float step_value step_no_float rest)

edge_no_float_at : (source target : List ℕ) (it : Movement) → has_float (edge_value (record { source = source; target = target; movement = it })) ≡ false
unfolding edge_value
edge_no_float_at source target OneToOne = refl
edge_no_float_at source target Broadcast = refl
edge_no_float_at source target (ScatterGather keys) = rw (cols_no_float keys)

pub document_no_float : (p : Dag) (c : ConfValues) → has_float (document_value p c) ≡ false
unfolding document_value conf_value
document_no_float p c =
    rw (
      list_no_float edge_value (λ e. edge_no_float_at e.source e.target e.movement) p.edges,
      list_no_float vertex_value (λ v. vertex_no_float_at v.name v.tasks v.source v.head v.steps v.sink) p.vertices,
    )

-- ---- depth

list_depth : {X : Type 0} (value : X → Data) (most : ℕ) → ((x : X) → depth (value x) ≤ most) → (xs : List X) → items_depth (items_of (map value xs)) ≤ most
list_depth value most at [] = omega arith
list_depth value most at (x ∷ xs) = omega (arith, at x, list_depth value most at xs)

cols_depth : (cols : List ℕ) → items_depth (items_of (map count cols)) ≤ 0
cols_depth cols = list_depth count 0 (λ _. omega arith) cols

head_depth : (h : Head) → depth (head_value h) ≤ 2
unfolding head_value
head_depth Each = omega arith
head_depth (Sum value) = omega arith
head_depth Count = omega arith
head_depth Distinct = omega arith
head_depth (Join left) = omega arith
head_depth (Lookup key side_key) = omega (arith, cols_depth key, cols_depth side_key)
head_depth (KeepIn key side_key) = omega (arith, cols_depth key, cols_depth side_key)
head_depth (DropIn key side_key) = omega (arith, cols_depth key, cols_depth side_key)

test_depth : (t : Test) → depth (test_value t) ≤ 0
test_depth (Eq text) = omega arith
test_depth (Ne text) = omega arith
test_depth (Contains text) = omega arith
test_depth (Lt z) = omega arith
test_depth (Gt z) = omega arith

step_depth : (s : Step) → depth (step_value s) ≤ 2
unfolding step_value
step_depth Tokenise = omega arith
step_depth (Filter field test) = omega (arith, test_depth test)
step_depth (Project cols) = omega (arith, cols_depth cols)

vertex_depth_at : (name : List ℕ) (tasks : ℕ) (source : Option (List ℕ)) (it : Head) (rest : List Step) (sink : Option (List ℕ))
    → depth (vertex_value (record { name = name; tasks = tasks; source = source; head = it; steps = rest; sink = sink })) ≤ 4
unfolding vertex_value
vertex_depth_at name tasks None it rest None = omega (arith, head_depth it, list_depth step_value 2 step_depth rest)
vertex_depth_at name tasks None it rest (Some sink) = omega (arith, head_depth it, list_depth step_value 2 step_depth rest)
vertex_depth_at name tasks (Some source) it rest None = omega (arith, head_depth it, list_depth step_value 2 step_depth rest)
vertex_depth_at name tasks (Some source) it rest (Some sink) = omega (arith, head_depth it, list_depth step_value 2 step_depth rest)

edge_depth_at : (source target : List ℕ) (it : Movement) → depth (edge_value (record { source = source; target = target; movement = it })) ≤ 2
unfolding edge_value
edge_depth_at source target OneToOne = omega arith
edge_depth_at source target Broadcast = omega arith
edge_depth_at source target (ScatterGather keys) = omega (arith, cols_depth keys)

pub document_depth : (p : Dag) (c : ConfValues) → depth (document_value p c) ≤ 6
unfolding document_value conf_value
document_depth p c =
    omega (
      arith,
      list_depth edge_value 2 (λ e. edge_depth_at e.source e.target e.movement) p.edges,
      list_depth vertex_value 4 (λ v. vertex_depth_at v.name v.tasks v.source v.head v.steps v.sink) p.vertices,
    )
