-- What is wrong with a plan, in the order in which it is looked for.
--     checks p               each fault and where it stands, the first to be looked for first
--     IsFirstFault p f       f is the fault that is answered
--     IsValid p              no check fails anywhere
use Rattle.std.specs.Prelude.{◌≡◌, ◌≢◌, ◌⊎◌, ℕ, zero, suc, ◌+◌, ◌*◌, ◌<◌, min, Bool, true, false, not, ◌&&◌, ◌||◌, ◌==◌, nat_lt, List, [], ◌∷◌, length, take, IsTrue, slice_get, is_none, ⊤, if◌then◌else◌}
use Rattle.std.specs.List.{filter, list_any, list_all, sum_by}
use Rattle.std.specs.Option.{option_map_or}
use Rattle.std.specs.Str.{bytes_eq}
use Rattle.tez_plan.specs.declared.parts.VertexSpec.{VertexSpec}
use Rattle.tez_plan.specs.declared.parts.EdgeSpec.{EdgeSpec}
use Rattle.tez_plan.specs.declared.parts.Head.{Head}
use Rattle.tez_plan.specs.declared.parts.Head.TheVariants.{Each, Sum, Count, Distinct, Join, Lookup, KeepIn, DropIn}
use Rattle.tez_plan.specs.declared.fault.PlanFault.{PlanFault}
use Rattle.tez_plan.specs.declared.fault.PlanFault.TheVariants.{TooMany, DuplicateName, UnknownName, DuplicateEdge, Cycle, NoPrimary, MixedPrimary, HeadInputs, KeyDiffers, PartitionsDiffer, LeafWithoutSink, DuplicateSink, NoMemory}
use Rattle.tez_plan.specs.Dag.{Dag, from, to, edges_into, edges_from, IsEdge, tasks_of, vertex, edge, is_one_to_one, is_broadcast, is_scatter_gather, keys_of}

-- the test of the vertex or edge of this number, and false where there is none
abbrev pub at_vertex : Dag → ℕ → (VertexSpec → Bool) → Bool
at_vertex p v test = option_map_or test (slice_get p.vertices v) false

abbrev pub at_edge : Dag → ℕ → (EdgeSpec → Bool) → Bool
at_edge p e test = option_map_or test (slice_get p.edges e) false

-- more than 64 vertices, or more than 256 edges
abbrev pub too_many_parts : Dag → ℕ → Bool
too_many_parts p place = (place == 64 && nat_lt 64 (length p.vertices)) || (place == 256 && nat_lt 256 (length p.edges))

abbrev pub duplicate_name : Dag → ℕ → Bool
duplicate_name p v = at_vertex p v (λ s. list_any (λ t. bytes_eq s.name t.name) (take v p.vertices))

abbrev pub is_known : Dag → List ℕ → Bool
is_known p name = list_any (λ s. bytes_eq name s.name) p.vertices

abbrev pub unknown_name : Dag → ℕ → Bool
unknown_name p e = at_edge p e (λ s. not (is_known p s.source && is_known p s.target))

-- each end of each edge names a vertex
abbrev pub AllKnown : Dag → Type 0
AllKnown p = (e : ℕ) → ¬ IsTrue (unknown_name p e)

abbrev pub duplicate_edge : Dag → ℕ → Bool
duplicate_edge p e = at_edge p e (λ s. list_any (λ t. from p s == from p t && to p s == to p t) (take e p.edges))

-- v is on a cycle or behind one: it belongs to vertices each of which has a predecessor among them
pub record IsBehindCycle (p : Dag) (v : ℕ) : Type 0 where
  pub belongs : ℕ → Bool
  pub itself : IsTrue (belongs v)
  pub fed : (w : ℕ) → IsTrue (belongs w) → (u : ℕ) × IsTrue (belongs u) × IsEdge p u w

-- the edges of one kind into v
abbrev pub incoming : (EdgeSpec → Bool) → Dag → ℕ → List EdgeSpec
incoming kind p v = filter kind (edges_into p v)

-- its source, its one-to-one edges, and its scatter-gather edges taken as one
abbrev pub primaries : Dag → ℕ → VertexSpec → ℕ
primaries p v s = length (incoming is_one_to_one p v) + min 1 (length (incoming is_scatter_gather p v)) + (option_map_or (λ _. 1) s.source 0)

abbrev pub no_primary : Dag → ℕ → Bool
no_primary p v = at_vertex p v (λ s. primaries p v s == 0)

abbrev pub mixed_primary : Dag → ℕ → Bool
mixed_primary p v = at_vertex p v (λ s. nat_lt 1 (primaries p v s))

-- the edges that each head asks for are there
abbrev pub inputs_fit : Head → List EdgeSpec → ℕ → Bool
inputs_fit Each gathers sides = sides == 0
inputs_fit (Sum value) gathers sides = sides == 0
inputs_fit Count gathers sides = sides == 0
inputs_fit Distinct gathers sides = sides == 0
inputs_fit (Join left) gathers sides = sides == 0 && length gathers == 2 && list_any (λ e. bytes_eq left e.source) gathers
inputs_fit (Lookup key side_key) gathers sides = sides == 1
inputs_fit (KeepIn key side_key) gathers sides = sides == 1
inputs_fit (DropIn key side_key) gathers sides = sides == 1

abbrev pub head_inputs : Dag → ℕ → Bool
head_inputs p v = at_vertex p v (λ s. not (inputs_fit s.head (incoming is_scatter_gather p v) (length (incoming is_broadcast p v))))

-- the primary is by scatter-gather alone, with the same columns at each edge
abbrev pub same_keys : List EdgeSpec → ℕ → Bool
same_keys gathers others = others == 0 && list_all (λ d. list_all (λ e. bytes_eq (keys_of d) (keys_of e)) gathers) gathers

abbrev pub keys_fit : Head → List EdgeSpec → ℕ → Bool
keys_fit Each gathers others = true
keys_fit (Sum value) gathers others = same_keys gathers others
keys_fit Count gathers others = same_keys gathers others
keys_fit Distinct gathers others = same_keys gathers others
keys_fit (Join left) gathers others = list_all (λ d. list_all (λ e. length (keys_of d) == length (keys_of e)) gathers) gathers
keys_fit (Lookup key side_key) gathers others = length key == length side_key
keys_fit (KeepIn key side_key) gathers others = length key == length side_key
keys_fit (DropIn key side_key) gathers others = length key == length side_key

abbrev pub key_differs : Dag → ℕ → Bool
key_differs p v = at_vertex p v (λ s. not (keys_fit s.head (incoming is_scatter_gather p v) (length (incoming is_one_to_one p v) + option_map_or (λ _. 1) s.source 0)))

abbrev pub partitions_differ : Dag → ℕ → Bool
partitions_differ p e = at_edge p e (λ s. is_one_to_one s && not (tasks_of p (from p s) == tasks_of p (to p s)))

abbrev pub leaf_without_sink : Dag → ℕ → Bool
leaf_without_sink p v = at_vertex p v (λ s. length (edges_from p v) == 0 && is_none s.sink)

abbrev pub has_sink : List ℕ → VertexSpec → Bool
has_sink name s = option_map_or (bytes_eq name) s.sink false

abbrev pub duplicate_sink : Dag → ℕ → Bool
duplicate_sink p v = at_vertex p v (λ s. option_map_or (λ sink. list_any (has_sink sink) (take v p.vertices)) s.sink false)

-- the physical inputs of an edge by the plan's tasks
abbrev pub physical_inputs : Dag → EdgeSpec → ℕ
physical_inputs p e = if is_one_to_one e then tasks_of p (to p e) else tasks_of p (from p e) * tasks_of p (to p e)

abbrev pub too_many_inputs : Dag → ℕ → Bool
too_many_inputs p e = at_edge p e (λ _. nat_lt 4000000 (sum_by (physical_inputs p) (take (e + 1) p.edges)))

-- a fault at a number, and where it stands
pub record Check : Type 1 where
  pub fault : ℕ → PlanFault
  pub fails : ℕ → Type 0

unfoldable pub checks : Dag → List Check
checks p =
    record { fault = λ n. TooMany n; fails = λ n. IsTrue (too_many_parts p n) }
    ∷ record { fault = λ n. DuplicateName (vertex n); fails = λ n. IsTrue (duplicate_name p n) }
    ∷ record { fault = λ n. UnknownName (edge n); fails = λ n. IsTrue (unknown_name p n) }
    ∷ record { fault = λ n. DuplicateEdge (edge n); fails = λ n. IsTrue (duplicate_edge p n) }
    ∷ record { fault = λ n. Cycle (vertex n); fails = IsBehindCycle p }
    ∷ record { fault = λ n. NoPrimary (vertex n); fails = λ n. IsTrue (no_primary p n) }
    ∷ record { fault = λ n. MixedPrimary (vertex n); fails = λ n. IsTrue (mixed_primary p n) }
    ∷ record { fault = λ n. HeadInputs (vertex n); fails = λ n. IsTrue (head_inputs p n) }
    ∷ record { fault = λ n. KeyDiffers (vertex n); fails = λ n. IsTrue (key_differs p n) }
    ∷ record { fault = λ n. PartitionsDiffer (edge n); fails = λ n. IsTrue (partitions_differ p n) }
    ∷ record { fault = λ n. LeafWithoutSink (vertex n); fails = λ n. IsTrue (leaf_without_sink p n) }
    ∷ record { fault = λ n. DuplicateSink (vertex n); fails = λ n. IsTrue (duplicate_sink p n) }
    ∷ record { fault = λ n. TooMany n; fails = λ n. IsTrue (too_many_inputs p n) }
    ∷ []

-- the check fails nowhere; it fails at n first
abbrev pub FailsNowhere : Check → Type 0
FailsNowhere c = (n : ℕ) → ¬ c.fails n

pub record FailsFirstAt (c : Check) (n : ℕ) : Type 0 where
  pub there : c.fails n
  pub before : (m : ℕ) → m < n → ¬ c.fails m

-- the fault of the first check that fails, at the first number at which it does
abbrev pub IsFirstOf : List Check → PlanFault → Type 0
IsFirstOf [] f = ⊥
IsFirstOf (c ∷ cs) f = ((n : ℕ) × FailsFirstAt c n × (f ≡ c.fault n)) ⊎ (FailsNowhere c × IsFirstOf cs f)

abbrev pub PassesAll : List Check → Type 0
PassesAll [] = ⊤
PassesAll (c ∷ cs) = FailsNowhere c × PassesAll cs

unfoldable pub IsFirstFault : Dag → PlanFault → Type 0
IsFirstFault p f = IsFirstOf (checks p) f

unfoldable pub IsValid : Dag → Type 0
IsValid p = PassesAll (checks p)

-- a test passes nowhere; it passes at n first
abbrev pub IsNowhere : (ℕ → Bool) → Type 0
IsNowhere test = (n : ℕ) → test n ≡ false

pub record IsFirstWhere (test : ℕ → Bool) (n : ℕ) : Type 0 where
  pub there : test n ≡ true
  pub before : (m : ℕ) → m < n → test m ≡ false

-- the fault stands where the test passes first, if it is not want of memory
abbrev pub Finds : (ℕ → Bool) → (ℕ → PlanFault) → PlanFault → Type 0
Finds test fault f = f ≢ NoMemory → (n : ℕ) × IsFirstWhere test n × (f ≡ fault n)

-- the first n checks fail nowhere
abbrev pub FirstPass : ℕ → List Check → Type 0
FirstPass zero cs = ⊤
FirstPass (suc n) [] = ⊤
FirstPass (suc n) (c ∷ cs) = FailsNowhere c × FirstPass n cs

unfoldable pub Passes : ℕ → Dag → Type 0
Passes n p = FirstPass n (checks p)
