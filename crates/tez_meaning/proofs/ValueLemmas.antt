-- The meaning of a vertex from that of its sources.
--     value-step           the value of a vertex is what its program makes of the values of its sources
use Rattle.std.proofs.Common.{◌≡◌, ℕ, ◌<◌, Bool, not, List, [], ◌∷◌, ◌++◌, length, refl, ap, flat_map, filter, Option, Some, None, slice_get}
use Rattle.std.specs.List.{AllByRecursion}
use Rattle.std.specs.Option.{option_map_or}
use Rattle.tez_plan.specs.declared.parts.VertexSpec.{VertexSpec}
use Rattle.tez_plan.specs.declared.parts.EdgeSpec.{EdgeSpec}
use Rattle.tez_plan.specs.Dag.{Dag, from, edges_into, is_broadcast}
use Rattle.tez_plan.specs.Faults.{IsValid}
use Rattle.tez_plan.proofs.OrderLemmas.{all_filter, LooksAtSources, by_sources-step}
use Rattle.tez_plan.proofs.RankLemmas.{ranked}
use Rattle.tez_meaning.specs.Jobs.{Job}
use Rattle.tez_values.specs.Program.{output}
use Rattle.tez_meaning.specs.Value.{inputs, is_left, columns_of, value_from, value, lines_of}

pub flat_map-all : {X A : Type 0} (f g : X → List A) (xs : List X) → AllByRecursion (λ x. f x ≡ g x) xs → flat_map f xs ≡ flat_map g xs
flat_map-all f g [] all = refl
flat_map-all f g (x ∷ xs) all = λ i. all.0 i ++ flat_map-all f g xs all.1 i

-- inputs depend on what comes along the edges into the vertex alone
pub inputs-agree : (p : Dag) (v : ℕ) (s : VertexSpec) (src : List ℕ → List (List ℕ)) (f g : EdgeSpec → List (List ℕ)) → AllByRecursion (λ e. f e ≡ g e) (edges_into p v) → inputs p v s src f ≡ inputs p v s src g
inputs-agree p v s src f g all =
    let same : EdgeSpec → Type 0 = λ e. f e ≡ g e in
    let keep = λ (kind : EdgeSpec → Bool) (es : List EdgeSpec) (h : AllByRecursion same es). all_filter same same kind (λ e k q. q) es h in
    let ahead = keep (λ e. not (is_broadcast e)) (edges_into p v) all in
    let left = flat_map-all f g _ (keep (is_left s.head) _ ahead) in
    let right = flat_map-all f g _ (keep (λ e. not (is_left s.head e)) _ ahead) in
    let side = flat_map-all f g _ (keep is_broadcast (edges_into p v) all) in
    λ i. record {
      columns = columns_of (filter (is_left s.head) (filter (λ e. not (is_broadcast e)) (edges_into p v)));
      primary = option_map_or src s.source [] ++ left i;
      partner_columns = columns_of (filter (λ e. not (is_left s.head e)) (filter (λ e. not (is_broadcast e)) (edges_into p v)));
      partner = right i;
      side = side i;
    }

at_spec : {X : Type 0} (f g : VertexSpec → X) (d : X) (o : Option VertexSpec) → ((s : VertexSpec) → f s ≡ g s) → option_map_or f o d ≡ option_map_or g o d
at_spec f g d None h = refl
at_spec f g d (Some s) h = h s

pub value_looks : (job : Job) → LooksAtSources job.plan (value_from job)
value_looks job v f g all = at_spec _ _ [] (slice_get job.plan.vertices v)
    (λ s. ap (output s.head s.steps) (inputs-agree job.plan v s (lines_of job) (λ e. f (from job.plan e)) (λ e. g (from job.plan e)) all))

pub value-step : (job : Job) (v : ℕ) → IsValid job.plan → v < length job.plan.vertices → value job v ≡ value_from job v (value job)
unfolding value
value-step job v valid inside =
    let r = ranked job.plan valid in
    by_sources-step [] (value_from job) job.plan (value_looks job) r.rank_of r.falls (length job.plan.vertices) v (r.below v inside)
