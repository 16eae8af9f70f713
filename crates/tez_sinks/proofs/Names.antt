-- The sinks of a valid plan, in order, each with a name of its own.
--     own_name        two vertices with a sink of the same name are one
--     sinks_rise      sinks stand in order
--     entries_are     the names and texts of the sinks
use Rattle.std.specs.Prelude.{◌≡◌, ◌⊎◌, ℕ, zero, suc, ◌+◌, ◌<◌, Bool, true, false, if◌then◌else◌, List, [], ◌∷◌, map, length, take, slice_get, Option, Some, None, is_some, unwrap_or, refl}
use Rattle.std.specs.List.{filter, list_any}
use Rattle.std.specs.Option.{option_map_or}
use Rattle.std.specs.Str.{bytes_eq}
use Rattle.std.proofs.Common.{ap, sym, ◌∙◌, arith, ⊎_elim}
use Rattle.std.proofs.lemmas.Bool.{cases_order, or_left, or_right}
use Rattle.tez_lists.specs.Numbers.{In, numbers_from}
use Rattle.tez_record.proofs.BagLemmas.{same_itself}
use Rattle.tez_plan.specs.declared.parts.VertexSpec.{VertexSpec}
use Rattle.tez_plan.specs.Dag.{Dag}
use Rattle.tez_plan.specs.Faults.{IsValid, duplicate_sink, has_sink as sink_is}
use Rattle.tez_plan.proofs.CheckLemmas.{valid_parts}
use Rattle.tez_meaning.specs.Jobs.{Job}
use Rattle.tez_meaning.specs.Value.{value, sink_text, sink_texts, sums, sinks as named_sinks}
use Rattle.tez_history.specs.Shape.{vertices, has_sink, sinks}
use Rattle.tez_laws.proofs.Sinks.{Rises, AllAbove, numbers_rise}
use Rattle.tez_progress.proofs.Members.{filter_in, numbers_in}
use Rattle.tez_sinks.specs.Sinks.{sink_of, sink_name, sink_entry}

-- ---- names

taken_at : (vs : List VertexSpec) (u v : ℕ) (name : List ℕ) → u < v → option_map_or (λ s. s.sink) (slice_get vs u) None ≡ Some name → list_any (sink_is name) (take v vs) ≡ true
taken_at [] u v name low h = cc
taken_at (s ∷ vs) u zero name low h = absurd (omega arith)
taken_at (s ∷ vs) zero (suc v) name low h =
    let here : sink_is name s ≡ true = ap (λ o. option_map_or (bytes_eq name) o false) h ∙ same_itself name in
    or_left (sink_is name s) (list_any (sink_is name) (take v vs)) here
taken_at (s ∷ vs) (suc u) (suc v) name low h = or_right (sink_is name s) (list_any (sink_is name) (take v vs)) (taken_at vs u v name (omega arith) h)

taken : (g : Dag) (u v : ℕ) (name : List ℕ) → u < v → sink_of g u ≡ Some name → sink_of g v ≡ Some name → duplicate_sink g v ≡ true
taken g u v name low h k = by (slice_get g.vertices v) k where
  by : (o : Option VertexSpec) → option_map_or (λ s. s.sink) o None ≡ Some name
      → option_map_or (λ s. option_map_or (λ sink. list_any (sink_is sink) (take v g.vertices)) s.sink false) o false ≡ true
  by None e = cc
  by (Some s) e = ap (λ o. option_map_or (λ sink. list_any (sink_is sink) (take v g.vertices)) o false) e ∙ taken_at g.vertices u v name low h

pub own_name : (g : Dag) (u v : ℕ) (name : List ℕ) → IsValid g → sink_of g u ≡ Some name → sink_of g v ≡ Some name → u ≡ v
own_name g u v name valid h k =
    let own = (valid_parts g valid).own_sinks in
    ⊎_elim (λ (same : u ≡ v). same)
    (λ (rest : (u < v) ⊎ (v < u)). ⊎_elim (λ (low : u < v). absurd (own v (taken g u v name low h k))) (λ (low : v < u). absurd (own u (taken g v u name low k h))) rest)
    (cases_order u v)

-- ---- a vertex with a sink has its name

pub has_name : (g : Dag) (v : ℕ) → has_sink g v ≡ true → sink_of g v ≡ Some (sink_name g v)
has_name g v h = by (slice_get g.vertices v) h where
  some : (o : Option (List ℕ)) → is_some o ≡ true → o ≡ Some (unwrap_or o [])
  some None e = cc
  some (Some n) e = refl

  by : (o : Option VertexSpec) → option_map_or (λ s. is_some s.sink) o false ≡ true → option_map_or (λ s. s.sink) o None ≡ Some (unwrap_or (option_map_or (λ s. s.sink) o None) [])
  by None e = cc
  by (Some s) e = some s.sink e

pub listed_sink : (g : Dag) (v : ℕ) → In v (sinks g) → (v < length g.vertices) × (has_sink g v ≡ true)
listed_sink g v h = let k = filter_in (has_sink g) v (vertices g) h in let low : v < 0 + length g.vertices = numbers_in 0 (length g.vertices) v k.0 in (omega (arith, low), k.1)

pub named : (g : Dag) (v : ℕ) (name : List ℕ) → sink_of g v ≡ Some name → name ≡ sink_name g v
named g v name h = ap (λ o. unwrap_or o []) (sym h)

-- ---- in order

above_filter : (n : ℕ) (p : ℕ → Bool) (xs : List ℕ) → AllAbove n xs → AllAbove n (filter p xs)
above_filter n p [] h = tt
above_filter n p (x ∷ xs) h = by (p x) (above_filter n p xs h.1) where
  by : (b : Bool) → AllAbove n (filter p xs) → AllAbove n (if b then x ∷ filter p xs else filter p xs)
  by true ih = (h.0, ih)
  by false ih = ih

rises_filter : (p : ℕ → Bool) (xs : List ℕ) → Rises xs → Rises (filter p xs)
rises_filter p [] h = tt
rises_filter p (x ∷ xs) h = by (p x) (rises_filter p xs h.1) where
  by : (b : Bool) → Rises (filter p xs) → Rises (if b then x ∷ filter p xs else filter p xs)
  by true ih = (above_filter x p xs h.0, ih)
  by false ih = ih

pub sinks_rise : (g : Dag) → Rises (sinks g)
sinks_rise g = rises_filter (has_sink g) (vertices g) (numbers_rise 0 (length g.vertices))

-- ---- the sinks with their names, by the places from n on

module _ {X : Type 0} (g : Dag) (f : ℕ → List ℕ → X) where
  shift : (n i : ℕ) → n + suc i ≡ suc n + i
  shift n i = omega arith

  same_sinks : (n : ℕ) (ss : List VertexSpec) → ((i : ℕ) → slice_get g.vertices (n + i) ≡ slice_get ss i)
      → map (λ v. f v (sink_name g v)) (filter (has_sink g) (numbers_from n (length ss))) ≡ map (λ s. f s.0 s.1) (named_sinks n ss)
  same_sinks n [] h = refl
  same_sinks n (s ∷ ss) h = by s.sink refl (same_sinks (suc n) ss (λ i. ap (slice_get g.vertices) (sym (shift n i)) ∙ h (suc i))) where
    here : slice_get g.vertices n ≡ Some s
    here = let same : n ≡ n + 0 = omega arith in ap (slice_get g.vertices) same ∙ h 0

    by : (o : Option (List ℕ)) → s.sink ≡ o → map (λ v. f v (sink_name g v)) (filter (has_sink g) (numbers_from (suc n) (length ss))) ≡ map (λ x. f x.0 x.1) (named_sinks (suc n) ss)
        → map (λ v. f v (sink_name g v)) (if has_sink g n then n ∷ filter (has_sink g) (numbers_from (suc n) (length ss)) else filter (has_sink g) (numbers_from (suc n) (length ss)))
        ≡ map (λ x. f x.0 x.1) (option_map_or (λ sink. (n, sink) ∷ named_sinks (suc n) ss) o (named_sinks (suc n) ss))
    by None e ih =
        let none : has_sink g n ≡ false = ap (λ x. option_map_or (λ (t : VertexSpec). is_some t.sink) x false) here ∙ ap is_some e in
        rw none ih
    by (Some name) e ih =
        let some : has_sink g n ≡ true = ap (λ x. option_map_or (λ (t : VertexSpec). is_some t.sink) x false) here ∙ ap is_some e in
        let called : sink_name g n ≡ name = ap (λ x. unwrap_or (option_map_or (λ (t : VertexSpec). t.sink) x None) []) here ∙ ap (λ o. unwrap_or o []) e in
        rw (some, called, ih) refl

  pub all_sinks : map (λ v. f v (sink_name g v)) (sinks g) ≡ map (λ s. f s.0 s.1) (named_sinks 0 g.vertices)
  all_sinks = same_sinks 0 g.vertices (λ i. let same : 0 + i ≡ i = omega arith in ap (slice_get g.vertices) same)

pub entries_are : (job : Job) → map (sink_entry job) (sinks job.plan) ≡ sink_texts job
entries_are job = all_sinks job.plan (λ v name. (name, sink_text job v))

pub sums_are : (job : Job) → map (λ v. (length (value job v), length (sink_text job v))) (sinks job.plan) ≡ sums job
sums_are job = all_sinks job.plan (λ v name. (length (value job v), length (sink_text job v)))
