-- Names in order, and what stands there before.
--     nowhere_past       a test of the elements that fails at each place fails at each number
--     map_more           one element more
use Rattle.std.proofs.Common.{◌≡◌, ◌≢◌, ℕ, zero, suc, ◌+◌, ◌<◌, ◌≤◌, ◌==◌, ◌&&◌, ◌||◌, Bool, true, false, cond, not, List, [], ◌∷◌, ◌++◌, length, map, take, slice_get, get_or, Option, Some, None, refl, sym, ap, ◌∙◌, subst, arith, ⊎_elim, sum_by, add-zero}
use Rattle.std.specs.List.{list_any, flat_map, position, position_or_len, prefix_len}
use Rattle.std.specs.Prelude.{nat_lt, IfSome, is_some}
use Rattle.std.specs.Option.{option_map_or}
use Rattle.std.specs.Str.{bytes_eq}
use Rattle.std.proofs.lemmas.Bool.{cases_lt}
use Rattle.std.proofs.lemmas.List.{take_more, take-map, map-append, get_or_default}
use Rattle.std.proofs.lemmas.List.Sums.{sum_by-append, sum_by-cons}
use Rattle.std.proofs.lemmas.Option.{slice_get_read, slice_get_past}
use borrow.Author.Count.{below_more}
use denote.Ref.{Bor}
use Rattle.tez_lists.proofs.Cases.{cases, both}
use Rattle.tez_lists.proofs.Flat.{flat_more, append-nil}
use Rattle.tez_ids.specs.declared.name.Name.{Name}
use Rattle.indexmap.specs.IndexSet.{insert_key}
use Rattle.tez_ids.specs.declared.VertexId.{VertexId}
use Rattle.tez_plan.specs.declared.parts.VertexSpec.{VertexSpec}
use Rattle.tez_plan.specs.declared.parts.EdgeSpec.{EdgeSpec}
use Rattle.tez_plan.specs.Dag.{Dag, dag_of, vertex, ends_of}
use Rattle.tez_plan.specs.Faults.{duplicate_name, unknown_name, duplicate_edge, duplicate_sink, has_sink}
use Rattle.tez_plan.specs.Graph.{ends_among, unknown_among, ends_again}
use Rattle.tez_plan.proofs.GraphLemmas.{list_any-map}

pub position_or_len-map : {X Y : Type 0} (test : Y → Bool) (f : X → Y) (xs : List X) → position_or_len test (map f xs) ≡ position_or_len (λ x. test (f x)) xs
position_or_len-map test f [] = refl
position_or_len-map test f (x ∷ xs) = ap (λ n. cond (not (test (f x))) (1 + n) 0) (position_or_len-map test f xs)

pub position_is : {X : Type 0} (test : X → Bool) (xs : List X) (i : ℕ) → position test xs ≡ Some i → i ≡ position_or_len test xs
position_is test xs i h = by (nat_lt (position_or_len test xs) (length xs)) h
  where
    by : (b : Bool) → cond b (Some (position_or_len test xs)) None ≡ Some i → i ≡ position_or_len test xs
    by true h = cc
    by false h = cc

pub nowhere_past : {X : Type 0} (test : ℕ → X → Bool) (xs : List X) (i : ℕ) → length xs ≤ i → ((m : ℕ) → m < i → option_map_or (test m) (slice_get xs m) false ≡ false) → (n : ℕ) → option_map_or (test n) (slice_get xs n) false ≡ false
nowhere_past test xs i all h n = ⊎_elim
    (λ (below : n < i). h n below)
    (λ (above : i ≤ n). ap (λ o. option_map_or (test n) o false) (slice_get_past xs n (omega arith)))
    (cases_lt n i)

pub at_place : {X : Type 0} (test : X → Bool) (xs : List X) (i : ℕ) (x : X) → i < length xs → x ≡ get_or xs i x → option_map_or test (slice_get xs i) false ≡ test x
at_place test xs i x below is = ap (λ o. option_map_or test o false) (slice_get_read xs (length xs) i x refl below is)

pub map_more : {X Y : Type 0} (f : X → Y) (xs : List X) (i : ℕ) (x : X) → i < length xs → x ≡ get_or xs i x → map f (take (i + 1) xs) ≡ map f (take i xs) ++ f x ∷ []
map_more f xs i x below is =
    ap (map f) (take_more xs i x below) ∙ map-append f (take i xs) (get_or xs i x ∷ []) ∙ ap (λ y. map f (take i xs) ++ f y ∷ []) (sym is)

pub sum_more : {X : Type 0} (f : X → ℕ) (xs : List X) (i : ℕ) (x : X) → i < length xs → x ≡ get_or xs i x → sum_by f (take (i + 1) xs) ≡ sum_by f (take i xs) + f x
sum_more f xs i x below is =
    ap (sum_by f) (take_more xs i x below)
    ∙ sum_by-append f (take i xs) (get_or xs i x ∷ [])
    ∙ ap (λ y. sum_by f (take i xs) + sum_by f (y ∷ [])) (sym is)
    ∙ ap (λ n. sum_by f (take i xs) + n) (sum_by-cons f x [] ∙ add-zero (f x))

-- ---- the names of the vertices so far

abbrev name_of : VertexSpec → List ℕ
name_of s = s.name

abbrev pub told : Bor (List ℕ) → List ℕ
told k = k.now

module _ (vs : List VertexSpec) (keys : List (Bor (List ℕ))) (v : ℕ) (x : VertexSpec) (k : Bor (List ℕ)) (below : v < length vs) (is : x ≡ get_or vs v x) (known : map told keys ≡ map name_of (take v vs)) (same : k.now ≡ (get_or vs v x).name) where
  of_it : k.now ≡ x.name
  of_it = same ∙ ap name_of (sym is)

  pub name_again : duplicate_name (dag_of [] vs []) v ≡ list_any (λ y. bytes_eq k.now y.now) keys
  name_again =
      at_place (λ s. list_any (λ t. bytes_eq s.name t.name) (take v vs)) vs v x below is
      ∙ sym (list_any-map (bytes_eq x.name) name_of (take v vs))
      ∙ ap (list_any (bytes_eq x.name)) (sym known)
      ∙ list_any-map (bytes_eq x.name) told keys
      ∙ ap (λ n. list_any (λ y. bytes_eq n y.now) keys) (sym of_it)

  pub names_more : (keys' : List (Bor (List ℕ))) → list_any (λ y. bytes_eq k.now y.now) keys ≡ false → keys' ≡ cond (list_any (λ y. bytes_eq k.now y.now) keys) keys (keys ++ k ∷ []) → map told keys' ≡ map name_of (take (v + 1) vs)
  names_more keys' fresh set =
      ap (map told) (set ∙ ap (λ b. cond b keys (keys ++ k ∷ [])) fresh)
      ∙ map-append told keys (k ∷ [])
      ∙ ap (λ ns. ns ++ k.now ∷ []) known
      ∙ ap (λ n. map name_of (take v vs) ++ n ∷ []) of_it
      ∙ sym (map_more name_of vs v x below is)

-- ---- ends among the names

pub ends_are : (vs : List VertexSpec) (es : List EdgeSpec) (names : List (List ℕ)) → names ≡ map name_of vs → (e : EdgeSpec) → ends_among names e ≡ ends_of (dag_of [] vs es) e
ends_are vs es names h e =
    ap (λ ns. ends_among ns e) h
    ∙ ap (λ n. (vertex n, vertex (position_or_len (bytes_eq e.target) (map name_of vs)))) (position_or_len-map (bytes_eq e.source) name_of vs)
    ∙ ap (λ n. (vertex (position_or_len (λ s. bytes_eq e.source s.name) vs), vertex n)) (position_or_len-map (bytes_eq e.target) name_of vs)

pub unknown_are : (vs : List VertexSpec) (es : List EdgeSpec) (names : List (List ℕ)) → names ≡ map name_of vs → (n : ℕ) → unknown_among names es n ≡ unknown_name (dag_of [] vs es) n
unknown_are vs es names h n =
    ap (λ ns. unknown_among ns es n) h
    ∙ ap (λ test. option_map_or test (slice_get es n) false) (λ i e. not (list_any-map (bytes_eq e.source) name_of vs i && list_any-map (bytes_eq e.target) name_of vs i))

at_some : {X : Type 0} (P : X → Type 0) (r : Option X) (u : X) → r ≡ Some u → IfSome r P → P u
at_some P r u e h = subst (λ o. IfSome o P) e h

module _ (names : List (List ℕ)) (es : List EdgeSpec) (e : ℕ) (x : EdgeSpec) (a b : List ℕ) (r s : Option VertexId) (u w : VertexId) (below : e < length es) (is : x ≡ get_or es e x)
    (source : a ≡ x.source) (target : b ≡ x.target) (is_r : r ≡ Some u) (is_s : s ≡ Some w) where
  pub ends_more : (old new : List (VertexId × VertexId)) → old ≡ map (ends_among names) (take e es) → IfSome r (λ v. v ≡ vertex (position_or_len (bytes_eq a) names)) → IfSome s (λ v. v ≡ vertex (position_or_len (bytes_eq b) names))
      → new ≡ old ++ (u, w) ∷ [] → new ≡ map (ends_among names) (take (e + 1) es)
  ends_more old new all from to more =
      more
      ∙ ap (λ ts. ts ++ (u, w) ∷ []) all
      ∙ ap (λ t. map (ends_among names) (take e es) ++ t ∷ []) pair
      ∙ sym (map_more (ends_among names) es e x below is)
    where
      first : u ≡ vertex (position_or_len (bytes_eq x.source) names)
      first = at_some _ r u is_r from ∙ ap (λ n. vertex (position_or_len (bytes_eq n) names)) source

      second : w ≡ vertex (position_or_len (bytes_eq x.target) names)
      second = at_some _ s w is_s to ∙ ap (λ n. vertex (position_or_len (bytes_eq n) names)) target

      pair : ◌≡◌ {A = VertexId × VertexId} (u, w) (ends_among names x)
      pair = ap (λ v. (v, w)) first ∙ ap (λ v. (vertex (position_or_len (bytes_eq x.source) names), v)) second

  pub both_known : is_some r ≡ list_any (bytes_eq a) names → is_some s ≡ list_any (bytes_eq b) names → unknown_among names es e ≡ false
  both_known from to =
      at_place (λ d. not (list_any (bytes_eq d.source) names && list_any (bytes_eq d.target) names)) es e x below is
      ∙ ap (λ n. not (list_any (bytes_eq n) names && list_any (bytes_eq x.target) names)) (sym source)
      ∙ ap (λ n. not (list_any (bytes_eq a) names && list_any (bytes_eq n) names)) (sym target)
      ∙ ap (λ t. not (t && list_any (bytes_eq b) names)) (sym from ∙ ap is_some is_r)
      ∙ ap not (sym to ∙ ap is_some is_s)

-- ---- ends so far

abbrev are_same : VertexId × VertexId → VertexId × VertexId → Bool
are_same t u = t.0.0 == u.0.0 && t.1.0 == u.1.0

module _ (ends keys : List (VertexId × VertexId)) (e : ℕ) (d : VertexId × VertexId) (below : e < length ends) (known : keys ≡ take e ends) (fresh : list_any (are_same (get_or ends e d)) keys ≡ false) where
  pub pairs_more : (keys' : List (VertexId × VertexId)) → keys' ≡ cond (list_any (are_same (get_or ends e d)) keys) keys (keys ++ get_or ends e d ∷ []) → keys' ≡ take (e + 1) ends
  pairs_more keys' set =
      set
      ∙ ap (λ b. cond b keys (keys ++ get_or ends e d ∷ [])) fresh
      ∙ ap (λ ts. ts ++ get_or ends e d ∷ []) known
      ∙ sym (take_more ends e d below)

  pub pair_fresh : ends_again ends e ≡ false
  pair_fresh =
      at_place (λ t. list_any (are_same t) (take e ends)) ends e (get_or ends e d) below (get_or_default ends e d (get_or ends e d) below)
      ∙ ap (list_any (are_same (get_or ends e d))) (sym known)
      ∙ fresh

option_map_or-map : {X Y : Type 0} (test : Y → Bool) (f : X → Y) (xs : List X) (n : ℕ) → option_map_or test (slice_get (map f xs) n) false ≡ option_map_or (λ x. test (f x)) (slice_get xs n) false
option_map_or-map test f [] n = refl
option_map_or-map test f (x ∷ xs) zero = refl
option_map_or-map test f (x ∷ xs) (suc n) = option_map_or-map test f xs n

pub pairs_are : (p : Dag) (ends : List (VertexId × VertexId)) → ends ≡ map (ends_of p) p.edges → (n : ℕ) → ends_again ends n ≡ duplicate_edge p n
pairs_are p ends h n =
    ap (λ ts. ends_again ts n) h
    ∙ option_map_or-map (λ t. list_any (are_same t) (take n (map (ends_of p) p.edges))) (ends_of p) p.edges n
    ∙ ap (λ test. option_map_or test (slice_get p.edges n) false)
    (λ i e. (ap (list_any (are_same (ends_of p e))) (take-map (ends_of p) n p.edges) ∙ list_any-map (are_same (ends_of p e)) (ends_of p) (take n p.edges)) i)

-- ---- sinks so far

abbrev sink_of : VertexSpec → List (List ℕ)
sink_of s = option_map_or (λ name. name ∷ []) s.sink []

any_sink : (name : List ℕ) (vs : List VertexSpec) → list_any (has_sink name) vs ≡ list_any (bytes_eq name) (flat_map sink_of vs)
any_sink name [] = refl
any_sink name (s ∷ vs) = ap (λ b. has_sink name s || b) (any_sink name vs) ∙ by s.sink
  where
    by : (o : Option Name) → (option_map_or (bytes_eq name) o false || list_any (bytes_eq name) (flat_map sink_of vs)) ≡ list_any (bytes_eq name) (option_map_or (λ n. n ∷ []) o [] ++ flat_map sink_of vs)
    by None = refl
    by (Some n) = refl

module _ (vs : List VertexSpec) (keys : List (Bor (List ℕ))) (v : ℕ) (x : VertexSpec) (below : v < length vs) (is : x ≡ get_or vs v x) (known : map told keys ≡ flat_map sink_of (take v vs)) where
  pub sink_again : (k : Bor (List ℕ)) → x.sink ≡ Some k.now → duplicate_sink (dag_of [] vs []) v ≡ list_any (λ y. bytes_eq k.now y.now) keys
  sink_again k at =
      at_place (λ s. option_map_or (λ sink. list_any (has_sink sink) (take v vs)) s.sink false) vs v x below is
      ∙ ap (λ o. option_map_or (λ sink. list_any (has_sink sink) (take v vs)) o false) at
      ∙ any_sink k.now (take v vs)
      ∙ ap (list_any (bytes_eq k.now)) (sym known)
      ∙ list_any-map (bytes_eq k.now) told keys

  pub no_sink : x.sink ≡ None → duplicate_sink (dag_of [] vs []) v ≡ false
  no_sink at =
      at_place (λ s. option_map_or (λ sink. list_any (has_sink sink) (take v vs)) s.sink false) vs v x below is
      ∙ ap (λ o. option_map_or (λ sink. list_any (has_sink sink) (take v vs)) o false) at

  pub sinks_more : (keys' : List (Bor (List ℕ))) → map told keys' ≡ map told keys ++ sink_of x → map told keys' ≡ flat_map sink_of (take (v + 1) vs)
  sinks_more keys' more = flat_more sink_of vs [] (map told keys) (map told keys') v x below known is more

  pub sink_more : (k : Bor (List ℕ)) (keys' : List (Bor (List ℕ))) → x.sink ≡ Some k.now → list_any (λ y. bytes_eq k.now y.now) keys ≡ false → keys' ≡ cond (list_any (λ y. bytes_eq k.now y.now) keys) keys (keys ++ k ∷ []) → map told keys' ≡ flat_map sink_of (take (v + 1) vs)
  sink_more k keys' at fresh set = sinks_more keys'
      (ap (map told) (set ∙ ap (λ b. cond b keys (keys ++ k ∷ [])) fresh)
      ∙ map-append told keys (k ∷ [])
      ∙ ap (λ o. map told keys ++ option_map_or (λ n. n ∷ []) o []) (sym at))

  pub sinks_same : x.sink ≡ None → map told keys ≡ flat_map sink_of (take (v + 1) vs)
  sinks_same at = sinks_more keys (sym (ap (λ o. map told keys ++ option_map_or (λ n. n ∷ []) o []) at ∙ append-nil (map told keys)))
