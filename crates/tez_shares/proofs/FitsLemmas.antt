-- A valid plan fits the law of shares.
--     fits_valid           what validity says of the edges into each vertex, by its head
use Rattle.std.proofs.Common.{◌≡◌, ◌∙◌, ℕ, ◌+◌, ◌<◌, ◌==◌, ◌&&◌, Bool, true, cond, not, List, [], ◌∷◌, length, sym, ap, refl, subst, arith, filter, Some, None, slice_get, eq-eqb, eqb-true, bytes_eq}
use Rattle.std.specs.List.{AllByRecursion, list_any, list_all}
use Rattle.std.specs.Option.{option_map_or}
use Rattle.std.proofs.lemmas.Bool.{not-false, and_parts, and_from, or_left, or_right, eqb-false}
use Rattle.tez_lists.proofs.Cases.{cases}
use Rattle.tez_record.proofs.BagLemmas.{same_record}
use Rattle.tez_plan.specs.declared.parts.VertexSpec.{VertexSpec}
use Rattle.tez_plan.specs.declared.parts.EdgeSpec.{EdgeSpec}
use Rattle.tez_plan.specs.declared.parts.Head.{Head}
use Rattle.tez_plan.specs.declared.parts.Head.TheVariants.{Each, Sum, Count, Distinct, Join, Lookup, KeepIn, DropIn}
use Rattle.tez_plan.specs.Dag.{Dag, from, edges_into, is_broadcast, is_scatter_gather, is_one_to_one, keys_of, tasks_of}
use Rattle.tez_plan.specs.Faults.{IsValid, incoming, primaries, inputs_fit, keys_fit, same_keys}
use Rattle.tez_plan.proofs.CheckLemmas.{valid_parts}
use Rattle.tez_plan.proofs.OrderLemmas.{all_map, all_filter}
use Rattle.tez_plan.proofs.RankLemmas.{all_both}
use Rattle.tez_meaning.specs.Value.{is_left, columns_of}
use Rattle.tez_meaning.proofs.EdgeLists.{all_from_test, of_kind}
use Rattle.tez_meaning.proofs.JoinLemmas.{ahead_of, left_of, right_of, at_spec, source_none, ahead_by_key, inputs_there, join_edges}
use Rattle.tez_shares.proofs.LawOfShares.{HeadFits, HasKey, AreByKey}
use Rattle.tez_shares.proofs.Shared.{PlanFits}

-- the columns of a list of edges with the same columns
same_columns : (es : List EdgeSpec) → AllByRecursion (λ d. AllByRecursion (λ e. keys_of d ≡ keys_of e) es) es → AllByRecursion (λ e. keys_of e ≡ columns_of es) es
same_columns [] all = tt
same_columns (d ∷ es) all = all_map (λ e. keys_of d ≡ keys_of e) (λ e. keys_of e ≡ keys_of d) (λ e h. sym h) (d ∷ es) all.0

module _ (p : Dag) (v : ℕ) (s : VertexSpec) where
  -- from the scatter-gather edges to those ahead on the left
  onto_ahead : (P : EdgeSpec → Type 0) → AllByRecursion (λ e. is_scatter_gather e ≡ true) (ahead_of p v) → AllByRecursion P (incoming is_scatter_gather p v) → AllByRecursion P (ahead_of p v)
  onto_ahead P by all =
      let a = of_kind P is_scatter_gather (edges_into p v) all in
      let b = all_filter (λ e. is_scatter_gather e ≡ true → P e) (λ e. is_scatter_gather e ≡ true → P e) (λ e. not (is_broadcast e)) (λ e k h. h) (edges_into p v) a in
      all_map (λ e. (is_scatter_gather e ≡ true) × (is_scatter_gather e ≡ true → P e)) P (λ e h. h.1 h.0) (ahead_of p v)
      (all_both (λ e. is_scatter_gather e ≡ true) (λ e. is_scatter_gather e ≡ true → P e) (ahead_of p v) by b)

  onto_left : (P : EdgeSpec → Type 0) → AllByRecursion (λ e. is_scatter_gather e ≡ true) (ahead_of p v) → AllByRecursion P (incoming is_scatter_gather p v) → AllByRecursion P (left_of p v s)
  onto_left P by all = all_filter P P (is_left s.head) (λ e k h. h) (ahead_of p v) (onto_ahead P by all)

  keyed : same_keys (incoming is_scatter_gather p v) (length (incoming is_one_to_one p v) + option_map_or (λ _. 1) s.source 0) ≡ true → (s.source ≡ None) × AreByKey (columns_of (left_of p v s)) (left_of p v s)
  keyed h =
      let parts = and_parts _ _ h in
      let none : length (incoming is_one_to_one p v) + option_map_or {U = ℕ} (λ _. 1) s.source 0 ≡ 0 = eqb-true _ 0 parts.0 in
      let no_one : length (incoming is_one_to_one p v) ≡ 0 = omega arith in
      let by = ahead_by_key p v no_one in
      let gathers = incoming is_scatter_gather p v in
      let ahead_left : AllByRecursion (λ e. is_scatter_gather e ≡ true) (left_of p v s) = all_filter (λ e. is_scatter_gather e ≡ true) (λ e. is_scatter_gather e ≡ true) (is_left s.head) (λ e k q. q) (ahead_of p v) by in
      let pairs : AllByRecursion (λ d. AllByRecursion (λ e. keys_of d ≡ keys_of e) (left_of p v s)) (left_of p v s) =
      onto_left (λ d. AllByRecursion (λ e. keys_of d ≡ keys_of e) (left_of p v s)) by
      (all_map (λ d. list_all (λ e. bytes_eq (keys_of d) (keys_of e)) gathers ≡ true) (λ d. AllByRecursion (λ e. keys_of d ≡ keys_of e) (left_of p v s))
      (λ d t. onto_left (λ e. keys_of d ≡ keys_of e) by
      (all_map (λ e. bytes_eq (keys_of d) (keys_of e) ≡ true) (λ e. keys_of d ≡ keys_of e) (λ e q. same_record (keys_of d) (keys_of e) q) gathers
      (all_from_test (λ e. bytes_eq (keys_of d) (keys_of e)) gathers t)))
      gathers (all_from_test (λ d. list_all (λ e. bytes_eq (keys_of d) (keys_of e)) gathers) gathers parts.1)) in
      (source_none s.source (omega arith), all_both (λ e. is_scatter_gather e ≡ true) (λ e. keys_of e ≡ columns_of (left_of p v s)) (left_of p v s) ahead_left (same_columns (left_of p v s) pairs))

columns_alone : (xs : List EdgeSpec) → length xs ≡ 1 → AllByRecursion (λ e. is_scatter_gather e ≡ true) xs → AreByKey (columns_of xs) xs
columns_alone [] h all = tt
columns_alone (e ∷ []) h all = ((all.0, refl), tt)
columns_alone (e ∷ d ∷ xs) h all = absurd (omega arith)

join_fits : (p : Dag) (v : ℕ) (s : VertexSpec) → IsValid p → (name : List ℕ) → s.head ≡ Join name → slice_get p.vertices v ≡ Some s
    → (s.source ≡ None) × AreByKey (columns_of (left_of p v s)) (left_of p v s) × AreByKey (columns_of (right_of p v s)) (right_of p v s)
join_fits p v s valid name is_join here =
    let edges = join_edges p v s valid here name is_join in
    let keep = λ (kind : EdgeSpec → Bool). all_filter (λ e. is_scatter_gather e ≡ true) (λ e. is_scatter_gather e ≡ true) kind (λ e k q. q) (ahead_of p v) edges.by_key in
    (edges.no_source, columns_alone (left_of p v s) edges.one_left (keep (is_left s.head)), columns_alone (right_of p v s) edges.one_right (keep (λ e. not (is_left s.head e))))

-- an edge of the kind, by its source
edge_of_kind : (p : Dag) (kind : EdgeSpec → Bool) (xs : List EdgeSpec) → 0 < length (filter kind xs) → (u : ℕ) × (list_any (λ e. kind e && (from p e == u)) xs ≡ true)
edge_of_kind p kind [] h = absurd (omega arith)
edge_of_kind p kind (x ∷ xs) h = cases (kind x)
    (λ e. (from p x, or_left _ _ (and_from _ _ e (eq-eqb (from p x) (from p x) refl))))
    (λ e. let rest = edge_of_kind p kind xs (subst (λ b. 0 < length (cond b (x ∷ filter kind xs) (filter kind xs))) e h) in (rest.0, or_right _ _ rest.1))

module _ (p : Dag) (valid : IsValid p) where
  some_primaries : (v : ℕ) (s : VertexSpec) → slice_get p.vertices v ≡ Some s → 0 < primaries p v s
  some_primaries v s e =
      let some : primaries p v s ≡ 0 → ⊥ = eqb-false (primaries p v s) 0 (at_spec p v s (λ t. primaries p v t == 0) e ((valid_parts p valid).some_primary v)) in
      omega arith

  keys_there : (v : ℕ) (s : VertexSpec) → slice_get p.vertices v ≡ Some s → keys_fit s.head (incoming is_scatter_gather p v) (length (incoming is_one_to_one p v) + option_map_or (λ _. 1) s.source 0) ≡ true
  keys_there v s e = not-false _ (at_spec p v s (λ t. not (keys_fit t.head (incoming is_scatter_gather p v) (length (incoming is_one_to_one p v) + option_map_or (λ _. 1) t.source 0))) e ((valid_parts p valid).fit_keys v))

  fits_head : (v : ℕ) (s : VertexSpec) → slice_get p.vertices v ≡ Some s → (h : Head) → s.head ≡ h → HeadFits h s.source (left_of p v s) (right_of p v s)
  fits_head v s here Each e = tt
  fits_head v s here (Sum value) e = keyed p v s (ap (λ h. keys_fit h (incoming is_scatter_gather p v) (length (incoming is_one_to_one p v) + option_map_or (λ _. 1) s.source 0)) (sym e) ∙ keys_there v s here)
  fits_head v s here Count e = keyed p v s (ap (λ h. keys_fit h (incoming is_scatter_gather p v) (length (incoming is_one_to_one p v) + option_map_or (λ _. 1) s.source 0)) (sym e) ∙ keys_there v s here)
  fits_head v s here Distinct e = keyed p v s (ap (λ h. keys_fit h (incoming is_scatter_gather p v) (length (incoming is_one_to_one p v) + option_map_or (λ _. 1) s.source 0)) (sym e) ∙ keys_there v s here)
  fits_head v s here (Join name) e = join_fits p v s valid name e here
  fits_head v s here (Lookup key side_key) e = tt
  fits_head v s here (KeepIn key side_key) e = tt
  fits_head v s here (DropIn key side_key) e = tt

  gathers_keyed : (v : ℕ) (s : VertexSpec) → slice_get p.vertices v ≡ Some s → same_keys (incoming is_scatter_gather p v) (length (incoming is_one_to_one p v) + option_map_or (λ _. 1) s.source 0) ≡ true → 0 < length (incoming is_scatter_gather p v)
  gathers_keyed v s here h =
      let none : length (incoming is_one_to_one p v) + option_map_or {U = ℕ} (λ _. 1) s.source 0 ≡ 0 = eqb-true _ 0 (and_parts _ _ h).0 in
      let some = some_primaries v s here in
      omega arith

  gathers_there : (v : ℕ) (s : VertexSpec) → slice_get p.vertices v ≡ Some s → (h : Head) → s.head ≡ h → HasKey h → 0 < length (incoming is_scatter_gather p v)
  gathers_there v s here Each e k = absurd k
  gathers_there v s here (Sum value) e k = gathers_keyed v s here (ap (λ h. keys_fit h (incoming is_scatter_gather p v) (length (incoming is_one_to_one p v) + option_map_or (λ _. 1) s.source 0)) (sym e) ∙ keys_there v s here)
  gathers_there v s here Count e k = gathers_keyed v s here (ap (λ h. keys_fit h (incoming is_scatter_gather p v) (length (incoming is_one_to_one p v) + option_map_or (λ _. 1) s.source 0)) (sym e) ∙ keys_there v s here)
  gathers_there v s here Distinct e k = gathers_keyed v s here (ap (λ h. keys_fit h (incoming is_scatter_gather p v) (length (incoming is_one_to_one p v) + option_map_or (λ _. 1) s.source 0)) (sym e) ∙ keys_there v s here)
  gathers_there v s here (Join name) e k =
      let h : inputs_fit (Join name) (incoming is_scatter_gather p v) (length (incoming is_broadcast p v)) ≡ true = ap (λ x. inputs_fit x (incoming is_scatter_gather p v) (length (incoming is_broadcast p v))) (sym e) ∙ inputs_there p v s valid here in
      let two : length (incoming is_scatter_gather p v) ≡ 2 = eqb-true _ 2 (and_parts _ _ (and_parts _ _ h).0).1 in
      omega arith
  gathers_there v s here (Lookup key side_key) e k = absurd k
  gathers_there v s here (KeepIn key side_key) e k = absurd k
  gathers_there v s here (DropIn key side_key) e k = absurd k

  pub fits_valid : ((v : ℕ) → v < length p.vertices → 0 < tasks_of p v) → PlanFits p
  fits_valid tasks = record {
    tasks = tasks;
    heads = λ v s e. fits_head v s e s.head refl;
    gathers = λ v s e k. edge_of_kind p is_scatter_gather (edges_into p v) (gathers_there v s e s.head refl k);
  }
