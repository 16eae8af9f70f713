-- A plan without a cycle has a ranking: the turn at which each vertex comes out.
--     turn n p out v       how many vertices come out after those that are out, up to and with v
--     ranked               in a valid plan each vertex comes out later than its sources
use Rattle.std.proofs.Common.{◌≡◌, ℕ, zero, suc, ◌+◌, ◌-◌, ◌<◌, ◌≤◌, ◌==◌, Bool, true, false, cond, not, ◌&&◌, ◌||◌, List, [], ◌∷◌, length, map, refl, sym, ap, ◌∙◌, subst, arith, filter, find, count_by, Option, Some, None, eqb-true, eq-eqb, lt-ltb, ltb, ltb-true, bytes_eq, IsTrue, slice_get, add-zero}
use Rattle.std.specs.List.{AllByRecursion, list_any, list_all, range_with_len, position_or_len}
use Rattle.std.proofs.lemmas.Bool.{and_parts, and_from, not-true, not-false, not_from_false, false_from_ne_true, or_right, or_left}
use Rattle.std.specs.Option.{option_map_or}
use Rattle.std.proofs.lemmas.List.Sums.{count_by-le-length}
use Rattle.tez_lists.proofs.Cases.{cases, both}
use Rattle.tez_lists.proofs.Sums.{sum_by-ext, sum_by-plus}
use Rattle.tez_lists.proofs.Ranges.{one_in_range, all_below, at_below}
use Rattle.tez_plan.specs.declared.parts.EdgeSpec.{EdgeSpec}
use Rattle.tez_plan.specs.Dag.{Dag, from, to, edges_into, IsEdge}
use Rattle.tez_plan.specs.Order.{among, vertex_numbers, sources_of, is_ready}
use Rattle.tez_plan.specs.Faults.{IsBehindCycle, IsValid, AllKnown, IsNowhere, is_known, unknown_name}
use Rattle.tez_plan.specs.Graph.{AreInside}
use Rattle.tez_plan.proofs.CheckLemmas.{valid_parts}
use Rattle.tez_plan.proofs.OrderLemmas.{all_map, all_filter, IsRanking}

-- ---- what find says

pub find_some : {X : Type 0} (test : X → Bool) (P : X → Type 0) (xs : List X) (w : X) → AllByRecursion P xs → find test xs ≡ Some w → (test w ≡ true) × P w
find_some test P [] w all e = cc
find_some test P (x ∷ xs) w all e = cases (test x)
    (λ t. let same : x ≡ w = cc in (ap test (sym same) ∙ t, subst P same all.0))
    (λ t. find_some test P xs w all.1 (ap (λ b. cond b (Some x) (find test xs)) (sym t) ∙ e))

pub find_none : {X : Type 0} (test : X → Bool) (xs : List X) → find test xs ≡ None → AllByRecursion (λ x. test x ≡ false) xs
find_none test [] e = tt
find_none test (x ∷ xs) e = cases (test x)
    (λ t. let wrong : Some x ≡ None = ap (λ b. cond b (Some x) (find test xs)) (sym t) ∙ e in cc)
    (λ t. (t, find_none test xs (ap (λ b. cond b (Some x) (find test xs)) (sym t) ∙ e)))

-- ---- vertices that are left

-- how many vertices are not out
abbrev pub left : Dag → List ℕ → ℕ
left p out = count_by (λ v. not (among out v)) (vertex_numbers p)

one_less : (w v : ℕ) (out : List ℕ) → among out w ≡ false → cond (not (among (w ∷ out) v)) 1 0 + cond (w == v) 1 0 ≡ cond (not (among out v)) 1 0
one_less w v out fresh = cases (w == v)
    (λ e. rw (e, ap (among out) (sym (eqb-true w v e)) ∙ fresh) refl)
    (λ e. rw e (add-zero _))

pub left-less : (p : Dag) (w : ℕ) (out : List ℕ) → w < length p.vertices → among out w ≡ false → left p (w ∷ out) + 1 ≡ left p out
left-less p w out inside fresh =
    let vs = vertex_numbers p in
    let a = one_in_range w (length p.vertices) inside in
    let b = sum_by-plus (λ v. cond (not (among (w ∷ out) v)) 1 0) (λ v. cond (w == v) 1 0) vs in
    let c = sum_by-ext (λ v. cond (not (among (w ∷ out) v)) 1 0 + cond (w == v) 1 0) (λ v. cond (not (among out v)) 1 0) vs (λ v. one_less w v out fresh) in
    ap (λ n. left p (w ∷ out) + n) (sym a) ∙ sym b ∙ c

pub left-some : (p : Dag) (v : ℕ) (out : List ℕ) → v < length p.vertices → among out v ≡ false → 0 < left p out
left-some p v out inside fresh = let e = left-less p v out inside fresh in omega arith

-- ---- a vertex that never comes out is behind a cycle

-- an edge to w from a vertex that is not out
record FedFrom (p : Dag) (out : List ℕ) (w : ℕ) (es : List EdgeSpec) : Type 0 where
  source : ℕ
  inside : source < length p.vertices
  fresh : among out source ≡ false
  edge : list_any (λ e. (from p e == source) && (to p e == w)) es ≡ true

more : (p : Dag) (out : List ℕ) (w : ℕ) (e : EdgeSpec) (es : List EdgeSpec) → FedFrom p out w es → FedFrom p out w (e ∷ es)
more p out w e es rest = record { source = rest.source; inside = rest.inside; fresh = rest.fresh; edge = or_right _ _ rest.edge }

unready : (p : Dag) (out : List ℕ) (w : ℕ) (es : List EdgeSpec) → AllByRecursion (AreInside p) es → list_all (among out) (map (from p) (filter (λ e. to p e == w) es)) ≡ false → FedFrom p out w es
unready p out w [] all e = cc
unready p out w (e ∷ es) all h =
    cases (to p e == w)
    (λ t. cases (among out (from p e))
    (λ o. more p out w e es (unready p out w es all.1 (rw (t, o) at h)))
    (λ o. record { source = from p e; inside = all.0.0; fresh = o; edge = or_left _ _ (and_from _ _ (eq-eqb (from p e) (from p e) refl) t) }))
    (λ t. more p out w e es (unready p out w es all.1 (rw t at h)))

pub behind : (p : Dag) (out : List ℕ) → AllByRecursion (AreInside p) p.edges → AllByRecursion (λ v. is_ready p out v ≡ false) (vertex_numbers p) → (v : ℕ) → v < length p.vertices → among out v ≡ false → IsBehindCycle p v
behind p out known stuck v inside fresh = record {
  belongs = λ u. ltb u (length p.vertices) && not (among out u);
  itself = and_from _ _ (lt-ltb v (length p.vertices) inside) (not_from_false _ fresh);
  fed = fed;
}
  where
    fed : (w : ℕ) → IsTrue (ltb w (length p.vertices) && not (among out w)) → (u : ℕ) × IsTrue (ltb u (length p.vertices) && not (among out u)) × IsEdge p u w
    fed w h =
        let parts = and_parts _ _ h in
        let below = ltb-true w (length p.vertices) parts.0 in
        let stays = at_below w (length p.vertices) (λ x. is_ready p out x ≡ false) stuck below in
        let closed : list_all (among out) (sources_of p w) ≡ false = ap (λ b. b && list_all (among out) (sources_of p w)) (sym parts.1) ∙ stays in
        let by = unready p out w p.edges known closed in
        (by.source, and_from _ _ (lt-ltb by.source (length p.vertices) by.inside) (not_from_false _ by.fresh), by.edge)

-- ---- turns

-- one more than the turn of what comes next
abbrev next_turn : Option ℕ → (ℕ → ℕ) → ℕ
next_turn None rest = 0
next_turn (Some w) rest = 1 + rest w

abbrev turn : ℕ → Dag → List ℕ → ℕ → ℕ
turn zero p out v = 0
turn (suc n) p out v = cond (among out v) 0 (next_turn (find (is_ready p out) (vertex_numbers p)) (λ w. turn n p (w ∷ out) v))

turn_out : (n : ℕ) (p : Dag) (out : List ℕ) (v : ℕ) → among out v ≡ true → turn n p out v ≡ 0
turn_out zero p out v e = refl
turn_out (suc n) p out v e = rw e refl

turn_next : (n : ℕ) (p : Dag) (out : List ℕ) (v w : ℕ) → among out v ≡ false → find (is_ready p out) (vertex_numbers p) ≡ Some w → turn (suc n) p out v ≡ 1 + turn n p (w ∷ out) v
turn_next n p out v w e f = rw (e, f) refl

turn-le-next : (n : ℕ) (p : Dag) (out : List ℕ) (v w : ℕ) → find (is_ready p out) (vertex_numbers p) ≡ Some w → turn (suc n) p out v ≤ 1 + turn n p (w ∷ out) v
turn-le-next n p out v w f = cases (among out v)
    (λ e. let zero_turn = turn_out (suc n) p out v e in omega arith)
    (λ e. let same = turn_next n p out v w e f in omega arith)

pub at_option : {X P : Type 0} (o : Option X) → ((x : X) → o ≡ Some x → P) → (o ≡ None → P) → P
at_option None f g = g refl
at_option (Some x) f g = f x refl

pub all_both : {X : Type 0} (P Q : X → Type 0) (xs : List X) → AllByRecursion P xs → AllByRecursion Q xs → AllByRecursion (λ x. P x × Q x) xs
all_both P Q [] a b = tt
all_both P Q (x ∷ xs) a b = ((a.0, b.0), all_both P Q xs a.1 b.1)

pub length-range : (a n : ℕ) → length (range_with_len a n) ≡ n
length-range a zero = refl
length-range a (suc n) = ap suc (length-range (a + 1) n)

module _ (p : Dag) (known : AllByRecursion (AreInside p) p.edges) (acyclic : (v : ℕ) → ¬ IsBehindCycle p v) where
  ready : (out : List ℕ) (w : ℕ) → find (is_ready p out) (vertex_numbers p) ≡ Some w → (is_ready p out w ≡ true) × (w < length p.vertices)
  ready out w f = find_some (is_ready p out) (λ v. v < length p.vertices) (vertex_numbers p) w (all_below (length p.vertices) (λ v. v < length p.vertices) (λ v h. h)) f

  -- while a vertex is not out, some vertex comes next
  goes_on : (out : List ℕ) (v : ℕ) → v < length p.vertices → among out v ≡ false → find (is_ready p out) (vertex_numbers p) ≡ None → ⊥
  goes_on out v inside fresh f = acyclic v (behind p out known (find_none (is_ready p out) (vertex_numbers p) f) v inside fresh)

  -- each vertex that is not out comes later than its sources
  later : (n : ℕ) (out : List ℕ) → left p out ≤ n → (v : ℕ) → v < length p.vertices → among out v ≡ false → AllByRecursion (λ e. turn n p out (from p e) < turn n p out v) (edges_into p v)
  later zero out few v inside fresh = let some = left-some p v out inside fresh in absurd (omega arith)
  later (suc n) out few v inside fresh = at_option (find (is_ready p out) (vertex_numbers p))
      (λ w found.
      let is = ready out w found in
      let parts = and_parts _ _ is.0 in
      let mine = turn_next n p out v w fresh found in
      cases (w == v)
      (λ e.
      let sources : list_all (among out) (sources_of p v) ≡ true = subst (λ x. list_all (among out) (sources_of p x) ≡ true) (eqb-true w v e) parts.1 in
      all_map (λ d. among out (from p d) ≡ true) (λ d. turn (suc n) p out (from p d) < turn (suc n) p out v)
      (λ d o. let zero_turn = turn_out (suc n) p out (from p d) o in omega arith)
      (edges_into p v) (all_from_map (edges_into p v) sources))
      (λ e.
      let few' : left p (w ∷ out) ≤ n = let less = left-less p w out is.1 (not-true _ parts.0) in omega arith in
      all_map (λ d. turn n p (w ∷ out) (from p d) < turn n p (w ∷ out) v) (λ d. turn (suc n) p out (from p d) < turn (suc n) p out v)
      (λ d lower. let at_most = turn-le-next n p out (from p d) w found in omega arith)
      (edges_into p v) (later n (w ∷ out) few' v inside (rw e fresh))))
      (λ none. absurd (goes_on out v inside fresh none))
    where
      all_from_map : (es : List EdgeSpec) → list_all (among out) (map (from p) es) ≡ true → AllByRecursion (λ d. among out (from p d) ≡ true) es
      all_from_map [] h = tt
      all_from_map (e ∷ es) h = let parts = and_parts _ _ h in (parts.0, all_from_map es parts.1)

  turn_pos : (n : ℕ) (out : List ℕ) → left p out ≤ n → (v : ℕ) → v < length p.vertices → among out v ≡ false → 0 < turn n p out v
  turn_pos zero out few v inside fresh = let some = left-some p v out inside fresh in absurd (omega arith)
  turn_pos (suc n) out few v inside fresh = at_option (find (is_ready p out) (vertex_numbers p))
      (λ w found. let mine = turn_next n p out v w fresh found in omega arith)
      (λ none. absurd (goes_on out v inside fresh none))

  turn-le : (n : ℕ) (out : List ℕ) (v : ℕ) → left p out ≤ n → v < length p.vertices → turn n p out v ≤ n
  turn-le zero out v few inside = omega arith
  turn-le (suc n) out v few inside = cases (among out v)
      (λ o. let zero_turn = turn_out (suc n) p out v o in omega arith)
      (λ fresh. at_option (find (is_ready p out) (vertex_numbers p))
      (λ w found.
      let is = ready out w found in
      let mine = turn_next n p out v w fresh found in
      let less = left-less p w out is.1 (not-true _ (and_parts _ _ is.0).0) in
      let rest = turn-le n (w ∷ out) v (omega arith) inside in
      omega arith)
      (λ none. absurd (goes_on out v inside fresh none)))

  -- the turn, counted from 0, and the number of vertices beyond them
  pub rank : ℕ → ℕ
  rank v = cond (ltb v (length p.vertices)) (turn (length p.vertices) p [] v - 1) (length p.vertices)

  few_left : left p [] ≤ length p.vertices
  few_left = omega (arith, count_by-le-length (λ v. not (among [] v)) (vertex_numbers p), length-range 0 (length p.vertices))

  pub rank_below : (v : ℕ) → v < length p.vertices → rank v < length p.vertices
  unfolding rank
  rank_below v inside =
      let some = turn_pos (length p.vertices) [] few_left v inside refl in
      let most = turn-le (length p.vertices) [] v few_left inside in
      rw (lt-ltb v (length p.vertices) inside) (omega arith)

  pub rank_falls : IsRanking p rank
  unfolding rank
  rank_falls v = cases (ltb v (length p.vertices))
      (λ b.
      let inside = ltb-true v (length p.vertices) b in
      let lower = later (length p.vertices) [] few_left v inside refl in
      all_map (λ e. (turn (length p.vertices) p [] (from p e) < turn (length p.vertices) p [] v) × AreInside p e) (λ e. rank (from p e) < rank v)
      (λ e both_facts.
      let some = turn_pos (length p.vertices) [] few_left (from p e) both_facts.1.0 refl in
      rw (lt-ltb (from p e) (length p.vertices) both_facts.1.0, b) (omega (arith, both_facts.0)))
      (edges_into p v)
      (all_both (λ e. turn (length p.vertices) p [] (from p e) < turn (length p.vertices) p [] v) (AreInside p) (edges_into p v) lower
      (all_filter (AreInside p) (AreInside p) (λ e. to p e == v) (λ e t h. h) p.edges known)))
      (λ b. all_filter (AreInside p) (λ e. rank (from p e) < rank v) (λ e. to p e == v)
      (λ e t h. both (lt-ltb v (length p.vertices) (subst (λ x. x < length p.vertices) (eqb-true (to p e) v t) h.1)) b) p.edges known)

-- ---- what validity gives

nowhere : {X : Type 0} (test : X → Bool) (xs : List X) → ((n : ℕ) → option_map_or test (slice_get xs n) false ≡ true → ⊥) → AllByRecursion (λ x. test x ≡ false) xs
nowhere test [] h = tt
nowhere test (x ∷ xs) h = (false_from_ne_true (test x) (h zero), nowhere test xs (λ n. h (suc n)))

position-below : {X : Type 0} (test : X → Bool) (xs : List X) → list_any test xs ≡ true → position_or_len test xs < length xs
position-below test [] h = cc
position-below test (x ∷ xs) h = cases (test x)
    (λ e. rw e (omega arith))
    (λ e. let rest = position-below test xs (ap (λ b. b || list_any test xs) (sym e) ∙ h) in rw e (omega arith))

pub edges_inside : (p : Dag) → AllKnown p → AllByRecursion (AreInside p) p.edges
edges_inside p all_known = all_map (λ e. not (is_known p e.source && is_known p e.target) ≡ false) (AreInside p)
    (λ e h. let parts = and_parts _ _ (not-false _ h) in
    (position-below (λ s. bytes_eq e.source s.name) p.vertices parts.0, position-below (λ s. bytes_eq e.target s.name) p.vertices parts.1))
    p.edges (nowhere (λ e. not (is_known p e.source && is_known p e.target)) p.edges all_known)

pub known_everywhere : (p : Dag) → IsNowhere (unknown_name p) → AllKnown p
known_everywhere p h e known = both known (h e)

pub inside_edges : (p : Dag) → IsValid p → AllByRecursion (AreInside p) p.edges
inside_edges p valid = edges_inside p (valid_parts p valid).known_names

-- in a valid plan each vertex ranks above its sources, below the number of vertices
pub record Ranked (p : Dag) : Type 0 where
  pub rank_of : ℕ → ℕ
  pub falls : IsRanking p rank_of
  pub below : (v : ℕ) → v < length p.vertices → rank_of v < length p.vertices

pub ranked : (p : Dag) → IsValid p → Ranked p
ranked p valid = record {
  rank_of = rank p (inside_edges p valid) (valid_parts p valid).no_cycle;
  falls = rank_falls p (inside_edges p valid) (valid_parts p valid).no_cycle;
  below = rank_below p (inside_edges p valid) (valid_parts p valid).no_cycle;
}
