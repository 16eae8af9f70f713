-- Steps along the edges of a plan, over tables of the vertices.
--     waits_more, longest_more      one edge more
--     waits_are                     a vertex waits where some source of it is not out
--     ready_is                      the first that is not out and waits for none
use Rattle.std.proofs.Common.{◌≡◌, ◌≢◌, ◌⊎◌, ⊎_elim, ℕ, zero, suc, ◌+◌, ◌-◌, ◌<◌, ◌≤◌, ◌==◌, ◌&&◌, ◌||◌, max, Bool, true, false, cond, not, List, [], ◌∷◌, ◌++◌, length, map, fold, take, slice_get, get_or, set, Option, Some, None, refl, sym, ap, ◌∙◌, subst, arith, filter, find, eqb-true, eq-eqb, ne_eqb, append_assoc}
use Rattle.std.specs.List.{AllByRecursion, list_any, list_all, position, position_from, position_or_len, range_with_len, zip}
use Rattle.std.specs.Prelude.{unwrap_or, All}
use Rattle.std.proofs.lemmas.Bool.{cases_lt, eqb-false}
use Rattle.std.proofs.lemmas.List.{take_more, map-append, get_or-set_other}
use Rattle.std.proofs.lemmas.List.Elements.{filter-append}
use Rattle.std.proofs.lemmas.List.Folds.{list_any-append}
use Rattle.std.proofs.lemmas.List.Sums.{fold-append}
use Rattle.std.proofs.lemmas.Grind.{get_or-set_at}
use Rattle.std.proofs.lemmas.Iterator.Adapters.{position_from-zero}
use Rattle.std.proofs.lemmas.Option.{unwrap_or-slice_get}
use Rattle.tez_lists.proofs.Cases.{cases, both}
use Rattle.tez_ids.specs.declared.VertexId.{VertexId}
use Rattle.tez_plan.specs.declared.parts.EdgeSpec.{EdgeSpec}
use Rattle.tez_plan.specs.Dag.{Dag, from, to, ends_of, vertex, edges_into}
use Rattle.tez_plan.specs.Graph.{AllWithin, AreInside, waits_for, longest_into}
use Rattle.tez_plan.specs.Order.{among, vertex_numbers, sources_of, is_ready, and_then, after, topo, by_sources, one_longer}

abbrev Ends : Type 0
Ends = VertexId × VertexId

-- ---- one edge more

-- a table of tests, with the one at u changed
set_test : {X : Type 0} (xs : List X) (u v : ℕ) (x d : X) → u < length xs → get_or (set xs u x) v d ≡ cond (u == v) x (get_or xs v d)
set_test xs u v x d below = cases (u == v)
    (λ e. get_or-set_at xs u v x d (sym (eqb-true u v e)) below ∙ ap (λ b. cond b x (get_or xs v d)) (sym e))
    (λ e. let other : u ≡ v → ⊥ = eqb-false u v e in get_or-set_other xs u v x d (λ same. other (sym same)) ∙ ap (λ b. cond b x (get_or xs v d)) (sym e))

waits_take : (ends : List Ends) (out : List Bool) (i v : ℕ) (d : Ends) → i < length ends
    → waits_for (take (i + 1) ends) out v ≡ (waits_for (take i ends) out v || ((get_or ends i d).1.0 == v && not (get_or out (get_or ends i d).0.0 false)))
unfolding waits_for
waits_take ends out i v d below =
    let test : Ends → Bool = λ t. t.1.0 == v && not (unwrap_or (slice_get out t.0.0) false) in
    let t = get_or ends i d in
    ap (list_any test) (take_more ends i d below)
    ∙ list_any-append test (take i ends) (t ∷ [])
    ∙ ap (λ b. list_any test (take i ends) || b) (last (test t))
    ∙ ap (λ b. list_any test (take i ends) || (t.1.0 == v && not b)) (unwrap_or-slice_get out t.0.0 false)
  where
    last : (b : Bool) → (b || false) ≡ b
    last true = refl
    last false = refl

pub waits_more : (ends : List Ends) (out waits : List Bool) (i : ℕ) (d : Ends) → i < length ends → (get_or ends i d).1.0 < length waits
    → ((v : ℕ) → v < length waits → get_or waits v false ≡ waits_for (take i ends) out v)
    → (v : ℕ) → v < length waits → get_or (set waits (get_or ends i d).1.0 (get_or waits (get_or ends i d).1.0 false || not (get_or out (get_or ends i d).0.0 false))) v false ≡ waits_for (take (i + 1) ends) out v
waits_more ends out waits i d below inside h v in_v =
    let t = get_or ends i d in
    let blocked = not (get_or out t.0.0 false) in
    set_test waits t.1.0 v (get_or waits t.1.0 false || blocked) false inside
    ∙ at (t.1.0 == v) (λ e. ap (λ u. get_or waits u false) (eqb-true t.1.0 v e)) (h v in_v) blocked
    ∙ sym (waits_take ends out i v d below)
  where
    at : {a b w : Bool} (here : Bool) → (here ≡ true → a ≡ b) → b ≡ w → (c : Bool) → cond here (a || c) b ≡ (w || (here && c))
    at true same e c = ap (λ x. x || c) (same refl ∙ e)
    at {a} {b} {w} false same e c = e ∙ nothing w
      where
        nothing : (w : Bool) → w ≡ (w || false)
        nothing true = refl
        nothing false = refl

longest_take : (ends : List Ends) (known : List ℕ) (i v : ℕ) (d : Ends) → i < length ends
    → longest_into (take (i + 1) ends) known v ≡ cond ((get_or ends i d).1.0 == v) (max (longest_into (take i ends) known v) (1 + get_or known (get_or ends i d).0.0 0)) (longest_into (take i ends) known v)
unfolding longest_into
longest_take ends known i v d below =
    let test : Ends → Bool = λ t. t.1.0 == v in
    let more : Ends → ℕ = λ t. 1 + unwrap_or (slice_get known t.0.0) 0 in
    let t = get_or ends i d in
    let before = filter test (take i ends) in
    ap (λ ts. fold max 0 (map more (filter test ts))) (take_more ends i d below)
    ∙ ap (λ ts. fold max 0 (map more ts)) (filter-append test (take i ends) (t ∷ []))
    ∙ cases (test t)
    (λ e.
    ap (λ b. fold max 0 (map more (before ++ cond b (t ∷ []) []))) e
    ∙ ap (fold max 0) (map-append more before (t ∷ []))
    ∙ fold-append max 0 (map more before) (more t ∷ [])
    ∙ ap (λ n. max (fold max 0 (map more before)) (1 + n)) (unwrap_or-slice_get known t.0.0 0)
    ∙ ap (λ b. cond b (max (fold max 0 (map more before)) (1 + get_or known t.0.0 0)) (fold max 0 (map more before))) (sym e))
    (λ e.
    ap (λ b. fold max 0 (map more (before ++ cond b (t ∷ []) []))) e
    ∙ ap (λ ts. fold max 0 (map more ts)) (append-none before)
    ∙ ap (λ b. cond b (max (fold max 0 (map more before)) (1 + get_or known t.0.0 0)) (fold max 0 (map more before))) (sym e))
  where
    append-none : (ts : List Ends) → ts ++ [] ≡ ts
    append-none [] = refl
    append-none (t ∷ ts) = ap (λ us. t ∷ us) (append-none ts)

pub longest_more : (ends : List Ends) (known longer : List ℕ) (i n : ℕ) (d : Ends) → i < length ends → (get_or ends i d).1.0 < length longer
    → n ≡ max (get_or longer (get_or ends i d).1.0 0) (1 + get_or known (get_or ends i d).0.0 0)
    → ((v : ℕ) → v < length longer → get_or longer v 0 ≡ longest_into (take i ends) known v)
    → (v : ℕ) → v < length longer → get_or (set longer (get_or ends i d).1.0 n) v 0 ≡ longest_into (take (i + 1) ends) known v
longest_more ends known longer i n d below inside is h v in_v =
    let t = get_or ends i d in
    let one = 1 + get_or known t.0.0 0 in
    set_test longer t.1.0 v n 0 inside
    ∙ at (t.1.0 == v) (λ e. is ∙ ap (λ u. max (get_or longer u 0) one) (eqb-true t.1.0 v e) ∙ ap (λ m. max m one) (h v in_v)) (h v in_v)
    ∙ sym (longest_take ends known i v d below)
  where
    at : {a b x y : ℕ} (here : Bool) → (here ≡ true → a ≡ x) → b ≡ y → cond here a b ≡ cond here x y
    at true e f = e refl
    at false e f = f

-- ---- over the edges of a plan

waits_edges : (p : Dag) (out : List Bool) (o : List ℕ) (v : ℕ) → ((u : ℕ) → u < length p.vertices → get_or out u false ≡ among o u) → (es : List EdgeSpec) → AllByRecursion (AreInside p) es
    → list_any (λ t. t.1.0 == v && not (unwrap_or (slice_get out t.0.0) false)) (map (ends_of p) es) ≡ not (list_all (among o) (map (from p) (filter (λ e. to p e == v) es)))
waits_edges p out o v marks [] all = refl
waits_edges p out o v marks (e ∷ es) all =
    let rest = waits_edges p out o v marks es all.1 in
    let mark : unwrap_or (slice_get out (from p e)) false ≡ among o (from p e) = unwrap_or-slice_get out (from p e) false ∙ marks (from p e) all.0.0 in
    ap (λ b. (to p e == v && not b) || list_any (λ t. t.1.0 == v && not (unwrap_or (slice_get out t.0.0) false)) (map (ends_of p) es)) mark
    ∙ ap (λ b. (to p e == v && not (among o (from p e))) || b) rest
    ∙ cases (to p e == v) (λ t. rw t (one (among o (from p e)) _)) (λ t. rw t refl)
  where
    one : (a b : Bool) → (not a || not b) ≡ not (a && b)
    one true b = refl
    one false b = refl

pub waits_are : (p : Dag) (ends : List Ends) (out : List Bool) (o : List ℕ) (v : ℕ) → ends ≡ map (ends_of p) p.edges → ((u : ℕ) → u < length p.vertices → get_or out u false ≡ among o u) → AllByRecursion (AreInside p) p.edges
    → waits_for ends out v ≡ not (list_all (among o) (sources_of p v))
unfolding waits_for
waits_are p ends out o v h marks inside =
    ap (list_any (λ t. t.1.0 == v && not (unwrap_or (slice_get out t.0.0) false))) h ∙ waits_edges p out o v marks p.edges inside

longest_edges : (p : Dag) (known : List ℕ) (f : ℕ → ℕ) (v : ℕ) → ((u : ℕ) → u < length p.vertices → get_or known u 0 ≡ f u) → (es : List EdgeSpec) → AllByRecursion (AreInside p) es
    → map (λ t. 1 + unwrap_or (slice_get known t.0.0) 0) (filter (λ t. t.1.0 == v) (map (ends_of p) es)) ≡ map (λ u. 1 + f u) (map (from p) (filter (λ e. to p e == v) es))
longest_edges p known f v marks [] all = refl
longest_edges p known f v marks (e ∷ es) all =
    let rest = longest_edges p known f v marks es all.1 in
    let mark : unwrap_or (slice_get known (from p e)) 0 ≡ f (from p e) = unwrap_or-slice_get known (from p e) 0 ∙ marks (from p e) all.0.0 in
    cases (to p e == v)
    (λ t. rw t (ap (λ n. (1 + n) ∷ map (λ t. 1 + unwrap_or (slice_get known t.0.0) 0) (filter (λ t. t.1.0 == v) (map (ends_of p) es))) mark ∙ ap (λ ns. (1 + f (from p e)) ∷ ns) rest))
    (λ t. rw t rest)

pub longest_are : (p : Dag) (ends : List Ends) (known : List ℕ) (f : ℕ → ℕ) (v : ℕ) → ends ≡ map (ends_of p) p.edges → ((u : ℕ) → u < length p.vertices → get_or known u 0 ≡ f u) → AllByRecursion (AreInside p) p.edges
    → longest_into ends known v ≡ fold max 0 (map (λ u. 1 + f u) (sources_of p v))
unfolding longest_into
longest_are p ends known f v h marks inside =
    ap (λ ts. fold max 0 (map (λ t. 1 + unwrap_or (slice_get known t.0.0) 0) (filter (λ t. t.1.0 == v) ts))) h ∙ ap (fold max 0) (longest_edges p known f v marks p.edges inside)

-- ---- tables

ready_from : (ready : ℕ → Bool) (a : ℕ) (out waits : List Bool) → length waits ≡ length out → ((i : ℕ) → i < length out → (not (get_or out i false) && not (get_or waits i false)) ≡ ready (a + i))
    → position_from (λ q. not q.0 && not q.1) a (zip out waits) ≡ find ready (range_with_len a (length out))
ready_from ready a [] waits same h = refl
ready_from ready a (b ∷ out) [] same h = cc
ready_from ready a (b ∷ out) (w ∷ waits) same h =
    let here : (not b && not w) ≡ ready a = h 0 (omega arith) ∙ ap ready (omega arith) in
    let rest = ready_from ready (a + 1) out waits (omega arith) (λ i below. h (suc i) (omega arith) ∙ ap ready (omega arith)) in
    ap (λ t. cond t (Some a) (position_from (λ q. not q.0 && not q.1) (a + 1) (zip out waits))) here
    ∙ ap (λ o. cond (ready a) (Some a) o) rest

pub ready_is : (p : Dag) (ends : List Ends) (out waits : List Bool) (o : List ℕ) → length out ≡ length p.vertices → length waits ≡ length out
    → ends ≡ map (ends_of p) p.edges → AllByRecursion (AreInside p) p.edges
    → ((u : ℕ) → u < length p.vertices → get_or out u false ≡ among o u) → ((v : ℕ) → v < length waits → get_or waits v false ≡ waits_for ends out v)
    → position (λ q. not q.0 && not q.1) (zip out waits) ≡ find (is_ready p o) (range_with_len 0 (length p.vertices))
ready_is p ends out waits o n same h inside marks waiting =
    position_from-zero (λ q. not q.0 && not q.1) (zip out waits)
    ∙ ready_from (is_ready p o) 0 out waits same each
    ∙ ap (λ k. find (is_ready p o) (range_with_len 0 k)) n
  where
    twice : (b : Bool) → not (not b) ≡ b
    twice true = refl
    twice false = refl

    each : (i : ℕ) → i < length out → (not (get_or out i false) && not (get_or waits i false)) ≡ is_ready p o (0 + i)
    each i below =
        ap (λ b. not b && not (get_or waits i false)) (marks i (omega arith))
        ∙ ap (λ b. not (among o i) && not b) (waiting i (omega arith) ∙ waits_are p ends out o i h marks inside)
        ∙ ap (λ b. not (among o i) && b) (twice (list_all (among o) (sources_of p i)))
        ∙ ap (is_ready p o) (omega arith)

-- a table is the list of its values
table_from : (f : ℕ → ℕ) (a : ℕ) (xs : List ℕ) → ((i : ℕ) → i < length xs → get_or xs i 0 ≡ f (a + i)) → xs ≡ map f (range_with_len a (length xs))
table_from f a [] h = refl
table_from f a (x ∷ xs) h =
    let here : x ≡ f a = h 0 (omega arith) ∙ ap f (omega arith) in
    let rest = table_from f (a + 1) xs (λ i below. h (suc i) (omega arith) ∙ ap f (omega arith)) in
    ap (λ y. y ∷ xs) here ∙ ap (λ ys. f a ∷ ys) rest

pub table_is : (f : ℕ → ℕ) (n : ℕ) (xs : List ℕ) → length xs ≡ n → ((i : ℕ) → i < n → get_or xs i 0 ≡ f i) → xs ≡ map f (range_with_len 0 n)
table_is f n xs same h = table_from f 0 xs (λ i below. h i (omega arith) ∙ ap f (omega arith)) ∙ ap (λ k. map f (range_with_len 0 k)) same

pub within : (p : Dag) (es : List EdgeSpec) → AllByRecursion (AreInside p) es → AllWithin (length p.vertices) (map (ends_of p) es)
within p [] all k d below = absurd (omega arith)
within p (e ∷ es) all zero d below = all.0
within p (e ∷ es) all (suc k) d below = within p es all.1 k d (omega arith)

-- ---- rounds

after_same : (n : ℕ) (p : Dag) (a b : List ℕ) → ((v : ℕ) → among a v ≡ among b v) → after n p a ≡ after n p b
after_same zero p a b h = refl
after_same (suc n) p a b h =
    ap (λ f. and_then (find (λ v. not (f v) && list_all f (sources_of p v)) (vertex_numbers p)) (λ v. after n p (v ∷ a))) (λ i v. h v i)
    ∙ ap (and_then (find (is_ready p b) (vertex_numbers p))) (λ i v. after_same n p (v ∷ a) (v ∷ b) (λ w. ap (λ x. (v == w) || x) (h w)) i)

among_last : (o : List ℕ) (v w : ℕ) → among (v ∷ o) w ≡ among (o ++ v ∷ []) w
among_last [] v w = refl
among_last (u ∷ o) v w = swapped (v == w) (u == w) (among o w) ∙ ap (λ b. (u == w) || b) (among_last o v w)
  where
    swapped : (a b c : Bool) → (a || (b || c)) ≡ (b || (a || c))
    swapped true true c = refl
    swapped true false c = refl
    swapped false b c = refl

pub one_more : (p : Dag) (n k v : ℕ) (o : List ℕ) → k < n → find (is_ready p o) (vertex_numbers p) ≡ Some v → topo p ≡ o ++ after (n - k) p o → topo p ≡ (o ++ v ∷ []) ++ after (n - (k + 1)) p (o ++ v ∷ [])
one_more p n k v o below found h =
    let left : n - k ≡ suc (n - (k + 1)) = omega arith in
    h
    ∙ ap (λ m. o ++ after m p o) left
    ∙ ap (λ f. o ++ and_then f (λ w. after (n - (k + 1)) p (w ∷ o))) found
    ∙ ap (λ vs. o ++ v ∷ vs) (after_same (n - (k + 1)) p (v ∷ o) (o ++ v ∷ []) (among_last o v))
    ∙ sym (append_assoc o (v ∷ []) (after (n - (k + 1)) p (o ++ v ∷ [])))

pub no_more : (p : Dag) (n k : ℕ) (o : List ℕ) → k < n → find (is_ready p o) (vertex_numbers p) ≡ None → topo p ≡ o ++ after (n - k) p o → topo p ≡ o ++ after (n - (k + 1)) p o
no_more p n k o below none h =
    let left : n - k ≡ suc (n - (k + 1)) = omega arith in
    h
    ∙ ap (λ m. o ++ after m p o) left
    ∙ ap (λ f. o ++ and_then f (λ w. after (n - (k + 1)) p (w ∷ o))) none
    ∙ ap (λ vs. o ++ vs) (sym (nothing (n - (k + 1))))
  where
    nothing : (m : ℕ) → after m p o ≡ []
    nothing zero = refl
    nothing (suc m) = ap (λ f. and_then f (λ w. after m p (w ∷ o))) none

pub marks_more : (out : List Bool) (o : List ℕ) (n v : ℕ) → length out ≡ n → v < n → ((u : ℕ) → u < n → get_or out u false ≡ among o u) → (u : ℕ) → u < n → get_or (set out v true) u false ≡ among (o ++ v ∷ []) u
marks_more out o n v same inside h u below =
    set_test out v u true false (omega arith)
    ∙ ap (λ b. cond (v == u) true b) (h u below)
    ∙ either (v == u) (among o u)
    ∙ among_last o v u
  where
    either : (a b : Bool) → cond a true b ≡ (a || b)
    either true b = refl
    either false b = refl

greatest-le : (f : ℕ → ℕ) (k : ℕ) (a : ℕ) (us : List ℕ) → ((u : ℕ) → f u ≤ k) → a ≤ k + 1 → fold max a (map (λ u. 1 + f u) us) ≤ k + 1
greatest-le f k a [] h below = below
greatest-le f k a (u ∷ us) h below = let here : f u ≤ k = h u in greatest-le f k (max a (1 + f u)) us h (omega arith)

pub by_sources-le : (p : Dag) (k v : ℕ) → by_sources 0 (one_longer p) k v ≤ k
by_sources-le p zero v = omega arith
by_sources-le p (suc k) v = let most = greatest-le (by_sources 0 (one_longer p) k) k 0 (sources_of p v) (by_sources-le p k) (omega arith) in omega arith
