-- The notices of attempts of one vertex: the edges from the lost task's vertex alone have any.
--     picked f ys e       what f gives of the inputs over an edge
--     IsQuiet f .. y      f gives nothing, unless the edge is between these two vertices
use Rattle.std.proofs.Common.{◌≡◌, ◌≢◌, ℕ, zero, suc, ◌+◌, ◌<◌, ◌≤◌, ◌==◌, ◌&&◌, Bool, true, false, not, cond, List, [], ◌∷◌, ◌++◌, length, refl, sym, ap, ◌∙◌, arith, flat_map, filter, ne_eqb, eqb-true}
use Rattle.std.specs.Prelude.{if◌then◌else◌, nat_lt, slice_get, unwrap_or, Some, None}
use Rattle.std.specs.Option.{option_map_or}
use Rattle.std.specs.List.{range_with_len, AllByRecursion}
use Rattle.std.proofs.lemmas.Bool.{eqb-false}
use Rattle.tez_ids.specs.declared.TaskId.{TaskId}
use Rattle.tez_ids.specs.declared.EdgeId.{EdgeId}
use Rattle.tez_ids.specs.declared.AttemptId.{AttemptId}
use Rattle.tez_ids.specs.Same.{task}
use Rattle.tez_plan.specs.Dag.{edge}
use Rattle.tez_lists.proofs.Cases.{cases, both}
use Rattle.tez_lists.proofs.Flat.{append-nil}
use Rattle.tez_router.specs.State.{LinkState, EdgeInputs, AdmittedState, table_for}
use Rattle.tez_router.specs.Table.{inputs_in, source_task, is_task, input_notice, notices_over, edge_notices, attempt_notices, is_among}
use Rattle.tez_router.specs.Edges.{AreNumberedFrom, AreByEdge, AreInto, leads_to}
use Rattle.tez_router.specs.Between.{edge_between, edges_between, over, notices_by}
use Rattle.tez_router.proofs.Edges.{weaker}

-- ---- an edge from another vertex

other_source : (l : LinkState) (t : TaskId) (c i : ℕ) → (l.source == t.vertex.0) ≡ false → is_task t (source_task l c i) ≡ false
other_source l t c i h = by (nat_lt i (inputs_in l.routing c)) where
  by : (b : Bool) → is_task t (if b then Some (task l.source ((table_for l.routing).leads c i).0) else None) ≡ false
  by true = ap (λ b. b && (((table_for l.routing).leads c i).0 == t.index)) h
  by false = refl

pub none_flat : {X Y : Type 0} (f : X → List Y) (xs : List X) → ((x : X) → f x ≡ []) → flat_map f xs ≡ []
none_flat f [] h = refl
none_flat f (x ∷ xs) h = ap (λ ys. ys ++ flat_map f xs) (h x) ∙ none_flat f xs h

none_over : (l : LinkState) (t : TaskId) (lost a : AttemptId) (y : EdgeInputs) → (l.source == t.vertex.0) ≡ false → notices_over (Some l) t lost a y ≡ []
none_over l t lost a y h =
    none_flat (input_notice l t lost a y) (range_with_len 0 (length y.fetched))
    (λ i. ap (λ b. if b && not (unwrap_or (slice_get y.fetched i) false) then record { attempt = a; edge = edge y.edge; input = i; lost = lost } ∷ [] else []) (other_source l t a.task.index i h))

abbrev IsQuiet : {Y : Type 0} → (EdgeInputs → List Y) → List LinkState → ℕ → ℕ → EdgeInputs → Type 0
IsQuiet f whole s v y = (l : LinkState) → slice_get whole y.edge ≡ Some l → (l.source == s && (l.target == v)) ≡ false → f y ≡ []

quiet_edge : (links : List LinkState) (v : ℕ) (t : TaskId) (lost a : AttemptId) (y : EdgeInputs) → leads_to links v y ≡ true → IsQuiet (edge_notices links t lost a) links t.vertex.0 v y
quiet_edge links v t lost a y to l is none =
    let target : (l.target == v) ≡ true = sym (ap (λ o. option_map_or (λ q. q.target == v) o false) is) ∙ to in
    let source : (l.source == t.vertex.0) ≡ false = other (l.source == t.vertex.0) (l.target == v) target none in
    ap (λ o. notices_over o t lost a y) is ∙ none_over l t lost a y source
  where
    other : (b c : Bool) → c ≡ true → (b && c) ≡ false → b ≡ false
    other true c is none = both is none
    other false c is none = refl

-- ---- the edges between two vertices, in place of all

abbrev picked : {Y : Type 0} → (EdgeInputs → List Y) → List EdgeInputs → EdgeId → List Y
picked f ys e = flat_map f (over e.0 ys)

over_later : (e : ℕ) (ys : List EdgeInputs) → AllByRecursion (λ y. e < y.edge) ys → over e ys ≡ []
over_later e [] all = refl
over_later e (y ∷ ys) all =
    let low = all.0 in
    let apart : (y.edge == e) ≡ false = ne_eqb y.edge e (λ q. absurd (omega arith)) in
    ap (λ b. cond b (y ∷ over e ys) (over e ys)) apart ∙ over_later e ys all.1

skip_first : {Y : Type 0} (f : EdgeInputs → List Y) (s v n : ℕ) (links : List LinkState) (y : EdgeInputs) (ys : List EdgeInputs) → AreNumberedFrom n links → y.edge < n
    → flat_map (picked f (y ∷ ys)) (flat_map (edge_between s v) links) ≡ flat_map (picked f ys) (flat_map (edge_between s v) links)
skip_first f s v n [] y ys numbered low = refl
skip_first f s v n (l ∷ links) y ys numbered low =
    let is = numbered.0 in
    let apart : (y.edge == l.edge) ≡ false = ne_eqb y.edge l.edge (λ q. absurd (omega arith)) in
    by (l.source == s && (l.target == v)) apart (skip_first f s v (n + 1) links y ys numbered.1 (omega arith))
  where
    others : List EdgeId
    others = flat_map (edge_between s v) links

    by : (b : Bool) → (y.edge == l.edge) ≡ false → flat_map (picked f (y ∷ ys)) others ≡ flat_map (picked f ys) others
        → flat_map (picked f (y ∷ ys)) ((if b then edge l.edge ∷ [] else []) ++ others) ≡ flat_map (picked f ys) ((if b then edge l.edge ∷ [] else []) ++ others)
    by true apart rest = ap (λ b. flat_map f (cond b (y ∷ over l.edge ys) (over l.edge ys)) ++ flat_map (picked f (y ∷ ys)) others) apart ∙ ap (λ zs. flat_map f (over l.edge ys) ++ zs) rest
    by false apart rest = rest

-- the edge is the first one's, and that alone is over it
with_first : {Y : Type 0} (f : EdgeInputs → List Y) (b : Bool) (e : ℕ) (y : EdgeInputs) (ys : List EdgeInputs) (others : List EdgeId) → over e (y ∷ ys) ≡ y ∷ [] → (b ≡ false → f y ≡ []) → flat_map f ys ≡ flat_map (picked f (y ∷ ys)) others
    → f y ++ flat_map f ys ≡ flat_map (picked f (y ∷ ys)) ((if b then edge e ∷ [] else []) ++ others)
with_first f true e y ys others alone quiet rest =
    ap (λ zs. zs ++ flat_map f ys) (sym (append-nil (f y)) ∙ ap (flat_map f) (sym alone)) ∙ ap (λ zs. flat_map f (over e (y ∷ ys)) ++ zs) rest
with_first f false e y ys others alone quiet rest = ap (λ zs. zs ++ flat_map f ys) (quiet refl) ∙ rest

-- nothing is over the edge
with_none : {Y : Type 0} (f : EdgeInputs → List Y) (b : Bool) (e : ℕ) (ys : List EdgeInputs) (others : List EdgeId) → over e ys ≡ [] → flat_map f ys ≡ flat_map (picked f ys) others
    → flat_map f ys ≡ flat_map (picked f ys) ((if b then edge e ∷ [] else []) ++ others)
with_none f true e ys others none rest = rest ∙ ap (λ zs. flat_map f zs ++ flat_map (picked f ys) others) (sym none)
with_none f false e ys others none rest = rest

by_links : {Y : Type 0} (f : EdgeInputs → List Y) (s v : ℕ) (whole : List LinkState) (n : ℕ) (links : List LinkState) (ys : List EdgeInputs) → AreNumberedFrom n links → ((j : ℕ) → slice_get whole (n + j) ≡ slice_get links j)
    → AreByEdge ys → AllByRecursion (λ y. n ≤ y.edge) ys → AllByRecursion (λ y. y.edge < n + length links) ys → AllByRecursion (IsQuiet f whole s v) ys → flat_map f ys ≡ flat_map (picked f ys) (flat_map (edge_between s v) links)
by_links f s v whole n links [] numbered here order low high quiet = sym (none_flat (picked f []) (flat_map (edge_between s v) links) (λ e. refl))
by_links f s v whole n [] (y ∷ ys) numbered here order low high quiet = let least = low.0 in let most = high.0 in absurd (omega arith)
by_links f s v whole n (l ∷ links) (y ∷ ys) numbered here order low high quiet =
    let is = numbered.0 in
    let least = low.0 in
    let most = high.0 in
    let next : (j : ℕ) → slice_get whole (n + 1 + j) ≡ slice_get links j = λ j. let step : n + 1 + j ≡ n + suc j = omega arith in ap (λ k. slice_get whole k) step ∙ here (suc j) in
    let later : AllByRecursion (λ z. n + 1 ≤ z.edge) ys = weaker (λ z. y.edge < z.edge) (λ z. n + 1 ≤ z.edge) ys (λ z h. omega arith) order.0 in
    let below : AllByRecursion (λ z. z.edge < n + 1 + length links) ys = weaker (λ z. z.edge < n + length (l ∷ links)) (λ z. z.edge < n + 1 + length links) ys (λ z h. omega arith) high.1 in
    let behind : AllByRecursion (λ z. l.edge < z.edge) ys = weaker (λ z. n + 1 ≤ z.edge) (λ z. l.edge < z.edge) ys (λ z h. omega arith) later in
    cases (y.edge == l.edge)
    (λ e.
    let same : y.edge ≡ l.edge = eqb-true y.edge l.edge e in
    let at : y.edge ≡ n + 0 = omega arith in
    let found : slice_get whole y.edge ≡ Some l = ap (λ k. slice_get whole k) at ∙ here 0 in
    let alone : over l.edge (y ∷ ys) ≡ y ∷ [] = ap (λ b. cond b (y ∷ over l.edge ys) (over l.edge ys)) e ∙ ap (λ zs. y ∷ zs) (over_later l.edge ys behind) in
    with_first f (l.source == s && (l.target == v)) l.edge y ys (flat_map (edge_between s v) links) alone (λ none. quiet.0 l found none)
    (by_links f s v whole (n + 1) links ys numbered.1 next order.1 later below quiet.1 ∙ sym (skip_first f s v (n + 1) links y ys numbered.1 (omega arith))))
    (λ e.
    let apart : y.edge ≡ l.edge → ⊥ = eqb-false y.edge l.edge e in
    let more : n + 1 ≤ y.edge = past n y.edge l.edge is least apart in
    let over_it : l.edge < y.edge = omega arith in
    with_none f (l.source == s && (l.target == v)) l.edge (y ∷ ys) (flat_map (edge_between s v) links) (over_later l.edge (y ∷ ys) (over_it, behind))
    (by_links f s v whole (n + 1) links (y ∷ ys) numbered.1 next order (more, later) (omega arith, below) quiet))
  where
    past : (n a b : ℕ) → b ≡ n → n ≤ a → (a ≡ b → ⊥) → n + 1 ≤ a
    past n a b is least apart = let other : a ≢ b = apart in omega arith

leads_inside : (links : List LinkState) (v k : ℕ) → option_map_or (λ l. l.target == v) (slice_get links k) false ≡ true → k < length links
leads_inside [] v k h = cc
leads_inside (l ∷ links) v zero h = omega arith
leads_inside (l ∷ links) v (suc k) h = let rest = leads_inside links v k h in omega arith

of_attempt : (links : List LinkState) (t : TaskId) (lost : AttemptId) (v : ℕ) (x : AdmittedState) → AreNumberedFrom 0 links → x.attempt.task.vertex.0 ≡ v → AreInto links x → attempt_notices links t lost x ≡ notices_by links t lost (edges_between links t.vertex.0 v) x
of_attempt links t lost v x numbered of into =
    let w = x.attempt.task.vertex.0 in
    by_links (edge_notices links t lost x.attempt) t.vertex.0 w links 0 links x.edges numbered (λ j. let same : 0 + j ≡ j = omega arith in ap (λ k. slice_get links k) same) into.by_edge
    (weaker (λ y. leads_to links w y ≡ true) (λ y. 0 ≤ y.edge) x.edges (λ y h. omega arith) into.leads)
    (weaker (λ y. leads_to links w y ≡ true) (λ y. y.edge < 0 + length links) x.edges (λ y h. let inside = leads_inside links w y.edge h in omega arith) into.leads)
    (weaker (λ y. leads_to links w y ≡ true) (IsQuiet (edge_notices links t lost x.attempt) links t.vertex.0 w) x.edges (λ y h. quiet_edge links w t lost x.attempt y h) into.leads)
    ∙ ap (λ u. notices_by links t lost (edges_between links t.vertex.0 u) x) of

pub of_all : (links : List LinkState) (t : TaskId) (lost : AttemptId) (v : ℕ) (ended : List AttemptId) (xs : List AdmittedState) → AreNumberedFrom 0 links → AllByRecursion (λ x. x.attempt.task.vertex.0 ≡ v) xs → AllByRecursion (AreInto links) xs
    → flat_map (attempt_notices links t lost) (filter (λ x. not (is_among ended x.attempt)) xs) ≡ flat_map (notices_by links t lost (edges_between links t.vertex.0 v)) (filter (λ x. not (is_among ended x.attempt)) xs)
of_all links t lost v ended [] numbered of into = refl
of_all links t lost v ended (x ∷ xs) numbered of into =
    by (not (is_among ended x.attempt)) (of_attempt links t lost v x numbered of.0 into.0) (of_all links t lost v ended xs numbered of.1 into.1)
  where
    es : List EdgeId
    es = edges_between links t.vertex.0 v

    kept : List AdmittedState
    kept = filter (λ z. not (is_among ended z.attempt)) xs

    by : (b : Bool) → attempt_notices links t lost x ≡ notices_by links t lost es x → flat_map (attempt_notices links t lost) kept ≡ flat_map (notices_by links t lost es) kept
        → flat_map (attempt_notices links t lost) (cond b (x ∷ kept) kept) ≡ flat_map (notices_by links t lost es) (cond b (x ∷ kept) kept)
    by true here rest = ap (λ ys. ys ++ flat_map (attempt_notices links t lost) kept) here ∙ ap (λ ys. notices_by links t lost es x ++ ys) rest
    by false here rest = rest

pub no_edges : (links : List LinkState) (t : TaskId) (lost : AttemptId) (es : List EdgeId) (xs : List AdmittedState) → (length es == 0) ≡ true → flat_map (notices_by links t lost es) xs ≡ []
no_edges links t lost [] xs is = none_flat (notices_by links t lost []) xs (λ x. refl)
no_edges links t lost (e ∷ es) xs is = let none : length (e ∷ es) ≡ 0 = eqb-true (length (e ∷ es)) 0 is in absurd (omega arith)
