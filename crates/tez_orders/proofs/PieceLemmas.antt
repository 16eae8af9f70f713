-- The pieces of a value, edge by edge.
--     find_cut          a piece of an edge's cut is a piece of the value
--     whole_at, part_at the piece of a whole cut, and those of one by key
--     bytes_at          the pieces on an edge have together the bytes of the value
use Rattle.std.proofs.Common.{◌≡◌, ℕ, zero, suc, ◌+◌, ◌<◌, ◌==◌, ◌&&◌, ◌||◌, Bool, true, false, not, cond, List, [], ◌∷◌, ◌++◌, length, map, filter, flat_map, get_or, sum_by, refl, sym, ap, ◌∙◌, subst, arith, Option, Some, None, inl, inr}
use Rattle.std.specs.Prelude.{nat_lt}
use Rattle.std.specs.List.{list_any, list_all}
use Rattle.std.proofs.lemmas.Bool.{and_parts, or_parts, or_from, not-true}
use Rattle.std.proofs.lemmas.Bool.Decides.{nat_tests}
use Rattle.std.proofs.lemmas.List.Sums.{sum_by-cons}
use Rattle.std.proofs.lemmas.List.Folds.{list_any-append}
use Rattle.std.proofs.lemmas.List.Elements.{filter-append}
use Rattle.std.proofs.lemmas.List.Concat.{length-flat_map}
use Rattle.std.proofs.lemmas.List.FromFn.{get_or-map-range_with_len, length-map-range_with_len}
use Rattle.tez_ids.specs.declared.EdgeId.{EdgeId}
use Rattle.tez_lists.specs.Numbers.{In}
use Rattle.tez_lists.specs.Tables.{each_from}
use Rattle.tez_lists.proofs.Cases.{cases, both}
use Rattle.tez_lists.proofs.Flat.{append-nil}
use Rattle.tez_lists.proofs.Sums.{sum_by-flat_map, sum_by-ext}
use Rattle.tez_record.specs.Bag.{text, sort}
use Rattle.tez_record.proofs.BagLemmas.{sum_by-same}
use Rattle.tez_partition.specs.Partition.{in_partition, split}
use Rattle.tez_partition.proofs.PartitionLemmas.{split_whole}
use Rattle.tez_shelves.specs.Piece.{size, is_on, piece_at, bytes_on}
use Rattle.tez_orders.specs.declared.cut.Cut.{Cut}
use Rattle.tez_orders.specs.declared.cut.Cut.TheVariants.{Whole, ByKey}
use Rattle.tez_orders.specs.Orders.{Outs}
use Rattle.tez_orders.specs.Fit.{edges_differ, has_parts}
use Rattle.tez_orders.specs.Outcomes.{cut_of, pieces_of}

abbrev Pieces : Type 0
Pieces = List (EdgeId × ℕ × List (List ℕ))

itself : (n : ℕ) → (n == n) ≡ true
itself n = grind (arith, nat_tests)

another : (a b : ℕ) → (a == b) ≡ false → (b == a) ≡ false
another a b h = grind (arith, nat_tests)

later_number : (n k : ℕ) → (n == n + suc k) ≡ false
later_number n k = grind (arith, nat_tests)

any_there : {X : Type 0} (p : X → Bool) (x : X) (xs : List X) → In x xs → p x ≡ true → list_any p xs ≡ true
any_there p x [] h passes = absurd h
any_there p x (y ∷ xs) (inl here) passes = rw (ap p (sym here) ∙ passes) refl
any_there p x (y ∷ xs) (inr later) passes = cases (p y) (λ e. rw e refl) (λ e. rw e (any_there p x xs later passes))

-- pieces of other edges are passed over
skip : (e : EdgeId) (o : ℕ) (ps qs : Pieces) → list_any (is_on e) ps ≡ false → piece_at e o (ps ++ qs) ≡ piece_at e o qs
skip e o [] qs h = refl
skip e o (p ∷ ps) qs h =
    let parts = or_parts (is_on e p) (list_any (is_on e) ps) h in
    ap (λ t. cond (t && (p.1 == o)) (Some p.2) (piece_at e o (ps ++ qs))) parts.0 ∙ skip e o ps qs parts.1

first : (e : EdgeId) (o : ℕ) (ps qs : Pieces) (r : List (List ℕ)) → piece_at e o ps ≡ Some r → piece_at e o (ps ++ qs) ≡ Some r
first e o [] qs r h = cc
first e o (p ∷ ps) qs r h = cases (is_on e p && (p.1 == o))
    (λ t. ap (λ b. cond b (Some p.2) (piece_at e o (ps ++ qs))) t ∙ sym (ap (λ b. cond b (Some p.2) (piece_at e o ps)) t) ∙ h)
    (λ t. ap (λ b. cond b (Some p.2) (piece_at e o (ps ++ qs))) t ∙ first e o ps qs r (sym (ap (λ b. cond b (Some p.2) (piece_at e o ps)) t) ∙ h))

numbered_off : (e f : EdgeId) (n : ℕ) (xs : List (List (List ℕ))) → (f.0 == e.0) ≡ false → list_any (is_on e) (each_from n (λ p rs. (f, p, rs)) xs) ≡ false
numbered_off e f n [] h = refl
numbered_off e f n (x ∷ xs) h = or_from (f.0 == e.0) (list_any (is_on e) (each_from (suc n) (λ p rs. (f, p, rs)) xs)) h (numbered_off e f (suc n) xs h)

cut_off : (value : List (List ℕ)) (e f : EdgeId) (cut : Cut) → (f.0 == e.0) ≡ false → list_any (is_on e) (cut_of value f cut) ≡ false
cut_off value e f Whole h = or_from (f.0 == e.0) false h refl
cut_off value e f (ByKey cols parts) h = numbered_off e f 0 (split cols parts value) h

numbered_at : (e : EdgeId) (n k : ℕ) (xs : List (List (List ℕ))) → k < length xs → piece_at e (n + k) (each_from n (λ p rs. (e, p, rs)) xs) ≡ Some (get_or xs k [])
numbered_at e n k [] low = absurd (omega arith)
numbered_at e n zero (x ∷ xs) low =
    let same : (n == n + 0) ≡ true = ap (λ m. n == m) (let none : n + 0 ≡ n = omega arith in none) ∙ itself n in
    let rest = piece_at e (n + 0) (each_from (suc n) (λ p rs. (e, p, rs)) xs) in
    ap (λ t. cond (t && (n == n + 0)) (Some x) rest) (itself e.0) ∙ ap (λ t. cond t (Some x) rest) same
numbered_at e n (suc k) (x ∷ xs) low =
    let rest = piece_at e (n + suc k) (each_from (suc n) (λ p rs. (e, p, rs)) xs) in
    let next : n + suc k ≡ suc n + k = omega arith in
    ap (λ t. cond (t && (n == n + suc k)) (Some x) rest) (itself e.0) ∙ ap (λ t. cond t (Some x) rest) (later_number n k)
    ∙ ap (λ m. piece_at e m (each_from (suc n) (λ p rs. (e, p, rs)) xs)) next ∙ numbered_at e (suc n) k xs (omega arith)

pub find_cut : (outs : Outs) (value : List (List ℕ)) (e : EdgeId) (cut : Cut) (o : ℕ) (r : List (List ℕ)) → edges_differ outs ≡ true → In (e, cut) outs → piece_at e o (cut_of value e cut) ≡ Some r → piece_at e o (pieces_of outs value) ≡ Some r
find_cut [] value e cut o r differ h there = absurd h
find_cut (out ∷ outs) value e cut o r differ (inl here) there =
    subst (λ (x : EdgeId × Cut). piece_at e o (cut_of value x.0 x.1 ++ pieces_of outs value) ≡ Some r) here (first e o (cut_of value e cut) (pieces_of outs value) r there)
find_cut (out ∷ outs) value e cut o r differ (inr later) there =
    let own = and_parts (not (list_any (λ other. other.0.0 == out.0.0) outs)) (edges_differ outs) differ in
    let off : (e.0 == out.0.0) ≡ false = cases (e.0 == out.0.0)
    (λ same. both (any_there (λ (other : EdgeId × Cut). other.0.0 == out.0.0) (e, cut) outs later same) (not-true (list_any (λ other. other.0.0 == out.0.0) outs) own.0))
    (λ off. off) in
    skip e o (cut_of value out.0 out.1) (pieces_of outs value) (cut_off value e out.0 out.1 (another e.0 out.0.0 off))
    ∙ find_cut outs value e cut o r own.1 later there

pub whole_at : (outs : Outs) (value : List (List ℕ)) (e : EdgeId) → edges_differ outs ≡ true → In (e, Whole) outs → piece_at e 0 (pieces_of outs value) ≡ Some value
whole_at outs value e differ there = find_cut outs value e Whole 0 value differ there (ap (λ t. cond (t && true) (Some value) None) (itself e.0))

pub part_at : (outs : Outs) (value : List (List ℕ)) (e : EdgeId) (cols : List ℕ) (parts p : ℕ) → edges_differ outs ≡ true → In (e, ByKey cols parts) outs → p < parts → piece_at e p (pieces_of outs value) ≡ Some (sort (filter (in_partition cols parts p) value))
part_at outs value e cols parts p differ there low =
    let part = λ (q : ℕ). sort (filter (in_partition cols parts q) value) in
    let size : length (split cols parts value) ≡ parts = length-map-range_with_len part 0 parts in
    find_cut outs value e (ByKey cols parts) p (part p) differ there
    (ap (λ m. piece_at e m (each_from 0 (λ q rs. (e, q, rs)) (split cols parts value))) (let same : p ≡ 0 + p = omega arith in same)
    ∙ numbered_at e 0 p (split cols parts value) (omega arith)
    ∙ ap Some (get_or-map-range_with_len part 0 parts p p [] low (omega arith)))

-- the bytes on an edge
filter_none : {X : Type 0} (p : X → Bool) (xs : List X) → list_any p xs ≡ false → filter p xs ≡ []
filter_none p [] h = refl
filter_none p (x ∷ xs) h = let parts = or_parts (p x) (list_any p xs) h in rw parts.0 (filter_none p xs parts.1)

filter_all : {X : Type 0} (p : X → Bool) (xs : List X) → list_all p xs ≡ true → filter p xs ≡ xs
filter_all p [] h = refl
filter_all p (x ∷ xs) h = let parts = and_parts (p x) (list_all p xs) h in rw parts.0 (ap (λ ys. x ∷ ys) (filter_all p xs parts.1))

bytes_skip : (e : EdgeId) (ps qs : Pieces) → list_any (is_on e) ps ≡ false → bytes_on e (ps ++ qs) ≡ bytes_on e qs
bytes_skip e ps qs off =
    let any : list_any (is_on e) (ps ++ qs) ≡ list_any (is_on e) qs = list_any-append (is_on e) ps qs ∙ ap (λ t. t || list_any (is_on e) qs) off in
    let kept : filter (is_on e) (ps ++ qs) ≡ filter (is_on e) qs = filter-append (is_on e) ps qs ∙ ap (λ (xs : Pieces). xs ++ filter (is_on e) qs) (filter_none (is_on e) ps off) in
    ap (λ t. cond t (Some (sum_by size (filter (is_on e) (ps ++ qs)))) None) any ∙ ap (λ xs. cond (list_any (is_on e) qs) (Some (sum_by size xs)) None) kept

bytes_here : (e : EdgeId) (ps qs : Pieces) → list_any (is_on e) ps ≡ true → list_all (is_on e) ps ≡ true → list_any (is_on e) qs ≡ false → bytes_on e (ps ++ qs) ≡ Some (sum_by size ps)
bytes_here e ps qs some on off =
    let any : list_any (is_on e) (ps ++ qs) ≡ true = list_any-append (is_on e) ps qs ∙ ap (λ t. t || list_any (is_on e) qs) some in
    let kept : filter (is_on e) (ps ++ qs) ≡ ps = filter-append (is_on e) ps qs ∙ ap (λ (xs : Pieces). xs ++ filter (is_on e) qs) (filter_all (is_on e) ps on) ∙ ap (λ (xs : Pieces). ps ++ xs) (filter_none (is_on e) qs off) ∙ append-nil ps in
    ap (λ t. cond t (Some (sum_by size (filter (is_on e) (ps ++ qs)))) None) any ∙ ap (λ xs. Some (sum_by size xs)) kept

others_off : (outs : Outs) (value : List (List ℕ)) (e : EdgeId) → list_any (λ other. other.0.0 == e.0) outs ≡ false → list_any (is_on e) (pieces_of outs value) ≡ false
others_off [] value e h = refl
others_off (out ∷ outs) value e h =
    let parts = or_parts (out.0.0 == e.0) (list_any (λ other. other.0.0 == e.0) outs) h in
    list_any-append (is_on e) (cut_of value out.0 out.1) (pieces_of outs value) ∙ or_from (list_any (is_on e) (cut_of value out.0 out.1)) (list_any (is_on e) (pieces_of outs value)) (cut_off value e out.0 out.1 parts.0) (others_off outs value e parts.1)

numbered_on : (e : EdgeId) (n : ℕ) (xs : List (List (List ℕ))) → list_all (is_on e) (each_from n (λ p rs. (e, p, rs)) xs) ≡ true
numbered_on e n [] = refl
numbered_on e n (x ∷ xs) = ap (λ t. t && list_all (is_on e) (each_from (suc n) (λ p rs. (e, p, rs)) xs)) (itself e.0) ∙ numbered_on e (suc n) xs

numbered_some : (e : EdgeId) (n : ℕ) (xs : List (List (List ℕ))) → 0 < length xs → list_any (is_on e) (each_from n (λ p rs. (e, p, rs)) xs) ≡ true
numbered_some e n [] some = absurd (omega arith)
numbered_some e n (x ∷ xs) some = ap (λ t. t || list_any (is_on e) (each_from (suc n) (λ p rs. (e, p, rs)) xs)) (itself e.0)

numbered_sum : (e : EdgeId) (n : ℕ) (xs : List (List (List ℕ))) → sum_by size (each_from n (λ p rs. (e, p, rs)) xs) ≡ sum_by (λ rs. length (text rs)) xs
numbered_sum e n [] = refl
numbered_sum e n (x ∷ xs) =
    sum_by-cons size (e, n, x) (each_from (suc n) (λ p rs. (e, p, rs)) xs) ∙ ap (λ m. length (text x) + m) (numbered_sum e (suc n) xs) ∙ sym (sum_by-cons (λ (rs : List (List ℕ)). length (text rs)) x xs)

text_bytes : (rs : List (List ℕ)) → length (text rs) ≡ sum_by (λ r. length (r ++ 10 ∷ [])) rs
text_bytes rs = length-flat_map (λ (r : List ℕ). r ++ 10 ∷ []) rs

-- the parts of a value have together its bytes
split_bytes : (cols : List ℕ) (parts : ℕ) (value : List (List ℕ)) → 0 < parts → sum_by (λ rs. length (text rs)) (split cols parts value) ≡ length (text value)
split_bytes cols parts value some =
    let line = λ (r : List ℕ). length (r ++ 10 ∷ []) in
    sum_by-ext (λ (rs : List (List ℕ)). length (text rs)) (λ rs. sum_by line rs) (split cols parts value) text_bytes
    ∙ sym (sum_by-flat_map line (λ (part : List (List ℕ)). part) (split cols parts value))
    ∙ sum_by-same line (flat_map (λ part. part) (split cols parts value)) value (split_whole cols parts value some)
    ∙ sym (text_bytes value)

some_parts : (n : ℕ) → nat_lt 0 n ≡ true → 0 < n
some_parts n h = grind (arith, nat_tests)

cut_some : (value : List (List ℕ)) (e : EdgeId) (cut : Cut) → has_parts cut ≡ true → list_any (is_on e) (cut_of value e cut) ≡ true
cut_some value e Whole h = ap (λ t. t || false) (itself e.0)
cut_some value e (ByKey cols parts) h =
    let size : length (split cols parts value) ≡ parts = length-map-range_with_len (λ (q : ℕ). sort (filter (in_partition cols parts q) value)) 0 parts in
    numbered_some e 0 (split cols parts value) (subst (λ n. 0 < n) (sym size) (some_parts parts h))

cut_on : (value : List (List ℕ)) (e : EdgeId) (cut : Cut) → list_all (is_on e) (cut_of value e cut) ≡ true
cut_on value e Whole = ap (λ t. t && true) (itself e.0)
cut_on value e (ByKey cols parts) = numbered_on e 0 (split cols parts value)

cut_sum : (value : List (List ℕ)) (e : EdgeId) (cut : Cut) → has_parts cut ≡ true → sum_by size (cut_of value e cut) ≡ length (text value)
cut_sum value e Whole h = sum_by-cons size (e, 0, value) [] ∙ (let one : length (text value) + 0 ≡ length (text value) = omega arith in one)
cut_sum value e (ByKey cols parts) h = numbered_sum e 0 (split cols parts value) ∙ split_bytes cols parts value (some_parts parts h)

pub bytes_at : (outs : Outs) (value : List (List ℕ)) (e : EdgeId) (cut : Cut) → edges_differ outs ≡ true → In (e, cut) outs → has_parts cut ≡ true → bytes_on e (pieces_of outs value) ≡ Some (length (text value))
bytes_at [] value e cut differ h some = absurd h
bytes_at (out ∷ outs) value e cut differ (inl here) some =
    let own = and_parts (not (list_any (λ other. other.0.0 == out.0.0) outs)) (edges_differ outs) differ in
    let rest = others_off outs value out.0 (not-true (list_any (λ other. other.0.0 == out.0.0) outs) own.0) in
    subst (λ (x : EdgeId × Cut). list_any (is_on x.0) (pieces_of outs value) ≡ false → bytes_on e (cut_of value x.0 x.1 ++ pieces_of outs value) ≡ Some (length (text value))) here
    (λ off. bytes_here e (cut_of value e cut) (pieces_of outs value) (cut_some value e cut some) (cut_on value e cut) off ∙ ap Some (cut_sum value e cut some)) rest
bytes_at (out ∷ outs) value e cut differ (inr later) some =
    let own = and_parts (not (list_any (λ other. other.0.0 == out.0.0) outs)) (edges_differ outs) differ in
    let off : (e.0 == out.0.0) ≡ false = cases (e.0 == out.0.0)
    (λ same. both (any_there (λ (other : EdgeId × Cut). other.0.0 == out.0.0) (e, cut) outs later same) (not-true (list_any (λ other. other.0.0 == out.0.0) outs) own.0))
    (λ off. off) in
    bytes_skip e (cut_of value out.0 out.1) (pieces_of outs value) (cut_off value e out.0 out.1 (another e.0 out.0.0 off)) ∙ bytes_at outs value e cut own.1 later some
