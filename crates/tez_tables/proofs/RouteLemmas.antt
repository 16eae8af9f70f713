-- What a call of `route` lists.
--     only_slot          where one slot leads to an output, and this one does, it is the whole list
--     broadcast_route    an output of a broadcast goes to each consumer, at the input of its source
use Rattle.std.proofs.Common.{◌≡◌, ℕ, ◌+◌, ◌-◌, ◌*◌, ◌/◌, ◌<◌, ◌≤◌, ◌==◌, ◌&&◌, Bool, true, false, List, [], ◌∷◌, ◌++◌, length, map, refl, sym, ap, ◌∙◌, arith, filter, flat_map, eq-eqb, zero-add, div-add-mod', mod-lt}
use Rattle.std.specs.List.{range_with_len}
use Rattle.std.proofs.lemmas.Bool.{and_from}
use Rattle.std.proofs.lemmas.List.Concat.{flat_map_single}
use Rattle.std.proofs.Math.Arith.{digits_lt, digits_div, digits_mod}
use Rattle.std.proofs.lemmas.List.{map-append}
use Rattle.tez_lists.proofs.Ranges.{range_more}
use Rattle.tez_lists.specs.Numbers.{In}
use Rattle.tez_lists.proofs.Members.{in_filter, in_map, in_flat_map, in_range_from, only_one}
use Rattle.tez_shrink.specs.Formulas.{first_of, end_of}
use Rattle.tez_shrink.proofs.RangeLemmas.{tasks_enough}
use Rattle.tez_tables.specs.Table.{Table, slots, route, one_to_one, broadcast, scatter_gather}
use Rattle.tez_tables.proofs.TableLemmas.{one_to_one_law, scatter_gather_law, route_is, one_left}

-- where one slot leads to an output, and this slot does, it is the whole list
pub only_slot : (t : Table) (s o c i : ℕ) → c < t.consumers → i < t.inputs_of c → (t.leads c i).0 ≡ s → (t.leads c i).1 ≡ o → length (route t s o) ≡ 1 → route t s o ≡ (c, i) ∷ []
only_slot t s o c i there input source output one =
    let among : In {X = ℕ × ℕ} (c, i) (slots t) =
    in_flat_map {Y = ℕ × ℕ} (λ c. map {B = ℕ × ℕ} (λ i. (c, i)) (range_with_len 0 (t.inputs_of c))) c (c, i) (range_with_len 0 t.consumers)
    (in_range_from 0 t.consumers c (omega arith) (omega arith))
    (in_map {Y = ℕ × ℕ} (λ i. (c, i)) i (range_with_len 0 (t.inputs_of c)) (in_range_from 0 (t.inputs_of c) i (omega arith) (omega arith))) in
    only_one {X = ℕ × ℕ} (c, i) (route t s o)
    (in_filter {X = ℕ × ℕ} (λ slot. (t.leads slot.0 slot.1).0 == s && (t.leads slot.0 slot.1).1 == o) (c, i) (slots t) among
    (and_from _ _ (eq-eqb (t.leads c i).0 s source) (eq-eqb (t.leads c i).1 o output)))
    one

pub one_to_one_route : (tasks s o : ℕ) → s < tasks → o < 1 → route (one_to_one tasks) s o ≡ (s, 0) ∷ []
one_to_one_route tasks s o below none = only_slot (one_to_one tasks) s o s 0 below (omega arith) refl (omega arith) (one_to_one_law tasks s o below none)

-- the partition o is at this place of its consumer's range
pub inside_range : (parts base o : ℕ) → 0 < base → o < parts → (first_of base (o / base) ≤ o) × (o < end_of parts base (o / base))
inside_range parts base o some inside =
    let low : o / base * base ≤ o = omega (arith, div-add-mod' o base) in
    let high : o < o / base * base + base = omega (arith, div-add-mod' o base, mod-lt o some) in
    (low, omega arith)

pub input_fits : (sources parts base s o : ℕ) → 0 < base → s < sources → o < parts
    → s * (end_of parts base (o / base) - first_of base (o / base)) + (o - first_of base (o / base)) < sources * (end_of parts base (o / base) - first_of base (o / base))
input_fits sources parts base s o some below inside =
    let range = inside_range parts base o some inside in
    let low : first_of base (o / base) ≤ o = range.0 in
    let high : o < end_of parts base (o / base) = range.1 in
    let k : o - first_of base (o / base) < end_of parts base (o / base) - first_of base (o / base) = omega arith in
    digits_lt below k

pub scatter_gather_route : (sources parts base s o : ℕ) → 0 < base → s < sources → o < parts
    → route (scatter_gather sources parts base) s o ≡ (o / base, s * (end_of parts base (o / base) - first_of base (o / base)) + (o - first_of base (o / base))) ∷ []
scatter_gather_route sources parts base s o some below inside =
    let first = first_of base (o / base) in
    let width = end_of parts base (o / base) - first in
    let range = inside_range parts base o some inside in
    let low : first_of base (o / base) ≤ o = range.0 in
    let high : o < end_of parts base (o / base) = range.1 in
    let k : o - first_of base (o / base) < end_of parts base (o / base) - first_of base (o / base) = omega arith in
    only_slot (scatter_gather sources parts base) s o (o / base) (s * width + (o - first))
    (tasks_enough parts base o some inside)
    (input_fits sources parts base s o some below inside)
    (digits_div s k)
    (ap (λ r. first + r) (digits_mod s k) ∙ omega arith)
    (scatter_gather_law sources parts base some s o below inside)

only : (o : ℕ) → o < 1 → 0 == o ≡ true
only o h = eq-eqb 0 o (omega arith)

pub broadcast_route : (sources consumers s o : ℕ) → s < sources → o < 1 → route (broadcast sources consumers) s o ≡ map {B = ℕ × ℕ} (λ c. (c, s)) (range_with_len 0 consumers)
broadcast_route sources consumers s o below none =
    let test : (i : ℕ) → (i == s && 0 == o) ≡ (i == s) = λ i. ap (λ b. i == s && b) (only o none) ∙ and_true (i == s) in
    route_is (broadcast sources consumers) s o
    ∙ ap (λ (q : ℕ → Bool). flat_map (λ c. map {B = ℕ × ℕ} (λ i. (c, i)) (filter q (range_with_len 0 sources))) (range_with_len 0 consumers)) (λ j i. test i j)
    ∙ ap (λ (xs : List ℕ). flat_map (λ c. map {B = ℕ × ℕ} (λ i. (c, i)) xs) (range_with_len 0 consumers)) (one_left s 0 sources (omega arith) (omega arith))
    ∙ flat_map_single {A = ℕ × ℕ} (λ c. (c, s)) (range_with_len 0 consumers)
  where
    and_true : (b : Bool) → (b && true) ≡ b
    and_true true = refl
    and_true false = refl

-- one consumer more
pub consumers_more : (s n : ℕ) (found : List (ℕ × ℕ)) → found ≡ map {B = ℕ × ℕ} (λ c. (c, s)) (range_with_len 0 n) → found ++ (n, s) ∷ [] ≡ map {B = ℕ × ℕ} (λ c. (c, s)) (range_with_len 0 (n + 1))
consumers_more s n found so_far =
    ap (λ (xs : List (ℕ × ℕ)). xs ++ (n, s) ∷ []) so_far
    ∙ sym (map-append {B = ℕ × ℕ} (λ c. (c, s)) (range_with_len 0 n) (n ∷ []))
    ∙ ap (map {B = ℕ × ℕ} (λ c. (c, s))) (ap (λ k. range_with_len 0 n ++ k ∷ []) (sym (zero-add n)) ∙ sym (range_more 0 n))
