-- Entries in the order of their keys.
--     no_place                    where each entry passes, the first that fails is past the end
--     order_from                  the order of neighbours is an order of all
--     run_is, run_rest            the first run of entries has its key, and no other entry has
--     found_run                   what a binary search finds is where a key begins
use Rattle.std.proofs.Common.{◌≡◌, ℕ, zero, suc, ◌+◌, ◌<◌, ◌≤◌, Bool, true, false, not, cond, List, [], ◌∷◌, length, take, drop, get_or, refl, sym, ap, ◌∙◌, subst, arith, bytes_eq, filter, Some, None, ltb-false, is_gt, is_le, is_lt, Less, Equal, Greater, Ordering}
use Rattle.std.specs.Prelude.{nat_lt}
use Rattle.std.specs.List.{AllByRecursion, position, position_or_len}
use Rattle.std.specs.List.Sorted.{IsPartitionedBy, IsPartitionPoint}
use Rattle.std.specs.Ordering.{ordering_reverse}
use Rattle.std.specs.Cmp.{IsTotalOrder, IsStrictWeakOrder, on_total}
use Rattle.std.specs.Cmp.Lexicographic.{nat_list_cmp_total}
use Rattle.std.proofs.lemmas.Bool.{or_parts}
use Rattle.std.proofs.lemmas.List.Sorted.{ranks_by, sorted_far}
use denote.Ref.{Bor}
use Rattle.tez_lists.proofs.Cases.{cases, both}
use Rattle.tez_lists.proofs.Sorted.{InOrder, InOrder-from}
use Rattle.tez_record.specs.Bag.{compare}
use Rattle.tez_record.proofs.BagLemmas.{at_most, at_most-antisym, at_most-total, same_record, same_itself}
use Rattle.tez_values.specs.Heads.{is_among}
use Rattle.tez_plain.specs.Keyed.{Entries, keys_in, with_key, AreInOrder}

pub most : {X : Type 0} (test : X → Bool) (xs : List X) → position_or_len test xs ≤ length xs
most test [] = omega arith
most test (x ∷ xs) = let rest = most test xs in cases (test x) (λ e. rw e (omega arith)) (λ e. rw e (omega arith))

pub no_place : {X : Type 0} (test : X → Bool) (xs : List X) → position test xs ≡ None → length xs ≡ position_or_len test xs
no_place test xs h = by (nat_lt (position_or_len test xs) (length xs)) refl h
  where
    by : (b : Bool) → nat_lt (position_or_len test xs) (length xs) ≡ b → cond b (Some (position_or_len test xs)) None ≡ None → length xs ≡ position_or_len test xs
    by true e h = absurd (cc)
    by false e h = let past : length xs ≤ position_or_len test xs = ltb-false (position_or_len test xs) (length xs) e in let short = most test xs in omega arith

-- ---- order

abbrev pub Entry : Type 0
Entry = List ℕ × Bor (List ℕ)

abbrev pub by_keys : Entry → Entry → Ordering
by_keys a b = compare a.0 b.0

pub keys_total : IsTotalOrder by_keys
keys_total = on_total (λ e. e.0) nat_list_cmp_total

abbrev pub Ordered : Entries → Type 0
Ordered es = InOrder by_keys es

pub order_from : (es : Entries) → AreInOrder es → Ordered es
order_from es h = InOrder-from by_keys keys_total es h

pub order_drop : (n : ℕ) (es : Entries) → Ordered es → Ordered (drop n es)
order_drop zero es h = h
order_drop (suc n) [] h = tt
order_drop (suc n) (e ∷ es) h = order_drop n es h.1

up_le : (o : Ordering) → is_gt o ≡ false → is_le o ≡ true
up_le Less e = refl
up_le Equal e = refl
up_le Greater e = both refl e

-- no entry is before k
abbrev pub AreUpFrom : List ℕ → Entries → Type 0
AreUpFrom k es = AllByRecursion (λ e. is_gt (compare k e.0) ≡ false) es

-- none has the key k
abbrev NoneHas : List ℕ → Entries → Type 0
NoneHas k es = AllByRecursion (λ e. bytes_eq k e.0 ≡ false) es

turn : (a b : List ℕ) → bytes_eq a b ≡ false → bytes_eq b a ≡ false
turn a b e = cases (bytes_eq b a) (λ t. both (subst (λ x. bytes_eq x b ≡ true) (same_record b a t) (same_itself b)) e) (λ f. f)

-- past a key that is greater
apart : (k q r : List ℕ) → is_gt (compare k q) ≡ false → bytes_eq k q ≡ false → is_gt (compare q r) ≡ false → bytes_eq k r ≡ false
apart k q r up other later = cases (bytes_eq k r)
    (λ e.
    let same : k ≡ q = at_most-antisym k q (up_le (compare k q) up) (subst (λ x. at_most q x ≡ true) (sym (same_record k r e)) (up_le (compare q r) later)) in
    both (subst (λ x. bytes_eq k x ≡ true) same (same_itself k)) other)
    (λ f. f)

none_later : (k q : List ℕ) (es : Entries) → is_gt (compare k q) ≡ false → bytes_eq k q ≡ false → AllByRecursion (λ e. is_gt (compare q e.0) ≡ false) es → NoneHas k es
none_later k q [] up other later = tt
none_later k q (e ∷ es) up other later = (apart k q e.0 up other later.0, none_later k q es up other later.1)

none_with : (k : List ℕ) (es : Entries) → NoneHas k es → with_key k es ≡ []
none_with k [] h = refl
none_with k (e ∷ es) h = rw h.0 (none_with k es h.1)

abbrev pub others : List ℕ → Entries → Entries
others k es = filter (λ e. not (bytes_eq k e.0)) es

all_others : (k : List ℕ) (es : Entries) → NoneHas k es → others k es ≡ es
all_others k [] h = refl
all_others k (e ∷ es) h = rw h.0 (ap (λ (rest : Entries). e ∷ rest) (all_others k es h.1))

none_among : (k : List ℕ) (es : Entries) → NoneHas k es → is_among (keys_in es) k ≡ false
none_among k [] h = refl
none_among k (e ∷ es) h = rw h.0 (none_among k es h.1)

-- where the first of entries in order does not have the key, none has
pub none_past : (k : List ℕ) (e : Entry) (es : Entries) → Ordered (e ∷ es) → AreUpFrom k (e ∷ es) → bytes_eq k e.0 ≡ false → is_among (keys_in (e ∷ es)) k ≡ false
none_past k e es order up f = none_among k (e ∷ es) (f, none_later k e.0 es up.0 f order.0)

-- a key that is not among the keys
pub all_others_past : (k : List ℕ) (es : Entries) → is_among (keys_in es) k ≡ false → others k es ≡ es
all_others_past k [] h = refl
all_others_past k (e ∷ es) h = let parts = or_parts (bytes_eq k e.0) (is_among (keys_in es) k) h in rw parts.0 (ap (λ (rest : Entries). e ∷ rest) (all_others_past k es parts.1))

one_more : (n : ℕ) → 1 + n ≡ suc n
one_more n = omega arith

abbrev run_len : List ℕ → Entries → ℕ
run_len k es = position_or_len (λ e. not (bytes_eq e.0 k)) es

pub run_is : (k : List ℕ) (es : Entries) → Ordered es → AreUpFrom k es → take (run_len k es) es ≡ with_key k es
run_is k [] order up = refl
run_is k (e ∷ es) order up = cases (bytes_eq k e.0)
    (λ t.
    let back : bytes_eq e.0 k ≡ true = subst (λ x. bytes_eq x k ≡ true) (same_record k e.0 t) (same_itself k) in
    rw (back, t, one_more (run_len k es)) (ap (λ (rest : Entries). e ∷ rest) (run_is k es order.1 up.1)))
    (λ f. rw (turn k e.0 f, f) (sym (none_with k es (none_later k e.0 es up.0 f order.0))))

pub run_rest : (k : List ℕ) (es : Entries) → Ordered es → AreUpFrom k es → drop (run_len k es) es ≡ others k es
run_rest k [] order up = refl
run_rest k (e ∷ es) order up = cases (bytes_eq k e.0)
    (λ t.
    let back : bytes_eq e.0 k ≡ true = subst (λ x. bytes_eq x k ≡ true) (same_record k e.0 t) (same_itself k) in
    rw (back, t, one_more (run_len k es)) (run_rest k es order.1 up.1))
    (λ f. rw (turn k e.0 f, f) (ap (λ (rest : Entries). e ∷ rest) (sym (all_others k es (none_later k e.0 es up.0 f order.0)))))

-- the first entry has its own key
pub run_some : (e : Entry) (es : Entries) → 0 < run_len e.0 (e ∷ es)
run_some e es = rw (same_itself e.0) (omega arith)

-- the first of entries in order
pub up_from_first : (e : Entry) (es : Entries) → Ordered (e ∷ es) → AreUpFrom e.0 (e ∷ es)
up_from_first e es order = (not_more (compare e.0 e.0) (compare_itself e.0), order.0)
  where
    not_more : (o : Ordering) → is_le o ≡ true → is_gt o ≡ false
    not_more Less e = refl
    not_more Equal e = refl
    not_more Greater e = both e refl

    compare_itself : (k : List ℕ) → is_le (compare k k) ≡ true
    compare_itself k = cases (at_most k k) (λ e. e) (λ e. at_most-total k k e)

-- ---- where a key begins

abbrev before : List ℕ → Entry → Bool
before k e = is_lt (compare e.0 k)

pub partitioned : (k : List ℕ) (es : Entries) → AreInOrder es → IsPartitionedBy (before k) es
partitioned k es order i j d low high is =
    let weak : IsStrictWeakOrder (λ (a b : Entry). is_lt (by_keys a b)) = ranks_by nat_list_cmp_total (λ (e : Entry). e.0) in
    let ranks : IsStrictWeakOrder (λ (a b : List ℕ). is_lt (compare a b)) = ranks_by nat_list_cmp_total (λ a. a) in
    let far : is_lt (compare (get_or es j d).0 (get_or es i d).0) ≡ false = sorted_far (λ (a b : Entry). is_lt (by_keys a b)) weak es order i j d low high in
    cases (before k (get_or es i d))
    (λ e. e)
    (λ f. both is (ranks.chain (get_or es j d).0 (get_or es i d).0 k far f))

not_before : (a b : List ℕ) → is_lt (compare a b) ≡ false → is_gt (compare b a) ≡ false
not_before a b h = by (compare b a) (compare a b) (nat_list_cmp_total.antisymm b a) h
  where
    by : (o p : Ordering) → o ≡ ordering_reverse p → is_lt p ≡ false → is_gt o ≡ false
    by o Less e h = both refl h
    by o Equal e h = ap is_gt e
    by o Greater e h = ap is_gt e

all_up : (k : List ℕ) (es : Entries) → ((m : ℕ) (d : Entry) → m < length es → before k (get_or es m d) ≡ false) → AreUpFrom k es
all_up k [] h = tt
all_up k (e ∷ es) h = (not_before e.0 k (h 0 e (omega arith)), all_up k es (λ m d low. h (suc m) d (omega arith)))

less_other : (a k : List ℕ) → is_lt (compare a k) ≡ true → bytes_eq k a ≡ false
less_other a k less = cases (bytes_eq k a)
    (λ e. absurd (itself (compare a a) (up_itself a) (subst (λ x. is_lt (compare a x) ≡ true) (same_record k a e) less)))
    (λ f. f)
  where
    up_itself : (a : List ℕ) → compare a a ≡ ordering_reverse (compare a a)
    up_itself a = nat_list_cmp_total.antisymm a a

    itself : (o : Ordering) → o ≡ ordering_reverse o → is_lt o ≡ true → ⊥
    itself Less e h = cc
    itself Equal e h = cc
    itself Greater e h = cc

pub record BeginsAt (k : List ℕ) (es : Entries) (start : ℕ) : Type 0 where
  pub same : with_key k (drop start es) ≡ with_key k es
  pub up : AreUpFrom k (drop start es)

pub begins : (k : List ℕ) (es : Entries) (start : ℕ) → start ≤ length es → ((m : ℕ) (d : Entry) → m < start → before k (get_or es m d) ≡ true) → ((m : ℕ) (d : Entry) → start ≤ m → m < length es → before k (get_or es m d) ≡ false) → BeginsAt k es start
begins k es zero short low high = record { same = refl; up = all_up k es (λ m d less. high m d (omega arith) less) }
begins k [] (suc start) short low high = absurd (omega arith)
begins k (e ∷ es) (suc start) short low high =
    let rest = begins k es start (omega arith) (λ m d less. low (suc m) d (omega arith)) (λ m d a b. high (suc m) d (omega arith) (omega arith)) in
    record {
      same = rest.same ∙ ap (λ b. cond b (e ∷ with_key k es) (with_key k es)) (sym (less_other e.0 k (low 0 e (omega arith))));
      up = rest.up;
    }

-- the run at the place that a search finds
pub found_run : (k : List ℕ) (es : Entries) (start : ℕ) → AreInOrder es → start ≤ length es → IsPartitionPoint (λ e. before k e ≡ true) (λ e. before k e ≡ false) es start → (rest : Entries) → rest ≡ drop start es → take (run_len k rest) rest ≡ with_key k es
found_run k es start order short point rest is =
    let at = begins k es start short (λ m d less. point.0 m d (omega arith) less) (λ m d a b. point.1 m d a b) in
    ap (λ (xs : Entries). take (run_len k xs) xs) is ∙ run_is k (drop start es) (order_drop start es (order_from es order)) at.up ∙ at.same
