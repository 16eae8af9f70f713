-- Records beside their keys.
--     entered            one entry more
--     sorted_by_key      entries that are sorted
--     records_with_is    the records of a key among entries are those among the records
--     all_records        records that are sorted are records still
--     field_is_key       a key of one column is a field
--     copies_are, copy_is, no_copy      copies of keys, beside records in turn
--     in_order_is        what a look at each entry and the next tells
use Rattle.std.proofs.Common.{◌≡◌, ℕ, ◌<◌, Bool, true, false, cond, List, [], ◌∷◌, ◌++◌, map, length, get_or, refl, sym, ap, ap₂, ◌∙◌, subst, arith, bytes_eq, filter, IsPermutation, IsSorted, is_lt, Ordering, Less, Equal, Greater, zero, suc, ◌+◌, ne_eqb, true≢false}
use Rattle.std.specs.Prelude.{◌↔◌, IsTrue, if◌then◌else◌, not}
use Rattle.std.specs.List.{AllByRecursion, All, IsAllAdjacentAnswer}
use Rattle.std.specs.Ordering.{ordering_then}
use Rattle.std.proofs.lemmas.List.{map-append}
use Rattle.std.proofs.lemmas.List.Sorted.{IsPermutation-map, All-permutation}
use Rattle.tez_lists.proofs.Cases.{cases, both}
use Rattle.tez_record.specs.Line.{IsRecord}
use Rattle.tez_record.specs.Field.{key, field}
use Rattle.tez_record.specs.Bag.{compare, sort, place}
use Rattle.tez_record.proofs.BagLemmas.{at_most, sort-IsPermutation}
use Rattle.tez_values.specs.Heads.{has_key}
use Rattle.tez_plain.specs.Keyed.{Entries, keys_in, records_in, records_with, AreInOrder, AreByKey, copied_keys, one_each}
use Rattle.tez_plain.proofs.OrderLemmas.{Entry}

-- the records so far and those to come are all, and the keys are theirs
pub record AreEntered (cols : List ℕ) (rs : List (List ℕ)) (es : Entries) (left : List (List ℕ)) : Type 0 where
  pub records : records_in es ++ left ≡ rs
  pub keys : keys_in es ≡ map (key cols) (records_in es)
  pub lines : AllByRecursion IsRecord (records_in es)

all_last : (P : List ℕ → Type 0) (xs : List (List ℕ)) (x : List ℕ) → AllByRecursion P xs → P x → AllByRecursion P (xs ++ x ∷ [])
all_last P [] x all h = (h, tt)
all_last P (y ∷ xs) x all h = (all.0, all_last P xs x all.1 h)

append-assoc : (xs ys zs : List (List ℕ)) → (xs ++ ys) ++ zs ≡ xs ++ (ys ++ zs)
append-assoc [] ys zs = refl
append-assoc (x ∷ xs) ys zs = ap (λ (rest : List (List ℕ)). x ∷ rest) (append-assoc xs ys zs)

pub entered : (cols : List ℕ) (rs left more : List (List ℕ)) (es now : Entries) (e : Entry) → left ≡ e.1.now ∷ more → e.0 ≡ key cols e.1.now → IsRecord e.1.now → now ≡ es ++ e ∷ [] → AreEntered cols rs es left → AreEntered cols rs now more
entered cols rs left more es now e first own is_record pushed are =
    let records : records_in now ≡ records_in es ++ e.1.now ∷ [] = ap records_in pushed ∙ map-append (λ (x : Entry). x.1.now) es (e ∷ []) in
    record {
      records = ap (λ xs. xs ++ more) records ∙ append-assoc (records_in es) (e.1.now ∷ []) more ∙ ap (λ xs. records_in es ++ xs) (sym first) ∙ are.records;
      keys =
          ap keys_in pushed
          ∙ map-append (λ (x : Entry). x.0) es (e ∷ [])
          ∙ ap₂ (λ (ks : List (List ℕ)) (k : List ℕ). ks ++ k ∷ []) are.keys own
          ∙ sym (ap (map (key cols)) records ∙ map-append (key cols) (records_in es) (e.1.now ∷ []));
      lines = subst (AllByRecursion IsRecord) (sym records) (all_last IsRecord (records_in es) e.1.now are.lines is_record);
    }

-- ---- what holds of each record holds of each in a bag

all_placed : (P : List ℕ → Type 0) (r : List ℕ) (bag : List (List ℕ)) → AllByRecursion P (place r bag) → P r × AllByRecursion P bag
all_placed P r [] all = (all.0, tt)
all_placed P r (s ∷ bag) all = cases (at_most r s)
    (λ e. let those : AllByRecursion P (r ∷ s ∷ bag) = subst (λ b. AllByRecursion P (cond b (r ∷ s ∷ bag) (s ∷ place r bag))) e all in (those.0, those.1))
    (λ e.
    let those : AllByRecursion P (s ∷ place r bag) = subst (λ b. AllByRecursion P (cond b (r ∷ s ∷ bag) (s ∷ place r bag))) e all in
    let rest = all_placed P r bag those.1 in
    (rest.0, (those.0, rest.1)))

all_from_bag : (P : List ℕ → Type 0) (rs : List (List ℕ)) → AllByRecursion P (sort rs) → AllByRecursion P rs
all_from_bag P [] all = tt
all_from_bag P (r ∷ rs) all = let parts = all_placed P r (sort rs) all in (parts.0, all_from_bag P rs parts.1)

to_place : (P : List ℕ → Type 0) (r : List ℕ) (bag : List (List ℕ)) → P r → AllByRecursion P bag → AllByRecursion P (place r bag)
to_place P r [] h all = (h, tt)
to_place P r (s ∷ bag) h all = cases (at_most r s) (λ e. rw e (h, all)) (λ e. rw e (all.0, to_place P r bag h all.1))

to_bag : (P : List ℕ → Type 0) (rs : List (List ℕ)) → AllByRecursion P rs → AllByRecursion P (sort rs)
to_bag P [] all = tt
to_bag P (r ∷ rs) all = to_place P r (sort rs) all.0 (to_bag P rs all.1)

pub all_same : (P : List ℕ → Type 0) (xs ys : List (List ℕ)) → sort xs ≡ sort ys → AllByRecursion P ys → AllByRecursion P xs
all_same P xs ys e all = all_from_bag P xs (subst (AllByRecursion P) (sym e) (to_bag P ys all))

pub all_with : (P : List ℕ → Type 0) (k : List ℕ) (es : Entries) → AllByRecursion P (records_in es) → AllByRecursion P (records_with k es)
all_with P k [] all = tt
all_with P k (e ∷ es) all = cases (bytes_eq k e.0)
    (λ t. rw t (all.0, all_with P k es all.1))
    (λ f. rw f (all_with P k es all.1))

-- ---- a sort

lower : (o p : Ordering) → is_lt (ordering_then o p) ≡ false → is_lt o ≡ false
lower Less p h = h
lower Equal p h = refl
lower Greater p h = refl

own_keys : (cols : List ℕ) (es : Entries) → keys_in es ≡ map (key cols) (records_in es) → All (λ e. e.0 ≡ key cols e.1.now) es
own_keys cols [] h k d low = absurd (omega arith)
own_keys cols (e ∷ es) h zero d low = let here : e.0 ≡ key cols e.1.now = cc in here
own_keys cols (e ∷ es) h (suc k) d low = let rest : keys_in es ≡ map (key cols) (records_in es) = cc in own_keys cols es rest k d (omega arith)

keys_own : (cols : List ℕ) (es : Entries) → All (λ e. e.0 ≡ key cols e.1.now) es → keys_in es ≡ map (key cols) (records_in es)
keys_own cols [] h = refl
keys_own cols (e ∷ es) h = ap₂ (λ (k : List ℕ) (ks : List (List ℕ)). k ∷ ks) (h 0 e (omega arith)) (keys_own cols es (λ k d low. h (suc k) d (omega arith)))

pub sorted_by_key : (cols : List ℕ) (rs : List (List ℕ)) (xs ys : Entries) (then_by : Entry → Entry → Ordering) → records_in xs ≡ rs → keys_in xs ≡ map (key cols) (records_in xs) → AllByRecursion IsRecord (records_in xs)
    → IsPermutation xs ys → IsSorted (λ a b. ordering_then (compare a.0 b.0) (then_by a b)) ys → AreByKey cols rs ys
sorted_by_key cols rs xs ys then_by records keys lines moved sorted = record {
  records = bag ∙ ap sort records;
  lines = all_same IsRecord (records_in ys) (records_in xs) bag lines;
  keys = keys_own cols ys (All-permutation (λ e. e.0 ≡ key cols e.1.now) xs ys moved (own_keys cols xs keys));
  order = λ k d low high. lower _ _ (sorted k d low high);
}
  where
    bag : sort (records_in ys) ≡ sort (records_in xs)
    bag = sort-IsPermutation (records_in xs) (records_in ys) (IsPermutation-map (λ (e : Entry). e.1.now) xs ys moved)

-- ---- the records of a key

pub records_with_is : (cols k : List ℕ) (es : Entries) → keys_in es ≡ map (key cols) (records_in es) → records_with k es ≡ filter (has_key cols k) (records_in es)
records_with_is cols k [] h = refl
records_with_is cols k (e ∷ es) h =
    let here : e.0 ≡ key cols e.1.now = cc in
    let rest : keys_in es ≡ map (key cols) (records_in es) = cc in
    cases (bytes_eq k e.0)
    (λ t. let own : bytes_eq k (key cols e.1.now) ≡ true = ap (bytes_eq k) (sym here) ∙ t in rw (t, own) (ap (λ (rs : List (List ℕ)). e.1.now ∷ rs) (records_with_is cols k es rest)))
    (λ f. let own : bytes_eq k (key cols e.1.now) ≡ false = ap (bytes_eq k) (sym here) ∙ f in rw (f, own) (records_with_is cols k es rest))

-- ---- keys that are lent

pub field_is_key : (cols r : List ℕ) (d : ℕ) → length cols ≡ 1 → field r (get_or cols 0 d) ≡ key cols r
field_is_key [] r d one = absurd (omega (arith, one))
field_is_key (x ∷ []) r d one = refl
field_is_key (x ∷ y ∷ cols) r d one = absurd (omega (arith, one))

pub copies_are : (cols : List ℕ) (rs copies : List (List ℕ)) → (length cols ≡ 1 → ⊥) → copies ≡ copied_keys cols rs → copies ≡ one_each (key cols) rs
copies_are cols rs copies more h = h ∙ ap (λ b. if b then [] else one_each (key cols) rs) (ne_eqb (length cols) 1 more)

pub copy_is : (cols own line : List ℕ) (copies rest left more : List (List ℕ)) → copies ≡ one_each (key cols) left → left ≡ line ∷ more → copies ≡ own ∷ rest → (own ≡ key cols line) × (rest ≡ one_each (key cols) more)
copy_is cols own line copies rest left more are first cut =
    let both_ways : own ∷ rest ≡ key cols line ∷ one_each (key cols) more = sym cut ∙ are ∙ ap (one_each (key cols)) first in
    (cc, cc)

pub no_copy : (cols line : List ℕ) (copies left more : List (List ℕ)) → copies ≡ one_each (key cols) left → left ≡ line ∷ more → copies ≡ [] → ⊥
no_copy cols line copies left more are first none =
    let both_ways : [] ≡ key cols line ∷ one_each (key cols) more = sym none ∙ are ∙ ap (one_each (key cols)) first in
    cc

-- ---- a look at each entry and the next

un_not : (b : Bool) → true ≡ not b → b ≡ false
un_not true h = h
un_not false h = refl

falls : (es : Entries) (k : ℕ) → k + 1 < length es → ((d : Entry) → false ≡ not (is_lt (compare (get_or es (k + 1) d).0 (get_or es k d).0))) → AreInOrder es → ⊥
falls [] k low h order = absurd (omega (arith, low))
falls (e ∷ es) k low h order = both (ap not (order k e (omega arith) low)) (sym (h e))

pub in_order_is : (es : Entries) (b : Bool) → IsAllAdjacentAnswer (λ x y r. r ≡ not (is_lt (compare y.0 x.0))) es b → IsTrue b ↔ AreInOrder es
in_order_is es true h = (λ is. λ k d low high. un_not (is_lt (compare (get_or es (k + 1) d).0 (get_or es k d).0)) (h k d high), λ order. refl)
in_order_is es false h = (λ is. absurd (true≢false (sym is)), λ order. absurd (falls es h.0 h.1 h.2 order))
