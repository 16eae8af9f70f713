-- Rows by key.
--     rows_step          the row of the first run, and those of the others
--     rows_by_key_is     rows of entries are the rows by key of their records
use Rattle.std.proofs.Common.{◌≡◌, ℕ, zero, suc, ◌+◌, ◌<◌, ◌≤◌, drop-drop, length-drop, true, false, not, cond, ◌||◌, List, [], ◌∷◌, ◌++◌, map, length, take, drop, get_or, refl, sym, ap, ap₂, ◌∙◌, subst, arith, bytes_eq, filter, fold, Some, None, slice_get, unwrap_or, ℤ, pos, ◌+ℤ◌, is_none, decimal, append_assoc}
use lib.IntN.{+ℤ_assoc, +ℤ_comm}
use Rattle.std.specs.Fmt.{signed_decimal}
use Rattle.std.specs.List.{position_or_len}
use Rattle.std.proofs.lemmas.List.{take_more, map-append}
use Rattle.tez_lists.proofs.Cases.{cases, both}
use Rattle.tez_lists.proofs.Flat.{append-nil}
use Rattle.tez_record.specs.Field.{number}
use Rattle.tez_record.specs.Bag.{sort, place}
use Rattle.tez_record.proofs.BagLemmas.{at_most, same_record, same_itself}
use Rattle.tez_values.specs.Heads.{beside, distinct, has_key, is_among, is_good, rows_by_key, sum_of, sum_rows}
use Rattle.tez_values.proofs.HeadLemmas.{map-filter, distinct-filter, map-agree}
use Rattle.tez_values.proofs.SameLemmas.{rows_by_key-same, fold-same}
use Rattle.tez_plain.specs.Keyed.{Entries, keys_in, records_in, with_key, records_with, AreByKey}
use Rattle.tez_plain.specs.Runs.{row_of, rows_of, IsRunPushed}
use Rattle.tez_plain.specs.declared.runs.Says.{Says}
use Rattle.tez_plain.specs.declared.runs.Says.TheVariants.{Key, Count, Sum}
use Rattle.tez_plain.proofs.OrderLemmas.{Entry, Ordered, AreUpFrom, others, run_is, run_rest, run_some, up_from_first, order_drop, none_past, all_others_past}
use Rattle.tez_plain.proofs.KeyLemmas.{records_with_is}

-- ---- the first run

-- among entries in order the distinct keys begin with the least
first_distinct : (k : List ℕ) (es : Entries) → Ordered es → AreUpFrom k es → is_among (keys_in es) k ≡ true → distinct (keys_in es) ≡ k ∷ distinct (keys_in (others k es))
first_distinct k [] order up h = both h refl
first_distinct k (e ∷ es) order up h = cases (bytes_eq k e.0)
    (λ t.
    let same : k ≡ e.0 = same_record k e.0 t in
    cases (is_among (keys_in es) e.0)
    (λ a. rw (t, a) (first_distinct k es order.1 up.1 (subst (λ x. is_among (keys_in es) x ≡ true) (sym same) a)))
    (λ a.
    let none : others k es ≡ es = all_others_past k es (subst (λ x. is_among (keys_in es) x ≡ false) (sym same) a) in
    rw (t, a, none) (ap (λ (x : List ℕ). x ∷ distinct (keys_in es)) (sym same))))
    (λ f. both h (none_past k e es order up f))

other_key : (k q : List ℕ) → not (bytes_eq k q) ≡ true → bytes_eq q k ≡ false
other_key k q h = cases (bytes_eq q k)
    (λ t. both h (ap not (subst (λ x. bytes_eq x q ≡ true) (same_record q k t) (same_itself q))))
    (λ f. f)

-- another key has its records among the others
among_others : (k q : List ℕ) (es : Entries) → not (bytes_eq k q) ≡ true → with_key q (others k es) ≡ with_key q es
among_others k q [] h = refl
among_others k q (e ∷ es) h = cases (bytes_eq k e.0)
    (λ t.
    let fails : bytes_eq q e.0 ≡ false = subst (λ x. bytes_eq q x ≡ false) (same_record k e.0 t) (other_key k q h) in
    rw (t, fails) (among_others k q es h))
    (λ f. rw f (cases (bytes_eq q e.0)
    (λ t. rw t (ap (λ (rest : Entries). e ∷ rest) (among_others k q es h)))
    (λ g. rw g (among_others k q es h))))

pub rows_first : (says : Says) (k : List ℕ) (es : Entries) → Ordered es → AreUpFrom k es → is_among (keys_in es) k ≡ true → rows_of says es ≡ row_of says (records_with k es) k ∷ rows_of says (others k es)
rows_first says k es order up there =
    let q = λ (x : List ℕ). not (bytes_eq k x) in
    let all = λ (x : List ℕ). row_of says (records_with x es) x in
    let those = λ (x : List ℕ). row_of says (records_with x (others k es)) x in
    let keys : distinct (keys_in (others k es)) ≡ filter q (distinct (keys_in es)) = ap distinct (map-filter (λ (e : Entry). e.0) q es) ∙ distinct-filter q (keys_in es) in
    let rest : map all (distinct (keys_in (others k es))) ≡ rows_of says (others k es) =
    ap (map all) keys
    ∙ map-agree all those q (distinct (keys_in es)) (λ x h. ap (λ (xs : Entries). row_of says (records_in xs) x) (sym (among_others k x es h)))
    ∙ sym (ap (map those) keys) in
    ap (map all) (first_distinct k es order up there) ∙ ap (λ (xs : List (List ℕ)). row_of says (records_with k es) k ∷ xs) rest

pub record IsWalk (says : Says) (all rows : List (List ℕ)) (rest : Entries) : Type 0 where
  pub made : rows ++ rows_of says rest ≡ all
  pub order : Ordered rest

module _ (says : Says) (all rows now : List (List ℕ)) (rest : Entries) (first : Entry) (n : ℕ) (here : Some first ≡ slice_get rest 0) (walk : IsWalk says all rows rest) where
  abbrev run_end : ℕ
  run_end = position_or_len (λ (e : Entry). not (bytes_eq e.0 first.0)) rest

  pub rows_step : n ≡ run_end → now ≡ rows ++ row_of says (records_in (take n rest)) first.0 ∷ [] → IsWalk says all now (drop n rest)
  rows_step is pushed = by rest refl here
    where
      by : (es : Entries) → rest ≡ es → Some first ≡ slice_get es 0 → IsWalk says all now (drop n rest)
      by [] e h = cc
      by (x ∷ es) e h =
          let same : first ≡ x = cc in
          let order : Ordered rest = walk.order in
          let up : AreUpFrom first.0 rest = subst (λ xs. AreUpFrom first.0 xs) (sym e) (subst (λ (y : Entry). AreUpFrom y.0 (x ∷ es)) (sym same) (up_from_first x es (subst Ordered e order))) in
          let there : is_among (keys_in rest) first.0 ≡ true = ap (λ xs. is_among (keys_in xs) first.0) e ∙ ap (λ (y : Entry). bytes_eq y.0 x.0 || is_among (keys_in es) y.0) same ∙ ap (λ b. b || is_among (keys_in es) x.0) (same_itself x.0) in
          let run : take n rest ≡ with_key first.0 rest = ap (λ m. take m rest) is ∙ run_is first.0 rest order up in
          let left : drop n rest ≡ others first.0 rest = ap (λ m. drop m rest) is ∙ run_rest first.0 rest order up in
          let row : now ≡ rows ++ row_of says (records_with first.0 rest) first.0 ∷ [] = pushed ∙ ap (λ (xs : Entries). rows ++ row_of says (records_in xs) first.0 ∷ []) run in
          record {
            made =
                ap (λ xs. now ++ rows_of says xs) left
                ∙ ap (λ xs. xs ++ rows_of says (others first.0 rest)) row
                ∙ append_assoc rows (row_of says (records_with first.0 rest) first.0 ∷ []) (rows_of says (others first.0 rest))
                ∙ ap (λ xs. rows ++ xs) (sym (rows_first says first.0 rest order up there))
                ∙ walk.made;
            order = order_drop n rest order;
          }

  pub some_left : n ≡ run_end → 0 < n
  some_left is = by rest refl here
    where
      by : (es : Entries) → rest ≡ es → Some first ≡ slice_get es 0 → 0 < n
      by [] e h = cc
      by (x ∷ es) e h =
          let same : first ≡ x = cc in
          let most : 0 < run_end = subst (λ (xs : Entries). 0 < position_or_len (λ (y : Entry). not (bytes_eq y.0 first.0)) xs) (sym e) (subst (λ (y : Entry). 0 < position_or_len (λ (z : Entry). not (bytes_eq z.0 y.0)) (x ∷ es)) (sym same) (run_some x es)) in
          subst (λ m. 0 < m) (sym is) most

pub rows_end : (says : Says) (all rows : List (List ℕ)) (rest : Entries) → None ≡ slice_get rest 0 → IsWalk says all rows rest → rows ≡ all
rows_end says all rows [] none walk = sym (append-nil rows) ∙ walk.made
rows_end says all rows (e ∷ es) none walk = cc

get_drop : (n : ℕ) (es : Entries) → slice_get es n ≡ slice_get (drop n es) 0
get_drop zero [] = refl
get_drop zero (e ∷ es) = refl
get_drop (suc n) [] = refl
get_drop (suc n) (e ∷ es) = get_drop n es

pub at_place : (es : Entries) (n : ℕ) (first : Entry) → n < length es → first ≡ get_or es n first → Some first ≡ slice_get es n
at_place [] n first low is = absurd (omega (arith, low))
at_place (e ∷ es) zero first low is = ap Some is
at_place (e ∷ es) (suc n) first low is = at_place es n first (omega (arith, low)) is

module _ (says : Says) (all rows now : List (List ℕ)) (es rest : Entries) (start len : ℕ) (first : Entry) (k : List ℕ) (here : Some first ≡ slice_get es start) (own : k ≡ first.0) (is : rest ≡ drop start es)
    (pushed : IsRunPushed says rows now k rest len) (walk : IsWalk says all rows (drop start es)) where
  there : Some first ≡ slice_get (drop start es) 0
  there = here ∙ get_drop start es

  run : len ≡ position_or_len (λ (e : Entry). not (bytes_eq e.0 first.0)) (drop start es)
  run = pushed.run ∙ (λ i. position_or_len (λ (e : Entry). not (bytes_eq e.0 (own i))) (is i))

  pub run_step : IsWalk says all now (drop (start + len) es)
  run_step = subst (IsWalk says all now) (drop-drop len start es)
      (rows_step says all rows now (drop start es) first len there walk run (pushed.row ∙ (λ i. rows ++ row_of says (records_in (take len (is i))) (own i) ∷ [])))

  pub run_few : start ≤ length es → start + len ≤ length es
  run_few few = let most : len ≤ length (drop start es) = subst (λ (xs : Entries). len ≤ length xs) is pushed.bound in omega (arith, length-drop start es, most, few)

  pub run_more : 0 < len
  run_more = some_left says all rows now (drop start es) first len there walk run

pub walk_end : (says : Says) (all rows : List (List ℕ)) (es : Entries) (start : ℕ) → None ≡ slice_get es start → IsWalk says all rows (drop start es) → rows ≡ all
walk_end says all rows es start none walk = rows_end says all rows (drop start es) (none ∙ get_drop start es) walk

-- ---- a sum

fold_last : {X B : Type 0} (f : B → X → B) (b : B) (xs : List X) (x : X) → fold f b (xs ++ x ∷ []) ≡ f (fold f b xs) x
fold_last f b [] x = refl
fold_last f b (y ∷ xs) x = fold_last f (f b y) xs x

pub summed : (value : ℕ) (run : Entries) (i : ℕ) (e : Entry) (was now n : ℤ) → i < length run → e ≡ get_or run i e → was ≡ sum_of value (records_in (take i run)) → n ≡ unwrap_or (number e.1.now value) (pos 0) → now ≡ was +ℤ n
    → now ≡ sum_of value (records_in (take (i + 1) run))
summed value run i e was now n low is before amount sum =
    let more : records_in (take (i + 1) run) ≡ records_in (take i run) ++ e.1.now ∷ [] =
    ap records_in (take_more run i e low ∙ ap (λ x. take i run ++ x ∷ []) (sym is)) ∙ map-append (λ (x : Entry). x.1.now) (take i run) (e ∷ []) in
    sum
    ∙ ap₂ (λ (a b : ℤ). a +ℤ b) before amount
    ∙ sym (ap (sum_of value) more ∙ fold_last (λ m r. m +ℤ unwrap_or (number r value) (pos 0)) (pos 0) (records_in (take i run)) e.1.now)

-- ---- in any order

length-free : (xs ys : List (List ℕ)) → sort xs ≡ sort ys → length xs ≡ length ys
length-free xs ys e = sym (counted xs) ∙ fold-same (λ n r. suc n) (λ n r s. refl) 0 xs ys e ∙ counted ys
  where
    counted_from : (n : ℕ) (rs : List (List ℕ)) → fold (λ m r. suc m) n rs ≡ n + length rs
    counted_from n [] = let none : n ≡ n + 0 = omega arith in none
    counted_from n (r ∷ rs) = let rest = counted_from (suc n) rs in omega arith

    counted : (rs : List (List ℕ)) → fold (λ m r. suc m) 0 rs ≡ length rs
    counted rs = let e = counted_from 0 rs in omega arith

sum_of-free : (value : ℕ) (xs ys : List (List ℕ)) → sort xs ≡ sort ys → sum_of value xs ≡ sum_of value ys
sum_of-free value xs ys e = fold-same (λ n r. n +ℤ unwrap_or (number r value) (pos 0)) (λ n r s. +ℤ_assoc n _ _ ∙ ap (λ m. n +ℤ m) (+ℤ_comm (unwrap_or (number r value) (pos 0)) (unwrap_or (number s value) (pos 0))) ∙ sym (+ℤ_assoc n _ _)) (pos 0) xs ys e

row-free : (says : Says) (xs ys : List (List ℕ)) (k : List ℕ) → sort xs ≡ sort ys → row_of says xs k ≡ row_of says ys k
row-free Key xs ys k e = refl
row-free Count xs ys k e = ap (λ n. beside k (decimal n)) (length-free xs ys e)
row-free (Sum value) xs ys k e = ap (λ n. beside k (signed_decimal n)) (sum_of-free value xs ys e)

pub rows_by_key_is : (says : Says) (cols : List ℕ) (rs : List (List ℕ)) (es : Entries) → AreByKey cols rs es → sort (rows_of says es) ≡ sort (rows_by_key (row_of says) cols rs)
rows_by_key_is says cols rs es are =
    ap (λ f. sort (map f (distinct (keys_in es)))) (λ i k. row_of says (records_with_is cols k es are.keys i) k)
    ∙ ap (λ ks. sort (map (λ k. row_of says (filter (has_key cols k) (records_in es)) k) (distinct ks))) are.keys
    ∙ rows_by_key-same (row_of says) (row-free says) cols (records_in es) rs are.records

-- ---- records of which none is bad are all good

placed : (r : List ℕ) (bag : List (List ℕ)) → place r bag ≡ [] → ⊥
placed r [] h = cc
placed r (s ∷ bag) h = cases (at_most r s)
    (λ e. let is : r ∷ s ∷ bag ≡ [] = sym (ap (λ b. cond b (r ∷ s ∷ bag) (s ∷ place r bag)) e) ∙ h in cc)
    (λ e. let is : s ∷ place r bag ≡ [] = sym (ap (λ b. cond b (r ∷ s ∷ bag) (s ∷ place r bag)) e) ∙ h in cc)

all_good : (value : ℕ) (rs : List (List ℕ)) → sort (filter (λ r. is_none (number r value)) rs) ≡ [] → filter (is_good value) rs ≡ rs
all_good value [] h = refl
all_good value (r ∷ rs) h =
    let bad = filter (λ r. is_none (number r value)) rs in
    cases (is_none (number r value))
    (λ e. absurd (placed r (sort bad) (ap (λ b. sort (cond b (r ∷ bad) bad)) (sym e) ∙ h)))
    (λ e. rw e (ap (λ (rest : List (List ℕ)). r ∷ rest) (all_good value rs (ap (λ b. sort (cond b (r ∷ bad) bad)) (sym e) ∙ h))))

pub sums_are : (cols : List ℕ) (value : ℕ) (rs rows : List (List ℕ)) → sort (filter (λ r. is_none (number r value)) rs) ≡ [] → sort rows ≡ sort (rows_by_key (row_of (Sum value)) cols rs) → sort rows ≡ sort (sum_rows cols value rs)
sums_are cols value rs rows good made = made ∙ ap (λ xs. sort (rows_by_key (λ those k. beside k (signed_decimal (sum_of value those))) cols xs)) (sym (all_good value rs good))
