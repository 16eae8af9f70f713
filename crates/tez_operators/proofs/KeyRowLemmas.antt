-- The rows of totals are the rows by key.
--     sums_bag, counts_bag, keys_bag      one for each head
use Rattle.std.proofs.Common.{◌≡◌, ℕ, ◌+◌, ◌<◌, min, true, false, cond, ◌||◌, List, [], ◌∷◌, map, length, refl, sym, ap, ◌∙◌, subst, arith, filter, fold, bytes_eq, ℤ, pos, ◌+ℤ◌, unwrap_or, is_none, suc, decimal, Some}
use Rattle.std.specs.Fmt.{signed_decimal}
use Rattle.std.specs.Map.{keys_of, lookup}
use Rattle.tez_lists.proofs.Cases.{cases, both}
use Rattle.tez_record.specs.Bag.{sort, place}
use Rattle.tez_record.specs.Field.{key, number}
use Rattle.tez_record.proofs.BagLemmas.{at_most, count, same_bag, same_record, same_itself}
use Rattle.tez_values.specs.Heads.{beside, is_among, is_good, distinct, has_key, sum_of, rows_by_key, sum_rows, count_rows, distinct_rows}
use Rattle.tez_values.proofs.SameLemmas.{map-same}
use Rattle.tez_operators.specs.declared.totals.Amount.{Amount}
use Rattle.tez_operators.specs.declared.totals.Amount.TheVariants.{One, Field}
use Rattle.tez_operators.specs.Totals.{total_of, add_record, total_row}
use Rattle.tez_operators.proofs.TotalLemmas.{eq-sym, total-fold, one_if, one_if-most, count-cons, AllOnce, fold-count, fold-once}

-- ---- each key once

among-count : (ks : List (List ℕ)) (k : List ℕ) → is_among ks k ≡ true → 0 < count k ks
unfolding one_if
among-count [] k h = both h refl
among-count (x ∷ ks) k h =
    let all = count-cons k x ks in
    cases (bytes_eq k x)
    (λ e. let one : one_if k x ≡ 1 = ap (λ t. cond t 1 0) e in omega arith)
    (λ e. let rest = among-count ks k (ap (λ t. t || is_among ks k) (sym e) ∙ h) in omega arith)

not_among-count : (ks : List (List ℕ)) (k : List ℕ) → is_among ks k ≡ false → count k ks ≡ 0
unfolding one_if
not_among-count [] k h = refl
not_among-count (x ∷ ks) k h =
    let all = count-cons k x ks in
    cases (bytes_eq k x)
    (λ e. both (ap (λ t. t || is_among ks k) e) h)
    (λ e.
    let none : one_if k x ≡ 0 = ap (λ t. cond t 1 0) e in
    let rest = not_among-count ks k (ap (λ t. t || is_among ks k) (sym e) ∙ h) in omega arith)

distinct-count : (ks : List (List ℕ)) (k : List ℕ) → count k (distinct ks) ≡ min 1 (count k ks)
unfolding one_if
distinct-count [] k = refl
distinct-count (x ∷ ks) k =
    let rest = distinct-count ks k in
    let all = count-cons k x ks in
    cases (is_among ks x)
    (λ e. rw e (cases (bytes_eq k x)
    (λ t. let some : 0 < count k ks = subst (λ y. 0 < count y ks) (sym (same_record k x t)) (among-count ks x e) in omega arith)
    (λ t. let none : one_if k x ≡ 0 = ap (λ b. cond b 1 0) t in omega arith)))
    (λ e. rw e (
    let more = count-cons k x (distinct ks) in
    cases (bytes_eq k x)
    (λ t. let none : count k ks ≡ 0 = subst (λ y. count y ks ≡ 0) (sym (same_record k x t)) (not_among-count ks x e) in let most = one_if-most k x in omega arith)
    (λ t. let none : one_if k x ≡ 0 = ap (λ b. cond b 1 0) t in omega arith)))

-- ---- rows as functions of the keys

apart : (g h : List ℕ → List ℕ) (x : List ℕ) (ks : List (List ℕ)) → count x ks ≡ 0 → ((k : List ℕ) → bytes_eq k x ≡ false → g k ≡ h k) → map g ks ≡ map h ks
unfolding one_if
apart g h x [] none same = refl
apart g h x (k ∷ ks) none same =
    let all = count-cons x k ks in
    let other : bytes_eq x k ≡ false = cases (bytes_eq x k) (λ e. let one : one_if x k ≡ 1 = ap (λ b. cond b 1 0) e in absurd (omega arith)) (λ e. e) in
    let first = same k (eq-sym k x ∙ other) in
    let rest = apart g h x ks (omega arith) same in
    λ i. first i ∷ rest i

keyed : (f : List ℕ × ℤ → List ℕ) (es : List (List ℕ × ℤ)) → AllOnce es → map f es ≡ map (λ k. f (k, total_of es k)) (keys_of es)
unfolding one_if
keyed f [] once = refl
keyed f (e ∷ es) once =
    let itself = same_itself e.0 in
    let one : one_if e.0 e.0 ≡ 1 = ap (λ b. cond b 1 0) itself in
    let here = once e.0 in
    let all = count-cons e.0 e.0 (keys_of es) in
    let tail : AllOnce es = λ q. let at = once q in let more = count-cons q e.0 (keys_of es) in omega arith in
    let first : f e ≡ f (e.0, total_of (e ∷ es) e.0) = ap (λ b. f (e.0, unwrap_or (cond b (Some e.1) (lookup (bytes_eq e.0) es)) (pos 0))) (sym itself) in
    let rest : map f es ≡ map (λ k. f (k, total_of (e ∷ es) k)) (keys_of es) = keyed f es tail ∙ apart (λ k. f (k, total_of es k)) (λ k. f (k, total_of (e ∷ es) k)) e.0 (keys_of es) (omega arith)
    (λ k other. ap (λ b. f (k, unwrap_or (cond b (Some e.1) (lookup (bytes_eq k) es)) (pos 0))) (sym other)) in
    λ i. first i ∷ rest i

-- the totals of records by key
module _ (cols : List ℕ) (amount : Amount) (rs : List (List ℕ)) where
  abbrev made : List (List ℕ × ℤ)
  made = fold (add_record cols amount) [] rs

  made_once : AllOnce made
  made_once = fold-once cols amount rs [] (λ q. omega arith)

  -- their keys are those of the records, once each
  made_keys : sort (keys_of made) ≡ sort (distinct (map (key cols) rs))
  made_keys = same_bag (keys_of made) (distinct (map (key cols) rs)) (λ q.
      let most = made_once q in
      let few = fold-count cols amount rs [] q in
      let all = distinct-count (map (key cols) rs) q in
      omega arith)

  pub by_key : (f : List ℕ × ℤ → List ℕ) (says : List (List ℕ) → List ℕ → List ℕ) → ((k : List ℕ) → f (k, total_of made k) ≡ says (filter (has_key cols k) rs) k) → sort (map f made) ≡ sort (rows_by_key says cols rs)
  by_key f says same =
      let row = λ (k : List ℕ). says (filter (has_key cols k) rs) k in
      ap sort (keyed f made made_once)
      ∙ ap (λ g. sort (map g (keys_of made))) (λ i k. same k i)
      ∙ map-same row (keys_of made) (distinct (map (key cols) rs)) made_keys

-- ---- each head

ones : (rs : List (List ℕ)) (n : ℕ) → fold (λ m r. m +ℤ pos 1) (pos n) rs ≡ pos (n + length rs)
ones [] n = let none : n ≡ n + 0 = omega arith in ap pos none
ones (r ∷ rs) n = let next : n + 1 + length rs ≡ n + suc (length rs) = omega arith in ones rs (n + 1) ∙ ap pos next

pub counts_bag : (cols : List ℕ) (rs : List (List ℕ)) (es : List (List ℕ × ℤ)) → es ≡ fold (add_record cols One) [] rs → sort (map total_row es) ≡ sort (count_rows cols rs)
counts_bag cols rs es e = ap (λ xs. sort (map total_row xs)) e
    ∙ by_key cols One rs total_row (λ those k. beside k (decimal (length those))) (λ k. ap (λ n. beside k (signed_decimal n)) (total-fold cols One rs [] k ∙ ones (filter (has_key cols k) rs) 0 ∙ ap pos (none (length (filter (has_key cols k) rs)))))
  where
    none : (n : ℕ) → 0 + n ≡ n
    none n = omega arith

pub keys_bag : (cols : List ℕ) (rs : List (List ℕ)) (es : List (List ℕ × ℤ)) → es ≡ fold (add_record cols One) [] rs → sort (map (λ e. e.0) es) ≡ sort (distinct_rows cols rs)
keys_bag cols rs es e = ap (λ xs. sort (keys_of xs)) e ∙ by_key cols One rs (λ e. e.0) (λ those k. k) (λ k. refl)

-- records of which none is bad are all good
placed : (r : List ℕ) (bag : List (List ℕ)) → place r bag ≡ [] → ⊥
placed r [] h = cc
placed r (s ∷ bag) h = cases (at_most r s)
    (λ e. let is : r ∷ s ∷ bag ≡ [] = sym (ap (λ b. cond b (r ∷ s ∷ bag) (s ∷ place r bag)) e) ∙ h in cc)
    (λ e. let is : s ∷ place r bag ≡ [] = sym (ap (λ b. cond b (r ∷ s ∷ bag) (s ∷ place r bag)) e) ∙ h in cc)

all_good : (value : ℕ) (rs : List (List ℕ)) → sort (filter (λ r. is_none (number r value)) rs) ≡ [] → filter (is_good value) rs ≡ rs
all_good value [] h = refl
all_good value (r ∷ rs) h =
    let bad = filter (λ r. is_none (number r value)) rs in
    cases (is_none (number r value))
    (λ e. absurd (placed r (sort bad) (ap (λ b. sort (cond b (r ∷ bad) bad)) (sym e) ∙ h)))
    (λ e. rw e (ap (λ (rest : List (List ℕ)). r ∷ rest) (all_good value rs (ap (λ b. sort (cond b (r ∷ bad) bad)) (sym e) ∙ h))))

pub sums_bag : (cols : List ℕ) (value : ℕ) (rs : List (List ℕ)) (es : List (List ℕ × ℤ)) → sort (filter (λ r. is_none (number r value)) rs) ≡ [] → es ≡ fold (add_record cols (Field value)) [] rs
    → sort (map total_row es) ≡ sort (sum_rows cols value rs)
sums_bag cols value rs es good e = ap (λ xs. sort (map total_row xs)) e
    ∙ by_key cols (Field value) rs total_row (λ those k. beside k (signed_decimal (sum_of value those))) (λ k. ap (λ n. beside k (signed_decimal n)) (total-fold cols (Field value) rs [] k))
    ∙ ap (λ xs. sort (rows_by_key (λ those k. beside k (signed_decimal (sum_of value those))) cols xs)) (sym (all_good value rs good))
