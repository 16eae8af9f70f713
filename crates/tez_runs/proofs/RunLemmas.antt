-- Runs with gaps between them: where a number is looked for, and what adding one leaves.
--     low_at m at xs      the least start that a run at this place may have
--     next_start n xs     where the first of the runs starts, and past n where there is none
use Rattle.std.proofs.Common.{◌≡◌, ◌≢◌, ◌⊎◌, inl, inr, ℕ, zero, suc, ◌+◌, ◌-◌, ◌*◌, ◌<◌, ◌≤◌, ◌==◌, ◌||◌, Bool, true, false, List, [], ◌∷◌, ◌++◌, length, take, drop, set, get_or, refl, sym, ap, ◌∙◌, subst, arith}
use Rattle.std.specs.List.{insert, remove}
use Rattle.std.specs.List.Sorted.{IsNonDecreasingBy}
use Rattle.std.proofs.lemmas.Bool.{cases_lt}
use Rattle.std.proofs.lemmas.Bool.Decides.{nat_tests}
use Rattle.std.proofs.lemmas.List.{take-append-drop}
use Rattle.std.proofs.lemmas.List.Folds.{list_any-append}
use Rattle.tez_lists.proofs.Cases.{both}
use Rattle.tez_runs.specs.declared.edit.Run.{Run}
use Rattle.tez_runs.specs.Flags.{is_in, covers, AreApart, IsAdded, StartsUpTo, StartsAfter, EndsElsewhere, StartsElsewhere, IsSpot}

abbrev low_at : ℕ → ℕ → List Run → ℕ
low_at m zero xs = m
low_at m (suc at) [] = m
low_at m (suc at) (x ∷ xs) = low_at (x.end + 1) at xs

abbrev next_start : ℕ → List Run → ℕ
next_start n [] = n + 1
next_start n (x ∷ xs) = x.start

abbrev pub nowhere : Run
nowhere = record { start = 0; end = 0 }

-- ---- parts of runs

-- a run that is there starts no sooner than it may, is not empty, and the next one starts past its end
record FitsAt (m n p : ℕ) (xs : List Run) (a : Run) : Type 0 where
  low : low_at m p xs ≤ a.start
  some : a.start < a.end
  next : a.end + 1 ≤ next_start n (drop (suc p) xs)

next_of : (m n : ℕ) (xs : List Run) → AreApart m xs n → m ≤ next_start n xs
next_of m n [] apart = apart
next_of m n (x ∷ xs) apart = apart.0

fits_at : (m n p : ℕ) (xs : List Run) (d : Run) → AreApart m xs n → p < length xs → FitsAt m n p xs (get_or xs p d)
fits_at m n p [] d apart h = absurd (omega arith)
fits_at m n zero (x ∷ xs) d apart h = record { low = apart.0; some = apart.1; next = next_of (x.end + 1) n xs apart.2 }
fits_at m n (suc p) (x ∷ xs) d apart h = let rest = fits_at (x.end + 1) n p xs d apart.2 (omega arith) in record { low = rest.low; some = rest.some; next = rest.next }

low_after : (m p : ℕ) (xs : List Run) (d : Run) → p < length xs → low_at m (suc p) xs ≡ (get_or xs p d).end + 1
low_after m p [] d h = absurd (omega arith)
low_after m zero (x ∷ xs) d h = refl
low_after m (suc p) (x ∷ xs) d h = low_after (x.end + 1) p xs d (omega arith)

next_there : (n at : ℕ) (xs : List Run) (d : Run) → at < length xs → next_start n (drop at xs) ≡ (get_or xs at d).start
next_there n at [] d h = absurd (omega arith)
next_there n zero (x ∷ xs) d h = refl
next_there n (suc at) (x ∷ xs) d h = next_there n at xs d (omega arith)

next_none : (n at : ℕ) (xs : List Run) → length xs ≤ at → next_start n (drop at xs) ≡ n + 1
next_none n zero [] h = refl
next_none n (suc at) [] h = refl
next_none n zero (x ∷ xs) h = absurd (omega arith)
next_none n (suc at) (x ∷ xs) h = next_none n at xs (omega arith)

from_later : (q m n : ℕ) (xs : List Run) → AreApart m xs n → q ≤ next_start n xs → AreApart q xs n
from_later q m n [] apart h = h
from_later q m n (x ∷ xs) apart h = (h, apart.1, apart.2)

apart_drop : (m n at : ℕ) (xs : List Run) → AreApart m xs n → (q : ℕ) × AreApart q (drop at xs) n
apart_drop m n zero xs apart = (m, apart)
apart_drop m n (suc at) [] apart = (m, apart)
apart_drop m n (suc at) (x ∷ xs) apart = apart_drop (x.end + 1) n at xs apart.2

-- a run in place of those from lo to before hi
apart_with : (m n lo hi : ℕ) (xs : List Run) (r : Run) → AreApart m xs n → lo ≤ hi → low_at m lo xs ≤ r.start → r.start < r.end → r.end + 1 ≤ next_start n (drop hi xs)
    → AreApart m (take lo xs ++ r ∷ drop hi xs) n
apart_with m n zero hi xs r apart le low some next = let rest = apart_drop m n hi xs apart in (low, some, from_later (r.end + 1) rest.0 n (drop hi xs) rest.1 next)
apart_with m n (suc lo) zero xs r apart le low some next = absurd (omega arith)
apart_with m n (suc lo) (suc hi) [] r apart le low some next = (low, some, next)
apart_with m n (suc lo) (suc hi) (x ∷ xs) r apart le low some next = (apart.0, apart.1, apart_with (x.end + 1) n lo hi xs r apart.2 (omega arith) low some next)

pub few_runs : (m n : ℕ) (xs : List Run) → AreApart m xs n → m + 2 * length xs ≤ n + 1
few_runs m n [] apart = omega (arith, apart)
few_runs m n (x ∷ xs) apart = let rest = few_runs (x.end + 1) n xs apart.2 in let low = apart.0 in let some = apart.1 in omega arith

-- ---- where a number is looked for

low_start : (m n p : ℕ) (xs : List Run) (d : Run) → AreApart m xs n → p < length xs → m ≤ (get_or xs p d).start
low_start m n p [] d apart h = absurd (omega arith)
low_start m n zero (x ∷ xs) d apart h = apart.0
low_start m n (suc p) (x ∷ xs) d apart h = let rest = low_start (x.end + 1) n p xs d apart.2 (omega arith) in let low = apart.0 in let some = apart.1 in omega arith

pub in_order : (m n : ℕ) (xs : List Run) → AreApart m xs n → IsNonDecreasingBy (λ r. r.start) xs
in_order m n [] apart i j d le h = absurd (omega arith)
in_order m n (x ∷ xs) apart zero zero d le h = omega arith
in_order m n (x ∷ xs) apart zero (suc j) d le h = let rest = low_start (x.end + 1) n j xs d apart.2 (omega arith) in let some = apart.1 in omega arith
in_order m n (x ∷ xs) apart (suc i) zero d le h = absurd (omega arith)
in_order m n (x ∷ xs) apart (suc i) (suc j) d le h = in_order (x.end + 1) n xs apart.2 i j d (omega arith) (omega arith)

out_below : (i : ℕ) (r : Run) → i < r.start → is_in i r ≡ false
out_below i r h = grind (arith, nat_tests)

out_above : (i : ℕ) (r : Run) → r.end ≤ i → is_in i r ≡ false
out_above i r h = grind (arith, nat_tests)

none_after : (i q n : ℕ) (xs : List Run) → AreApart q xs n → i < q → covers xs i ≡ false
none_after i q n [] apart h = refl
none_after i q n (x ∷ xs) apart h =
    let low = apart.0 in let some = apart.1 in
    let here : is_in i x ≡ false = out_below i x (omega arith) in
    let rest : covers xs i ≡ false = none_after i (x.end + 1) n xs apart.2 (omega arith) in
    ap (λ b. b || covers xs i) here ∙ rest

-- before the run at p
none_before : (i m n p : ℕ) (xs : List Run) (d : Run) → AreApart m xs n → p < length xs → (get_or xs p d).start ≤ i → covers (take p xs) i ≡ false
none_before i m n p [] d apart h le = absurd (omega arith)
none_before i m n zero (x ∷ xs) d apart h le = refl
none_before i m n (suc p) (x ∷ xs) d apart h le =
    let low = low_start (x.end + 1) n p xs d apart.2 (omega arith) in
    let here : is_in i x ≡ false = out_above i x (omega arith) in
    ap (λ b. b || covers (take p xs) i) here ∙ none_before i (x.end + 1) n p xs d apart.2 (omega arith) le

cut_one : (p : ℕ) (xs : List Run) (d : Run) → p < length xs → xs ≡ take p xs ++ (get_or xs p d ∷ [] ++ drop (suc p) xs)
cut_one p [] d h = absurd (omega arith)
cut_one zero (x ∷ xs) d h = refl
cut_one (suc p) (x ∷ xs) d h = ap (λ rest. x ∷ rest) (cut_one p xs d (omega arith))

cut_two : (p : ℕ) (xs : List Run) (d e : Run) → suc p < length xs → xs ≡ take p xs ++ (get_or xs p d ∷ get_or xs (suc p) e ∷ [] ++ drop (suc (suc p)) xs)
cut_two p [] d e h = absurd (omega arith)
cut_two p (x ∷ []) d e h = absurd (omega arith)
cut_two zero (x ∷ y ∷ xs) d e h = refl
cut_two (suc p) (x ∷ y ∷ xs) d e h = ap (λ rest. x ∷ rest) (cut_two p (y ∷ xs) d e (omega arith))

-- no run from this place on has the number
after_place : (i n at : ℕ) (xs : List Run) (d : Run) → AreApart 0 xs n → StartsAfter xs at i → covers (drop at xs) i ≡ false
after_place i n at xs d apart after = by (drop at xs) refl (apart_drop 0 n at xs apart) where
  by : (ys : List Run) → drop at xs ≡ ys → (q : ℕ) × AreApart q ys n → covers ys i ≡ false
  by [] e rest = refl
  by (y ∷ ys) e rest =
      let there : at < length xs = long at xs y ys e in
      let start : y.start ≡ (get_or xs at d).start = ap (next_start n) (sym e) ∙ next_there n at xs d there in
      let low = after d there in
      none_after i y.start n (y ∷ ys) (omega arith, rest.1.1, rest.1.2) (omega arith)
    where
      long : (at : ℕ) (xs : List Run) (y : Run) (ys : List Run) → drop at xs ≡ y ∷ ys → at < length xs
      long zero [] y ys e = cc
      long zero (x ∷ xs) y ys e = omega arith
      long (suc at) [] y ys e = cc
      long (suc at) (x ∷ xs) y ys e = let rest = long at xs y ys e in omega arith

pub held_first : (i n : ℕ) (xs : List Run) (d : Run) → AreApart 0 xs n → StartsAfter xs 0 i → covers xs i ≡ false
held_first i n xs d apart after = after_place i n 0 xs d apart after

pub held_before : (i n p : ℕ) (xs : List Run) (d : Run) → AreApart 0 xs n → p < length xs → (get_or xs p d).start ≤ i → StartsAfter xs (suc p) i → covers xs i ≡ is_in i (get_or xs p d)
held_before i n p xs d apart h le after =
    ap (λ ys. covers ys i) (cut_one p xs d h)
    ∙ list_any-append (is_in i) (take p xs) (get_or xs p d ∷ drop (suc p) xs)
    ∙ ap (λ b. b || (is_in i (get_or xs p d) || covers (drop (suc p) xs) i)) (none_before i 0 n p xs d apart h le)
    ∙ ap (λ b. is_in i (get_or xs p d) || b) (after_place i n (suc p) xs d apart after)
    ∙ or_false (is_in i (get_or xs p d))
  where
    or_false : (b : Bool) → (b || false) ≡ b
    or_false true = refl
    or_false false = refl

-- ---- a number more

moved : (a b c d e : Bool) → b ≡ (c || d) → (a || (b || e)) ≡ (c || (a || (d || e)))
moved true b true d e h = refl
moved true b false d e h = refl
moved false b true d e h = ap (λ x. x || e) h
moved false b false d e h = ap (λ x. x || e) h

covers_with : (i lo hi : ℕ) (xs mid : List Run) (r : Run) → xs ≡ take lo xs ++ (mid ++ drop hi xs) → ((j : ℕ) → is_in j r ≡ (i == j || covers mid j)) → (j : ℕ)
    → covers (take lo xs ++ r ∷ drop hi xs) j ≡ (i == j || covers xs j)
covers_with i lo hi xs mid r cut same j =
    list_any-append (is_in j) (take lo xs) (r ∷ drop hi xs)
    ∙ moved (covers (take lo xs) j) (is_in j r) (i == j) (covers mid j) (covers (drop hi xs) j) (same j)
    ∙ ap (λ b. i == j || (covers (take lo xs) j || b)) (sym (list_any-append (is_in j) mid (drop hi xs)))
    ∙ ap (λ b. i == j || b) (sym (list_any-append (is_in j) (take lo xs) (mid ++ drop hi xs)))
    ∙ ap (λ ys. i == j || covers ys j) (sym cut)

set_is : (p : ℕ) (xs : List Run) (r : Run) → p < length xs → set xs p r ≡ take p xs ++ r ∷ drop (suc p) xs
set_is p [] r h = absurd (omega arith)
set_is zero (x ∷ xs) r h = refl
set_is (suc p) (x ∷ xs) r h = ap (λ rest. x ∷ rest) (set_is p xs r (omega arith))

join_is : (p : ℕ) (xs : List Run) (r : Run) → suc p < length xs → remove (set xs p r) (suc p) ≡ take p xs ++ r ∷ drop (suc (suc p)) xs
join_is p [] r h = absurd (omega arith)
join_is p (x ∷ []) r h = absurd (omega arith)
join_is zero (x ∷ y ∷ xs) r h = refl
join_is (suc p) (x ∷ y ∷ xs) r h = ap (λ rest. x ∷ rest) (join_is p (y ∷ xs) r (omega arith))

-- what is known of the place at which a number is added
pub record IsPlace (xs : List Run) (at i : ℕ) : Type 0 where
  pub inside : at ≤ length xs
  pub before : StartsUpTo xs at i
  pub after : StartsAfter xs at i
  pub fresh : covers xs i ≡ false

absent : (i p : ℕ) (xs : List Run) (d : Run) → covers xs i ≡ false → p < length xs → is_in i (get_or xs p d) ≡ false
absent i p [] d none h = absurd (omega arith)
absent i zero (x ∷ xs) d none h = left (is_in i x) (covers xs i) none where
  left : (a b : Bool) → (a || b) ≡ false → a ≡ false
  left false b e = refl
  left true b e = cc
absent i (suc p) (x ∷ xs) d none h = absent i p xs d (right (is_in i x) (covers xs i) none) (omega arith) where
  right : (a b : Bool) → (a || b) ≡ false → b ≡ false
  right false b e = e
  right true b e = cc

out_then_past : (i : ℕ) (r : Run) → is_in i r ≡ false → r.start ≤ i → r.end ≤ i
out_then_past i r e le = grind (arith, nat_tests)

low_free : (at i : ℕ) (xs : List Run) → IsPlace xs at i → EndsElsewhere xs at i → low_at 0 at xs ≤ i
low_free zero i xs place apart = omega arith
low_free (suc p) i xs place apart =
    let long = place.inside in
    let past : (get_or xs p nowhere).end ≤ i = out_then_past i (get_or xs p nowhere) (absent i p xs nowhere place.fresh (omega arith)) (place.before p nowhere (omega arith)) in
    let other : (get_or xs p nowhere).end ≢ i = apart p nowhere (omega arith) in
    let low : low_at 0 (suc p) xs ≡ (get_or xs p nowhere).end + 1 = low_after 0 p xs nowhere (omega arith) in
    omega arith

next_free : (n at i : ℕ) (xs : List Run) → i < n → IsPlace xs at i → StartsElsewhere xs at (i + 1) → i + 1 + 1 ≤ next_start n (drop at xs)
next_free n at i xs below place apart = by (cases_lt at (length xs)) where
  by : (at < length xs) ⊎ (length xs ≤ at) → i + 1 + 1 ≤ next_start n (drop at xs)
  by (inl h) =
      let there : next_start n (drop at xs) ≡ (get_or xs at nowhere).start = next_there n at xs nowhere h in
      let later : i < (get_or xs at nowhere).start = place.after nowhere h in
      let other : (get_or xs at nowhere).start ≢ i + 1 = apart nowhere h in
      omega arith
  by (inr h) = let none : next_start n (drop at xs) ≡ n + 1 = next_none n at xs h in omega arith

one_alone : (i j : ℕ) → is_in j (record { start = i; end = i + 1 }) ≡ (i == j || false)
one_alone i j = grind (arith, nat_tests)

one_at_end : (i j : ℕ) (a : Run) → a.start < a.end → a.end ≡ i → is_in j (record { start = a.start; end = i + 1 }) ≡ (i == j || (is_in j a || false))
one_at_end i j a some e = grind (arith, nat_tests)

one_at_start : (i j : ℕ) (b : Run) → b.start < b.end → b.start ≡ i + 1 → is_in j (record { start = i; end = b.end }) ≡ (i == j || (is_in j b || false))
one_at_start i j b some e = grind (arith, nat_tests)

one_between : (i j : ℕ) (a b : Run) → a.start < a.end → b.start < b.end → a.end ≡ i → b.start ≡ i + 1
    → is_in j (record { start = a.start; end = b.end }) ≡ (i == j || (is_in j a || (is_in j b || false)))
one_between i j a b some more e f = grind (arith, nat_tests)

pub added_alone : (xs : List Run) (at i : ℕ) → IsPlace xs at i → EndsElsewhere xs at i → StartsElsewhere xs at (i + 1) → IsAdded xs (insert xs at (record { start = i; end = i + 1 })) i
added_alone xs at i place before after = record {
  apart = λ n apart below. apart_with 0 n at at xs (record { start = i; end = i + 1 }) apart (omega arith) (low_free at i xs place before) (omega arith) (next_free n at i xs below place after);
  covered = covers_with i at at xs [] (record { start = i; end = i + 1 }) (sym (take-append-drop at xs)) (one_alone i);
}

pub added_left : (k : ℕ) (xs : List Run) (p i : ℕ) (d : Run) → AreApart 0 xs k → IsPlace xs (suc p) i → (get_or xs p d).end ≡ i → StartsElsewhere xs (suc p) (i + 1)
    → IsAdded xs (set xs p (record { start = (get_or xs p d).start; end = i + 1 })) i
added_left k xs p i d apart place ends after =
    let r : Run = record { start = (get_or xs p d).start; end = i + 1 } in
    let long = place.inside in
    let some = (fits_at 0 k p xs d apart (omega arith)).some in
    subst (λ ys. IsAdded xs ys i) (sym (set_is p xs r (omega arith))) (record {
      apart = λ n apart below. let fits = fits_at 0 n p xs d apart (omega arith) in apart_with 0 n p (suc p) xs r apart (omega arith) fits.low (omega arith) (next_free n (suc p) i xs below place after);
      covered = covers_with i p (suc p) xs (get_or xs p d ∷ []) r (cut_one p xs d (omega arith)) (λ j. one_at_end i j (get_or xs p d) some ends);
    })

pub added_right : (k : ℕ) (xs : List Run) (at i : ℕ) (d : Run) → AreApart 0 xs k → IsPlace xs at i → at < length xs → (get_or xs at d).start ≡ i + 1 → EndsElsewhere xs at i
    → IsAdded xs (set xs at (record { start = i; end = (get_or xs at d).end })) i
added_right k xs at i d apart place long starts before =
    let r : Run = record { start = i; end = (get_or xs at d).end } in
    let some = (fits_at 0 k at xs d apart long).some in
    subst (λ ys. IsAdded xs ys i) (sym (set_is at xs r long)) (record {
      apart = λ n apart below. let fits = fits_at 0 n at xs d apart long in apart_with 0 n at (suc at) xs r apart (omega arith) (low_free at i xs place before) (omega arith) fits.next;
      covered = covers_with i at (suc at) xs (get_or xs at d ∷ []) r (cut_one at xs d long) (λ j. one_at_start i j (get_or xs at d) some starts);
    })

pub added_both : (k : ℕ) (xs : List Run) (p i : ℕ) (d e : Run) → AreApart 0 xs k → suc p < length xs → (get_or xs p d).end ≡ i → (get_or xs (suc p) e).start ≡ i + 1
    → IsAdded xs (remove (set xs p (record { start = (get_or xs p d).start; end = (get_or xs (suc p) e).end })) (suc p)) i
added_both k xs p i d e apart long ends starts =
    let r : Run = record { start = (get_or xs p d).start; end = (get_or xs (suc p) e).end } in
    let some = (fits_at 0 k p xs d apart (omega arith)).some in
    let more = (fits_at 0 k (suc p) xs e apart long).some in
    subst (λ ys. IsAdded xs ys i) (sym (join_is p xs r long)) (record {
      apart = λ n apart below. let fits = fits_at 0 n p xs d apart (omega arith) in let fits_next = fits_at 0 n (suc p) xs e apart long in
          apart_with 0 n p (suc (suc p)) xs r apart (omega arith) fits.low (omega arith) fits_next.next;
      covered = covers_with i p (suc (suc p)) xs (get_or xs p d ∷ get_or xs (suc p) e ∷ []) r (cut_two p xs d e long) (λ j. one_between i j (get_or xs p d) (get_or xs (suc p) e) some more ends starts);
    })

-- ---- the same at the spot that the code finds

pub alone_of : (left right : Bool) → left ≡ true → ((left ≡ true) × (right ≡ false)) ⊎ (left ≡ false) → right ≡ false
alone_of left right is (inl h) = h.1
alone_of left right is (inr h) = both is h

place_of : (xs : List Run) (at i : ℕ) (left right : Bool) → IsSpot xs i at left right → covers xs i ≡ false → IsPlace xs at i
place_of xs at i left right spot fresh = record { inside = spot.inside; before = spot.before; after = spot.after; fresh = fresh }

pub alone_at : (xs : List Run) (at i : ℕ) (left right : Bool) → IsSpot xs i at left right → covers xs i ≡ false → left ≡ false → right ≡ false → IsAdded xs (insert xs at (record { start = i; end = i + 1 })) i
alone_at xs at i left right spot fresh apart none = added_alone xs at i (place_of xs at i left right spot fresh) (spot.left_not apart) (spot.right_not none)

pub left_at : (k : ℕ) (xs : List Run) (at i : ℕ) (left right : Bool) (a : Run) → AreApart 0 xs k → IsSpot xs i at left right → covers xs i ≡ false → left ≡ true → right ≡ false → a ≡ get_or xs (at - 1) a
    → IsAdded xs (set xs (at - 1) (record { start = a.start; end = i + 1 })) i
left_at k xs at i left right a apart spot fresh touches none is =
    let ends = spot.left_is touches a in
    let positive = ends.0 in
    let next : at ≡ suc (at - 1) = omega arith in
    let place : IsPlace xs (suc (at - 1)) i = subst (λ n. IsPlace xs n i) next (place_of xs at i left right spot fresh) in
    let after : StartsElsewhere xs (suc (at - 1)) (i + 1) = subst (λ n. StartsElsewhere xs n (i + 1)) next (spot.right_not none) in
    subst (λ (b : Run). IsAdded xs (set xs (at - 1) (record { start = b.start; end = i + 1 })) i) (sym is) (added_left k xs (at - 1) i a apart place ends.1 after)

pub right_at : (k : ℕ) (xs : List Run) (at i : ℕ) (left right : Bool) (b : Run) → AreApart 0 xs k → IsSpot xs i at left right → covers xs i ≡ false → left ≡ false → right ≡ true → b ≡ get_or xs at b
    → IsAdded xs (set xs at (record { start = i; end = b.end })) i
right_at k xs at i left right b apart spot fresh none touches is =
    let starts = spot.right_is touches b in
    subst (λ (a : Run). IsAdded xs (set xs at (record { start = i; end = a.end })) i) (sym is) (added_right k xs at i b apart (place_of xs at i left right spot fresh) starts.0 starts.1 (spot.left_not none))

pub both_at : (k : ℕ) (xs : List Run) (at i : ℕ) (left right : Bool) (a b : Run) → AreApart 0 xs k → IsSpot xs i at left right → left ≡ true → right ≡ true → a ≡ get_or xs (at - 1) a → b ≡ get_or xs at b
    → IsAdded xs (remove (set xs (at - 1) (record { start = a.start; end = b.end })) at) i
both_at k xs at i left right a b apart spot touches too is is_next =
    let ends = spot.left_is touches a in
    let starts = spot.right_is too b in
    let positive = ends.0 in
    let next : at ≡ suc (at - 1) = omega arith in
    let both = added_both k xs (at - 1) i a b apart (subst (λ n. n < length xs) next starts.0) ends.1 (subst (λ n. (get_or xs n b).start ≡ i + 1) next starts.1) in
    let here = subst (λ n. IsAdded xs (remove (set xs (at - 1) (record { start = (get_or xs (at - 1) a).start; end = (get_or xs n b).end })) n) i) (sym next) both in
    let one = subst (λ (y : Run). IsAdded xs (remove (set xs (at - 1) (record { start = (get_or xs (at - 1) a).start; end = y.end })) at) i) (sym is_next) here in
    subst (λ (x : Run). IsAdded xs (remove (set xs (at - 1) (record { start = x.start; end = b.end })) at) i) (sym is) one

-- ---- the least number from one on that is not there

out_at_end : (r : Run) → is_in r.end r ≡ false
out_at_end r = grind (arith, nat_tests)

is_inside : (j : ℕ) (r : Run) → r.start ≤ j → j < r.end → is_in j r ≡ true
is_inside j r low high = grind (arith, nat_tests)

in_run : (j p : ℕ) (xs : List Run) (d : Run) → p < length xs → (get_or xs p d).start ≤ j → j < (get_or xs p d).end → covers xs j ≡ true
in_run j p [] d h low high = absurd (omega arith)
in_run j zero (x ∷ xs) d h low high = ap (λ b. b || covers xs j) (is_inside j x low high)
in_run j (suc p) (x ∷ xs) d h low high = ap (λ b. is_in j x || b) (in_run j p xs d (omega arith) low high) ∙ or_true (is_in j x) where
  or_true : (b : Bool) → (b || true) ≡ true
  or_true true = refl
  or_true false = refl

end_is_free : (n p : ℕ) (xs : List Run) (d : Run) → AreApart 0 xs n → p < length xs → covers xs (get_or xs p d).end ≡ false
end_is_free n p xs d apart h =
    let fits = fits_at 0 n p xs d apart h in
    let some = fits.some in
    let next = fits.next in
    held_before (get_or xs p d).end n p xs d apart h (omega arith) (λ e b. let there : next_start n (drop (suc p) xs) ≡ (get_or xs (suc p) e).start = next_there n (suc p) xs e b in omega arith)
    ∙ out_at_end (get_or xs p d)

-- the run before the place where a number is looked for
pub none_held : (i n at : ℕ) (xs : List Run) → AreApart 0 xs n → StartsAfter xs at i → at ≡ 0 → covers xs i ≡ false
none_held i n at xs apart after is = held_first i n xs nowhere apart (subst (λ m. StartsAfter xs m i) is after)

pub free_at_end : (n at : ℕ) (xs : List Run) → AreApart 0 xs n → 0 < at → at ≤ length xs → covers xs (get_or xs (at - 1) nowhere).end ≡ false
free_at_end n at xs apart some inside = end_is_free n (at - 1) xs nowhere apart (omega arith)

pub held_from : (i j at : ℕ) (xs : List Run) → StartsUpTo xs at i → 0 < at → at ≤ length xs → i ≤ j → j < (get_or xs (at - 1) nowhere).end → covers xs j ≡ true
held_from i j at xs before some inside low high = let start = before (at - 1) nowhere (omega arith) in in_run j (at - 1) xs nowhere (omega arith) (omega arith) high

pub free_past_end : (i n at : ℕ) (xs : List Run) → AreApart 0 xs n → StartsUpTo xs at i → StartsAfter xs at i → 0 < at → at ≤ length xs → (get_or xs (at - 1) nowhere).end ≤ i → covers xs i ≡ false
free_past_end i n at xs apart before after some inside past =
    let next : at ≡ suc (at - 1) = omega arith in
    held_before i n (at - 1) xs nowhere apart (omega arith) (before (at - 1) nowhere (omega arith)) (subst (λ m. StartsAfter xs m i) next after) ∙ out_above i (get_or xs (at - 1) nowhere) past
