-- Totals by key.
--     eq-sym              which of two keys is compared with the other does not matter
--     add_within          a total stays near 0 where one amount more is added
--     total-fold          the total of a key, after records were added
--     has-fold            the keys that are there, after records were added
--     fold-count, fold-once      each key is there once
use Rattle.std.proofs.Common.{pos, unwrap_or, ◌<◌, ◌≡◌, ℕ, ◌+◌, ◌*◌, ◌^◌, ◌≤◌, min, Bool, true, false, cond, ◌||◌, List, [], ◌∷◌, map, refl, sym, ap, ◌∙◌, subst, arith, filter, fold, bytes_eq, ℤ, ◌+ℤ◌, is_some, Some, negsuc}
use Rattle.std.proofs.lemmas.Int.{ints, to_z-of_z}
use mir.Val.{SFits, to_z, of_z}
use mir.Syntax.{w64, w128}
use Rattle.std.specs.Map.{keys_of, lookup, set_value}
use Rattle.std.proofs.lemmas.List.Sums.{sum_by-cons}
use Rattle.indexmap.specs.IndexMap.{insert_entry}
use Rattle.tez_lists.proofs.Cases.{cases, both}
use Rattle.tez_record.specs.Field.{key}
use Rattle.tez_record.proofs.BagLemmas.{count, same_record, same_itself}
use Rattle.tez_values.specs.Heads.{is_among, has_key}
use Rattle.tez_operators.specs.declared.totals.Amount.{Amount}
use Rattle.tez_operators.specs.Totals.{total_of, amount_of, add_entry, add_record, IsWithin}

pub eq-sym : (a b : List ℕ) → bytes_eq a b ≡ bytes_eq b a
eq-sym a b = cases (bytes_eq a b)
    (λ e. e ∙ sym (subst (λ x. bytes_eq x a ≡ true) (same_record a b e) (same_itself a)))
    (λ e. cases (bytes_eq b a)
    (λ f. both (subst (λ x. bytes_eq x b ≡ true) (same_record b a f) (same_itself b)) e)
    (λ f. e ∙ sym f))

-- keys that are equal to one key are equal in each test
pub eq-same : (q a b : List ℕ) → bytes_eq a b ≡ true → bytes_eq q a ≡ bytes_eq q b
eq-same q a b e = ap (bytes_eq q) (same_record a b e)

-- a key that equals b does not equal what b does not equal
pub eq-apart : (q a b : List ℕ) → bytes_eq q b ≡ true → bytes_eq a b ≡ false → bytes_eq a q ≡ false
eq-apart q a b e f = ap (bytes_eq a) (same_record q b e) ∙ f

-- ---- how far totals are from 0

pub i64_within : (z : ℤ) → SFits w64 z → IsWithin (2 ^ 63) z
i64_within z f = record { low = omega (arith, ints); high = omega (arith, ints) }

pub wider : (a b : ℕ) (z : ℤ) → a ≤ b → IsWithin a z → IsWithin b z
wider a b z h w = record { low = omega (arith, ints); high = omega (arith, ints) }

pub sum_within : (a b : ℕ) (x y : ℤ) → IsWithin a x → IsWithin b y → IsWithin (a + b) (x +ℤ y)
sum_within a b x y h k = record { low = omega (arith, ints); high = omega (arith, ints) }

within_fits : (n : ℕ) (z : ℤ) → n < 2 ^ 127 → IsWithin n z → SFits w128 z
within_fits n (pos k) low h = record { sfits = omega (arith, ints) }
within_fits n (negsuc k) low h = record { sfits = omega (arith, ints) }

-- a sum that is not far from 0 is an i128
pub sum_fits : (a : ℕ) (x y : ℤ) → a ≤ 2 ^ 126 → IsWithin a x → SFits w64 y → SFits w128 (x +ℤ y)
sum_fits a x y low h f = within_fits (a + 2 ^ 63) (x +ℤ y) (omega arith) (sum_within a (2 ^ 63) x y h (i64_within y f))

-- what is written of a sum of such numbers is the sum
pub sum_written : (x y z : ℤ) → SFits w128 x → SFits w128 y → SFits w64 z → y ≡ to_z w64 (of_z w64 z) → IsWithin (2 ^ 126) x → to_z w128 (of_z w128 (to_z w128 (of_z w128 x) +ℤ to_z w128 (of_z w128 y))) ≡ x +ℤ z
sum_written x y z f g h e within =
    let wide : to_z w128 (of_z w128 y) ≡ z = to_z-of_z w128 y g ∙ e ∙ to_z-of_z w64 z h in
    (λ i. to_z w128 (of_z w128 (to_z-of_z w128 x f i +ℤ wide i))) ∙ to_z-of_z w128 (x +ℤ z) (sum_fits (2 ^ 126) x z (omega arith) within h)

-- a total of the next number of records
pub add_within : (done more : ℕ) (k q : List ℕ) (es now : List (List ℕ × ℤ)) (n : ℤ) → done + 1 ≤ more → IsWithin (2 ^ 63) n → ((p : List ℕ) → IsWithin (2 ^ 63 * done) (total_of es p))
    → total_of now q ≡ cond (bytes_eq k q) (total_of es k +ℤ n) (total_of es q) → IsWithin (2 ^ 63 * more) (total_of now q)
add_within done more k q es now n steps small within e = cases (bytes_eq k q)
    (λ t.
    let is : total_of now q ≡ total_of es k +ℤ n = e ∙ ap (λ b. cond b (total_of es k +ℤ n) (total_of es q)) t in
    subst (IsWithin (2 ^ 63 * more)) (sym is) (wider (2 ^ 63 * done + 2 ^ 63) (2 ^ 63 * more) (total_of es k +ℤ n) (omega arith) (sum_within (2 ^ 63 * done) (2 ^ 63) (total_of es k) n (within k) small)))
    (λ t.
    let is : total_of now q ≡ total_of es q = e ∙ ap (λ b. cond b (total_of es k +ℤ n) (total_of es q)) t in
    subst (IsWithin (2 ^ 63 * more)) (sym is) (wider (2 ^ 63 * done) (2 ^ 63 * more) (total_of es q) (omega arith) (within q)))

-- ---- what is at a key

pub total-insert : (es : List (List ℕ × ℤ)) (k q : List ℕ) (v : ℤ) → total_of (insert_entry bytes_eq es k v) q ≡ cond (bytes_eq k q) v (total_of es q)
total-insert [] k q v = cases (bytes_eq k q)
    (λ e. rw (eq-sym q k, e) refl)
    (λ e. rw (eq-sym q k, e) refl)
total-insert (e ∷ es) k q v = cases (bytes_eq k e.0)
    (λ a. cases (bytes_eq k q)
    (λ b. let here : bytes_eq q e.0 ≡ true = sym (eq-same q k e.0 a) ∙ eq-sym q k ∙ b in rw (a, here, b) refl)
    (λ b. let apart : bytes_eq q e.0 ≡ false = sym (eq-same q k e.0 a) ∙ eq-sym q k ∙ b in rw (a, apart, b) refl))
    (λ a. cases (bytes_eq q e.0)
    (λ b. let apart : bytes_eq k q ≡ false = eq-apart q k e.0 b a in rw (a, b, apart) refl)
    (λ b. rw (a, b) (total-insert es k q v)))

-- where a key is there, its value changes in place
put_there : (es : List (List ℕ × ℤ)) (k : List ℕ) (total v : ℤ) → Some total ≡ lookup (bytes_eq k) es → set_value (bytes_eq k) es v ≡ insert_entry bytes_eq es k v
put_there [] k total v there = cc
put_there (e ∷ es) k total v there = cases (bytes_eq k e.0)
    (λ a. rw a refl)
    (λ a. rw a (ap (λ rest. e ∷ rest) (put_there es k total v (there ∙ ap (λ b. cond b (Some e.1) (lookup (bytes_eq k) es)) a))))

pub added_there : (es now : List (List ℕ × ℤ)) (k : List ℕ) (total amount v : ℤ) → now ≡ set_value (bytes_eq k) es v → Some total ≡ lookup (bytes_eq k) es → v ≡ total +ℤ amount → now ≡ add_entry es k amount
added_there es now k total amount v written there sum =
    written ∙ put_there es k total v there ∙ ap (insert_entry bytes_eq es k) (sum ∙ ap (λ o. unwrap_or o (pos 0) +ℤ amount) there)

pub total-fold : (cols : List ℕ) (amount : Amount) (rs : List (List ℕ)) (es : List (List ℕ × ℤ)) (k : List ℕ)
    → total_of (fold (add_record cols amount) es rs) k ≡ fold (λ n r. n +ℤ amount_of amount r) (total_of es k) (filter (has_key cols k) rs)
total-fold cols amount [] es k = refl
total-fold cols amount (r ∷ rs) es k =
    let own = key cols r in
    let now = total_of es own +ℤ amount_of amount r in
    let sums = λ (start : ℤ). fold (λ n r. n +ℤ amount_of amount r) start (filter (has_key cols k) rs) in
    let rest = total-fold cols amount rs (add_record cols amount es r) k in
    let here : total_of (add_record cols amount es r) k ≡ cond (bytes_eq own k) now (total_of es k) = total-insert es own k now in
    cases (bytes_eq k own)
    (λ e.
    let is : total_of (add_record cols amount es r) k ≡ total_of es k +ℤ amount_of amount r =
    here ∙ ap (λ b. cond b now (total_of es k)) (eq-sym own k ∙ e) ∙ ap (λ x. total_of es x +ℤ amount_of amount r) (sym (same_record k own e)) in
    rw e (rest ∙ ap sums is))
    (λ e.
    let is : total_of (add_record cols amount es r) k ≡ total_of es k = here ∙ ap (λ b. cond b now (total_of es k)) (eq-sym own k ∙ e) in
    rw e (rest ∙ ap sums is))

-- ---- which keys are there

has : List (List ℕ × ℤ) → List ℕ → Bool
has es k = is_some (lookup (bytes_eq k) es)

has-insert : (es : List (List ℕ × ℤ)) (k q : List ℕ) (v : ℤ) → has (insert_entry bytes_eq es k v) q ≡ bytes_eq q k || has es q
unfolding has
has-insert [] k q v = cases (bytes_eq q k) (λ e. rw e refl) (λ e. rw e refl)
has-insert (e ∷ es) k q v = cases (bytes_eq k e.0)
    (λ a. cases (bytes_eq q k)
    (λ b. let here : bytes_eq q e.0 ≡ true = sym (eq-same q k e.0 a) ∙ b in rw (a, here, b) refl)
    (λ b. let apart : bytes_eq q e.0 ≡ false = sym (eq-same q k e.0 a) ∙ b in rw (a, apart, b) refl))
    (λ a. cases (bytes_eq q e.0)
    (λ b. let apart : bytes_eq q k ≡ false = eq-sym q k ∙ eq-apart q k e.0 b a in rw (a, b, apart) refl)
    (λ b. rw (a, b) (has-insert es k q v)))

swap : (a b c : Bool) → (a || b) || c ≡ b || (a || c)
swap true true c = refl
swap true false c = refl
swap false b c = refl

has-all : (cols : List ℕ) (amount : Amount) (rs : List (List ℕ)) (es : List (List ℕ × ℤ)) (k : List ℕ) → has (fold (add_record cols amount) es rs) k ≡ has es k || is_among (map (key cols) rs) k
unfolding has
has-all cols amount [] es k = none (has es k)
  where
    none : (b : Bool) → b ≡ b || false
    none true = refl
    none false = refl
has-all cols amount (r ∷ rs) es k =
    has-all cols amount rs (add_record cols amount es r) k
    ∙ ap (λ b. b || is_among (map (key cols) rs) k) (has-insert es (key cols r) k (total_of es (key cols r) +ℤ amount_of amount r))
    ∙ swap (bytes_eq k (key cols r)) (has es k) (is_among (map (key cols) rs) k)

-- a key is there where it is a record's
pub has-fold : (cols : List ℕ) (amount : Amount) (rs : List (List ℕ)) (k : List ℕ) → is_some (lookup (bytes_eq k) (fold (add_record cols amount) [] rs)) ≡ is_among (map (key cols) rs) k
unfolding has
has-fold cols amount rs k = has-all cols amount rs [] k

-- ---- how often they are there

unfoldable pub one_if : List ℕ → List ℕ → ℕ
one_if q k = cond (bytes_eq q k) 1 0

pub count-cons : (q k : List ℕ) (ks : List (List ℕ)) → count q (k ∷ ks) ≡ one_if q k + count q ks
unfolding one_if
count-cons q k ks = sum_by-cons (λ s. cond (bytes_eq q s) 1 0) k ks

pub one_if-same : (q a b : List ℕ) → bytes_eq a b ≡ true → one_if q a ≡ one_if q b
unfolding one_if
one_if-same q a b e = ap (λ x. cond (bytes_eq q x) 1 0) (same_record a b e)

pub one_if-most : (q k : List ℕ) → one_if q k ≤ 1
unfolding one_if
one_if-most q k = cases (bytes_eq q k) (λ e. rw e (omega arith)) (λ e. rw e (omega arith))

-- of two keys that differ, q is one at most
pub one_if-apart : (q a b : List ℕ) → bytes_eq a b ≡ false → one_if q a + one_if q b ≤ 1
unfolding one_if
one_if-apart q a b f = cases (bytes_eq q b)
    (λ e. let apart : bytes_eq q a ≡ false = eq-sym q a ∙ eq-apart q a b e f in rw (apart, e) (omega arith))
    (λ e. cases (bytes_eq q a) (λ g. rw (g, e) (omega arith)) (λ g. rw (g, e) (omega arith)))

pub insert-count : (es : List (List ℕ × ℤ)) (k q : List ℕ) (v : ℤ) → min 1 (count q (keys_of (insert_entry bytes_eq es k v))) ≡ min 1 (one_if q k + count q (keys_of es))
insert-count [] k q v = ap (min 1) (count-cons q k [])
insert-count (e ∷ es) k q v =
    let old = count-cons q e.0 (keys_of es) in
    cases (bytes_eq k e.0)
    (λ a. let same = one_if-same q k e.0 a in rw a (omega arith))
    (λ a.
    let rest = insert-count es k q v in
    let new = count-cons q e.0 (keys_of (insert_entry bytes_eq es k v)) in
    rw a (omega arith))

-- no key is there twice
abbrev pub AllOnce : List (List ℕ × ℤ) → Type 0
AllOnce es = (q : List ℕ) → count q (keys_of es) ≤ 1

pub insert-once : (es : List (List ℕ × ℤ)) (k : List ℕ) (v : ℤ) → AllOnce es → AllOnce (insert_entry bytes_eq es k v)
insert-once [] k v once q = let new = count-cons q k [] in let most = one_if-most q k in omega arith
insert-once (e ∷ es) k v once q =
    let here = once q in
    let old = count-cons q e.0 (keys_of es) in
    cases (bytes_eq k e.0)
    (λ a. rw a here)
    (λ a.
    let new = count-cons q e.0 (keys_of (insert_entry bytes_eq es k v)) in
    let rest : count q (keys_of (insert_entry bytes_eq es k v)) ≤ 1 = insert-once es k v (λ p. let at = once p in let more = count-cons p e.0 (keys_of es) in omega arith) q in
    let few = insert-count es k q v in
    let apart = one_if-apart q k e.0 a in
    rw a (omega arith))

pub fold-count : (cols : List ℕ) (amount : Amount) (rs : List (List ℕ)) (es : List (List ℕ × ℤ)) (q : List ℕ)
    → min 1 (count q (keys_of (fold (add_record cols amount) es rs))) ≡ min 1 (count q (keys_of es) + count q (map (key cols) rs))
fold-count cols amount [] es q = let none : count q (keys_of es) + 0 ≡ count q (keys_of es) = omega arith in ap (min 1) (sym none)
fold-count cols amount (r ∷ rs) es q =
    let rest = fold-count cols amount rs (add_record cols amount es r) q in
    let here = insert-count es (key cols r) q (total_of es (key cols r) +ℤ amount_of amount r) in
    let more = count-cons q (key cols r) (map (key cols) rs) in
    omega arith

pub fold-once : (cols : List ℕ) (amount : Amount) (rs : List (List ℕ)) (es : List (List ℕ × ℤ)) → AllOnce es → AllOnce (fold (add_record cols amount) es rs)
fold-once cols amount [] es once = once
fold-once cols amount (r ∷ rs) es once = fold-once cols amount rs (add_record cols amount es r) (insert-once es (key cols r) (total_of es (key cols r) +ℤ amount_of amount r) once)
