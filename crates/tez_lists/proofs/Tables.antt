-- Lists of values by number.
use Rattle.std.specs.Prelude.{◌≡◌, ℕ, zero, suc, ◌+◌, ◌<◌, ◌≤◌, Bool, true, false, ◌==◌, if◌then◌else◌, List, [], ◌∷◌, map, slice_get, slice_set, ◌++◌, length, take, drop, Some, None, unwrap_or, ◌&&◌, ◌||◌, ◌⊎◌, ◌≢◌, refl}
use Rattle.std.specs.List.{list_any}
use Rattle.std.proofs.Common.{ap, sym, ◌∙◌, arith, subst, add-zero, zero-add, set, get_or, inl, inr, eqb, append_assoc, length-take}
use Rattle.std.proofs.lemmas.List.{take_more, drop_more, get_or_at, set_at}
use Rattle.std.proofs.lemmas.Bool.Decides.{eqb_tells}
use Rattle.std.proofs.lemmas.Bool.Decides.{nat_tests}
use Rattle.std.proofs.lemmas.Option.{same_Some}
use Rattle.std.proofs.lemmas.Bool.{cases_lt}
use Rattle.std.proofs.Math.Seq.{take-append_seam}
use Rattle.tez_lists.specs.Numbers.{numbers_from}
use Rattle.tez_lists.specs.Tables.{each_from, table, set_in}

nat_tells : (a b : ℕ) → (a ≡ b) ⊎ (a ≢ b)
nat_tells a b = by (eqb_tells a b) where
  by : ((eqb a b ≡ true) × (a ≡ b)) ⊎ ((eqb a b ≡ false) × (a ≢ b)) → (a ≡ b) ⊎ (a ≢ b)
  by (inl e) = inl e.1
  by (inr e) = inr e.1

pub map_below : {X : Type 0} (f h : ℕ → X) (n k : ℕ) → ((p : ℕ) → n ≤ p → p < n + k → f p ≡ h p) → map f (numbers_from n k) ≡ map h (numbers_from n k)
map_below f h n zero same = refl
map_below f h n (suc k) same =
    let here : f n ≡ h n = same n (omega arith) (omega arith) in
    let rest : map f (numbers_from (suc n) k) ≡ map h (numbers_from (suc n) k) = map_below f h (suc n) k (λ p l b. same p (omega arith) (omega arith)) in
    cc

pub map_each : {X Y : Type 0} (f : X → Y) (h : ℕ → X) (n k : ℕ) → map f (map h (numbers_from n k)) ≡ map (λ p. f (h p)) (numbers_from n k)
map_each f h n zero = refl
map_each f h n (suc k) = ap (λ xs. f (h n) ∷ xs) (map_each f h (suc n) k)

pub each_each : {X Y : Type 0} (f : ℕ → X → Y) (h : ℕ → X) (n k : ℕ) → each_from n f (map h (numbers_from n k)) ≡ map (λ p. f p (h p)) (numbers_from n k)
each_each f h n zero = refl
each_each f h n (suc k) = ap (λ xs. f n (h n) ∷ xs) (each_each f h (suc n) k)

pub get_each : {X : Type 0} (h : ℕ → X) (n k p : ℕ) → p < k → slice_get (map h (numbers_from n k)) p ≡ Some (h (n + p))
get_each h n zero p b = absurd (omega arith)
get_each h n (suc k) zero b = rw (add-zero n) refl
get_each h n (suc k) (suc p) b = let e : suc n + p ≡ n + suc p = omega arith in let r = get_each h (suc n) k p (omega arith) in subst (λ m. slice_get (map h (numbers_from n (suc k))) (suc p) ≡ Some (h m)) e r

pub if_same : {X : Type 0} (b c : ℕ) (x y : X) → b ≡ c → (if b == c then x else y) ≡ x
if_same b c x y h = grind (arith, nat_tests)

pub if_other : {X : Type 0} (b c : ℕ) (x y : X) → (b ≡ c → ⊥) → (if b == c then x else y) ≡ y
if_other b c x y h = grind (arith, nat_tests)

pub set_each : {X : Type 0} (h : ℕ → X) (x : X) (n k p : ℕ) → slice_set (map h (numbers_from n k)) p x ≡ map (λ q. if (n + p) == q then x else h q) (numbers_from n k)
set_each h x n zero p = refl
set_each h x n (suc k) zero =
    let here = if_same (n + 0) n x (h n) (omega arith) in
    let rest = map_below h (λ q. if (n + 0) == q then x else h q) (suc n) k (λ q l b. sym (if_other (n + 0) q x (h q) (λ e. omega arith))) in
    cc
set_each h x n (suc k) (suc p) =
    let here = if_other (n + suc p) n x (h n) (λ e. omega arith) in
    let rest = set_each h x (suc n) k p in
    let same = map_below (λ q. if (suc n + p) == q then x else h q) (λ q. if (n + suc p) == q then x else h q) (suc n) k (λ q l b. ap (λ m. if m == q then x else h q) (omega arith)) in
    cc

or_true : (a b : Bool) → b ≡ true → (a || b) ≡ true
or_true a b h = grind arith

or_left : (a b : Bool) → a ≡ true → (a || b) ≡ true
or_left a b h = grind arith

pub any_each : {X : Type 0} (t : X → Bool) (h : ℕ → X) (n k p : ℕ) → n ≤ p → p < n + k → t (h p) ≡ true → list_any t (map h (numbers_from n k)) ≡ true
any_each t h n zero p l b e = absurd (omega arith)
any_each t h n (suc k) p l b e = any_by (nat_tells n p) (any_each t h (suc n) k p) where
  any_by : ((n ≡ p) ⊎ (n ≢ p)) → (suc n ≤ p → p < suc n + k → t (h p) ≡ true → list_any t (map h (numbers_from (suc n) k)) ≡ true) → list_any t (map h (numbers_from n (suc k))) ≡ true
  any_by (inl s) ih = or_left (t (h n)) (list_any t (map h (numbers_from (suc n) k))) (subst (λ m. t (h m) ≡ true) (sym s) e)
  any_by (inr s) ih = or_true (t (h n)) (list_any t (map h (numbers_from (suc n) k))) (ih (omega arith) (omega arith) e)

-- ---- a loop over elements with their numbers

pub each-append : {X Y : Type 0} (f : ℕ → X → Y) (n : ℕ) (xs ys : List X) → each_from n f (xs ++ ys) ≡ each_from n f xs ++ each_from (n + length xs) f ys
each-append f n [] ys = rw (add-zero n) refl
each-append f n (x ∷ xs) ys = let ih = each-append f (suc n) xs ys in let e : suc n + length xs ≡ n + suc (length xs) = omega arith in ap (λ zs. f n x ∷ zs) (ih ∙ ap (λ m. each_from (suc n) f xs ++ each_from m f ys) e)

pub length-each : {X Y : Type 0} (f : ℕ → X → Y) (n : ℕ) (xs : List X) → length (each_from n f xs) ≡ length xs
length-each f n [] = refl
length-each f n (x ∷ xs) = ap suc (length-each f (suc n) xs)

-- one element more
pub each_more : {X : Type 0} (f : ℕ → X → X) (xs ys : List X) (i : ℕ) (x : X) → i < length xs → ys ≡ each_from 0 f (take i xs) ++ drop i xs → x ≡ get_or ys i x
    → set ys i (f i x) ≡ each_from 0 f (take (i + 1) xs) ++ drop (i + 1) xs
each_more f xs ys i x lt h is =
    let front = each_from 0 f (take i xs) in
    let short : length (take i xs) ≡ i = omega (arith, length-take i xs) in
    let long : length front ≡ i = length-each f 0 (take i xs) ∙ short in
    let parts : ys ≡ front ++ get_or xs i x ∷ drop (i + 1) xs = h ∙ ap (λ l. front ++ l) (drop_more xs i x lt) in
    let read : x ≡ get_or xs i x = is ∙ ap (λ l. get_or l i x) parts ∙ get_or_at front (get_or xs i x) (drop (i + 1) xs) x i long in
    let more : each_from 0 f (take (i + 1) xs) ≡ front ++ f i (get_or xs i x) ∷ [] =
    ap (each_from 0 f) (take_more xs i x lt) ∙ each-append f 0 (take i xs) (get_or xs i x ∷ []) ∙ ap (λ n. front ++ f n (get_or xs i x) ∷ []) (zero-add (length (take i xs)) ∙ short) in
    ap (λ l. set l i (f i x)) parts ∙ set_at front _ _ (f i x) i long ∙ sym (append_assoc front (f i x ∷ []) (drop (i + 1) xs))
    ∙ ap (λ l. l ++ drop (i + 1) xs) (ap (λ y. front ++ f i y ∷ []) read ∙ sym more)

-- what a lent slice leaves
pub whole : {X : Type 0} (n : ℕ) (ws xs : List X) → length ws ≡ n → take n (ws ++ drop (length ws) xs) ≡ ws
whole n ws xs h = subst (λ k. take k (ws ++ drop (length ws) xs) ≡ ws) h (take-append_seam ws (drop (length ws) xs))

-- ---- a table of values by two numbers

pub row_of : {X : Type 0} (f : ℕ → ℕ → X) (size : ℕ → ℕ) (n v : ℕ) → v < n → slice_get (table f size n) v ≡ Some (map (f v) (numbers_from 0 (size v)))
row_of f size n v h = get_each (λ w. map (f w) (numbers_from 0 (size w))) 0 n v h ∙ ap (λ w. Some (map (f w) (numbers_from 0 (size w)))) (zero-add v)

pub set_table : {X : Type 0} (f h : ℕ → ℕ → X) (size : ℕ → ℕ) (n v i : ℕ) (x : X) → v < n
    → ((w j : ℕ) → (if (v == w) && (i == j) then x else f w j) ≡ h w j) → set_in (table f size n) v i x ≡ table h size n
set_table {X} f h size n v i x inside is =
    ap (λ r. slice_set (table f size n) v (slice_set (unwrap_or r []) i x)) (row_of f size n v inside)
    ∙ set_each (λ w. map (f w) (numbers_from 0 (size w))) (slice_set (map (f v) (numbers_from 0 (size v))) i x) 0 n v
    ∙ map_below (λ w. if (0 + v) == w then slice_set (map (f v) (numbers_from 0 (size v))) i x else map (f w) (numbers_from 0 (size w))) (λ w. map (h w) (numbers_from 0 (size w))) 0 n
    (λ w _ _. ap (λ m. if m == w then slice_set (map (f v) (numbers_from 0 (size v))) i x else map (f w) (numbers_from 0 (size w))) (zero-add v) ∙ at w (v == w) refl)
  where
    tells : (a b : ℕ) → (a == b) ≡ true → a ≡ b
    tells a b e = grind (arith, nat_tests)

    at : (w : ℕ) (b : Bool) → (v == w) ≡ b → (if b then slice_set (map (f v) (numbers_from 0 (size v))) i x else map (f w) (numbers_from 0 (size w))) ≡ map (h w) (numbers_from 0 (size w))
    at w true e =
        set_each (f v) x 0 (size v) i
        ∙ map_below (λ j. if (0 + i) == j then x else f v j) (h v) 0 (size v)
        (λ j _ _. ap (λ m. if m == j then x else f v j) (zero-add i) ∙ ap (λ b. if b && (i == j) then x else f v j) (sym (subst (λ y. (v == y) ≡ true) (sym (tells v w e)) e)) ∙ is v j)
        ∙ ap (λ y. map (h y) (numbers_from 0 (size y))) (tells v w e)
    at w false e = map_below (f w) (h w) 0 (size w) (λ j _ _. ap (λ b. if b && (i == j) then x else f w j) (sym e) ∙ is w j)

none_past : {X : Type 0} (f : ℕ → X) (m k i : ℕ) → k ≤ i → slice_get (map f (numbers_from m k)) i ≡ None
none_past f m zero i l = refl
none_past f m (suc k) zero l = absurd (omega arith)
none_past f m (suc k) (suc i) l = none_past f (suc m) k i (omega arith)

cell_in : {X : Type 0} (f : ℕ → X) (k i : ℕ) (x : X) → slice_get (map f (numbers_from 0 k)) i ≡ Some x → (i < k) × (x ≡ f i)
cell_in f k i x got = by (cases_lt i k) where
  by : (i < k) ⊎ (k ≤ i) → (i < k) × (x ≡ f i)
  by (inl l) = (l, same_Some x (f i) (sym got ∙ get_each f 0 k i l ∙ ap (λ m. Some (f m)) (zero-add i)))
  by (inr l) = let none = none_past f 0 k i l in cc

pub cell_of : {X : Type 0} (f : ℕ → ℕ → X) (size : ℕ → ℕ) (n v i : ℕ) (x : X) → v < n → slice_get (unwrap_or (slice_get (table f size n) v) []) i ≡ Some x → (i < size v) × (x ≡ f v i)
cell_of f size n v i x h got = cell_in (f v) (size v) i x (ap (λ r. slice_get (unwrap_or r []) i) (sym (row_of f size n v h)) ∙ got)

-- what stands in a table, and that it stands there
pub cell_there : {X : Type 0} (f : ℕ → ℕ → X) (size : ℕ → ℕ) (n v i : ℕ) (x : X) → slice_get (unwrap_or (slice_get (table f size n) v) []) i ≡ Some x → (v < n) × (i < size v) × (x ≡ f v i)
cell_there f size n v i x got = by (cases_lt v n) where
  by : (v < n) ⊎ (n ≤ v) → (v < n) × (i < size v) × (x ≡ f v i)
  by (inl l) = let r = cell_of f size n v i x l got in (l, r.0, r.1)
  by (inr l) = let none : slice_get (table f size n) v ≡ None = none_past (λ w. map (f w) (numbers_from 0 (size w))) 0 n v l in
      let no_cell : slice_get (unwrap_or (slice_get (table f size n) v) []) i ≡ None = ap (λ r. slice_get (unwrap_or r []) i) none in cc

pub table_sized : {X : Type 0} (f : ℕ → ℕ → X) (size other : ℕ → ℕ) (n : ℕ) → ((v : ℕ) → size v ≡ other v) → table f size n ≡ table f other n
table_sized f size other n s = map_below (λ v. map (f v) (numbers_from 0 (size v))) (λ v. map (f v) (numbers_from 0 (other v))) 0 n (λ v _ _. ap (λ k. map (f v) (numbers_from 0 k)) (s v))

pub table_same : {X : Type 0} (f h : ℕ → ℕ → X) (size : ℕ → ℕ) (n : ℕ) → ((v i : ℕ) → f v i ≡ h v i) → table f size n ≡ table h size n
table_same f h size n s =
    map_below (λ v. map (f v) (numbers_from 0 (size v))) (λ v. map (h v) (numbers_from 0 (size v))) 0 n (λ v _ _. map_below (f v) (h v) 0 (size v) (λ i _ _. s v i))

pub cell_get : {X : Type 0} (f : ℕ → ℕ → X) (size : ℕ → ℕ) (n v i : ℕ) → v < n → i < size v → slice_get (unwrap_or (slice_get (table f size n) v) []) i ≡ Some (f v i)
cell_get f size n v i h k = ap (λ r. slice_get (unwrap_or r []) i) (row_of f size n v h) ∙ get_each (f v) 0 (size v) i k ∙ ap (λ m. Some (f v m)) (zero-add i)
