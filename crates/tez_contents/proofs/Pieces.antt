-- What a task gets over one edge, input by input, is its share.
--     numbers_are      the numbers as a range
--     share_by_inputs  the pieces of the inputs together are the share
use Rattle.std.specs.Prelude.{◌≡◌, ℕ, zero, suc, ◌+◌, ◌-◌, ◌*◌, ◌/◌, ◌%◌, ◌<◌, ◌==◌, ◌&&◌, nat_lt, nat_le, Bool, true, false, cond, if◌then◌else◌, List, ◌∷◌, ◌++◌, refl}
use Rattle.std.specs.List.{filter, flat_map, range_with_len}
use Rattle.std.proofs.Common.{ap, ap₂, sym, ◌∙◌, arith, sum_by, count_by, bytes_eq}
use Rattle.std.proofs.lemmas.Bool.Decides.{nat_tests}
use Rattle.std.proofs.lemmas.List.Sums.{sum_by-cons}
use Rattle.std.proofs.Math.Arith.{digits_div, digits_mod}
use Rattle.tez_lists.specs.Numbers.{numbers_from}
use Rattle.tez_lists.proofs.Flat.{append-nil, flat-append}
use Rattle.tez_lists.proofs.Sums.{sum_by-flat_map, sum_by-filter, sum_by-ext, sum_by-swap, sum_by-cond}
use Rattle.tez_record.specs.Bag.{sort}
use Rattle.tez_record.proofs.BagLemmas.{same_bag, sum_by-sort}
use Rattle.tez_plan.specs.declared.parts.Movement.{Movement}
use Rattle.tez_plan.specs.declared.parts.Movement.TheVariants.{OneToOne, Broadcast, ScatterGather}
use Rattle.tez_partition.specs.Partition.{partition, in_partition}
use Rattle.tez_shrink.specs.Formulas.{first_of, end_of}
use Rattle.tez_values.proofs.SameLemmas.{filter-same, flat_map-each}
use Rattle.tez_shares.specs.Shares.{Config, in_share, share_over}
use Rattle.tez_shares.proofs.EdgeLemmas.{filter-flat_map}
use Rattle.tez_history.specs.Shape.{numbers_below}
use Rattle.tez_history.specs.Derived.{table_by}
use Rattle.tez_contents.specs.Contents.{Records, piece}

pub numbers_are : (a n : ℕ) → numbers_from a n ≡ range_with_len a n
numbers_are a zero = refl
numbers_are a (suc n) = let e : suc a ≡ a + 1 = omega arith in ap (λ xs. a ∷ xs) (numbers_are (suc a) n ∙ ap (λ k. range_with_len k n) e)

numbers_split : (a m k : ℕ) → numbers_from a (m + k) ≡ numbers_from a m ++ numbers_from (a + m) k
numbers_split a zero k = let e : a ≡ a + 0 = omega arith in let z : zero + k ≡ k = omega arith in ap (numbers_from a) z ∙ ap (λ x. numbers_from x k) e
numbers_split a (suc m) k =
    let e : suc a + m ≡ a + suc m = omega arith in
    let z : suc m + k ≡ suc (m + k) = omega arith in
    ap (numbers_from a) z ∙ ap (λ xs. a ∷ xs) (numbers_split (suc a) m k ∙ ap (λ x. numbers_from (suc a) m ++ numbers_from x k) e)

-- ---- one number among those of a range

-- one where the test passes, else none
abbrev pub one_if : Bool → ℕ
one_if b = cond b 1 0

one_more : (x a n : ℕ) → one_if (x == a) + one_if (nat_le (suc a) x && nat_lt x (suc a + n)) ≡ one_if (nat_le a x && nat_lt x (a + suc n))
one_more x a n = grind (arith, nat_tests)

none_there : (x a : ℕ) → 0 ≡ one_if (nat_le a x && nat_lt x (a + 0))
none_there x a = grind (arith, nat_tests)

count_at : (x a n : ℕ) → count_by (λ p. x == p) (numbers_from a n) ≡ one_if (nat_le a x && nat_lt x (a + n))
count_at x a zero = none_there x a
count_at x a (suc n) =
    sum_by-cons (λ p. cond (x == p) 1 0) a (numbers_from (suc a) n)
    ∙ ap (λ m. one_if (x == a) + m) (count_at x (suc a) n)
    ∙ one_more x a n

same_end : (x f e : ℕ) → one_if (nat_le f x && nat_lt x (f + (e - f))) ≡ one_if (nat_le f x && nat_lt x e)
same_end x f e = grind (arith, nat_tests)

-- ---- records that pass one of several tests

times_cond : (q : Bool) (n : ℕ) → one_if q * n ≡ cond q n 0
times_cond true n = omega arith
times_cond false n = omega arith

-- where a record passes as many of the tests as it passes q, those that pass are together those that pass q
filters_together : (p : ℕ → List ℕ → Bool) (q : List ℕ → Bool) (ks : List ℕ) → ((s : List ℕ) → count_by (λ k. p k s) ks ≡ one_if (q s)) → (rs : Records)
    → sort (flat_map (λ k. sort (filter (p k) rs)) ks) ≡ sort (filter q rs)
filters_together p q ks one rs = same_bag (flat_map (λ k. sort (filter (p k) rs)) ks) (filter q rs) (λ r.
    let g = λ (s : List ℕ). cond (bytes_eq r s) 1 0 in
    sum_by-flat_map g (λ k. sort (filter (p k) rs)) ks
    ∙ sum_by-ext (λ k. sum_by g (sort (filter (p k) rs))) (λ k. sum_by (λ s. cond (p k s) (g s) 0) rs) ks (λ k. sum_by-sort g (filter (p k) rs) ∙ sum_by-filter g (p k) rs)
    ∙ sum_by-swap (λ k s. cond (p k s) (g s) 0) ks rs
    ∙ sum_by-ext (λ s. sum_by (λ k. cond (p k s) (g s) 0) ks) (λ s. cond (q s) (g s) 0) rs (λ s. sum_by-cond (λ k. p k s) (g s) ks ∙ ap (λ n. n * g s) (one s) ∙ times_cond (q s) (g s))
    ∙ sym (sum_by-filter g q rs))

-- ---- inputs by sources, and for each source by partitions

module _ (each : ℕ → ℕ → Records) (first width : ℕ) where
  abbrev input : ℕ → Records
  input i = each (i / width) (first + i % width)

  in_block : (s k m : ℕ) → k + m ≡ width → flat_map input (numbers_from (s * width + k) m) ≡ flat_map (each s) (numbers_from (first + k) m)
  in_block s k zero e = refl
  in_block s k (suc m) e =
      let low : k < width = omega (arith, e) in
      let next : suc (s * width + k) ≡ s * width + suc k = omega arith in
      let next_part : first + suc k ≡ suc (first + k) = omega arith in
      let here : input (s * width + k) ≡ each s (first + k) = ap₂ (λ x y. each x (first + y)) (digits_div s low) (digits_mod s low) in
      ap₂ (λ (xs ys : Records). xs ++ ys) here
      (ap (λ x. flat_map input (numbers_from x m)) next
      ∙ in_block s (suc k) m (omega (arith, e))
      ∙ ap (λ x. flat_map (each s) (numbers_from x m)) next_part)

  blocks : (a n : ℕ) → flat_map input (numbers_from (a * width) (n * width)) ≡ flat_map (λ s. flat_map (each s) (numbers_from first width)) (numbers_from a n)
  blocks a zero = let none : zero * width ≡ 0 = omega arith in ap (λ m. flat_map input (numbers_from (a * width) m)) none
  blocks a (suc n) =
      let size : suc n * width ≡ width + n * width = omega arith in
      let start : a * width ≡ a * width + 0 = omega arith in
      let part : first + 0 ≡ first = omega arith in
      let next : a * width + width ≡ suc a * width = omega arith in
      ap (λ m. flat_map input (numbers_from (a * width) m)) size
      ∙ ap (flat_map input) (numbers_split (a * width) width (n * width))
      ∙ flat-append input (numbers_from (a * width) width) (numbers_from (a * width + width) (n * width))
      ∙ ap₂ (λ (xs ys : Records). xs ++ ys)
      (ap (λ x. flat_map input (numbers_from x width)) start ∙ in_block a 0 width (let z : 0 + width ≡ width = omega arith in z) ∙ ap (λ x. flat_map (each a) (numbers_from x width)) part)
      (ap (λ x. flat_map input (numbers_from x (n * width))) next ∙ blocks (suc a) n)

-- ---- one edge

if_below : {X : Type 0} (t n : ℕ) (x y : X) → t < n → (if nat_lt t n then x else y) ≡ x
if_below t n x y h = let e : nat_lt t n ≡ true = grind (arith, nat_tests) in ap (λ b. if b then x else y) e

-- the pieces of the inputs of task t, where the source tasks made these bags, which are together the whole
abbrev pub by_inputs : Movement → ℕ → ℕ → ℕ → ℕ → ℕ → (ℕ → Records) → Records
by_inputs m sources consumers parts base t made =
    let table = table_by m sources consumers parts base in
    flat_map (λ i. piece m parts (table.leads t i).1 (made (table.leads t i).0)) (numbers_below (if nat_lt t table.consumers then table.inputs_of t else 0))

abbrev pub has_task : Movement → ℕ → ℕ → ℕ → ℕ → ℕ → Type 0
has_task m sources consumers parts base t = t < (table_by m sources consumers parts base).consumers

pub share_by_inputs : (m : Movement) (sources consumers parts : ℕ) (c : Config) (t : ℕ) (whole : Records) (made : ℕ → Records)
    → has_task m sources consumers parts c.base t → sort (flat_map made (numbers_below sources)) ≡ sort whole
    → sort (by_inputs m sources consumers parts c.base t made) ≡ sort (share_over m parts c t whole made)
share_by_inputs OneToOne sources consumers parts c t whole made there together =
    ap (λ n. sort (flat_map (λ i. made t) (numbers_below n))) (if_below t sources 1 0 there) ∙ ap sort (append-nil (made t))
share_by_inputs Broadcast sources consumers parts c t whole made there together =
    ap (λ n. sort (flat_map made (numbers_below n))) (if_below t consumers sources 0 there) ∙ together
share_by_inputs (ScatterGather cols) sources consumers parts c t whole made there together =
    let first = first_of c.base t in
    let last = end_of parts c.base t in
    let width = last - first in
    let each = λ (s p : ℕ). sort (filter (in_partition cols parts p) (made s)) in
    let test = in_share cols parts c.base t in
    let zero_start : 0 ≡ 0 * width = omega arith in
    ap (λ n. sort (flat_map (input each first width) (numbers_below n))) (if_below t (table_by (ScatterGather cols) sources consumers parts c.base).consumers (sources * width) 0 there)
    ∙ ap (λ z. sort (flat_map (input each first width) (numbers_from z (sources * width)))) zero_start
    ∙ ap sort (blocks each first width 0 sources)
    ∙ flat_map-each (λ s. flat_map (each s) (numbers_from first width)) (λ s. filter test (made s))
    (λ s. filters_together (in_partition cols parts) test (numbers_from first width) (λ r. count_at (partition cols parts r) first width ∙ same_end (partition cols parts r) first last) (made s)) (numbers_from 0 sources)
    ∙ ap sort (sym (filter-flat_map test made (numbers_from 0 sources)))
    ∙ filter-same test (flat_map made (numbers_from 0 sources)) whole together
