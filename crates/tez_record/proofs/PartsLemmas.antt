-- Bags that are made of parts.
--     count-flat_map, count-filter      how often a record is in such lists
--     flat_map-same       equal bags are equal after each step that goes record by record
--     parts_whole         parts by tests, one of which each record passes, are the whole
use Rattle.std.proofs.Common.{◌≡◌, ℕ, Bool, cond, List, sym, ap, ◌∙◌, sum_by, count_by, filter, flat_map, bytes_eq}
use Rattle.tez_lists.proofs.Sums.{sum_by-flat_map, sum_by-parts}
use Rattle.tez_record.specs.Bag.{sort}
use Rattle.tez_record.proofs.BagLemmas.{count, sum_by-sort, same_bag}

-- the whole bag is the parts together
pub parts_whole : {T : Type 0} (passes : T → List ℕ → Bool) (ts : List T) (rs : List (List ℕ)) → ((r : List ℕ) → count_by (λ t. passes t r) ts ≡ 1) → sort (flat_map (λ t. filter (passes t) rs) ts) ≡ sort rs
parts_whole passes ts rs one = same_bag (flat_map (λ t. filter (passes t) rs) ts) rs (λ r. sum_by-parts passes ts rs (λ s. cond (bytes_eq r s) 1 0) one)

-- lists of one bag give one bag, record by record
pub flat_map-same : (f : List ℕ → List (List ℕ)) (xs ys : List (List ℕ)) → sort xs ≡ sort ys → sort (flat_map f xs) ≡ sort (flat_map f ys)
flat_map-same f xs ys e = same_bag (flat_map f xs) (flat_map f ys) (λ r.
    let each = λ (x : List ℕ). count r (f x) in
    let one = λ (s : List ℕ). cond (bytes_eq r s) 1 0 in
    sum_by-flat_map one f xs ∙ sym (sum_by-sort each xs) ∙ ap (sum_by each) e ∙ sum_by-sort each ys ∙ sym (sum_by-flat_map one f ys))
