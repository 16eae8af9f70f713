-- The parts of a hash partition.
--     split_whole         the parts are together the whole
use Rattle.std.proofs.Common.{◌≡◌, ℕ, ◌<◌, cond, List, sym, ap, ◌∙◌, sum_by, filter, flat_map, bytes_eq, mod-lt}
use Rattle.std.specs.List.{range_with_len}
use Rattle.std.proofs.lemmas.List.Folds.{flat_map-map}
use Rattle.tez_lists.proofs.Ranges.{one_in_range}
use Rattle.tez_lists.proofs.Sums.{sum_by-flat_map, sum_by-ext}
use Rattle.tez_record.specs.Bag.{sort}
use Rattle.tez_record.specs.Field.{key}
use Rattle.tez_record.proofs.BagLemmas.{sum_by-sort, same_bag}
use Rattle.tez_record.proofs.PartsLemmas.{parts_whole}
use Rattle.tez_partition.specs.Partition.{hash, partition, in_partition, split}

pub split_whole : (cols : List ℕ) (parts : ℕ) (rs : List (List ℕ)) → 0 < parts → sort (flat_map (λ part. part) (split cols parts rs)) ≡ sort rs
split_whole cols parts rs h =
    let part = λ (p : ℕ). filter (in_partition cols parts p) rs in
    let ps = range_with_len 0 parts in
    ap sort (flat_map-map (λ (bag : List (List ℕ)). bag) (λ p. sort (part p)) ps)
    ∙ same_bag (flat_map (λ p. sort (part p)) ps) (flat_map part ps) (λ r.
    let one = λ (s : List ℕ). cond (bytes_eq r s) 1 0 in
    sum_by-flat_map one (λ p. sort (part p)) ps
    ∙ sum_by-ext (λ p. sum_by one (sort (part p))) (λ p. sum_by one (part p)) ps (λ p. sum_by-sort one (part p))
    ∙ sym (sum_by-flat_map one part ps))
    ∙ parts_whole (in_partition cols parts) ps rs (λ r. one_in_range (partition cols parts r) parts (mod-lt (hash (key cols r)) h))
