use Rattle.std.proofs.Common.{◌≡◌, List, ℕ, ◌++◌, length, map, take, drop, ap, ◌∙◌, filter, flat_map}
use Rattle.std.specs.List.{range_with_len}
use Rattle.std.proofs.lemmas.Simd.{map-map}
use Rattle.tez_lists.proofs.Tables.{whole}
use Rattle.tez_record.specs.Bag.{sort}
use Rattle.tez_partition.specs.Partition.{in_partition, split}
use Rattle.tez_partition.proofs.PartitionLemmas.{split_whole}
use Rattle.tez_partition.proofs.split.Goals as goal

are_split : (c : goal.In_ok-sort_each) → take c.in_ok-made.made.len (c.sort_each.new.parts ++ drop (length c.sort_each.new.parts) c.in_ok-made.made.items) ≡ split c.args.cols.now c.args.parts c.args.rs.now
are_split c =
    let part = λ (p : ℕ). filter (in_partition c.args.cols.now c.args.parts p) c.args.rs.now in
    let size : length c.sort_each.new.parts ≡ c.in_ok-made.made.len = c.sort_each.auto.parts ∙ c.deref_mut.ensures.len in
    whole c.in_ok-made.made.len c.sort_each.new.parts c.in_ok-made.made.items size
    ∙ c.in_ok-sort_each.ensures
    ∙ ap (map sort) (c.deref_mut.ensures.value ∙ c.in_ok-made.ensures)
    ∙ map-map sort part (range_with_len 0 c.args.parts)

pub returns-clause-parts : goal.returns-clause-parts
returns-clause-parts c = are_split c

pub returns-clause-whole : goal.returns-clause-whole
returns-clause-whole c = ap (λ made. sort (flat_map {X = List (List ℕ)} {A = List ℕ} (λ part. part) made)) (are_split c) ∙ split_whole c.args.cols.now c.args.parts c.args.rs.now c.requires
