use Rattle.std.proofs.Common.{◌∙◌, ap, take, drop, length, ◌-◌, rules, is_lt}
use Rattle.std.proofs.lemmas.List.{take_rest}
use Rattle.std.proofs.lemmas.List.Sorted.{IsPartitionPoint-from_clause}
use Rattle.tez_record.specs.Bag.{compare}
use Rattle.tez_plain.proofs.OrderLemmas.{found_run, partitioned}
use Rattle.tez_plain.proofs.keyed.of_key.Goals as goal

pub returns : goal.returns
returns c =
    let es = c.args.entries.now in
    let k = c.args.key.now in
    let start = c.partition_point-start.result in
    let point = IsPartitionPoint-from_clause (λ e. is_lt (compare e.0 k)) es start c.partition_point-start.ensures.partitioned (partitioned k es c.requires) (λ a r q h. search rules) in
    ap (λ n. take n (take (length es - start) (drop start es))) c.first_run.ensures.value
    ∙ found_run k es start c.requires c.partition_point-start.ensures.bound point (take (length es - start) (drop start es)) (take_rest es start)
