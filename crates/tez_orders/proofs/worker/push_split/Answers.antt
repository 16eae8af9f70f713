use Rattle.std.proofs.Common.{◌≡◌, ◌∙◌, ◌<◌, ◌^◌, List, ℕ, length, ap, arith, filter}
use Rattle.std.proofs.lemmas.List.FromFn.{length-map-range_with_len}
use Rattle.tez_record.specs.Bag.{sort}
use Rattle.tez_partition.specs.Partition.{in_partition}
use Rattle.tez_orders.proofs.worker.push_split.Goals as goal

pub push_parts-requires : goal.push_parts-requires
push_parts-requires c =
    let size : length c.as_slice.result.now ≡ c.args.parts =
    ap length (c.as_slice.ensures.value ∙ c.in_ok-made.ensures.parts)
    ∙ length-map-range_with_len (λ (p : ℕ). sort (filter (in_partition c.args.cols.now c.args.parts p) c.args.value.now)) 0 c.args.parts in
    omega arith
