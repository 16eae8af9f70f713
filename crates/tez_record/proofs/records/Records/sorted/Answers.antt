use Rattle.std.proofs.Common.{◌≡◌, ◌∙◌, ap, ◌++◌}
use Rattle.tez_record.specs.Bag.{sort}
use Rattle.tez_record.proofs.BagLemmas.{bag_from_sort}
use Rattle.tez_record.proofs.BlockLemmas.{sorted_records}
use Rattle.tez_record.proofs.records.Records.sorted.Goals as goal

pub push_all-requires : goal.push_all-requires
push_all-requires c =
    let order : c.sort_unstable.new.self.items ≡ sort c.args.self.now = bag_from_sort _ _ c.sort_unstable.ensures.permutation c.sort_unstable.ensures.sorted ∙ ap sort c.in_ok-keys.ensures in
    rw c.as_slice.ensures.value (sorted_records c.self.inside.bytes.items c.args.self.now c.sort_unstable.new.self.items c.self.view_is order)

pub returns : goal.returns
returns c =
    let order : c.sort_unstable.new.self.items ≡ sort c.args.self.now = bag_from_sort _ _ c.sort_unstable.ensures.permutation c.sort_unstable.ensures.sorted ∙ ap sort c.in_ok-keys.ensures in
    c.in_ok-push_all.ensures ∙ ap (λ xs. xs ++ c.as_slice.result.now) (c.reserve.ensures ∙ c.new-sorted.ensures) ∙ c.as_slice.ensures.value ∙ order
