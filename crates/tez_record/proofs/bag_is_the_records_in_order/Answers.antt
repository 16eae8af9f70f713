use Rattle.tez_record.proofs.BagLemmas.{sort_sorted, count-sort, same_bag}
use Rattle.tez_record.proofs.bag_is_the_records_in_order.Goals as goal

pub returns : goal.returns
returns c = record { order = sort_sorted; counts = λ rs r. count-sort r rs; one = same_bag }
