use Rattle.tez_record.specs.Bag.{compare}
use Rattle.tez_plain.proofs.KeyLemmas.{sorted_by_key}
use Rattle.tez_plain.proofs.keyed.by_key.Goals as goal

pub returns : goal.returns
returns c = sorted_by_key c.args.cols.now c.args.records.now c.in_ok-entries.entries.items _ (λ a b. compare a.1.now b.1.now) c.in_ok-entries.ensures.records c.in_ok-entries.ensures.keys c.in_ok-entries.ensures.lines c.sort_unstable.ensures.permutation c.sort_unstable.ensures.sorted
