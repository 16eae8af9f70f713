use Rattle.std.proofs.Common.{◌≡◌, not, is_lt, rules}
use Rattle.std.proofs.lemmas.Fn.{always_returns_same}
use Rattle.tez_record.specs.Bag.{compare}
use Rattle.tez_plain.proofs.KeyLemmas.{in_order_is}
use Rattle.tez_plain.proofs.keyed.are_in_order.Goals as goal

pub returns : goal.returns
returns c = in_order_is c.args.entries.now c.is_sorted_by.result
    (c.is_sorted_by.ensures.cases (λ x y. not (is_lt (compare y.0 x.0))) (always_returns_same _ (λ a r. r ≡ not (is_lt (compare a.1.0.now.0 a.0.now.0))) _ (λ a r q h. search rules)))
