use Rattle.std.proofs.Common.{arith, ap, ◌∙◌, sym, map, length}
use Rattle.tez_pool.specs.Table.{free, is_free}
use Rattle.tez_pool.proofs.PlaceLemmas.{all_free, length_numbers}
use Rattle.tez_pool.proofs.places.Places.new.Goals as goal

pub invariant_of-result : goal.invariant_of-result
invariant_of-result c = (
  c.in_ok-all_present.ensures ∙ all_free 0 c.args.count ∙ sym (ap (map is_free) c.in_ok-free_places.ensures),
  omega (arith, ap length c.in_ok-free_places.ensures, length_numbers free 0 c.args.count),
)
