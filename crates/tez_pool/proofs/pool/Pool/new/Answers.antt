use Rattle.std.proofs.Common.{rules, arith}
use Rattle.tez_pool.proofs.PoolLemmas.{kept_new}
use Rattle.tez_pool.proofs.pool.Pool.new.Goals as goal

pub invariant_of-result : goal.invariant_of-result
invariant_of-result c = kept_new c.args.nodes c.args.per_node _ _ _ c.in_ok-new.ensures (search rules) c.ranges.nodes.fits (omega (arith, c.in_ok-with_capacity.ensures.spare))
