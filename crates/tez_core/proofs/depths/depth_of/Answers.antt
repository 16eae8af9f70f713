use Rattle.std.proofs.Common.{◌≤◌, ap, sym, arith, length}
use Rattle.tez_core.proofs.Plans.{depth_outside}
use Rattle.tez_core.proofs.depths.depth_of.Goals as goal

pub returns-else-v-vertices : goal.returns-else-v-vertices
returns-else-v-vertices c =
    let many = ap length c.vertices.ensures.same in
    let outside : length c.args.p.now.vertices ≤ c.args.v.0 = omega (arith, many, c.if-v-vertices.false) in
    sym (depth_outside c.args.p.now c.vertices.ensures.valid c.args.v.0 outside)
