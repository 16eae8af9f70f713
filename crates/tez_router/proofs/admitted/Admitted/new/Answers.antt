use Rattle.std.proofs.Common.{length, sym, ap, subst, arith}
use Rattle.tez_router.specs.Edges.{AreByEdge}
use Rattle.tez_router.proofs.Ranges.{few_blank}
use Rattle.tez_router.proofs.Edges.{blank_by_edge}
use Rattle.tez_router.proofs.admitted.Admitted.new.Goals as goal

pub invariant_of-result : goal.invariant_of-result
invariant_of-result c =
    let few = few_blank c.args.attempt c.args.links.now in
    let same = ap length c.in_ok-blank_edges.ensures in
    let bound = c.requires.few in
    record {
      few = omega arith;
      ordered = subst AreByEdge (sym c.in_ok-blank_edges.ensures) (blank_by_edge c.args.attempt c.args.links.now c.requires.numbered);
    }
