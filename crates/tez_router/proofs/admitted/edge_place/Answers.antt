use Rattle.std.proofs.Common.{rules, arith, ltb, ltb-true}
use Rattle.std.proofs.lemmas.Bool.{ltb-false}
use Rattle.std.proofs.lemmas.List.Sorted.{IsPartitionedBy-ltb, IsPartitionPoint-from_clause}
use Rattle.tez_router.specs.State.{EdgeInputs}
use Rattle.tez_router.proofs.Edges.{by_edge}
use Rattle.tez_router.proofs.admitted.edge_place.Goals as goal

pub returns-clause-place : goal.returns-clause-place
returns-clause-place c =
    let ys = c.args.edges.now in
    let e = c.args.edge.0 in
    let point = IsPartitionPoint-from_clause (λ (y : EdgeInputs). ltb y.edge e) ys c.partition_point.result c.partition_point.ensures.partitioned
    (IsPartitionedBy-ltb (λ (y : EdgeInputs). y.edge) ys e (by_edge ys c.requires)) (λ a r f' k. search rules) in
    record {
      below = λ k d h. ltb-true _ _ (point.0 k d (omega arith) h);
      above = λ k d h b. ltb-false _ _ (point.1 k d h b);
    }
