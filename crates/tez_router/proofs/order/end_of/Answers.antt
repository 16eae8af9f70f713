use Rattle.std.proofs.Common.{rules, arith, leb, leb-true}
use Rattle.std.proofs.lemmas.Bool.{leb-false}
use Rattle.std.proofs.lemmas.List.Sorted.{IsPartitionedBy-leb, IsPartitionPoint-from_clause}
use Rattle.tez_router.specs.State.{AdmittedState}
use Rattle.tez_router.proofs.Ordered.{by_vertex}
use Rattle.tez_router.proofs.order.end_of.Goals as goal

pub returns-clause-end : goal.returns-clause-end
returns-clause-end c =
    let xs = c.args.admitted.now in
    let v = c.args.vertex.0 in
    let point = IsPartitionPoint-from_clause (λ (x : AdmittedState). leb x.attempt.task.vertex.0 v) xs c.partition_point.result c.partition_point.ensures.partitioned
    (IsPartitionedBy-leb (λ (x : AdmittedState). x.attempt.task.vertex.0) xs v (by_vertex xs c.requires)) (λ a r f' k. search rules) in
    record {
      below = λ k d h. leb-true _ _ (point.0 k d (omega arith) h);
      above = λ k d h b. leb-false _ _ (point.1 k d h b);
    }
