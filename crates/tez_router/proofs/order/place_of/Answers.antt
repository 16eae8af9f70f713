use Rattle.std.proofs.Common.{rules, arith}
use Rattle.std.proofs.lemmas.List.Sorted.{IsPartitionPoint-from_clause}
use Rattle.tez_router.specs.State.{AdmittedState}
use Rattle.tez_router.specs.Table.{before}
use Rattle.tez_router.proofs.Ordered.{parted}
use Rattle.tez_router.proofs.order.place_of.Goals as goal

pub returns-clause-place : goal.returns-clause-place
returns-clause-place c =
    let point = IsPartitionPoint-from_clause (λ (x : AdmittedState). before x.attempt.task c.args.task) c.args.admitted.now c.partition_point.result c.partition_point.ensures.partitioned
    (parted c.args.task c.args.admitted.now c.requires) (λ a r f' k. search rules) in
    record {
      below = λ k d h. point.0 k d (omega arith) h;
      above = λ k d h b. point.1 k d h b;
    }
