use Rattle.std.proofs.Common.{rules, ◌≡◌, true, false, leb, leb-true, arith}
use Rattle.std.specs.List.Sorted.{IsPartitionPoint}
use Rattle.std.proofs.lemmas.Bool.{leb-false}
use Rattle.std.proofs.lemmas.List.Sorted.{IsPartitionedBy-leb, IsPartitionPoint-from_clause}
use Rattle.tez_runs.specs.declared.edit.Run.{Run}
use Rattle.tez_runs.proofs.RunLemmas.{in_order}
use Rattle.tez_runs.proofs.edit.place.Goals as goal

pub returns-clause-before : goal.returns-clause-before
returns-clause-before c p d e =
    let runs = c.args.runs.now in
    let point : IsPartitionPoint (λ y. leb y.start c.args.i ≡ true) (λ y. leb y.start c.args.i ≡ false) runs c.partition_point.result =
    IsPartitionPoint-from_clause (λ y. leb y.start c.args.i) runs c.partition_point.result c.partition_point.ensures.partitioned
    (IsPartitionedBy-leb (λ (r : Run). r.start) runs c.args.i (in_order 0 c.requires.0 runs c.requires.1)) (λ a r f' k. search rules) in
    leb-true _ _ (point.0 p d (omega arith) (omega arith))

pub returns-clause-after : goal.returns-clause-after
returns-clause-after c d h =
    let runs = c.args.runs.now in
    let point : IsPartitionPoint (λ y. leb y.start c.args.i ≡ true) (λ y. leb y.start c.args.i ≡ false) runs c.partition_point.result =
    IsPartitionPoint-from_clause (λ y. leb y.start c.args.i) runs c.partition_point.result c.partition_point.ensures.partitioned
    (IsPartitionedBy-leb (λ (r : Run). r.start) runs c.args.i (in_order 0 c.requires.0 runs c.requires.1)) (λ a r f' k. search rules) in
    leb-false _ _ (point.1 c.partition_point.result d (omega arith) h)
