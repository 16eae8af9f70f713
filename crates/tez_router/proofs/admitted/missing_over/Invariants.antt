use Rattle.std.proofs.Common.{◌≡◌, ◌≤◌, ◌*◌, ◌^◌, take, not}
use Rattle.std.specs.List.{sum_by, count_by}
use Rattle.tez_router.specs.State.{EdgeInputs}
use Rattle.tez_router.proofs.admitted.missing_over.Given as goal

abbrev pub invariant-loop-inputs : goal.invariant-loop-inputs
invariant-loop-inputs l = record {
  so_far : l.total ≡ sum_by (λ (y : EdgeInputs). count_by not y.fetched) (take l.inputs-index l.edges);
  small : l.total ≤ l.inputs-index * 2 ^ 32;
}
