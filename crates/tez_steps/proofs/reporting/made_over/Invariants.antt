use Rattle.std.specs.Prelude.{◌≡◌, map, take, unwrap_or}
use Rattle.std.specs.List.{filter, enumerate_from}
use Rattle.tez_plan.specs.Dag.{edge}
use Rattle.tez_shelves.specs.Piece.{bytes_on}
use Rattle.tez_master_model.specs.Bytes.{leaves_by_key}
use Rattle.tez_steps.proofs.reporting.made_over.Given as goal

abbrev pub invariant-loop-e : goal.invariant-loop-e
invariant-loop-e l = l.made.items ≡ map (λ e. (edge e.0, unwrap_or (bytes_on (edge e.0) l.fn.pieces) 0)) (filter (leaves_by_key l.fn.plan l.fn.a.task.vertex.0) (enumerate_from 0 (take l.e l.fn.plan.edges)))
