use Rattle.std.proofs.Common.{◌≡◌, take, map}
use Rattle.tez_master_model.specs.Fresh.{no_locations}
use Rattle.tez_core.proofs.fresh.no_locations.Given as goal

abbrev pub invariant-loop-spec : goal.invariant-loop-spec
invariant-loop-spec l = l.rows.items ≡ map no_locations (take l.spec-index l.vertices)
