use Rattle.std.specs.Option.{option_map}
use Rattle.std.proofs.Common.{sym, ◌∙◌, ap}
use Rattle.tez_ids.specs.declared.VertexId.{VertexId}
use Rattle.tez_world.proofs.opening.begin.Goals as goal

pub returns-in-Ok-Some-clause-store : goal.returns-in-Ok-Some-clause-store
returns-in-Ok-Some-clause-store g c s at = sym (c.in-Ok-Some.ensures.found s at) ∙ ap (option_map (λ (v : VertexId). v.0)) c.in-Ok-Some.field-0-is

pub returns-in-Err-clause-fault : goal.returns-in-Err-clause-fault
returns-in-Err-clause-fault g c = c.in-Err.ensures.fault
