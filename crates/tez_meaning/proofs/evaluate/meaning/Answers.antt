use Rattle.std.proofs.Common.{◌∙◌, List, ℕ, map, ap, ap₂}
use Rattle.tez_record.specs.Bag.{text}
use Rattle.tez_plan.specs.declared.parts.VertexSpec.{VertexSpec}
use Rattle.tez_plan.specs.Dag.{Dag}
use Rattle.tez_meaning.specs.Value.{sinks}
use Rattle.tez_meaning.specs.Known.{Table, known_in}
use Rattle.tez_meaning.proofs.WalkLemmas.{texts_are}
use Rattle.tez_meaning.proofs.evaluate.meaning.Goals as goal

pub returns-in-Ok-texts_of-clause-texts : goal.returns-in-Ok-texts_of-clause-texts
returns-in-Ok-texts_of-clause-texts c =
    c.in-Ok-texts_of.ensures
    ∙ ap₂ (λ (vs : Table) (ss : List VertexSpec). map {B = List ℕ × List ℕ} (λ s. (s.1, text (known_in vs s.0))) (sinks 0 ss)) c.deref.ensures.value (c.vertices.ensures.same ∙ ap (λ (p : Dag). p.vertices) c.plan.ensures)
    ∙ texts_are c.args.job.now c.in-Ok.values.items c.in-Ok.ensures.values
