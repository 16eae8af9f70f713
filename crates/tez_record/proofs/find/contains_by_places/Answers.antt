use Rattle.std.proofs.Common.{◌∙◌, sym}
use Rattle.tez_record.proofs.FindLemmas.{here, too_short}
use Rattle.tez_record.proofs.find.contains_by_places.Goals as goal

pub returns-then-starts_with : goal.returns-then-starts_with
returns-then-starts_with c = here c.loop-rest.rest.now c.args.part.now c.loop-rest-test.true (sym c.starts_with.ensures.value ∙ c.if-starts_with.true) ∙ c.loop-rest.invariant

pub returns : goal.returns
returns c = too_short c.loop-rest.rest.now c.args.part.now c.loop-rest-test.false ∙ c.loop-rest.invariant
