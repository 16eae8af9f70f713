use Rattle.std.proofs.Common.{◌∙◌}
use Rattle.tez_record.specs.Field.{fields}
use Rattle.tez_record.proofs.FieldLemmas.{absent}
use Rattle.tez_record.proofs.fields.field.Goals as goal

pub returns-in-None : goal.returns-in-None
returns-in-None c = absent (fields c.args.r.now) c.loop-skipped.rest.now c.loop-skipped._skipped c.args.i (c.loop-skipped.invariant ∙ c.in-None.ensures) c.loop-skipped-test.true
