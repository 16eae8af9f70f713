use Rattle.std.proofs.Common.{◌∙◌, subst, sym}
use Rattle.tez_record.specs.Line.{IsRecord, lines}
use Rattle.tez_record.proofs.BlockLemmas.{first_is_record}
use Rattle.tez_record.proofs.FieldLemmas.{key_is_record}
use Rattle.tez_plain.proofs.KeyLemmas.{entered}
use Rattle.tez_plain.proofs.keyed.beside_fields.Goals as goal

pub new-own-requires : goal.new-own-requires
new-own-requires c = subst IsRecord (sym c.only_field.ensures) (key_is_record c.in-Some.line.now c.args.cols.now (first_is_record c.loop-line.line-iterator.rest.now _ _ c.in-Some.ensures.steps))

pub loop-line-preserved : goal.loop-line-preserved
loop-line-preserved c =
    entered c.args.cols.now c.args.records.now (lines c.loop-line.line-iterator.rest.now) (lines c.next.new.self.rest.now) c.loop-line.entries.items c.push.new.self.items (c.new-own.result, c.in-Some.line)
    c.in-Some.ensures.steps (c.new-own.ensures ∙ c.only_field.ensures) (first_is_record c.loop-line.line-iterator.rest.now _ _ c.in-Some.ensures.steps) c.in_ok-push.ensures.items c.loop-line.invariant
