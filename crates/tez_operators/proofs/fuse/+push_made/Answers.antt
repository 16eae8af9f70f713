use Rattle.std.proofs.Common.{◌∙◌, sym, subst, ap, arith, length, length-drop}
use Rattle.std.proofs.lemmas.Bool.{eqb-false}
use Rattle.std.proofs.lemmas.List.{take_rest}
use Rattle.tez_record.specs.Line.{IsRecord}
use Rattle.tez_record.proofs.BlockLemmas.{first_is_record}
use Rattle.tez_record.proofs.FieldLemmas.{key_is_record}
use Rattle.tez_operators.proofs.FuseLemmas.{left_out, words_made}
use Rattle.tez_operators.proofs.fuse.+push_made.Goals as goal

pub new-projected-requires : goal.new-projected-requires
new-projected-requires t c = subst IsRecord (sym c.in_ok-key-in-Project.ensures) (key_is_record c.args.line.now c.as_slice.result.now c.requires)

pub push_made-requires-in-loop-word : goal.push_made-requires-in-loop-word
push_made-requires-in-loop-word t c = (omega (arith, ap length (take_rest c.args.steps.now 1), length-drop 1 c.args.steps.now, eqb-false (length c.args.steps.now) 0 (sym c.is_empty.ensures ∙ c.if-is_empty.false), c.decreases), first_is_record c.loop-word.word-iterator.rest.now _ _ c.in-Some.ensures.steps)

pub returns-else-holds : goal.returns-else-holds
returns-else-holds t c =
    left_out c.args.steps.now c.index-steps-0.result c.in-Filter.field c.in-Filter.test c.args.line.now c.args.made.now (sym c.is_empty.ensures ∙ c.if-is_empty.false) c.index-steps-0.is c.in-Filter.is (sym c.holds.ensures ∙ c.if-holds.false)

pub returns-in-None : goal.returns-in-None
returns-in-None t c =
    words_made c.args.steps.now _ c.index-steps-0.result c.args.line.now c.args.made.now c.loop-word.made _ (take_rest c.args.steps.now 1) (sym c.is_empty.ensures ∙ c.if-is_empty.false) c.index-steps-0.is c.in-Tokenise.is c.in-None.ensures.steps.0 c.loop-word.invariant
