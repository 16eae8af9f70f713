use Rattle.std.proofs.Common.{◌+◌, sym, ap, ◌∙◌, ◌∷◌}
use Rattle.std.proofs.lemmas.List.{take_rest}
use Rattle.tez_record.specs.Field.{field, fields}
use Rattle.tez_record.proofs.FieldLemmas.{fields-none, fields-some}
use Rattle.tez_record.proofs.fields.after_tab.Goals as goal

pub returns-in-None : goal.returns-in-None
returns-in-None c = fields-none c.args.r.now c.in-None.ensures

pub returns-in-Some : goal.returns-in-Some
returns-in-Some c =
    fields-some c.args.r.now c.in-Some.at c.in-Some.ensures.0.high c.in-Some.ensures.0.before c.in-Some.ensures.1
    ∙ ap (λ xs. field c.args.r.now 0 ∷ fields xs) (sym (take_rest c.args.r.now (c.in-Some.at + 1)))
