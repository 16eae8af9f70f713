use Rattle.std.proofs.Common.{◌∙◌, None, sym, ap}
use Rattle.tez_record.specs.Bag.{sort, first_or}
use Rattle.tez_operators.proofs.FuseLemmas.{pass_bad}
use Rattle.tez_operators.proofs.steps.run_pass.Goals as goal

pub returns-clause-no_bad : goal.returns-clause-no_bad
returns-clause-no_bad c =
    pass_bad c.args.steps.now c.index-steps-0.result c.args.rows.now c.requires.some c.index-steps-0.is c.requires.pass
    ∙ ap (λ bag. first_or (sort bag) None) (sym c.in_ok-bad.ensures) ∙ sym c.in_ok-line.ensures ∙ c.in_default.is
