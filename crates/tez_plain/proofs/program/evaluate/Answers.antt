use Rattle.std.proofs.Common.{◌∙◌, ◌≡◌, subst, None}
use Rattle.std.specs.Result.{IfErr, OnOk}
use Rattle.std.proofs.lemmas.Result.{IfOk-weaker}
use Rattle.tez_record.specs.Bag.{sort}
use Rattle.tez_values.specs.Heads.{head_rows}
use Rattle.tez_values.specs.Steps.{run, bad_in_steps}
use Rattle.tez_values.specs.Program.{least_of, first_bad, output}
use Rattle.tez_values.proofs.StepLemmas.{run-same}
use Rattle.tez_plain.specs.Answer.{IsBadAnswer}
use Rattle.tez_plain.proofs.StepLemmas.{first_of_steps}
use Rattle.tez_plain.proofs.program.evaluate.Goals as goal

pub returns-in-Ok-clause-value : goal.returns-in-Ok-clause-value
returns-in-Ok-clause-value c =
    let head = c.args.head.now in
    let steps = c.args.steps.now in
    let inputs = c.args.inputs.now in
    IfOk-weaker c.value_of.result (λ value. value ≡ sort (run steps c.in-Ok.rows)) (λ value. value ≡ output head steps inputs)
    (λ value e. e ∙ run-same steps c.in-Ok.rows (head_rows head inputs) c.in-Ok.ensures.rows) c.value_of.ensures.value

pub returns-in-Ok-clause-no_bad : goal.returns-in-Ok-clause-no_bad
returns-in-Ok-clause-no_bad c =
    let head = c.args.head.now in
    let steps = c.args.steps.now in
    let inputs = c.args.inputs.now in
    let first : least_of (bad_in_steps steps c.in-Ok.rows) ≡ first_bad head steps inputs =
    first_of_steps head steps inputs c.in-Ok.rows c.in-Ok.ensures.no_bad c.in-Ok.ensures.rows in
    subst (λ bad. OnOk c.value_of.result (bad ≡ None)) first c.value_of.ensures.no_bad

pub returns-in-Ok-clause-bad : goal.returns-in-Ok-clause-bad
returns-in-Ok-clause-bad c =
    let head = c.args.head.now in
    let steps = c.args.steps.now in
    let inputs = c.args.inputs.now in
    let first : least_of (bad_in_steps steps c.in-Ok.rows) ≡ first_bad head steps inputs =
    first_of_steps head steps inputs c.in-Ok.rows c.in-Ok.ensures.no_bad c.in-Ok.ensures.rows in
    subst (λ bad. IfErr c.value_of.result (λ fault. IsBadAnswer fault bad)) first c.value_of.ensures.bad
