use Rattle.std.proofs.Common.{◌∙◌, ◌≡◌, ap, subst, None}
use Rattle.std.specs.Result.{IfErr, OnOk}
use Rattle.std.proofs.lemmas.Result.{IfOk-weaker}
use Rattle.tez_record.specs.Bag.{sort}
use Rattle.tez_values.specs.Heads.{head_rows}
use Rattle.tez_values.specs.Steps.{run, bad_in_steps}
use Rattle.tez_values.specs.Program.{least_of, first_bad, output}
use Rattle.tez_values.proofs.StepLemmas.{run-same}
use Rattle.tez_operators.specs.Process.{reads, IsBadAnswer}
use Rattle.tez_operators.proofs.ProcessLemmas.{first_of_steps}
use Rattle.tez_operators.proofs.program.process.Goals as goal

pub returns-in-Ok-clause-value : goal.returns-in-Ok-clause-value
returns-in-Ok-clause-value c =
    let head = c.args.program.now.head in
    let steps = c.args.program.now.steps in
    let inputs = reads head c.args.keys.now c.args.inputs.now.primary c.args.inputs.now.side in
    IfOk-weaker c.value_of.result (λ value. value ≡ sort (run c.as_slice.result.now c.in-Ok.rows)) (λ value. value ≡ output head steps inputs)
    (λ value e. e ∙ ap (λ xs. sort (run xs c.in-Ok.rows)) c.as_slice.ensures ∙ run-same steps c.in-Ok.rows (head_rows head inputs) c.in-Ok.ensures.rows) c.value_of.ensures.value

pub returns-in-Ok-clause-no_bad : goal.returns-in-Ok-clause-no_bad
returns-in-Ok-clause-no_bad c =
    let head = c.args.program.now.head in
    let steps = c.args.program.now.steps in
    let inputs = reads head c.args.keys.now c.args.inputs.now.primary c.args.inputs.now.side in
    let first : least_of (bad_in_steps c.as_slice.result.now c.in-Ok.rows) ≡ first_bad head steps inputs =
    ap (λ xs. least_of (bad_in_steps xs c.in-Ok.rows)) c.as_slice.ensures ∙ first_of_steps head steps inputs c.in-Ok.rows c.in-Ok.ensures.no_bad c.in-Ok.ensures.rows in
    subst (λ bad. OnOk c.value_of.result (bad ≡ None)) first c.value_of.ensures.no_bad

pub returns-in-Ok-clause-bad : goal.returns-in-Ok-clause-bad
returns-in-Ok-clause-bad c =
    let head = c.args.program.now.head in
    let steps = c.args.program.now.steps in
    let inputs = reads head c.args.keys.now c.args.inputs.now.primary c.args.inputs.now.side in
    let first : least_of (bad_in_steps c.as_slice.result.now c.in-Ok.rows) ≡ first_bad head steps inputs =
    ap (λ xs. least_of (bad_in_steps xs c.in-Ok.rows)) c.as_slice.ensures ∙ first_of_steps head steps inputs c.in-Ok.rows c.in-Ok.ensures.no_bad c.in-Ok.ensures.rows in
    subst (λ bad. IfErr c.value_of.result (λ fault. IsBadAnswer fault bad)) first c.value_of.ensures.bad
