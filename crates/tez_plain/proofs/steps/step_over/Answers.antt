use Rattle.std.proofs.Common.{◌∙◌, ◌≡◌, ℕ, List, ap, sym}
use Rattle.std.specs.List.{filter, flat_map}
use Rattle.std.proofs.lemmas.Result.{IfOk-weaker}
use Rattle.tez_values.specs.Steps.{holds, step_rows}
use Rattle.tez_values.proofs.SameLemmas.{filter_is}
use Rattle.tez_plain.proofs.steps.step_over.Goals as goal

pub returns-in-Filter : goal.returns-in-Filter
returns-in-Filter c =
    let test = λ (r : List ℕ). holds c.in-Filter.test r c.in-Filter.field in
    IfOk-weaker c.keep.result (λ made. made ≡ filter test c.args.rows.now) (λ made. made ≡ flat_map (step_rows c.args.step.now) c.args.rows.now)
    (λ made e. e ∙ filter_is test c.args.rows.now ∙ sym (ap (λ s. flat_map (step_rows s) c.args.rows.now) c.in-Filter.is)) c.keep.ensures
