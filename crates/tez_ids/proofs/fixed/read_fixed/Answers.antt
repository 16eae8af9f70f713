use Rattle.std.proofs.Common.{rules, arith, ◌∙◌}
use Rattle.std.proofs.lemmas.Grind.{common_steps}
use Rattle.tez_ids.proofs.FixedForm.{fixed-injective}
use Rattle.tez_ids.proofs.fixed.read_fixed.Goals as goal

pub returns-clause-value : goal.returns-clause-value
returns-clause-value c = grind (arith, common_steps)

pub returns-clause-inverse : goal.returns-clause-inverse
returns-clause-inverse c = λ a fits is. fixed-injective _ a (record { epoch = search rules; vertex = search rules; index = search rules; number = search rules }) fits (returns-clause-value c ∙ is)
