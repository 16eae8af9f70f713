use Rattle.std.proofs.Common.{refl, ap, ◌∙◌, ◌++◌, ◌∷◌, []}
use Rattle.tez_crew.proofs.desk.Desk.work_here.Goals as goal

pub returns-clause-own : goal.returns-clause-own
returns-clause-own g c = (
  c.work.result,
  refl,
  c.work.ensures.order,
  c.push_reserved.ensures.items ∙ ap (λ l. l ++ c.attempt-attempt.result ∷ []) c.reserve.ensures.items ∙ ap (λ a. c.args.self.now.own.items ++ a ∷ []) c.attempt-attempt.ensures,
)
