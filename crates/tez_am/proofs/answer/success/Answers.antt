use Rattle.std.proofs.Common.{ℕ, List, ◌++◌, ap, ap₂, ◌∙◌}
use Rattle.tez_am.specs.Answer.{lines_for}
use Rattle.tez_am.proofs.answer.success.Goals as goal

pub returns : goal.returns
returns c =
    c.new.ensures
    ∙ c.in_ok-push_lines.ensures
    ∙ ap₂ (λ (t l : List ℕ). t ++ l) c.in_ok-text.ensures.items (ap (λ vs. lines_for vs c.args.sums.now) (c.vertices.ensures.same ∙ ap (λ d. d.vertices) c.plan.ensures))
