use Rattle.std.proofs.Common.{◌≡◌, ◌∙◌, sym, subst}
use Rattle.tez_plan.proofs.StepLemmas.{ready_is}
use Rattle.tez_plan.proofs.graph.Graph.next_ready.Goals as goal

pub returns-clause-first : goal.returns-clause-first
returns-clause-first c = λ o marks. c.first_ready.ensures.first ∙ ready_is c.args.self.now _ c.args.out.now c.mark_waiting.new.waits o c.requires.out (c.mark_waiting.auto.waits ∙ c.requires.waits ∙ sym c.requires.out) c.ends.ensures.same c.ends.ensures.inside marks c.mark_waiting.ensures
