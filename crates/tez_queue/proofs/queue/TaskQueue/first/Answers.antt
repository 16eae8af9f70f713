use Rattle.std.proofs.Common.{◌∙◌, ap, arith, sym}
use Rattle.tez_queue.specs.Queue.{first}
use Rattle.tez_queue.proofs.FirstLemmas.{some_first, none_first, some_place}
use Rattle.tez_queue.proofs.queue.TaskQueue.first.Goals as goal

pub index-requires : goal.index-requires
index-requires c = let inside = some_place _ _ _ _ _ c.self.invariant c.in-Some.place (sym c.in-Some.is ∙ c.least.ensures) in omega arith

pub returns-in-Some : goal.returns-in-Some
returns-in-Some c = some_first _ _ _ _ _ c.self.invariant c.in-Some.place c.index.result.now (sym c.in-Some.is ∙ c.least.ensures) c.index.ensures ∙ ap first c.self.view_is

pub returns-in-None : goal.returns-in-None
returns-in-None c = none_first _ _ _ _ _ c.self.invariant (sym c.in-None.is ∙ c.least.ensures) ∙ ap first c.self.view_is
