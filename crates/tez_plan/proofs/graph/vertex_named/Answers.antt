use Rattle.std.proofs.Common.{◌≡◌, ◌∙◌, sym, ap, bytes_eq}
use Rattle.tez_plan.specs.Dag.{vertex}
use Rattle.tez_plan.proofs.GraphLemmas.{list_any-map}
use Rattle.tez_plan.proofs.NameLemmas.{position_is, position_or_len-map}
use Rattle.tez_plan.proofs.graph.vertex_named.Goals as goal

pub returns-in-Some-clause-place : goal.returns-in-Some-clause-place
returns-in-Some-clause-place c = ap vertex (position_is (λ k. bytes_eq c.args.name.now k.now) c.args.names.now.keys _ (sym c.in-Some.ensures.index) ∙ sym (position_or_len-map (bytes_eq c.args.name.now) (λ k. k.now) c.args.names.now.keys))

pub returns-in-Some-clause-found : goal.returns-in-Some-clause-found
returns-in-Some-clause-found c = c.in-Some.ensures.found ∙ sym (list_any-map (bytes_eq c.args.name.now) (λ k. k.now) c.args.names.now.keys)

pub returns-in-None-clause-found : goal.returns-in-None-clause-found
returns-in-None-clause-found c = c.in-None.ensures.found ∙ sym (list_any-map (bytes_eq c.args.name.now) (λ k. k.now) c.args.names.now.keys)
