use Rattle.std.proofs.Common.{◌≡◌, ap, ◌∙◌, nat_eq, length, arith}
use Rattle.std.specs.Prelude.{count_by}
use Rattle.std.specs.List.{list_any}
use Rattle.tez_vertex.specs.Vertex.{has_winner, is_spent}
use Rattle.tez_vertex.specs.Table.{state, state_by}
use Rattle.tez_vertex.proofs.VertexLemmas.{all_counted}
use Rattle.tez_vertex.proofs.VertexMachine.state.Goals as goal

pub returns : goal.returns
returns c =
    let items = c.self.inside.tasks.items in
    let many : c.len.result ≡ length items = omega (arith, c.self.inside.tasks.ok.0) in
    c.state_by.ensures
    ∙ ap (λ b. state_by c.self.inside.configured b (nat_eq c.self.inside.won c.len.result) c.self.inside.moved) c.self.invariant.any_spent
    ∙ ap (λ b. state_by c.self.inside.configured (list_any is_spent items) b c.self.inside.moved)
    (ap (λ w. nat_eq w c.len.result) c.self.invariant.winners ∙ ap (nat_eq (count_by has_winner items)) many ∙ all_counted has_winner items)
    ∙ ap state c.self.view_is
