use Rattle.std.proofs.Common.{◌≡◌, ◌∙◌, List, IfOk, ap, sym, subst}
use Rattle.std.specs.List.{flat_map}
use Rattle.tez_ids.specs.declared.AttemptId.{AttemptId}
use Rattle.tez_master_model.specs.State.{MasterState}
use Rattle.tez_master_model.specs.Read.{lost_in}
use Rattle.tez_core.specs.Lost.{is_lost_with, lost_at}
use Rattle.tez_core.proofs.LostLemmas.{of_vertices}
use Rattle.tez_core.proofs.parts.Core.lost_on.Goals as goal

pub returns : goal.returns
returns c =
    let m = c.args.self.now in
    let slot = c.args.slot in
    let g = c.self.inside.plan in
    let same : flat_map (lost_at g c.deref.result.now slot) c.deref-2.result.now ≡ lost_in m slot =
    ap (λ ls. flat_map (lost_at g ls slot) c.deref-2.result.now) c.deref.ensures.value
    ∙ ap (λ vs. flat_map (lost_at g c.self.inside.locations.items slot) vs) c.deref-2.ensures.value
    ∙ ap (λ (s : MasterState). flat_map (lost_at s.plan s.locations slot) s.vertices) c.self.view_is
    ∙ sym (of_vertices (is_lost_with m.plan m.locations slot) m.vertices) in
    subst (λ (ws : List AttemptId). IfOk c.lost_with.result (λ found. found.items ≡ ws)) same c.lost_with.ensures
