use Rattle.std.proofs.Common.{◌≡◌, sym, ◌∙◌, ap, length}
use Rattle.std.specs.List.{list_all}
use Rattle.tez_pool.specs.Table.{is_within}
use Rattle.tez_pool.proofs.VictimLemmas.{are_in, from_are_in}
use Rattle.tez_pool.proofs.pool.Pool.is_within.Goals as goal

pub returns : goal.returns
returns c =
    let places = c.args.self.now.places in
    let same : c.are_within.result ≡ list_all (is_within (length c.args.plan.now.vertices)) places =
    c.are_within.ensures ∙ ap (λ vs. list_all (is_within (length vs)) c.as_slice.result.now) c.vertices-vertices.ensures.same
    ∙ ap (list_all (is_within (length c.args.plan.now.vertices))) (c.as_slice.ensures.value ∙ ap (λ v. v.places) c.self.view_is) in
    (λ t. are_in c.args.plan.now places (sym same ∙ t), λ h. same ∙ from_are_in c.args.plan.now places h)
