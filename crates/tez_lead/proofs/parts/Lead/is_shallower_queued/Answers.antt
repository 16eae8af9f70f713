use Rattle.std.proofs.Common.{◌∙◌, ap, sym, subst, false, nat_lt, Option}
use Rattle.std.specs.Option.{option_map_or}
use Rattle.tez_ids.specs.declared.AttemptId.{AttemptId}
use Rattle.tez_plan.specs.Faults.{IsValid}
use Rattle.tez_plan.specs.Order.{depth}
use Rattle.tez_master_model.specs.State.{MasterState}
use Rattle.tez_master_model.specs.Read.{depth_in}
use Rattle.tez_lead.specs.Kept.{AreVertices}
use Rattle.tez_lead.proofs.First.{shallower_read}
use Rattle.tez_lead.proofs.parts.Lead.is_shallower_queued.Goals as goal

pub returns-in-Some : goal.returns-in-Some
returns-in-Some c =
    let m = c.args.self.now in
    let b = c.in-Some.b in
    let fit = subst (λ (s : MasterState). AreVertices s.plan s.vertices) c.self.view_is c.self.invariant.fit.vertices in
    let valid = subst (λ (s : MasterState). IsValid s.plan) c.self.view_is c.vertices-valid.ensures.valid in
    let here = c.depth_of.ensures ∙ ap (λ (s : MasterState). depth s.plan b.task.vertex.0) c.self.view_is in
    let there = c.depth_of-in-Some.ensures ∙ ap (λ (s : MasterState). depth s.plan c.args.a.task.vertex.0) c.self.view_is in
    ap (λ d. nat_lt d c.depth_of-in-Some.result) here ∙ ap (nat_lt (depth_in m b)) there
    ∙ ap (λ (o : Option AttemptId). option_map_or (λ x. nat_lt (depth_in m x) (depth_in m c.args.a)) o false) (sym c.in-Some.is ∙ c.first_queued.ensures)
    ∙ sym (shallower_read m fit valid (depth_in m c.args.a))

pub returns-in-None : goal.returns-in-None
returns-in-None c =
    let m = c.args.self.now in
    let fit = subst (λ (s : MasterState). AreVertices s.plan s.vertices) c.self.view_is c.self.invariant.fit.vertices in
    let valid = subst (λ (s : MasterState). IsValid s.plan) c.self.view_is c.vertices-valid.ensures.valid in
    ap (λ (o : Option AttemptId). option_map_or (λ x. nat_lt (depth_in m x) (depth_in m c.args.a)) o false) (sym c.in-None.is ∙ c.first_queued.ensures)
    ∙ sym (shallower_read m fit valid (depth_in m c.args.a))
