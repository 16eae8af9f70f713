use Rattle.std.proofs.Common.{◌≡◌, ◌+◌, ◌*◌, ◌^◌, ◌∙◌, ap, subst, arith, length, refl}
use Rattle.tez_master_model.specs.State.{MasterState}
use Rattle.tez_lead.specs.Kept.{AreVertices}
use Rattle.tez_lead.proofs.NodeLoss.{wider, withdraw_step, withdraws_on}
use Rattle.tez_lead.proofs.parts.Lead.withdraw_on.Goals as goal

pub withdraw_from-requires : goal.withdraw_from-requires
withdraw_from-requires c =
    let few = c.vertices-v-end.ensures.few in
    record { rooms = wider c.loop-v.self (2 ^ 63 + 2 ^ 61 + c.loop-v.v * 2 ^ 32) (2 ^ 63 + 2 ^ 61 + 2 ^ 40) (omega arith) c.loop-v.invariant.rooms }

pub loop-v-init : goal.loop-v-init
loop-v-init c = record { is = refl; rooms = wider c.args.self.now (2 ^ 63 + 2 ^ 61) (2 ^ 63 + 2 ^ 61 + 0 * 2 ^ 32) (omega arith) c.requires.rooms }

pub loop-v-preserved : goal.loop-v-preserved
loop-v-preserved c = record {
  is = withdraw_step c.args.self.now c.loop-v.self c.withdraw_from.new.self c.args.slot c.loop-v.v c.loop-v.invariant.is c.withdraw_from.ensures.after;
  rooms = wider c.withdraw_from.new.self (2 ^ 63 + 2 ^ 61 + c.loop-v.v * 2 ^ 32 + 2 ^ 32) (2 ^ 63 + 2 ^ 61 + (c.loop-v.v + 1) * 2 ^ 32) (omega arith) (c.withdraw_from.ensures.rooms (2 ^ 63 + 2 ^ 61 + c.loop-v.v * 2 ^ 32) c.loop-v.invariant.rooms);
}

pub returns : goal.returns
returns c =
    let m = c.args.self.now in
    let fit = subst (λ (s : MasterState). AreVertices s.plan s.vertices) c.self.view_is c.self.invariant.fit.vertices in
    let count = c.vertices-v-end.ensures.count ∙ ap (λ (s : MasterState). length s.plan.vertices) c.self.view_is in
    let all : c.loop-v.v ≡ length c.args.self.now.plan.vertices = omega arith in
    c.loop-v.invariant.is ∙ withdraws_on m c.args.slot c.loop-v.v fit all
