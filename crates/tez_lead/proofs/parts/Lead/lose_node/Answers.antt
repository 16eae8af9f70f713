use Rattle.std.proofs.Common.{◌+◌, ◌<◌, ◌^◌, ◌∙◌, ap, sym, subst, length, slice_get, IfSome}
use Rattle.tez_pool.specs.State.{PoolState}
use Rattle.tez_master_model.specs.State.{MasterState}
use Rattle.tez_master_model.specs.Settled.{without_node}
use Rattle.tez_lead.proofs.NodeLoss.{emptied_pool, loss_is}
use Rattle.tez_lead.proofs.parts.Lead.lose_node.Goals as goal

pub drop_node-requires-clause-slot : goal.drop_node-requires-clause-slot
drop_node-requires-clause-slot c =
    let same = ap (λ (s : MasterState). s.pool) c.empty_node.ensures ∙ emptied_pool c.args.self.now c.args.slot in
    subst (λ (p : PoolState). c.args.slot < length p.lives) (sym same) c.requires.slot

pub drop_node-requires-clause-life : goal.drop_node-requires-clause-life
drop_node-requires-clause-life c =
    let same = ap (λ (s : MasterState). s.pool) c.empty_node.ensures ∙ emptied_pool c.args.self.now c.args.slot in
    subst (λ (p : PoolState). IfSome (slice_get p.lives c.args.slot) (λ life. life + 1 < 2 ^ 64)) (sym same) c.requires.life

pub drop_node-requires-clause-containers : goal.drop_node-requires-clause-containers
drop_node-requires-clause-containers c =
    let same = ap (λ (s : MasterState). s.pool) c.empty_node.ensures ∙ emptied_pool c.args.self.now c.args.slot in
    subst (λ (p : PoolState). p.next < 2 ^ 127) (sym same) c.requires.containers

pub returns : goal.returns
returns c = c.drop_node.ensures ∙ ap (λ s. without_node s c.args.slot) c.empty_node.ensures ∙ loss_is c.args.self.now c.args.slot
