use Rattle.std.proofs.Common.{◌≡◌, ◌+◌, ◌*◌, ◌^◌, ◌∙◌, ap, sym, subst, suc, arith, fold}
use Rattle.tez_lists.specs.Numbers.{numbers_from}
use Rattle.tez_master_model.specs.State.{MasterState}
use Rattle.tez_lead.specs.Losing.{killed_at}
use Rattle.tez_lead.proofs.NodeLoss.{fold_suc, places_below, kills_on}
use Rattle.tez_lead.proofs.parts.Lead.kill_on.Goals as goal

pub kill_at-requires : goal.kill_at-requires
kill_at-requires c = record { rooms = places_below c.args.self.now c.loop-i.self (c.args.slot * c.per_node-per_node.result) c.loop-i.i (2 ^ 63) (2 ^ 63 + 2 ^ 62) c.loop-i.invariant c.requires.rooms (omega arith) }

pub loop-i-preserved : goal.loop-i-preserved
loop-i-preserved c =
    let first = c.args.slot * c.per_node-per_node.result in
    let i = c.loop-i.i in
    let next : i + 1 ≡ suc i = omega arith in
    c.kill_at.ensures ∙ ap (λ m. killed_at m (first + i)) c.loop-i.invariant ∙ sym (ap (λ n. fold killed_at c.args.self.now (numbers_from first n)) next ∙ fold_suc killed_at c.args.self.now first i)

pub returns-clause-after : goal.returns-clause-after
returns-clause-after c =
    let m = c.args.self.now in
    let places = subst (λ (s : MasterState). s.pool.per_node ≡ s.conf.per_node) c.self.view_is c.self.invariant.fit.places in
    let per = c.per_node-per_node.ensures.places ∙ ap (λ (s : MasterState). s.conf.per_node) c.self.view_is ∙ sym places in
    let all : c.loop-i.i ≡ c.per_node-per_node.result = omega arith in
    c.loop-i.invariant ∙ ap (λ n. fold killed_at m (numbers_from (c.args.slot * c.per_node-per_node.result) n)) all ∙ kills_on m c.args.slot c.per_node-per_node.result per

pub returns-clause-rooms : goal.returns-clause-rooms
returns-clause-rooms c =
    let few = c.per_node-per_node.ensures.few in
    places_below c.args.self.now c.loop-i.self (c.args.slot * c.per_node-per_node.result) c.loop-i.i (2 ^ 63) (2 ^ 63 + 2 ^ 61) c.loop-i.invariant c.requires.rooms (omega arith)
