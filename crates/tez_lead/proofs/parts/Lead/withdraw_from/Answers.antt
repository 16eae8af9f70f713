use Rattle.std.proofs.Common.{◌≡◌, ◌+◌, ◌^◌, ◌∙◌, ap, sym, suc, arith, fold, map, zero-add}
use Rattle.tez_ids.specs.Same.{task}
use Rattle.tez_lists.specs.Numbers.{numbers_from}
use Rattle.tez_core.specs.Choosing.{count_at}
use Rattle.tez_master_model.specs.State.{MasterState}
use Rattle.tez_lead.specs.Losing.{withdrawn_at}
use Rattle.tez_lead.proofs.NodeLoss.{fold_map_suc, row_below}
use Rattle.tez_lead.proofs.parts.Lead.withdraw_from.Goals as goal

pub withdraw_at-requires : goal.withdraw_at-requires
withdraw_at-requires c = record { rooms = row_below c.args.self.now c.loop-index.self c.args.slot c.args.v.0 c.loop-index.index (2 ^ 63 + 2 ^ 61 + 2 ^ 40) (2 ^ 63 + 2 ^ 62) c.loop-index.invariant c.requires.rooms (omega arith) }

pub loop-index-preserved : goal.loop-index-preserved
loop-index-preserved c =
    let m = c.args.self.now in
    let f = withdrawn_at c.args.slot in
    let v = c.args.v.0 in
    let i = c.loop-index.index in
    let next : i + 1 ≡ suc i = omega arith in
    c.withdraw_at.ensures ∙ ap (λ s. withdrawn_at c.args.slot s (task v i)) c.loop-index.invariant
    ∙ sym (ap (λ n. fold f m (map (task v) (numbers_from 0 n))) next ∙ fold_map_suc f (task v) m 0 i ∙ ap (λ k. f (fold f m (map (task v) (numbers_from 0 i))) (task v k)) (zero-add i))

pub returns-clause-after : goal.returns-clause-after
returns-clause-after c =
    let m = c.args.self.now in
    let count = c.tasks_of-index-end.ensures ∙ ap (λ (s : MasterState). count_at s.vertices c.args.v.0) c.self.view_is in
    let all : c.loop-index.index ≡ count_at c.args.self.now.vertices c.args.v.0 = omega arith in
    c.loop-index.invariant ∙ ap (λ n. fold (withdrawn_at c.args.slot) m (map (task c.args.v.0) (numbers_from 0 n))) all

pub returns-clause-rooms : goal.returns-clause-rooms
returns-clause-rooms c = λ b h. row_below c.args.self.now c.loop-index.self c.args.slot c.args.v.0 c.loop-index.index b (b + 2 ^ 32) c.loop-index.invariant h (omega arith)
