use Rattle.std.proofs.Common.{◌∙◌, ap, sym, subst, slice_index_or, take}
use Rattle.std.proofs.lemmas.List.Sums.{fold_more}
use Rattle.tez_master_model.specs.State.{MasterState}
use Rattle.tez_master_model.specs.Vertices.{AreRestorable}
use Rattle.tez_master_model.specs.Recovery.{carried}
use Rattle.tez_lead.proofs.Taken.{next_carried, carried_limits, carried_places}
use Rattle.tez_lead.proofs.parts.Lead.carry_all.Goals as goal

pub carry-requires-clause-can : goal.carry-requires-clause-can
carry-requires-clause-can c =
    next_carried c.args.failures.now c.args.self.now c.loop-x.self c.loop-x.x-index (record { vertex = record { 0 = 0 }; index = 0 }, 0) c.loop-x.invariant.is c.loop-x-test.true c.requires.can

pub loop-x-preserved : goal.loop-x-preserved
loop-x-preserved c =
    let m = c.args.self.now in
    let xs = c.args.failures.now in
    let i = c.loop-x.x-index in
    let x = slice_index_or xs i (record { vertex = record { 0 = 0 }; index = 0 }, 0) in
    let can = next_carried xs m c.loop-x.self i (record { vertex = record { 0 = 0 }; index = 0 }, 0) c.loop-x.invariant.is c.loop-x-test.true c.requires.can in
    record {
      is = c.carry.ensures ∙ ap (λ (s : MasterState). carried s x) c.loop-x.invariant.is ∙ sym (fold_more carried m xs i (record { vertex = record { 0 = 0 }; index = 0 }, 0) c.loop-x-test.true);
      limits = subst (λ (s : MasterState). AreRestorable s.conf s.vertices) (sym c.carry.ensures) (carried_limits c.loop-x.self x can c.loop-x.invariant.limits);
    }

pub returns-clause-places : goal.returns-clause-places
returns-clause-places c = ap (λ (m : MasterState). m.pool) c.loop-x.invariant.is ∙ carried_places (take c.loop-x.x-index c.args.failures.now) c.args.self.now
