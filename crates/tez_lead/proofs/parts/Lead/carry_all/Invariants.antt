use Rattle.std.proofs.Common.{◌≡◌, take}
use Rattle.tez_master_model.specs.Vertices.{AreRestorable}
use Rattle.tez_master_model.specs.Recovery.{all_carried}
use Rattle.tez_lead.proofs.parts.Lead.carry_all.Given as goal

abbrev pub invariant-loop-x : goal.invariant-loop-x
invariant-loop-x l = record {
  is : l.self ≡ all_carried l.fn.self (take l.x-index l.failures);
  limits : AreRestorable l.self.conf l.self.vertices;
}
