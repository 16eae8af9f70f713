use Rattle.std.proofs.Common.{◌≡◌, map, take, drop, IsTrue}
use Rattle.std.specs.List.{list_all}
use Rattle.serde_json.specs.View.{view}
use Rattle.tez_dag_json.proofs.write.list.Given as goal

abbrev pub invariant-loop-item : goal.invariant-loop-item
invariant-loop-item g l = record {
  so_far : map view l.written.items ≡ map g.T.ToJson.value (take l.item-index l.items);
  writable : IsTrue (list_all g.T.ToJson.is_writable (drop l.item-index l.items));
}
