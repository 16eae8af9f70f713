use Rattle.std.proofs.Common.{◌≡◌, ◌++◌, drop, length, IsTrue, Ok}
use Rattle.std.specs.List.{list_all}
use Rattle.serde_json.specs.View.{items_view}
use Rattle.tez_dag_json.specs.Answers.{◌>>=◌}
use Rattle.tez_dag_json.specs.Kinds.{each}
use Rattle.tez_dag_json.proofs.list.elements.Given as goal

abbrev pub invariant-loop-place : goal.invariant-loop-place
invariant-loop-place g l = record {
  so_far : each g.T.Element.reader l.at.path.now 0 (items_view l.items.items) ≡ (each g.T.Element.reader l.at.path.now l.place (items_view (drop l.place l.items.items)) >>= λ xs. Ok (l.elements.items ++ xs));
  in_range : IsTrue (list_all g.T.Element.is_in_range l.elements.items);
  count : length l.elements.items ≡ l.place;
}
