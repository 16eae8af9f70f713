use Rattle.std.proofs.Common.{◌≡◌, map}
use Rattle.serde_json.specs.View.{members_view}
use Rattle.tez_dag_json.specs.Kinds.{members_among}
use Rattle.tez_dag_json.proofs.kinds.have_only.Given as goal

abbrev pub invariant-loop-name : goal.invariant-loop-name
invariant-loop-name l = members_among (map (λ key. key.now) l.keys) (members_view l.members.entries) ≡ members_among (map (λ key. key.now) l.keys) (members_view l.name-iterator)
