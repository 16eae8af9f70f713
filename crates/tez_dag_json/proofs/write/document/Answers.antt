use Rattle.std.proofs.Common.{true, refl}
use Rattle.tez_plan.specs.declared.parts.EdgeSpec.{EdgeSpec}
use Rattle.tez_dag_json.proofs.Texts.{all_pass}
use Rattle.tez_dag_json.proofs.write.document.Goals as goal

pub list-requires : goal.list-requires
list-requires c = all_pass {X = EdgeSpec} (λ _. true) (λ _. refl) c.edges.result.now
