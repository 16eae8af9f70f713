use Rattle.std.proofs.Common.{ℕ, true, refl}
use Rattle.tez_dag_json.proofs.Texts.{all_pass}
use Rattle.tez_dag_json.proofs.write.columns.Goals as goal

pub list-requires : goal.list-requires
list-requires c = all_pass {X = ℕ} (λ _. true) (λ _. refl) c.as_slice.result.now
