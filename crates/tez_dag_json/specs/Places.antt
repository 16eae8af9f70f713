-- What the code reads at a value of the file.
use Rattle.serde_json.specs.View.{view}
use Rattle.tez_dag_json.specs.Answers.{Answer}
use Rattle.tez_dag_json.specs.Kinds.{Reader}
use Rattle.tez_dag_json.specs.declared.kinds.At.{At}

abbrev pub reading : {X : Type 0} → Reader X → At → Answer X
reading read at = read at.path.now (view at.value.now)
