use Rattle.tez_dag_json.proofs.Texts.{steps_of_vertex}
use Rattle.tez_dag_json.proofs.write.VertexSpecToJson.to_json.Goals as goal

pub list-requires : goal.list-requires
list-requires c = rw c.as_slice.ensures (steps_of_vertex c.args.self.now c.requires)
