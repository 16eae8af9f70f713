-- What the code reads of a document: a plan, perhaps not a valid one, and a configuration.
use Rattle.tez_conf.specs.declared.values.ConfValues.{ConfValues}
use Rattle.tez_plan.specs.Dag.{Dag}
use Rattle.tez_dag_json.specs.declared.document.Document.{Document}

abbrev pub contents : Document → Dag × ConfValues
contents d = (record { name = d.name; vertices = d.vertices.items; edges = d.edges.items }, d.conf)
