use Rattle.tez_dag_json.proofs.Texts.{text_of_filter, ok_where_utf8}
use Rattle.tez_dag_json.proofs.write.text.Goals as goal

pub unwrap-text-requires : goal.unwrap-text-requires
unwrap-text-requires c = ok_where_utf8 _ _ _ _ c.from_utf8.ensures.cases (rw c.as_slice.ensures (text_of_filter _ c.requires))
