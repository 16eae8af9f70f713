use Rattle.tez_am.proofs.Accepting.{dag_unread, dag_read, dag_refused}
use Rattle.tez_am.proofs.accept.read_plan.Goals as goal

pub returns-in-Err-clause-refusal : goal.returns-in-Err-clause-refusal
returns-in-Err-clause-refusal g c = dag_unread _ _ _ c.in-Err.ensures.refusal

pub returns-in-Ok-dag-clause-said : goal.returns-in-Ok-dag-clause-said
returns-in-Ok-dag-clause-said g c = dag_read _ _ _ _ _ c.in-Ok.ensures.bytes c.deref.ensures.value c.in-Ok-dag.ensures.said

pub returns-clause-refusal : goal.returns-clause-refusal
returns-clause-refusal g c = dag_refused _ _ _ _ _ c.in-Ok.ensures.bytes c.deref.ensures.value c.in-Err-dag.ensures.refusal
