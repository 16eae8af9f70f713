-- What is due to the bytes of a file, and that no other answer is.
use Rattle.std.proofs.Common.{◌≡◌, ℕ, List, Some, Ok, Err, refl, sym, ap, ◌∙◌}
use Rattle.std.specs.Str.{IsUtf8}
use Rattle.serde_json.specs.Read.{read}
use Rattle.tez_conf.specs.declared.values.ConfValues.{ConfValues}
use Rattle.tez_conf.specs.Ranges.{IsInRange}
use Rattle.tez_plan.specs.Dag.{Dag}
use Rattle.tez_plan.specs.Ranges.{IsInRanges}
use Rattle.tez_plan.specs.Faults.{IsValid, IsFirstFault}
use Rattle.tez_plan.proofs.CheckLemmas.{same_fault, no_fault}
use Rattle.tez_dag_json.specs.Form.{form}
use Rattle.tez_dag_json.specs.Canonical.{document_value}
use Rattle.tez_dag_json.specs.Due.{Judges, IsDue}
use Rattle.tez_dag_json.specs.Answers.{Answer}
use Rattle.tez_dag_json.specs.declared.fault.DagFault.{DagFault}
use Rattle.tez_dag_json.specs.declared.fault.DagFault.TheVariants.{Plan}
use Rattle.tez_plan.specs.declared.fault.PlanFault.{PlanFault}
use Rattle.tez_dag_json.proofs.BackWhole.{document_back}
use Rattle.tez_dag_json.proofs.Texts.{json_value}

form_of_text : (text : List ℕ) (p : Dag) (c : ConfValues) → IsUtf8 text → read text ≡ Some (document_value p c) → IsInRanges p → IsInRange c → form text ≡ Ok (p, c)
unfolding form
form_of_text text p c utf8 reads ranges range = rw (json_value text (document_value p c) utf8 reads) (document_back p c ranges range)

-- ---- the answers of the walk and of the plan

pub due_form : (bytes : List ℕ) (e : DagFault) → form bytes ≡ Err e → IsDue bytes (Err e)
unfolding IsDue
due_form bytes e said = rw said

pub due_plan : (bytes : List ℕ) (p : Dag) (c : ConfValues) → form bytes ≡ Ok (p, c) → IsValid p → IsDue bytes (Ok (p, c))
unfolding IsDue
due_plan bytes p c said valid = rw said (refl, valid)

pub due_fault : (bytes : List ℕ) (p : Dag) (c : ConfValues) (f : PlanFault) → form bytes ≡ Ok (p, c) → IsFirstFault p f → IsDue bytes (Err (Plan f))
unfolding IsDue
due_fault bytes p c f said first = rw said (f, first, refl)

pub due_of_text : (text : List ℕ) (p : Dag) (c : ConfValues) → IsUtf8 text → read text ≡ Some (document_value p c) → IsInRanges p → IsValid p → IsInRange c → IsDue text (Ok (p, c))
due_of_text text p c utf8 reads ranges valid range = due_plan text p c (form_of_text text p c utf8 reads ranges range) valid

-- ---- one answer is due

one_judged : (said a b : Answer (Dag × ConfValues)) → Judges said a → Judges said b → a ≡ b
one_judged (Err fault) a b ha hb = ha ∙ sym hb
one_judged (Ok said) (Ok x) (Ok y) ha hb = ap Ok (ha.0 ∙ sym hb.0)
one_judged (Ok said) (Ok x) (Err f) ha hb = absurd (no_fault said.0 hb.0 ha.1 hb.1)
one_judged (Ok said) (Err e) (Ok y) ha hb = absurd (no_fault said.0 ha.0 hb.1 ha.1)
one_judged (Ok said) (Err e) (Err f) ha hb = ap Err (ha.2 ∙ ap Plan (same_fault said.0 ha.0 hb.0 ha.1 hb.1) ∙ sym hb.2)

pub one_due : (bytes : List ℕ) (a b : Answer (Dag × ConfValues)) → IsDue bytes a → IsDue bytes b → a ≡ b
unfolding IsDue
one_due bytes a b ha hb = one_judged (form bytes) a b ha hb
