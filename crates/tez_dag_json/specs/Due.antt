-- What is answered to the bytes of a file.
use Rattle.std.specs.Prelude.{◌≡◌, ⊤, List, ℕ, Ok, Err}
use Rattle.tez_conf.specs.declared.values.ConfValues.{ConfValues}
use Rattle.tez_plan.specs.Dag.{Dag}
use Rattle.tez_plan.specs.declared.fault.PlanFault.{PlanFault}
use Rattle.tez_plan.specs.Faults.{IsValid, IsFirstFault}
use Rattle.tez_dag_json.specs.Answers.{Answer}
use Rattle.tez_dag_json.specs.Form.{form}
use Rattle.tez_dag_json.specs.declared.fault.DagFault.{DagFault}
use Rattle.tez_dag_json.specs.declared.fault.DagFault.TheVariants.{NotJson, Shape, OutOfRange, Plan, NoMemory}

-- the faults that the form of a file can have
abbrev pub IsOfForm : DagFault → Type 0
IsOfForm NotJson = ⊤
IsOfForm (Shape path) = ⊤
IsOfForm (OutOfRange path) = ⊤
IsOfForm (Plan fault) = ⊥
IsOfForm NoMemory = ⊥

-- what was read, if its plan is valid; the fault of the form; or else the first fault of the plan
abbrev pub Judges : Answer (Dag × ConfValues) → Answer (Dag × ConfValues) → Type 0
Judges (Err fault) answer = answer ≡ Err fault
Judges (Ok said) (Ok seen) = (seen ≡ said) × IsValid said.0
Judges (Ok said) (Err fault) = (first : PlanFault) × IsFirstFault said.0 first × (fault ≡ Plan first)

unfoldable pub IsDue : List ℕ → Answer (Dag × ConfValues) → Type 0
IsDue bytes answer = Judges (form bytes) answer
