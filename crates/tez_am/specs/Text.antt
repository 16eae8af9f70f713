-- What a call writes, and how the program ends.
use Rattle.std.specs.Prelude.{ℕ, List, [], ◌++◌, codes, decimal, slice_get}
use Rattle.std.specs.Option.{option_map_or}
use Rattle.tez_plan.specs.declared.fault.PlanFault.{PlanFault}
use Rattle.tez_dag_json.specs.Names.{word_and_place}
use Rattle.tez_dag_json.specs.declared.fault.DagFault.{DagFault}
use Rattle.tez_dag_json.specs.declared.fault.DagFault.TheVariants as dag
use Rattle.tez_plan.specs.Dag.{Dag}
use Rattle.tez_meaning.specs.Jobs.{Job}
use Rattle.tez_am.specs.Meaning.{summary}
use Rattle.tez_steps.specs.declared.verdict.Device.TheVariants.{Disk, Store}
use Rattle.tez_am.specs.declared.status.Status.{Status}
use Rattle.tez_am.specs.declared.status.Status.TheVariants.{Succeeded, Usage, DagRefused, InputMissing, InputTooLarge, InputFault, SinkExists, AttemptsSpent, DeviceFault, MeaningUndefined, OutFault, NoMemory}

-- the text of a run that has published its sinks
abbrev pub success_text : Job → List ℕ
success_text job = codes "SUCCEEDED\n" ++ summary job

-- the name of a vertex
abbrev pub name_of : Dag → ℕ → List ℕ
name_of p v = option_map_or (λ s. s.name) (slice_get p.vertices v) []

-- the text of a task whose attempts are spent
unfoldable pub spent_line : List ℕ → ℕ → List ℕ
spent_line name task = codes "FAILED attempts " ++ name ++ codes " " ++ decimal task ++ codes "\n"

abbrev pub spent_text : Dag → ℕ → ℕ → List ℕ
spent_text p v task = spent_line (name_of p v) task

-- the text of a DAG file's fault; want of memory is none
abbrev pub plan_text : List ℕ × ℕ → List ℕ
plan_text named = codes "REFUSED dag plan " ++ named.0 ++ codes " " ++ decimal named.1 ++ codes "\n"

abbrev pub plan_fault_text : PlanFault → List ℕ
plan_fault_text fault = option_map_or plan_text (word_and_place fault) (codes "NO MEMORY\n")

abbrev pub dag_fault_text : DagFault → List ℕ
dag_fault_text dag.NotJson = codes "REFUSED dag not json\n"
dag_fault_text (dag.Shape path) = codes "REFUSED dag shape " ++ path ++ codes "\n"
dag_fault_text (dag.OutOfRange path) = codes "REFUSED dag range " ++ path ++ codes "\n"
dag_fault_text (dag.Plan fault) = plan_fault_text fault
dag_fault_text dag.NoMemory = codes "NO MEMORY\n"

-- the text of another answer; that of spent attempts names the vertex
abbrev pub status_text : Status → List ℕ
status_text Succeeded = []
status_text Usage = codes "usage: tez run or resume DAG [--script FILE] [--trace], drill SEED LINES, check DAG, meaning DAG, audit DAG TRACE, generate SEED LINES\n"
status_text (DagRefused fault) = dag_fault_text fault
status_text (InputMissing name) = codes "REFUSED input missing " ++ name ++ codes "\n"
status_text (InputTooLarge name) = codes "REFUSED input too large " ++ name ++ codes "\n"
status_text (InputFault name) = codes "REFUSED input fault " ++ name ++ codes "\n"
status_text (SinkExists name) = codes "REFUSED sink exists " ++ name ++ codes "\n"
status_text (AttemptsSpent vertex task) = []
status_text (DeviceFault Disk) = codes "FAILED device disk\n"
status_text (DeviceFault Store) = codes "FAILED device store\n"
status_text (MeaningUndefined name) = codes "REFUSED meaning " ++ name ++ codes "\n"
status_text OutFault = []
status_text NoMemory = codes "NO MEMORY\n"

-- the exit code of the program
abbrev pub exit_of : Status → ℕ
exit_of Succeeded = 0
exit_of Usage = 2
exit_of (DagRefused fault) = 3
exit_of (InputMissing name) = 4
exit_of (InputTooLarge name) = 5
exit_of (InputFault name) = 6
exit_of (SinkExists name) = 7
exit_of (AttemptsSpent vertex task) = 10
exit_of (DeviceFault device) = 12
exit_of OutFault = 14
exit_of NoMemory = 15
exit_of (MeaningUndefined name) = 16
