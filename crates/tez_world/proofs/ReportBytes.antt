-- The bytes that reports told.
--     quiet_told, report_told      the bytes stay told right, after entries that tell none and after a report
use Rattle.std.specs.Prelude.{◌≡◌, ℕ, true, List, [], ◌∷◌, map, length}
use Rattle.std.specs.List.{AllByRecursion, filter, enumerate_from}
use Rattle.std.proofs.Common.{ap, ◌∙◌}
use Rattle.tez_ids.specs.declared.AttemptId.{AttemptId}
use Rattle.tez_record.specs.Bag.{text}
use Rattle.tez_plan.specs.Dag.{edge}
use Rattle.tez_conf.specs.declared.values.ConfValues.{ConfValues}
use Rattle.tez_events.specs.declared.Entry.{Entry}
use Rattle.tez_events.specs.declared.Entry.TheVariants.{Opened, Over, Stands, Carried, Kept, Committing, Configured, Queued, Placed, Fetched, ReadError, InputFailed, Ordered, Succeeded, Made, Failed, Killed, NodeLost, OutputLost, Rerun, Stopped, Ready, Asked, Settled, Published, CommitStarted, Finished, Purged}
use Rattle.tez_meaning.specs.Jobs.{Job}
use Rattle.tez_history.specs.Shape.{Edge}
use Rattle.tez_history.specs.History.{Past, extend, stage}
use Rattle.tez_history.specs.Derived.{is_processing}
use Rattle.tez_history.specs.Steps.{done_entries}
use Rattle.tez_contents.specs.Contents.{made}
use Rattle.tez_contents.specs.Laws.{task_makes}
use Rattle.tez_contents.proofs.Attempts.{all_right}
use Rattle.tez_contents.proofs.Sent.{runs_ordered}
use Rattle.tez_master_model.specs.Bytes.{leaves_by_key}
use Rattle.tez_assembly.specs.Order.{Records}
use Rattle.tez_work_view.proofs.EntryKinds.{AllOf}
use Rattle.tez_rules.proofs.Kept.{TellsNone, AddsQuietly}
use Rattle.tez_sinks.specs.Well.{IsWell}
use Rattle.tez_steps.specs.Step.{bytes_out}
use Rattle.tez_steps.proofs.ReportBytes.{told_as}
use Rattle.tez_world.specs.Lawful.{IsTold, BytesAreTold}

all_same : (n k : ℕ) (es : List Edge) → n ≡ k → AllByRecursion (λ (m : ℕ × ℕ). m.1 ≡ k) (map (told_as n) es)
all_same n k [] h = tt
all_same n k (e ∷ es) h = (h, all_same n k es h)

-- ---- what is told

quiet_one : (job : Job) (past : Past) (e : Entry) → TellsNone e → IsTold job past e
quiet_one job past (Made a e n) none = absurd none
quiet_one job past (Opened _) none = tt
quiet_one job past Over none = tt
quiet_one job past (Stands _ _ _) none = tt
quiet_one job past (Carried _ _) none = tt
quiet_one job past (Kept _) none = tt
quiet_one job past (Committing _) none = tt
quiet_one job past (Configured _ _ _) none = tt
quiet_one job past (Queued _) none = tt
quiet_one job past (Placed _ _ _) none = tt
quiet_one job past (Fetched _ _ _ _) none = tt
quiet_one job past (ReadError _ _ _ _) none = tt
quiet_one job past (InputFailed _ _ _ _) none = tt
quiet_one job past (Ordered _) none = tt
quiet_one job past (Succeeded _) none = tt
quiet_one job past (Failed _) none = tt
quiet_one job past (Killed _ _) none = tt
quiet_one job past (NodeLost _ _) none = tt
quiet_one job past (OutputLost _) none = tt
quiet_one job past (Rerun _) none = tt
quiet_one job past (Stopped _) none = tt
quiet_one job past (Ready _) none = tt
quiet_one job past (Asked _) none = tt
quiet_one job past (Settled _) none = tt
quiet_one job past (Published _) none = tt
quiet_one job past CommitStarted none = tt
quiet_one job past Finished none = tt
quiet_one job past Purged none = tt

pub quiet_told : (job : Job) (past : Past) (es : List Entry) → AllOf AddsQuietly es → BytesAreTold job past → BytesAreTold job (extend past es)
quiet_told job past [] quiet told = told
quiet_told job past (e ∷ es) quiet told = quiet_told job (e ∷ past) es quiet.1 (quiet_one job past e quiet.0.1, told)

mades_told : (job : Job) (past : Past) (a : AttemptId) (ms : List (ℕ × ℕ)) → AllByRecursion (λ (m : ℕ × ℕ). m.1 ≡ length (text (task_makes job past a.task))) ms → BytesAreTold job past
    → BytesAreTold job (extend past (map (λ m. Made a (edge m.0) m.1) ms))
mades_told job past a [] all told = told
mades_told job past a (m ∷ ms) all told = mades_told job (Made a (edge m.0) m.1 ∷ past) a ms all.1 (all.0, told)

pub report_told : (job : Job) (c : ConfValues) (past : Past) (a : AttemptId) (value : Records) → IsWell job c past → is_processing (stage a past) ≡ true → value ≡ made job a past → BytesAreTold job past
    → BytesAreTold job (extend past (done_entries a (bytes_out job.plan a.task.vertex.0 value)))
report_told job c past a value w runs is told =
    let right = all_right job c w.ranges w.valid past w.made w.allowed w.kept in
    let makes : value ≡ task_makes job past a.task = is ∙ (right.1 a (runs_ordered a past runs)).0.1 in
    let es = filter (leaves_by_key job.plan a.task.vertex.0) (enumerate_from 0 job.plan.edges) in
    mades_told job (Succeeded a ∷ past) a (bytes_out job.plan a.task.vertex.0 value)
    (all_same (length (text value)) (length (text (task_makes job (Succeeded a ∷ past) a.task))) es (ap (λ (rs : Records). length (text rs)) makes)) (tt, told)
