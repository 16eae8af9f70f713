-- A failure is the last that its task may have where the history says so.
use Rattle.std.specs.Prelude.{◌≡◌, ℕ, suc, ◌+◌, nat_le, true, false}
use Rattle.std.specs.Option.{option_map_or}
use Rattle.std.proofs.Common.{ap, ◌∙◌, arith}
use Rattle.tez_ids.specs.declared.AttemptId.{AttemptId}
use Rattle.tez_conf.specs.declared.values.ConfValues.{ConfValues}
use Rattle.tez_events.specs.declared.CoreEvent.TheVariants.{Fail}
use Rattle.tez_meaning.specs.Jobs.{Job}
use Rattle.tez_history.specs.History.{Past, stage, failures}
use Rattle.tez_history.specs.Steps.{is_running}
use Rattle.tez_task.specs.Table.{is_last}
use Rattle.tez_laws.proofs.StepLaw.{both, alive_task}
use Rattle.tez_laws.proofs.OneLive.{running_alive}
use Rattle.tez_master_model.specs.Enabled.{enabled_in}
use Rattle.tez_master_model.specs.Entries.{is_last_in}
use Rattle.tez_master_view.proofs.TaskReadings.{task_read}
use Rattle.tez_world_invariant.specs.Keeping.{Parts, Holds}
use Rattle.tez_world_invariant.proofs.PartsKeep.{on_of}

more : (n : ℕ) → n + 1 ≡ suc n
more n = omega arith

pub last_told : (job : Job) (c : ConfValues) (ps : Parts) (past : Past) (a : AttemptId) → Holds job c ps past → enabled_in ps.master (Fail a) ≡ true → is_last_in ps.master a.task ≡ nat_le c.max_failed (suc (failures a.task past))
last_told job c ps past a h taken =
    let on = on_of job c ps past (Fail a) h tt taken in
    let runs = both {x = is_running past} on in
    let there = alive_task job.plan c past a h.well.made (running_alive (stage a past) runs.1) in
    ap (λ m. is_last_in m a.task) h.master
    ∙ ap (λ o. option_map_or is_last o false) (task_read job.plan c past a.task h.well.made there.0)
    ∙ ap (nat_le c.max_failed) (more (failures a.task past))
