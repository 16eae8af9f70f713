-- The lists that the table gives are those of the records.
use Rattle.std.specs.Prelude.{◌≡◌, ℕ, List, map, length}
use Rattle.std.specs.List.{flat_map}
use Rattle.std.proofs.Common.{ap, ◌∙◌}
use Rattle.std.proofs.lemmas.List.Folds.{flat_map-map}
use Rattle.tez_ids.specs.declared.VertexId.{VertexId}
use Rattle.tez_ids.specs.declared.TaskId.{TaskId}
use Rattle.tez_ids.specs.declared.AttemptId.{AttemptId}
use Rattle.tez_lists.specs.Numbers.{numbers_from}
use Rattle.tez_plan.specs.Dag.{Dag, tasks_of}
use Rattle.tez_events.specs.declared.JournalRecord.{JournalRecord}
use Rattle.tez_standing.specs.declared.state.Phase.{Phase}
use Rattle.tez_standing.specs.declared.state.Standing.{Standing}
use Rattle.tez_standing.specs.Standing.{epoch, version, setting, winner, failures, phase, setting_row, winner_row, failures_row, each_task, each_vertex, standing}
use Rattle.tez_standing.specs.Progress.{row, vertex_state, progress, setting_of, winner_of, failures_of, winners_of, all_failures_of, listed}
use Rattle.tez_standing.proofs.TableLemmas.{each_same}

settings_same : (p : Dag) (rs : List JournalRecord) → flat_map setting_of (map (vertex_state p rs) (numbers_from 0 (length p.vertices))) ≡ each_vertex p (λ v. setting_row v (setting rs v))
settings_same p rs = flat_map-map setting_of (vertex_state p rs) (numbers_from 0 (length p.vertices))

winners_same : (p : Dag) (rs : List JournalRecord) → flat_map winners_of (map (vertex_state p rs) (numbers_from 0 (length p.vertices))) ≡ each_vertex p (each_task p (λ t. winner_row (winner rs t)))
winners_same p rs =
    flat_map-map winners_of (vertex_state p rs) (numbers_from 0 (length p.vertices))
    ∙ each_same (λ v. winners_of (vertex_state p rs v)) (each_task p (λ t. winner_row (winner rs t))) (numbers_from 0 (length p.vertices))
    (λ v. flat_map-map winner_of (row rs v) (numbers_from 0 (tasks_of p v)))

failures_same : (p : Dag) (rs : List JournalRecord) → flat_map all_failures_of (map (vertex_state p rs) (numbers_from 0 (length p.vertices))) ≡ each_vertex p (each_task p (λ t. failures_row t (failures rs t)))
failures_same p rs =
    flat_map-map all_failures_of (vertex_state p rs) (numbers_from 0 (length p.vertices))
    ∙ each_same (λ v. all_failures_of (vertex_state p rs v)) (each_task p (λ t. failures_row t (failures rs t))) (numbers_from 0 (length p.vertices))
    (λ v. flat_map-map failures_of (row rs v) (numbers_from 0 (tasks_of p v)))

abbrev make : ℕ → ℕ → List (VertexId × ℕ × ℕ) → List AttemptId → List (TaskId × ℕ) → Phase → Standing
make e n c w f ph = record { epoch = e; version = n; configured = c; winners = w; failures = f; phase = ph }

pub listed_same : (p : Dag) (rs : List JournalRecord) → listed (progress p rs) ≡ standing p rs
listed_same p rs =
    ap (λ c. make (epoch rs) (version rs) c (flat_map winners_of (map (vertex_state p rs) (numbers_from 0 (length p.vertices)))) (flat_map all_failures_of (map (vertex_state p rs) (numbers_from 0 (length p.vertices)))) (phase rs)) (settings_same p rs)
    ∙ ap (λ w. make (epoch rs) (version rs) (each_vertex p (λ v. setting_row v (setting rs v))) w (flat_map all_failures_of (map (vertex_state p rs) (numbers_from 0 (length p.vertices)))) (phase rs)) (winners_same p rs)
    ∙ ap (λ f. make (epoch rs) (version rs) (each_vertex p (λ v. setting_row v (setting rs v))) (each_vertex p (each_task p (λ t. winner_row (winner rs t)))) f (phase rs)) (failures_same p rs)
