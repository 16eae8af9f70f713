-- The view of a worked run by computing: a source and its consumer, whose node is lost.
use Rattle.std.specs.Prelude.{◌≡◌, ℕ, true, false, [], ◌∷◌, Some, None, refl}
use Rattle.tez_ids.specs.declared.AttemptId.{AttemptId}
use Rattle.tez_ids.specs.Same.{task, attempt}
use Rattle.tez_plan.specs.Dag.{edge, vertex}
use Rattle.tez_conf.specs.declared.values.ConfValues.{ConfValues}
use Rattle.tez_events.specs.declared.KillCause.TheVariants.{Node}
use Rattle.tez_events.specs.declared.Entry.TheVariants.{Opened, Stands, Carried, Kept, Configured, Queued, Placed, Ordered, Succeeded, Made, Failed, Killed, NodeLost, Rerun}
use Rattle.tez_attempt.specs.declared.AttemptState.TheVariants.{Queued as Waiting, Placed as AtPlace, Processing}
use Rattle.tez_vertex.specs.Vertex.{Vertex}
use Rattle.tez_vertex.specs.Table.{new_vertex}
use Rattle.tez_history.specs.History.{Past}
use Rattle.tez_task.specs.TaskState.{TaskState}
use Rattle.tez_vertex_view.specs.View.{vertex_view}
use Rattle.tez_vertex_view.proofs.Moving.{state, living}

abbrev conf : ConfValues
conf = record { min_src = 250; max_src = 750; auto_parallel = false; desired_bytes = 1; min_tasks = 1; max_failed = 2; max_masters = 2; reuse = false; nodes = 1; per_node = 2 }

abbrev source : ℕ → AttemptId
source n = attempt 1 (task 0 0) n

abbrev consumer : ℕ → AttemptId
consumer n = attempt 1 (task 1 0) n

abbrev with_task : ℕ → ℕ → TaskState → Vertex
with_task v epoch t = record { vertex = vertex v; epoch = epoch; max_failed = 2; configured = true; tasks = t ∷ []; moved = true }

-- the first attempt of the source failed, and the second processes; the consumer's vertex is not configured
abbrev again : Past
again =
    Ordered (source 1) ∷ Placed (source 1) (record { 0 = 2 }) 0 ∷ Queued (source 1) ∷ Failed (source 0) ∷ Ordered (source 0) ∷ Placed (source 0) (record { 0 = 0 }) 0 ∷ Queued (source 0)
    ∷ Configured (vertex 0) 1 1 ∷ Opened (record { 0 = 1 }) ∷ []

source_again : vertex_view conf 0 again ≡ with_task 0 1 (state (task 0 0) 1 2 (living (source 1) Processing) None 2 1 false)
source_again = refl

consumer_unconfigured : vertex_view conf 1 again ≡ new_vertex (vertex 1) 1 2
consumer_unconfigured = refl

-- the source has a winner, and the consumer waits at a place
abbrev waits : Past
waits = Placed (consumer 0) (record { 0 = 3 }) 0 ∷ Queued (consumer 0) ∷ Configured (vertex 1) 1 1 ∷ Made (source 1) (edge 0) 4 ∷ Succeeded (source 1) ∷ again

source_won : vertex_view conf 0 waits ≡ with_task 0 1 (state (task 0 0) 1 2 None (Some (source 1)) 2 1 false)
source_won = refl

consumer_waits : vertex_view conf 1 waits ≡ with_task 1 1 (state (task 1 0) 1 2 (living (consumer 0) AtPlace) None 1 0 false)
consumer_waits = refl

-- the node is lost: both are queued again
abbrev lost : Past
lost = Queued (source 2) ∷ Rerun (source 1) ∷ Queued (consumer 1) ∷ Killed (consumer 0) Node ∷ NodeLost 0 1 ∷ waits

source_lost : vertex_view conf 0 lost ≡ with_task 0 1 (state (task 0 0) 1 2 (living (source 2) Waiting) None 3 1 false)
source_lost = refl

consumer_lost : vertex_view conf 1 lost ≡ with_task 1 1 (state (task 1 0) 1 2 (living (consumer 1) Waiting) None 2 0 false)
consumer_lost = refl

-- a second failure spends the source
source_spent : vertex_view conf 0 (Failed (source 1) ∷ again) ≡ with_task 0 1 (state (task 0 0) 1 2 None None 2 2 true)
source_spent = refl

-- a new master finds the winner and the failure
restored : vertex_view conf 0 (Kept (source 1) ∷ Carried (task 0 0) 1 ∷ Stands (vertex 0) 1 1 ∷ Opened (record { 0 = 2 }) ∷ again)
    ≡ record { vertex = vertex 0; epoch = 2; max_failed = 2; configured = true; tasks = state (task 0 0) 2 2 None (Some (source 1)) 0 1 false ∷ []; moved = false }
restored = refl
