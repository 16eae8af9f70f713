-- The view of a worked run by computing: one place, whose node is lost under a waiting consumer.
use Rattle.std.specs.Prelude.{◌≡◌, true, false, [], ◌∷◌, Some, refl}
use Rattle.tez_plan.specs.Dag.{edge, vertex}
use Rattle.tez_conf.specs.declared.values.ConfValues.{ConfValues}
use Rattle.tez_ids.specs.declared.AttemptId.{AttemptId}
use Rattle.tez_ids.specs.Same.{task, attempt}
use Rattle.tez_events.specs.declared.KillCause.TheVariants.{Node}
use Rattle.tez_events.specs.declared.StopCause.TheVariants.{Script}
use Rattle.tez_events.specs.declared.Entry.TheVariants.{Opened, Configured, Queued, Placed, Ordered, Succeeded, Made, Killed, NodeLost, Rerun, Stopped}
use Rattle.tez_history.specs.History.{Past}
use Rattle.tez_pool.specs.Table.{free}
use Rattle.tez_pool_view.specs.View.{pool_view}

-- one node with two places, whose containers are not used again
abbrev conf : ConfValues
conf = record { min_src = 250; max_src = 750; auto_parallel = false; desired_bytes = 1; min_tasks = 1; max_failed = 4; max_masters = 2; reuse = false; nodes = 1; per_node = 2 }

abbrev source : AttemptId
source = attempt 1 (task 0 0) 0

abbrev consumer : AttemptId
consumer = attempt 1 (task 1 0) 0

-- the source processes, then it is done and its place has a new container, and the consumer waits there
abbrev sent : Past
sent = Ordered source ∷ Placed source (record { 0 = 0 }) 0 ∷ Queued source ∷ Configured (vertex 1) 1 1 ∷ Configured (vertex 0) 1 1 ∷ Opened (record { 0 = 1 }) ∷ []

source_processes : pool_view conf sent
    ≡ record { places = record { holder = Some (record { attempt = source; sent = true }); container = record { 0 = 0 } } ∷ free 1 ∷ []; lives = 0 ∷ []; next = 2; per_node = 2; reuse = false }
source_processes = refl

abbrev waits : Past
waits = Placed consumer (record { 0 = 2 }) 0 ∷ Queued consumer ∷ Made source (edge 0) 4 ∷ Succeeded source ∷ sent

consumer_waits : pool_view conf waits
    ≡ record { places = record { holder = Some (record { attempt = consumer; sent = false }); container = record { 0 = 2 } } ∷ free 1 ∷ []; lives = 0 ∷ []; next = 3; per_node = 2; reuse = false }
consumer_waits = refl

-- the node is lost: both places are free with new containers, and the next node stands there
node_lost : pool_view conf (Queued (attempt 1 (task 0 0) 1) ∷ Rerun source ∷ Queued (attempt 1 (task 1 0) 1) ∷ Killed consumer Node ∷ NodeLost 0 1 ∷ waits)
    ≡ record { places = free 3 ∷ free 4 ∷ []; lives = 1 ∷ []; next = 5; per_node = 2; reuse = false }
node_lost = refl

-- a stop frees the place that was held, with the next number
stopped : pool_view conf (Stopped Script ∷ waits) ≡ record { places = free 3 ∷ free 1 ∷ []; lives = 0 ∷ []; next = 4; per_node = 2; reuse = false }
stopped = refl
