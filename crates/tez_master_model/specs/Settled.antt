-- What an event makes of a master, once its answer is put into effect.
--     settled m e             after an event that may come
--     after_done m a made     after a report of an attempt that processes, with the bytes of its pieces by edge
--     after_asked m v there   after the store was asked of the sink of vertex v, and had it or not
--     withdrawn m w           a winner is withdrawn
use Rattle.std.specs.Prelude.{ℕ, ◌+◌, ◌/◌, Bool, true, false, ◌==◌, if◌then◌else◌, List, map, slice_set, Option, Some, None}
use Rattle.std.specs.List.{fold}
use Rattle.std.specs.Option.{option_map, option_map_or}
use Rattle.tez_ids.specs.declared.TaskId.{TaskId}
use Rattle.tez_ids.specs.declared.AttemptId.{AttemptId}
use Rattle.tez_ids.specs.declared.EdgeId.{EdgeId}
use Rattle.tez_lists.specs.Tables.{set_in}
use Rattle.tez_vman.specs.declared.seen.Config.{Config}
use Rattle.tez_events.specs.declared.CoreEvent.{CoreEvent}
use Rattle.tez_events.specs.declared.CoreEvent.TheVariants.{Open, Configure, Queue, Place, Fetch, Send, Preempt, Fail, LoseNode, LoseOutput, Restart, Ready, CommitStart, Ask, Publish, Finish, Purge}
use Rattle.tez_task.specs.declared.TaskEvent.{TaskEvent}
use Rattle.tez_task.specs.declared.TaskEvent.TheVariants as task_event
use Rattle.tez_vertex.specs.Table.{after_configure as configured_vertex}
use Rattle.tez_master_model.specs.Vertices.{change, take_in}
use Rattle.tez_pool.specs.Table.{place_of, held_on, after_place, after_sent, after_release, after_loss}
use Rattle.tez_router.specs.Table.{after_admit, after_dismiss, after_announce, after_withdraw, after_fetched}
use Rattle.tez_router.specs.Configure.{after_set_edges, links_for}
use Rattle.tez_schedule.specs.Table.{configures_at, after_configure, after_schedule, after_win, after_withdraw as unscheduled_win}
use Rattle.tez_master_model.specs.State.{MasterState}
use Rattle.tez_master_model.specs.Read.{is_on_shelf, source_in, lost_in}

abbrev pub took : MasterState → TaskId → TaskEvent → MasterState
took m t e = record m { vertices = take_in m.vertices t e }

abbrev pub with_location : MasterState → TaskId → Option ℕ → MasterState
with_location m t slot = record m { locations = set_in m.locations t.vertex.0 t.index slot }

-- ---- a vertex is configured

abbrev pub with_config : MasterState → ℕ → Config → MasterState
with_config m v s =
    record m {
      vertices = change m.vertices v (λ x. configured_vertex x s.tasks);
      router = after_set_edges m.router (links_for m.router v s);
      schedule = after_configure m.schedule v s;
    }

-- ---- winners and attempts

-- none of the sinks counts as readied any more
abbrev pub unreadied : MasterState → MasterState
unreadied m = record m { readied = map (λ b. false) m.readied }

abbrev pub withdrawn : MasterState → AttemptId → MasterState
withdrawn m w =
    unreadied (with_location (record (took m w.task (task_event.Lose w)) { router = after_withdraw m.router w.task; schedule = unscheduled_win m.schedule w.task }) w.task None)

abbrev pub after_fetch : MasterState → AttemptId → ℕ → ℕ → Option AttemptId → MasterState
after_fetch m a e i None = m
after_fetch m a e i (Some w) = if is_on_shelf m w then record m { router = after_fetched m.router a e i } else withdrawn m w

abbrev pub released : MasterState → AttemptId → TaskEvent → MasterState
released m a e = record (took m a.task e) { pool = after_release m.pool a; router = after_dismiss m.router a }

-- who held a place of a lost node is killed; the place itself is freed with the node
abbrev pub killed : MasterState → AttemptId → MasterState
killed m a = record (took m a.task (task_event.Kill a)) { router = after_dismiss m.router a }

abbrev pub on_no_slot : ℕ → Option ℕ → Option ℕ
on_no_slot slot None = None
on_no_slot slot (Some s) = if s == slot then None else Some s

abbrev pub without_node : MasterState → ℕ → MasterState
without_node m slot = record m { pool = after_loss m.pool slot; locations = map (map (on_no_slot slot)) m.locations }

abbrev pub after_node_loss : MasterState → ℕ → MasterState
after_node_loss m slot =
    if m.committing then without_node m slot
    else without_node (fold withdrawn (fold killed m (held_on m.pool slot)) (lost_in m slot)) slot

abbrev pub slot_in : MasterState → AttemptId → Option ℕ
slot_in m a = option_map (λ x. x.0 / m.pool.per_node) (place_of m.pool.places a)

abbrev pub after_done : MasterState → AttemptId → List (EdgeId × ℕ) → MasterState
after_done m a made =
    with_location
    (record (took m a.task (task_event.Succeed a)) { pool = after_release m.pool a; router = after_announce m.router a; schedule = after_win m.schedule a.task made })
    a.task (slot_in m a)

-- ---- the commit

-- one more sink is recorded
abbrev pub one_recorded : MasterState → MasterState
one_recorded m = record m { recorded = m.recorded + 1 }

-- a sink that is there already is recorded
abbrev pub after_asked : MasterState → ℕ → Bool → MasterState
after_asked m v there = if there then one_recorded m else record m { asked = slice_set m.asked v true }

-- ---- every event

abbrev pub settled : MasterState → CoreEvent → MasterState
settled m Open = m
settled m (Configure v) = option_map_or (with_config m v.0) (configures_at m.schedule v.0) m
settled m (Queue t) = record (took m t task_event.Queue) { schedule = after_schedule m.schedule t }
settled m (Place a p) = record (took m a.task (task_event.Place a)) { pool = after_place m.pool a p; router = after_admit m.router a }
settled m (Fetch a e i) = after_fetch m a e.0 i (source_in m a e.0 i)
settled m (Send a) = record (took m a.task (task_event.Send a)) { pool = after_sent m.pool a; router = after_dismiss m.router a }
settled m (Preempt a) = released m a (task_event.Kill a)
settled m (Fail a) = released m a (task_event.Fail a)
settled m (LoseNode slot) = after_node_loss m slot
settled m (LoseOutput t) = with_location m t None
settled m Restart = m
settled m (Ready v) = record m { readied = slice_set m.readied v.0 true }
settled m CommitStart = record m { committing = true }
settled m (Ask v) = m
settled m (Publish v) = one_recorded m
settled m Finish = record m { finished = true }
settled m Purge = record m { up = false }
