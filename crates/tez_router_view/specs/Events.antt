-- Steps of a router that consist of several calls, and how its answers read in the trace.
--     links_at g v past          the edges at a vertex, with the managers of the history
--     after_announces s ws       these winners were announced, one after another
--     after_dismisses s as       these attempts were dismissed, one after another
--     after_withdraws s ws       these winners were withdrawn, one after another
--     holders_on c past slot     who holds a place of a node
--     winners_on g c past slot   the winners whose pieces lie on a node, in the order of tasks
--     withdrawal_lines ..        the lines of a withdrawal, from the notices of a router
--     fetch_event f              the event of a fetch
--     after_stop s               the router once the master has stopped
--     FitsEntry g e              a configuration that stands again has no more tasks than the plan gives
use Rattle.std.specs.Prelude.{ℕ, ◌≤◌, ⊤, List, [], ◌∷◌, ◌++◌, map, Option, None}
use Rattle.std.specs.List.{filter, filter_map}
use Rattle.tez_ids.specs.declared.AttemptId.{AttemptId}
use Rattle.tez_plan.specs.Dag.{Dag, tasks_of as planned}
use Rattle.tez_conf.specs.declared.values.ConfValues.{ConfValues}
use Rattle.tez_events.specs.declared.KillCause.TheVariants.{Node}
use Rattle.tez_events.specs.declared.Entry.{Entry}
use Rattle.tez_events.specs.declared.Entry.TheVariants.{Killed, Queued, Rerun, Stands}
use Rattle.tez_events.specs.declared.CoreEvent.{CoreEvent}
use Rattle.tez_events.specs.declared.CoreEvent.TheVariants.{Fetch as FetchInput}
use Rattle.tez_history.specs.History.{Past, winner, holder}
use Rattle.tez_history.specs.Derived.{tasks, places_on, is_on_node, next_attempt}
use Rattle.tez_router.specs.declared.fetches.Fetch.{Fetch}
use Rattle.tez_router.specs.State.{RouterState, LinkState}
use Rattle.tez_router.specs.Configure.{is_at}
use Rattle.tez_router.specs.Table.{after_announce, after_dismiss, after_withdraw, notices_in}
use Rattle.tez_master_model.specs.Entries.{notice_entry}
use Rattle.tez_router_view.specs.View.{links_view}

-- ---- a vertex is configured

abbrev pub links_at : Dag → ℕ → Past → List LinkState
links_at g v past = filter (is_at v) (links_view g past)

-- ---- winners and attempts come and are lost

abbrev pub after_announces : RouterState → List AttemptId → RouterState
after_announces s [] = s
after_announces s (w ∷ ws) = after_announces (after_announce s w) ws

abbrev pub after_dismisses : RouterState → List AttemptId → RouterState
after_dismisses s [] = s
after_dismisses s (a ∷ rest) = after_dismisses (after_dismiss s a) rest

abbrev pub after_withdraws : RouterState → List AttemptId → RouterState
after_withdraws s [] = s
after_withdraws s (w ∷ ws) = after_withdraws (after_withdraw s w.task) ws

abbrev pub holders_on : ConfValues → Past → ℕ → List AttemptId
holders_on c past slot = filter_map (λ p. holder p past) (places_on c slot)

abbrev pub winners_on : Dag → ConfValues → Past → ℕ → List AttemptId
winners_on g c past slot = filter (is_on_node g c past slot) (filter_map (λ t. winner t past) (tasks g past))

-- a winner is withdrawn: those that wait for it are told, and its task is queued again
abbrev pub withdrawal_lines : RouterState → Past → AttemptId → List Entry
withdrawal_lines s past w = Rerun w ∷ (map notice_entry (notices_in s w.task) ++ Queued (next_attempt past w.task) ∷ [])

-- who held a place of a lost node is killed, and its task is queued again
abbrev pub kill_lines : Past → AttemptId → List Entry
kill_lines past a = Killed a Node ∷ Queued (next_attempt past a.task) ∷ []

-- ---- what can be fetched

abbrev pub fetch_event : Fetch → CoreEvent
fetch_event f = FetchInput f.attempt f.edge f.input

-- ---- a stop

abbrev pub no_winner : Option AttemptId → Option AttemptId
no_winner w = None

-- nothing is won, and nobody is admitted; the edges keep their managers until the next open
abbrev pub after_stop : RouterState → RouterState
after_stop s = record s { winners = map (map no_winner) s.winners; admitted = [] }

-- ---- what a new master finds

abbrev pub FitsEntry : Dag → Entry → Type 0
FitsEntry g (Stands v tasks base) = tasks ≤ planned g v.0
FitsEntry g _ = ⊤
