-- The laws by events.
use Rattle.std.specs.Prelude.{◌≡◌, ℕ, suc, ◌≤◌, nat_le, Bool, true, false, not, if◌then◌else◌, [], ◌∷◌, Option, Some, None, is_none, unwrap_or, refl}
use Rattle.std.proofs.Common.{ap, sym, ◌∙◌, subst}
use Rattle.tez_ids.specs.declared.TaskId.{TaskId}
use Rattle.tez_ids.specs.declared.VertexId.{VertexId}
use Rattle.tez_ids.specs.declared.EdgeId.{EdgeId}
use Rattle.tez_ids.specs.declared.AttemptId.{AttemptId}
use Rattle.tez_events.specs.declared.Entry.TheVariants.{Failed, ReadError, Fetched, NodeLost}
use Rattle.tez_events.specs.declared.CoreEvent.TheVariants.{Configure, Queue, Place, Fetch, Send, Preempt, Fail, LoseNode, LoseOutput}
use Rattle.tez_events.specs.declared.KillCause.TheVariants.{Preempt as Preempted}
use Rattle.tez_plan.specs.Dag.{Dag, edge, tasks_of as planned}
use Rattle.tez_conf.specs.declared.values.ConfValues.{ConfValues}
use Rattle.tez_vman.specs.declared.seen.Config.{Config}
use Rattle.tez_vman.specs.Rules.{config as shape}
use Rattle.tez_history.specs.Shape.{is_vertex}
use Rattle.tez_history.specs.History.{Past, extend, stage, live, winner, config, life, failures, is_fetched, is_scheduled, is_committing, Stage, Unknown, InQueue, Waits, Runs, Ended, container_of}
use Rattle.tez_history.specs.Derived.{is_waiting, is_queued, is_processing, is_on_shelf, configures, is_task, next_attempt, source_of_input}
use Rattle.tez_history.specs.Steps.{enabled, is_running, entries_of, requeue, winner_behind, fetch_entries, withdrawal, output_lost_entries, node_loss_entries}
use Rattle.tez_history.specs.Follows.{IsMade}
use Rattle.tez_laws.specs.Laws.{answered}
use Rattle.tez_laws.proofs.OneLive.{one_live, running_alive}
use Rattle.tez_laws.proofs.Tasks.{unscheduled, winner_task}
use Rattle.tez_laws.proofs.StepLaw.{both}
use Rattle.tez_router.specs.Table.{after_withdraw, after_admit, after_dismiss, after_fetched}
use Rattle.tez_router_view.specs.View.{router_view, FitsPlan}
use Rattle.tez_router_view.specs.Events.{withdrawal_lines}
use Rattle.tez_router_view.proofs.Moving.{queued_view, failed_view, failed_again_view, runs_idle, waits_alive, withdrawal_view, ordered_view, killed_again_view}
use Rattle.tez_router_view.proofs.Placing.{placed_view}
use Rattle.tez_router_view.proofs.Fetching.{fetched_view}
use Rattle.tez_router_view.proofs.Configuring.{configured_view, Sets}
use Rattle.tez_router_view.proofs.Losing.{withdrawal_read}
use Rattle.tez_router_view.proofs.Sources.{behind}

-- ---- what the tests tell

not_so : (b : Bool) → not b ≡ true → b ≡ false
not_so true h = cc
not_so false h = refl

queued_is : (s : Stage) → is_queued s ≡ true → s ≡ InQueue
queued_is InQueue h = refl
queued_is (Waits p) h = cc
queued_is (Runs p) h = cc
queued_is Unknown h = cc
queued_is Ended h = cc

none_is : (o : Option Config) → is_none o ≡ true → o ≡ None
none_is None h = refl
none_is (Some s) h = cc

waiting_live : (g : Dag) (c : ConfValues) (past : Past) (a : AttemptId) → IsMade g c past → is_waiting (stage a past) ≡ true → live a.task past ≡ Some a
waiting_live g c past a m h = one_live g c past m a (waits_alive (stage a past) h)

-- ---- a vertex is configured

pub configure_sets : (g : Dag) (c : ConfValues) (past : Past) (v : VertexId) → IsMade g c past → enabled g c past (Configure v) ≡ true → (unwrap_or (configures g c v.0 past) (shape 0 0)).tasks ≤ planned g v.0
    → Sets g v.0 past (extend past (entries_of g c past (Configure v)))
configure_sets g c past v m on few =
    let k = both {x = is_running past} on in
    let l = both {x = is_vertex g v.0} k.1 in
    let n = both {x = is_none (config v.0 past)} l.1 in
    let s = unwrap_or (configures g c v.0 past) (shape 0 0) in
    configured_view g c past m v s.tasks s.base (none_is (config v.0 past) n.0) few

-- ---- attempts

pub place_admits : (g : Dag) (c : ConfValues) (past : Past) (a : AttemptId) (p : ℕ) → IsMade g c past → enabled g c past (Place a p) ≡ true → after_admit (router_view g past) a ≡ router_view g (extend past (entries_of g c past (Place a p)))
place_admits g c past a p m on =
    let k = both {x = is_running past} on in
    let l = both {x = is_queued (stage a past)} k.1 in
    placed_view g c past a (record { 0 = container_of c p past }) p m (queued_is (stage a past) l.0)

pub send_dismisses : (g : Dag) (c : ConfValues) (past : Past) (a : AttemptId) → IsMade g c past → enabled g c past (Send a) ≡ true → after_dismiss (router_view g past) a ≡ router_view g (extend past (entries_of g c past (Send a)))
send_dismisses g c past a m on =
    let k = both {x = is_running past} on in
    let l = both {x = is_waiting (stage a past)} k.1 in
    ordered_view g past a (waiting_live g c past a m l.0)

pub preempt_dismisses : (g : Dag) (c : ConfValues) (past : Past) (a : AttemptId) → IsMade g c past → enabled g c past (Preempt a) ≡ true → after_dismiss (router_view g past) a ≡ router_view g (extend past (entries_of g c past (Preempt a)))
preempt_dismisses g c past a m on =
    let k = both {x = is_running past} on in
    let l = both {x = is_waiting (stage a past)} k.1 in
    killed_again_view g past a Preempted (waiting_live g c past a m l.0)

-- ---- fetches

there_is : {X : Type 0} (b : Bool) (x y : X) → b ≡ true → (if b then x else y) ≡ x
there_is true x y h = refl
there_is false x y h = cc

there_not : {X : Type 0} (b : Bool) (x y : X) → b ≡ false → (if b then x else y) ≡ y
there_not true x y h = cc
there_not false x y h = refl

pub fetch_marks : (g : Dag) (c : ConfValues) (past : Past) (a : AttemptId) (e : EdgeId) (i : ℕ) (w : AttemptId) → winner_behind g past a e.0 i ≡ Some w → is_on_shelf g c past w ≡ true
    → after_fetched (router_view g past) a e.0 i ≡ router_view g (extend past (entries_of g c past (Fetch a e i)))
fetch_marks g c past a e i w is there =
    fetched_view g past a e i w
    ∙ ap (λ es. router_view g (extend past es)) (sym (there_is (is_on_shelf g c past w) (Fetched a (edge e.0) i w ∷ []) _ there))
    ∙ ap (λ o. router_view g (extend past (fetch_entries g c past a e.0 i o))) (sym is)

won_behind : (g : Dag) (past : Past) (a : AttemptId) (e i : ℕ) (w : AttemptId) → winner_behind g past a e i ≡ Some w → winner w.task past ≡ Some w
won_behind g past a e i w h = let r = behind g past a e i w h in subst (λ t. winner t past ≡ Some w) (sym (winner_task past (source_of_input g past a r.at) w r.won)) r.won

read_error_made : (g : Dag) (c : ConfValues) (past : Past) (a : AttemptId) (e : EdgeId) (i : ℕ) (w : AttemptId) → IsMade g c past → enabled g c past (Fetch a e i) ≡ true → winner_behind g past a e.0 i ≡ Some w → is_on_shelf g c past w ≡ false
    → IsMade g c (ReadError a (edge e.0) i w ∷ past)
read_error_made g c past a e i w m on is gone =
    let k = both {x = is_running past} on in
    let l = both {x = is_waiting (stage a past)} k.1 in
    let n = both {x = not (is_fetched a e.0 i past)} l.1 in
    ((l.0, not_so (is_fetched a e.0 i past) n.0, is, gone), m)

read_error_is : (g : Dag) (c : ConfValues) (past : Past) (a : AttemptId) (e : EdgeId) (i : ℕ) (w : AttemptId) → winner_behind g past a e.0 i ≡ Some w → is_on_shelf g c past w ≡ false
    → entries_of g c past (Fetch a e i) ≡ ReadError a (edge e.0) i w ∷ withdrawal g (ReadError a (edge e.0) i w ∷ past) w
read_error_is g c past a e i w is gone =
    ap (λ o. fetch_entries g c past a e.0 i o) is ∙ there_not (is_on_shelf g c past w) _ (ReadError a (edge e.0) i w ∷ withdrawal g (ReadError a (edge e.0) i w ∷ past) w) gone

pub read_error_withdraws : (g : Dag) (c : ConfValues) (past : Past) (a : AttemptId) (e : EdgeId) (i : ℕ) (w : AttemptId) → IsMade g c past → enabled g c past (Fetch a e i) ≡ true → winner_behind g past a e.0 i ≡ Some w
    → is_on_shelf g c past w ≡ false → after_withdraw (router_view g past) w.task ≡ router_view g (extend past (entries_of g c past (Fetch a e i)))
read_error_withdraws g c past a e i w m on is gone =
    withdrawal_view g c (ReadError a (edge e.0) i w ∷ past) w (read_error_made g c past a e i w m on is gone) (won_behind g past a e.0 i w is)
    ∙ ap (λ es. router_view g (extend past es)) (sym (read_error_is g c past a e i w is gone))

pub read_error_lines : (g : Dag) (c : ConfValues) (past : Past) (a : AttemptId) (e : EdgeId) (i : ℕ) (w : AttemptId) → IsMade g c past → FitsPlan g past → enabled g c past (Fetch a e i) ≡ true → winner_behind g past a e.0 i ≡ Some w
    → is_on_shelf g c past w ≡ false → entries_of g c past (Fetch a e i) ≡ ReadError a e i w ∷ withdrawal_lines (router_view g past) past w
read_error_lines g c past a e i w m fits on is gone =
    read_error_is g c past a e i w is gone
    ∙ ap (λ es. ReadError a (edge e.0) i w ∷ es) (withdrawal_read g c (ReadError a (edge e.0) i w ∷ past) w (read_error_made g c past a e i w m on is gone) fits (won_behind g past a e.0 i w is))

-- ---- what leaves the router as it is

pub queue_leaves : (g : Dag) (c : ConfValues) (past : Past) (t : TaskId) → IsMade g c past → enabled g c past (Queue t) ≡ true → router_view g (extend past (entries_of g c past (Queue t))) ≡ router_view g past
queue_leaves g c past t m on =
    let k = both {x = is_running past} on in
    let l = both {x = is_task g past t} k.1 in
    let n = both {x = not (is_scheduled t past)} l.1 in
    queued_view g past (next_attempt past t) (unscheduled g c past m t (not_so (is_scheduled t past) n.0)).0

pub fail_leaves : (g : Dag) (c : ConfValues) (past : Past) (a : AttemptId) → IsMade g c past → enabled g c past (Fail a) ≡ true → router_view g (extend past (entries_of g c past (Fail a))) ≡ router_view g past
fail_leaves g c past a m on = by (nat_le c.max_failed (suc (failures a.task past))) where
  runs : is_processing (stage a past) ≡ true
  runs = (both {x = is_running past} on).1

  lives : live a.task past ≡ Some a
  lives = one_live g c past m a (running_alive (stage a past) runs)

  by : (b : Bool) → router_view g (extend past (Failed a ∷ (if b then [] else requeue past a.task))) ≡ router_view g past
  by true = failed_view g past a lives (runs_idle (stage a past) runs)
  by false = failed_again_view g past a lives (runs_idle (stage a past) runs)

pub output_leaves : (g : Dag) (c : ConfValues) (past : Past) (t : TaskId) → router_view g (extend past (entries_of g c past (LoseOutput t))) ≡ router_view g past
output_leaves g c past t = by (winner t past) where
  by : (o : Option AttemptId) → router_view g (extend past (output_lost_entries o)) ≡ router_view g past
  by None = refl
  by (Some w) = refl

pub answer_leaves : (g : Dag) (past : Past) (v : VertexId) (there : Bool) → router_view g (answered past v there) ≡ router_view g past
answer_leaves g past v true = refl
answer_leaves g past v false = refl

-- a node that is lost in the commit
pub late_loss_leaves : (g : Dag) (c : ConfValues) (past : Past) (slot : ℕ) → is_committing past ≡ true → router_view g (extend past (entries_of g c past (LoseNode slot))) ≡ router_view g past
late_loss_leaves g c past slot on =
    ap (λ es. router_view g (extend past es)) (there_is (is_committing past) (NodeLost slot (suc (life slot past)) ∷ []) (node_loss_entries g c past slot) on)
