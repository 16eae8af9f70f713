-- The entries of an event are those that the history asks for.
use Rattle.std.specs.Prelude.{◌≡◌, ℕ, suc, ◌+◌, ◌<◌, nat_lt, nat_le, Bool, true, false, ◌&&◌, if◌then◌else◌, List, [], ◌∷◌, ◌++◌, map, Option, Some, None, is_none, unwrap_or, refl}
use Rattle.std.specs.List.{filter_map, flat_map, cons_option}
use Rattle.std.specs.Option.{option_map_or}
use Rattle.std.proofs.Common.{ap, sym, ◌∙◌, arith, inl, inr}
use Rattle.tez_ids.specs.declared.TaskId.{TaskId}
use Rattle.tez_ids.specs.declared.EdgeId.{EdgeId}
use Rattle.tez_ids.specs.declared.AttemptId.{AttemptId}
use Rattle.tez_lists.specs.Numbers.{In}
use Rattle.tez_lists.proofs.Flat.{flat_same}
use Rattle.tez_plan.specs.Dag.{Dag, edge}
use Rattle.tez_conf.specs.declared.values.ConfValues.{ConfValues}
use Rattle.tez_vman.specs.Rules.{config as shape}
use Rattle.tez_events.specs.declared.KillCause.TheVariants.{Node, Preempt as Preempted}
use Rattle.tez_events.specs.declared.Entry.{Entry}
use Rattle.tez_events.specs.declared.Entry.TheVariants.{Queued, Placed, Fetched, ReadError, Failed, Killed, NodeLost, Rerun}
use Rattle.tez_events.specs.declared.CoreEvent.{CoreEvent}
use Rattle.tez_events.specs.declared.CoreEvent.TheVariants.{Open, Configure, Queue, Place, Fetch, Send, Preempt, Fail, LoseNode, LoseOutput, Restart, Ready, CommitStart, Ask, Publish, Finish, Purge}
use Rattle.tez_task.specs.Table.{is_last}
use Rattle.tez_pool_view.proofs.Reading.{view_get, read_life, read_node}
use Rattle.tez_history.specs.Shape.{places, is_vertex}
use Rattle.tez_history.specs.History.{Past, stage, winner, holder, life, failures, config, is_committing, is_up}
use Rattle.tez_history.specs.Derived.{Input, source_of_input, is_task, is_queued, is_waiting, configures, is_on_shelf as is_on_shelf_at, places_on}
use Rattle.tez_history.specs.Steps.{enabled, is_running, entries_of, fetch_entries, node_loss_entries, output_lost_entries, withdrawal, winner_behind, winner_of_input, input_at}
use Rattle.tez_history.specs.Follows.{IsMade}
use Rattle.tez_laws.proofs.OneLive.{placed_alive, waits_placed, running_alive}
use Rattle.tez_laws.proofs.Places.{held, in_place}
use Rattle.tez_laws.proofs.StepLaw.{both, below}
use Rattle.tez_vertex_view.proofs.Telling.{alive_there, winner_there}
use Rattle.tez_router.specs.State.{RouterState}
use Rattle.tez_router.specs.Table.{notices_in, without}
use Rattle.tez_router_view.specs.View.{router_view}
use Rattle.tez_master_model.specs.Entries.{notice_entry}
use Rattle.tez_router_view.specs.Events.{withdrawal_lines, kill_lines, holders_on, winners_on}
use Rattle.tez_router_view.proofs.Reading.{source_read}
use Rattle.tez_router_view.proofs.ByEvent.{read_error_lines}
use Rattle.tez_router_view.proofs.Losing.{node_loss_lines}
use Rattle.tez_schedule_view.proofs.Answering.{configures_told}
use Rattle.tez_master_model.specs.Read.{lost_in}
use Rattle.tez_master_model.specs.Entries.{requeue_in, withdrawal_in, configured_in, fetch_in, is_last_in, next_life, kill_in, node_loss_in, output_lost_in, entries_in}
use Rattle.tez_master_view.specs.View.{master_view}
use Rattle.tez_master_view.specs.Laws.{Goes, IsMasters}
use Rattle.tez_master_view.proofs.TaskReadings.{task_read, winner_read, next_read}
use Rattle.tez_master_view.proofs.ShelfReadings.{shelf_read, won_own, in_lost, all_lost_read}

-- ---- parts of a step

withdrawal_same : (g : Dag) (c : ConfValues) (past : Past) (router : RouterState) (w : AttemptId) → IsMade g c past → winner w.task past ≡ Some w → withdrawal_in (master_view g c past) router w ≡ withdrawal_lines router past w
withdrawal_same g c past router w m won =
    ap (λ a. Rerun w ∷ (map notice_entry (notices_in router w.task) ++ Queued a ∷ [])) (next_read g c past w.task m (winner_there g c past w.task w m won))

kill_same : (g : Dag) (c : ConfValues) (past : Past) (a : AttemptId) → IsMade g c past → is_task g past a.task ≡ true → kill_in (master_view g c past) a ≡ kill_lines past a
kill_same g c past a m is = ap (λ b. Killed a Node ∷ Queued b ∷ []) (next_read g c past a.task m is)

held_there : (g : Dag) (c : ConfValues) (past : Past) (p : ℕ) (a : AttemptId) → IsMade g c past → holder p past ≡ Some a → is_task g past a.task ≡ true
held_there g c past p a m h = alive_there g c past a m (placed_alive (stage a past) (in_place (stage a past) p (held g c past m p a h)))

in_held : (g : Dag) (c : ConfValues) (past : Past) (a : AttemptId) → IsMade g c past → (ps : List ℕ) → In a (filter_map (λ p. holder p past) ps) → is_task g past a.task ≡ true
in_held g c past a m [] i = absurd i
in_held g c past a m (p ∷ ps) i = by (in_held g c past a m ps) (holder p past) refl i where
  by : (In a (filter_map (λ q. holder q past) ps) → is_task g past a.task ≡ true) → (o : Option AttemptId) → holder p past ≡ o → In a (cons_option o (filter_map (λ q. holder q past) ps)) → is_task g past a.task ≡ true
  by rest None e k = rest k
  by rest (Some b) e (inl s) = held_there g c past p a m (e ∙ ap Some (sym s))
  by rest (Some b) e (inr k) = rest k

more : (n : ℕ) → n + 1 ≡ suc n
more n = omega arith

last_read : (g : Dag) (c : ConfValues) (past : Past) (t : TaskId) → IsMade g c past → is_task g past t ≡ true → is_last_in (master_view g c past) t ≡ nat_le c.max_failed (suc (failures t past))
last_read g c past t m is = ap (λ o. option_map_or is_last o false) (task_read g c past t m is) ∙ ap (nat_le c.max_failed) (more (failures t past))

both_so : (x y : Bool) → x ≡ true → y ≡ true → (x && y) ≡ true
both_so true true h k = refl
both_so true false h k = cc
both_so false y h k = cc

-- ---- a fetch

won_behind : (g : Dag) (past : Past) (a : AttemptId) (e i : ℕ) (w : AttemptId) → winner_behind g past a e i ≡ Some w → winner w.task past ≡ Some w
won_behind g past a e i w h = by (input_at g past a e i) h where
  by : (k : Option Input) → winner_of_input g past a k ≡ Some w → winner w.task past ≡ Some w
  by None s = cc
  by (Some k) s = won_own past (source_of_input g past a k) w s

fetch_same : (g : Dag) (c : ConfValues) (past : Past) (a : AttemptId) (e : EdgeId) (i : ℕ) → Goes g c past → enabled g c past (Fetch a e i) ≡ true
    → (o : Option AttemptId) → winner_behind g past a e.0 i ≡ o → fetch_in (master_view g c past) a e.0 i o ≡ entries_of g c past (Fetch a e i)
fetch_same g c past a e i goes on None is = sym (ap (fetch_entries g c past a e.0 i) is)
fetch_same g c past a e i goes on (Some w) is =
    ap (λ b. if b then found else missed) (shelf_read g c past w goes.sound.made goes.plan won) ∙ by (is_on_shelf_at g c past w) refl
  where
    won : winner w.task past ≡ Some w
    won = won_behind g past a e.0 i w is

    found : List Entry
    found = Fetched a (edge e.0) i w ∷ []

    missed : List Entry
    missed = ReadError a (edge e.0) i w ∷ withdrawal_in (master_view g c past) (router_view g past) w

    by : (b : Bool) → is_on_shelf_at g c past w ≡ b → (if b then found else missed) ≡ entries_of g c past (Fetch a e i)
    by true s = sym (ap (fetch_entries g c past a e.0 i) is ∙ ap (λ b. if b then found else ReadError a (edge e.0) i w ∷ withdrawal g (ReadError a (edge e.0) i w ∷ past) w) s)
    by false s =
        ap (λ es. ReadError a (edge e.0) i w ∷ es) (withdrawal_same g c past (router_view g past) w goes.sound.made won)
        ∙ sym (read_error_lines g c past a e i w goes.sound.made goes.plan on is s)

-- ---- a node is lost

node_same : (g : Dag) (c : ConfValues) (past : Past) (slot : ℕ) → Goes g c past → slot < c.nodes
    → node_loss_in (master_view g c past) slot ≡ flat_map (kill_lines past) (holders_on c past slot) ++ flat_map (withdrawal_lines (without (router_view g past) (holders_on c past slot)) past) (winners_on g c past slot)
node_same g c past slot goes low =
    let m = master_view g c past in
    let made = goes.sound.made in
    let those = holders_on c past slot in
    let lost = winners_on g c past slot in
    let left = without (router_view g past) those in
    ap (λ hs. flat_map (kill_in m) hs ++ flat_map (withdrawal_in m (without (router_view g past) hs)) (lost_in m slot)) (read_node c past slot low)
    ∙ ap (λ ws. flat_map (kill_in m) those ++ flat_map (withdrawal_in m left) ws) (all_lost_read g c past slot made goes.plan)
    ∙ ap (λ es. es ++ flat_map (withdrawal_in m left) lost) (flat_same (kill_in m) (kill_lines past) those (λ a i. kill_same g c past a made (in_held g c past a made (places_on c slot) i)))
    ∙ ap (λ es. flat_map (kill_lines past) those ++ es) (flat_same (withdrawal_in m left) (withdrawal_lines left past) lost (λ w i. withdrawal_same g c past left w made (in_lost g c past slot w i)))

loss_same : (g : Dag) (c : ConfValues) (past : Past) (slot : ℕ) → Goes g c past → slot < c.nodes → entries_in (master_view g c past) (LoseNode slot) ≡ entries_of g c past (LoseNode slot)
loss_same g c past slot goes low =
    ap (λ n. NodeLost slot n ∷ (if is_committing past then [] else node_loss_in (master_view g c past) slot)) lives ∙ by (is_committing past) refl
  where
    lives : next_life (master_view g c past) slot ≡ suc (life slot past)
    lives = ap (λ o. suc (unwrap_or o 0)) (read_life c past slot low)

    by : (b : Bool) → is_committing past ≡ b → NodeLost slot (suc (life slot past)) ∷ (if b then [] else node_loss_in (master_view g c past) slot) ≡ entries_of g c past (LoseNode slot)
    by true e = sym (ap (λ b. if b then NodeLost slot (suc (life slot past)) ∷ [] else node_loss_entries g c past slot) e)
    by false e = ap (λ es. NodeLost slot (suc (life slot past)) ∷ es) (node_same g c past slot goes low) ∙ sym (node_loss_lines g c past slot goes.sound.made goes.plan low e)

-- ---- the events

output_same : (o : Option AttemptId) → output_lost_in o ≡ output_lost_entries o
output_same None = refl
output_same (Some w) = refl

pub adds : (g : Dag) (c : ConfValues) (past : Past) (e : CoreEvent) → Goes g c past → enabled g c past e ≡ true → IsMasters e → entries_in (master_view g c past) e ≡ entries_of g c past e
adds g c past Open goes on is = absurd is
adds g c past (Configure v) goes on is =
    let k = both {x = is_vertex g v.0} (both {x = is_running past} on).1 in
    let none = (both {x = is_none (config v.0 past)} k.1).0 in
    ap (λ o. configured_in v.0 (unwrap_or o (shape 0 0)))
    (configures_told g c past goes.sound.made goes.plan v.0
    ∙ ap (λ b. if b then configures g c v.0 past else None) (both_so (is_vertex g v.0) (is_none (config v.0 past)) k.0 none))
adds g c past (Queue t) goes on is =
    let k = both {x = is_task g past t} (both {x = is_running past} on).1 in ap (λ a. Queued a ∷ []) (next_read g c past t goes.sound.made k.0)
adds g c past (Place a p) goes on is =
    let k = both {x = nat_lt p (places c)} (both {x = is_queued (stage a past)} (both {x = is_running past} on).1).1 in
    ap (λ o. Placed a (option_map_or (λ x. x.container) o (record { 0 = 0 })) p ∷ []) (view_get c past p (below p (places c) k.0))
adds g c past (Fetch a e i) goes on is =
    ap (fetch_in (master_view g c past) a e.0 i) (sym (source_read g c past goes.sound.made goes.plan a e.0 i))
    ∙ fetch_same g c past a e i goes on (winner_behind g past a e.0 i) refl
adds g c past (Send a) goes on is = refl
adds g c past (Preempt a) goes on is =
    let k = both {x = is_waiting (stage a past)} (both {x = is_running past} on).1 in
    ap (λ b. Killed a Preempted ∷ Queued b ∷ []) (next_read g c past a.task goes.sound.made (alive_there g c past a goes.sound.made (placed_alive (stage a past) (waits_placed (stage a past) k.0))))
adds g c past (Fail a) goes on is =
    let there = alive_there g c past a goes.sound.made (running_alive (stage a past) (both {x = is_running past} on).1) in
    ap (λ b. Failed a ∷ (if b then [] else requeue_in (master_view g c past) a.task)) (last_read g c past a.task goes.sound.made there)
    ∙ ap (λ b. Failed a ∷ (if nat_le c.max_failed (suc (failures a.task past)) then [] else Queued b ∷ [])) (next_read g c past a.task goes.sound.made there)
adds g c past (LoseNode slot) goes on is = loss_same g c past slot goes (below slot c.nodes (both {x = is_up past} on).1)
adds g c past (LoseOutput t) goes on is = ap output_lost_in (winner_read g c past t goes.sound.made) ∙ output_same (winner t past)
adds g c past Restart goes on is = absurd is
adds g c past (Ready v) goes on is = refl
adds g c past CommitStart goes on is = refl
adds g c past (Ask v) goes on is = absurd is
adds g c past (Publish v) goes on is = refl
adds g c past Finish goes on is = refl
adds g c past Purge goes on is = refl
