-- Events that concern one attempt or one sink, and what they make of a master.
use Rattle.std.specs.Prelude.{◌≡◌, ℕ, suc, ◌+◌, ◌/◌, nat_le, Bool, true, false, not, if◌then◌else◌, List, [], ◌∷◌, map, Option, Some, None, refl}
use Rattle.std.specs.Option.{option_map}
use Rattle.std.proofs.Common.{ap, sym, ◌∙◌, subst, arith}
use Rattle.tez_ids.specs.declared.TaskId.{TaskId}
use Rattle.tez_ids.specs.declared.AttemptId.{AttemptId}
use Rattle.tez_ids.specs.declared.VertexId.{VertexId}
use Rattle.tez_ids.specs.declared.EdgeId.{EdgeId}
use Rattle.tez_ids.specs.Same.{same_attempt}
use Rattle.tez_plan.specs.Dag.{Dag, edge}
use Rattle.tez_conf.specs.declared.values.ConfValues.{ConfValues}
use Rattle.tez_vertex.specs.Vertex.{Vertex}
use Rattle.tez_events.specs.declared.Entry.TheVariants.{Placed, Ordered, Succeeded, Made, Failed, OutputLost, Ready as Readied, Asked, Settled, Published, CommitStarted, Finished, Purged}
use Rattle.tez_events.specs.declared.CoreEvent.{CoreEvent}
use Rattle.tez_events.specs.declared.CoreEvent.TheVariants.{Queue, Place, Send, Preempt, Fail, LoseOutput, Ready, CommitStart, Publish, Finish, Purge}
use Rattle.tez_history.specs.Shape.{slot_of}
use Rattle.tez_history.specs.History.{Past, Runs, extend, stage, winner, epoch, container_of, failures, recorded, is_up, is_committing, is_found, is_finished}
use Rattle.tez_history.specs.Derived.{is_waiting, is_processing, waiting_attempts, live_attempts, next_attempt}
use Rattle.tez_history.specs.Steps.{enabled, entries_of, requeue, done_entries, is_running, is_winner_on_shelf, output_lost_entries}
use Rattle.tez_history.specs.Follows.{IsMade}
use Rattle.tez_laws.specs.Laws.{answered}
use Rattle.tez_laws.proofs.Same.{same_attempt-true}
use Rattle.tez_laws.proofs.OneLive.{one_live, running_alive}
use Rattle.tez_laws.proofs.StepLaw.{both}
use Rattle.tez_vertex_view.specs.View.{vertices_view}
use Rattle.tez_vertex_view.proofs.Stepping.{queue_step, place_step, send_step, preempt_step, fail_step, done_step, runs_at}
use Rattle.tez_pool.specs.State.{PoolState}
use Rattle.tez_schedule.specs.State.{ScheduleState}
use Rattle.tez_pool.specs.Table.{place_of}
use Rattle.tez_pool_view.specs.View.{pool_view, standing}
use Rattle.tez_pool_view.proofs.Reading.{read_place}
use Rattle.tez_pool_view.proofs.Stepping.{placed_step, sent_step, preempted_step, failed_step, done_step as freed_step, other_step}
use Rattle.tez_router.specs.State.{RouterState, AdmittedState}
use Rattle.tez_router.specs.Table.{after_dismiss}
use Rattle.tez_router_view.specs.View.{router_view, admitted_view}
use Rattle.tez_router_view.proofs.Lists.{filter-map, filter-same, filter-all, in-filter-holds}
use Rattle.tez_router_view.proofs.Moving.{done_view, runs_idle}
use Rattle.tez_router_view.proofs.ByEvent.{place_admits, send_dismisses, preempt_dismisses, queue_leaves, fail_leaves}
use Rattle.tez_router_view.proofs.Winners.{live_vertex}
use Rattle.tez_schedule_view.specs.View.{schedule_view}
use Rattle.tez_schedule_view.proofs.Staying.{silent_view}
use Rattle.tez_schedule_view.proofs.Changing.{queued_view}
use Rattle.tez_schedule_view.proofs.Winning.{done_view as won_view}
use Rattle.tez_schedule_view.proofs.ByEvent.{preempt_view, fail_view}
use Rattle.tez_master_model.specs.State.{MasterState}
use Rattle.tez_master_model.specs.Settled.{settled, after_done, after_asked, with_location}
use Rattle.tez_master_view.specs.View.{master_view, locations_view}
use Rattle.tez_master_view.specs.Laws.{Goes}
use Rattle.tez_master_model.specs.Bytes.{bytes_of}
use Rattle.tez_master_view.proofs.Parts.{Rest, state, same_parts}
use Rattle.tez_master_view.proofs.Own.{lost_locations, done_locations, readied_view, asked_view, ready_set, asked_set}

-- what a master is once its own fields that seldom change are those of another moment
abbrev pub rest : Dag → Past → Rest
rest g past = (epoch past, asked_view g past, recorded past, is_committing past, is_found past, is_finished past, is_up past)

abbrev pub with_rest : Dag → ConfValues → Past → Rest → MasterState
with_rest g c past q =
    state g c q (vertices_view g c past) (pool_view c past) (router_view g past) (schedule_view g c past)
    (locations_view g c past) (readied_view g past)

pub settles : (g : Dag) (c : ConfValues) (past later : Past) {vs : List Vertex} {p : PoolState} {r : RouterState} {s : ScheduleState} {l : List (List (Option ℕ))} {x : List Bool} → vs ≡ vertices_view g c later → p ≡ pool_view c later → r ≡ router_view g later → s ≡ schedule_view g c later → l ≡ locations_view g c later → x ≡ readied_view g later
    → rest g past ≡ rest g later → state g c (rest g past) vs p r s l x ≡ master_view g c later
settles g c past later vs1 p1 r1 s1 l1 x1 rest1 =
    same_parts g c (rest g past) vs1 p1 r1 s1 l1 x1 ∙ ap (with_rest g c later) rest1

abbrev pub Settles : Dag → ConfValues → Past → CoreEvent → Type 0
Settles g c past e = settled (master_view g c past) e ≡ master_view g c (extend past (entries_of g c past e))

pub place_settles : (g : Dag) (c : ConfValues) (past : Past) (a : AttemptId) (p : ℕ) → Goes g c past → enabled g c past (Place a p) ≡ true → Settles g c past (Place a p)
place_settles g c past a p go on =
    let m = go.sound.made in
    settles g c past (extend past (entries_of g c past (Place a p))) (sym (place_step g c past a p m go.sound.few on)) (placed_step g c past a p m on) (place_admits g c past a p m on) (sym (silent_view g c past (Placed a (record { 0 = container_of c p past }) p) tt)) refl refl refl

pub queue_settles : (g : Dag) (c : ConfValues) (past : Past) (t : TaskId) → Goes g c past → enabled g c past (Queue t) ≡ true → Settles g c past (Queue t)
queue_settles g c past t go on =
    let m = go.sound.made in
    settles g c past (extend past (entries_of g c past (Queue t))) (sym (queue_step g c past t m go.sound.few on)) (sym (other_step g c past (Queue t) tt m on)) (sym (queue_leaves g c past t m on)) (queued_view g c past (next_attempt past t)) refl refl refl

pub send_settles : (g : Dag) (c : ConfValues) (past : Past) (a : AttemptId) → Goes g c past → enabled g c past (Send a) ≡ true → Settles g c past (Send a)
send_settles g c past a go on =
    let m = go.sound.made in
    settles g c past (extend past (entries_of g c past (Send a))) (sym (send_step g c past a m go.sound.few on)) (sent_step g c past a on) (send_dismisses g c past a m on) (sym (silent_view g c past (Ordered a) tt)) refl refl refl

pub preempt_settles : (g : Dag) (c : ConfValues) (past : Past) (a : AttemptId) → Goes g c past → enabled g c past (Preempt a) ≡ true → Settles g c past (Preempt a)
preempt_settles g c past a go on =
    let m = go.sound.made in
    settles g c past (extend past (entries_of g c past (Preempt a))) (sym (preempt_step g c past a m go.sound.few on)) (preempted_step g c past a m on) (preempt_dismisses g c past a m on) (sym (preempt_view g c past a m on)) refl refl refl

-- ---- a failure: who processes was dismissed before

abbrev router_with : Dag → Past → List AdmittedState → RouterState
router_with g past xs = record (router_view g past) { admitted = xs }

stays_dismissed : (g : Dag) (past : Past) (a : AttemptId) → is_processing (stage a past) ≡ true → after_dismiss (router_view g past) a ≡ router_view g past
stays_dismissed g past a runs =
    ap (router_with g past)
    (filter-map (λ x. not (same_attempt x.attempt a)) (admitted_view g past) (waiting_attempts g past)
    ∙ ap (map (admitted_view g past))
    (filter-same (λ b. not (same_attempt b a)) (λ b. true) (waiting_attempts g past) (λ b i. by b (same_attempt b a) refl (in-filter-holds (λ x. is_waiting (stage x past)) b (live_attempts g past) i))
    ∙ filter-all (λ b. true) (waiting_attempts g past) (λ b. refl)))
  where
    by : (b : AttemptId) (s : Bool) → same_attempt b a ≡ s → is_waiting (stage b past) ≡ true → not s ≡ true
    by b false e waits = refl
    by b true e waits =
        let idle : is_waiting (stage a past) ≡ false = runs_idle (stage a past) runs in
        let is : is_waiting (stage a past) ≡ true = subst (λ x. is_waiting (stage x past) ≡ true) (same_attempt-true b a e) waits in
        cc

fail_locations : (g : Dag) (c : ConfValues) (past : Past) (a : AttemptId) (b : Bool) → locations_view g c past ≡ locations_view g c (extend past (Failed a ∷ (if b then [] else requeue past a.task)))
fail_locations g c past a true = refl
fail_locations g c past a false = refl

fail_readied : (g : Dag) (past : Past) (a : AttemptId) (b : Bool) → readied_view g past ≡ readied_view g (extend past (Failed a ∷ (if b then [] else requeue past a.task)))
fail_readied g past a true = refl
fail_readied g past a false = refl

fail_rest : (g : Dag) (past : Past) (a : AttemptId) (b : Bool) → rest g past ≡ rest g (extend past (Failed a ∷ (if b then [] else requeue past a.task)))
fail_rest g past a true = refl
fail_rest g past a false = refl

pub fail_settles : (g : Dag) (c : ConfValues) (past : Past) (a : AttemptId) → Goes g c past → enabled g c past (Fail a) ≡ true → Settles g c past (Fail a)
fail_settles g c past a go on =
    let m = go.sound.made in
    let b = nat_le c.max_failed (suc (failures a.task past)) in
    settles g c past (extend past (entries_of g c past (Fail a))) (sym (fail_step g c past a m go.sound.few on)) (failed_step g c past a m on)
    (stays_dismissed g past a (both {x = is_running past} on).1 ∙ sym (fail_leaves g c past a m on)) (sym (fail_view g c past a m on)) (fail_locations g c past a b) (fail_readied g past a b) (fail_rest g past a b)

-- ---- an output is lost

pub output_settles : (g : Dag) (c : ConfValues) (past : Past) (t : TaskId) → Goes g c past → enabled g c past (LoseOutput t) ≡ true → Settles g c past (LoseOutput t)
output_settles g c past t go on = by (winner t past) refl (both {x = is_up past} on).1 where
  by : (o : Option AttemptId) → winner t past ≡ o → is_winner_on_shelf g c past o ≡ true → with_location (master_view g c past) t None ≡ master_view g c (extend past (output_lost_entries o))
  by None won there = cc
  by (Some w) won there = settles g c past (OutputLost w ∷ past) refl refl refl (sym (silent_view g c past (OutputLost w) tt)) (lost_locations g c past t w go.sound.made won) refl refl

-- ---- the commit

pub ready_settles : (g : Dag) (c : ConfValues) (past : Past) (v : VertexId) → Settles g c past (Ready v)
ready_settles g c past v = settles g c past (Readied v ∷ past) refl refl refl (sym (silent_view g c past (Readied v) tt)) refl (ready_set g past v) refl

pub start_settles : (g : Dag) (c : ConfValues) (past : Past) → Settles g c past CommitStart
start_settles g c past = ap (λ s. record (master_view g c (CommitStarted ∷ past)) { schedule = s }) (sym (silent_view g c past CommitStarted tt))

-- one more sink is recorded, be it published by this master or found in the store
one_more : (n : ℕ) → n + 1 ≡ suc n
one_more n = omega arith

counted : (g : Dag) (c : ConfValues) (past : Past) (s : ScheduleState) → s ≡ schedule_view g c past
    → record (master_view g c past) { recorded = recorded past + 1 }
    ≡ record (master_view g c past) { schedule = s; recorded = suc (recorded past) }
counted g c past s is =
    ap (λ n. record (master_view g c past) { recorded = n }) (one_more (recorded past))
    ∙ ap (λ x. record (master_view g c past) { schedule = x; recorded = suc (recorded past) }) (sym is)

pub publish_settles : (g : Dag) (c : ConfValues) (past : Past) (v : VertexId) → Settles g c past (Publish v)
publish_settles g c past v =
    counted g c past (schedule_view g c (Published v ∷ past)) (silent_view g c past (Published v) tt)

pub ask_settles : (g : Dag) (c : ConfValues) (past : Past) (v : VertexId) (there : Bool)
    → after_asked (master_view g c past) v.0 there ≡ master_view g c (answered past v there)
ask_settles g c past v true =
    counted g c past (schedule_view g c (Settled v ∷ past)) (silent_view g c past (Settled v) tt)
ask_settles g c past v false =
    ap (λ y. record (master_view g c past) { asked = y }) (asked_set g past v)
    ∙ ap (λ s. record (master_view g c (Asked v ∷ past)) { schedule = s }) (sym (silent_view g c past (Asked v) tt))

pub finish_settles : (g : Dag) (c : ConfValues) (past : Past) → Settles g c past Finish
finish_settles g c past = ap (λ s. record (master_view g c (Finished ∷ past)) { schedule = s }) (sym (silent_view g c past Finished tt))

pub purge_settles : (g : Dag) (c : ConfValues) (past : Past) → Settles g c past Purge
purge_settles g c past = ap (λ s. record (master_view g c (Purged ∷ past)) { schedule = s }) (sym (silent_view g c past Purged tt))

-- ---- a report

made_readied : (g : Dag) (past : Past) (a : AttemptId) (made : List (ℕ × ℕ)) → readied_view g past ≡ readied_view g (extend past (map (λ m. Made a (edge m.0) m.1) made))
made_readied g past a [] = refl
made_readied g past a (x ∷ xs) = made_readied g (Made a (edge x.0) x.1 ∷ past) a xs

made_rest : (g : Dag) (past : Past) (a : AttemptId) (made : List (ℕ × ℕ)) → rest g past ≡ rest g (extend past (map (λ m. Made a (edge m.0) m.1) made))
made_rest g past a [] = refl
made_rest g past a (x ∷ xs) = made_rest g (Made a (edge x.0) x.1 ∷ past) a xs

same_bytes : (made : List (EdgeId × ℕ)) → made ≡ map (λ m. (edge m.0, m.1)) (map bytes_of made)
same_bytes [] = refl
same_bytes (x ∷ xs) = ap (λ ys. x ∷ ys) (same_bytes xs)

-- where the attempt runs
runs_on : (g : Dag) (c : ConfValues) (past : Past) (a : AttemptId) (p : ℕ) → IsMade g c past → stage a past ≡ Runs p → option_map (λ x. x.0 / c.per_node) (place_of (pool_view c past).places a) ≡ Some (slot_of c p)
runs_on g c past a p m runs = ap (λ o. option_map (λ x. x.0 / c.per_node) o) (read_place g c past a m ∙ ap standing runs)

pub report_settles : (g : Dag) (c : ConfValues) (past : Past) (a : AttemptId) (made : List (EdgeId × ℕ)) → Goes g c past → is_processing (stage a past) ≡ true
    → after_done (master_view g c past) a made ≡ master_view g c (extend past (done_entries a (map bytes_of made)))
report_settles g c past a made go runs =
    let m = go.sound.made in
    let at = runs_at (stage a past) runs in
    let alive = running_alive (stage a past) runs in
    let later = extend past (done_entries a (map bytes_of made)) in
    ap (λ x. with_location (record (after_done (master_view g c past) a made) { locations = locations_view g c past }) a.task x) (runs_on g c past a at.0 m at.1)
    ∙ settles g c past later (sym (done_step g c past a (map bytes_of made) m go.sound.few runs)) (freed_step g c past a (map bytes_of made) m runs) (done_view g c past a (map bytes_of made) m runs)
    (ap (λ xs. Rattle.tez_schedule.specs.Table.after_win (schedule_view g c past) a.task xs) (same_bytes made) ∙ won_view g c past a (map bytes_of made) m go.plan runs (go.tells.alive a alive))
    (done_locations g c past a (map bytes_of made) at.0 at.1 (live_vertex g c past m a.task a (one_live g c past m a alive))) (made_readied g (Succeeded a ∷ past) a (map bytes_of made)) (made_rest g (Succeeded a ∷ past) a (map bytes_of made))
