-- What a configuration makes of the vertices, and that only tasks of configured vertices have failed.
use Rattle.std.specs.Prelude.{◌≡◌, ℕ, zero, suc, ◌+◌, ◌<◌, ◌&&◌, ◌==◌, nat_lt, nat_le, ⊤, Bool, true, false, IsTrue, if◌then◌else◌, List, [], ◌∷◌, ◌++◌, map, Option, Some, None, is_some, is_none, unwrap_or, refl, ◌||◌}
use Rattle.std.specs.List.{list_any}
use Rattle.std.proofs.Common.{ap, sym, ◌∙◌, subst, arith, eq-eqb}
use Rattle.std.proofs.lemmas.Bool.{eqb-true}
use Rattle.std.proofs.lemmas.Bool.Decides.{nat_tests}
use Rattle.tez_ids.specs.declared.TaskId.{TaskId}
use Rattle.tez_ids.specs.declared.VertexId.{VertexId}
use Rattle.tez_ids.specs.declared.AttemptId.{AttemptId}
use Rattle.tez_ids.specs.Same.{task, same_task}
use Rattle.tez_lists.specs.Numbers.{numbers_from}
use Rattle.tez_lists.proofs.Tables.{map_below}
use Rattle.tez_plan.specs.Dag.{Dag, edge, tasks_of as planned}
use Rattle.tez_conf.specs.declared.values.ConfValues.{ConfValues}
use Rattle.tez_vman.specs.declared.seen.Config.{Config}
use Rattle.tez_vman.specs.Rules.{config as shape}
use Rattle.tez_events.specs.declared.Entry.{Entry}
use Rattle.tez_events.specs.declared.Entry.TheVariants.{Opened, Over, Stands, Carried, Configured, Queued, Fetched, ReadError, InputFailed, Made, Failed, NodeLost, Stopped, Purged}
use Rattle.tez_events.specs.declared.CoreEvent.{CoreEvent}
use Rattle.tez_events.specs.declared.CoreEvent.TheVariants.{Open, Configure, Queue, Place, Fetch, Send, Preempt, Fail, LoseNode, LoseOutput, Restart, Ready, CommitStart, Ask, Publish, Finish, Purge}
use Rattle.tez_task.specs.Table.{new_task}
use Rattle.tez_vertex.specs.Table.{after_configure, new_tasks}
use Rattle.tez_history.specs.Shape.{numbers_below}
use Rattle.tez_history.specs.History.{Past, extend, stage, live, winner, holder, attempts, failures, epoch, config, life, is_up, is_scheduled, is_committing}
use Rattle.tez_history.specs.Derived.{is_configured, is_task, is_processing, configures, tasks, notices, is_on_node, is_on_shelf, places_on}
use Rattle.tez_history.specs.Steps.{enabled, entries_of, each_after, requeue, withdrawal, killed_by_node, kill_at, withdrawn_if, withdraw_lost, node_kills, node_withdrawals, node_loss_entries, fetch_entries, winner_behind, output_lost_entries, done_entries}
use Rattle.tez_history.specs.Follows.{IsMade, MayFollow, AllMayFollow}
use Rattle.tez_laws.specs.Laws.{answered}
use Rattle.tez_laws.proofs.OneLive.{one_live, running_alive}
use Rattle.tez_laws.proofs.Tasks.{unscheduled}
use Rattle.tez_laws.proofs.Ranges.{live_scheduled, scheduled_is_task}
use Rattle.tez_laws.proofs.Same.{same_task-true}
use Rattle.tez_laws.proofs.StepLaw.{both, event_may, done_may, AllNotices, notices_are}
use Rattle.tez_vertex_view.specs.View.{task_view, tasks_in, has_moved, vertex_view, vertices_view, FailedAreTasks, live_view}
use Rattle.tez_master_model.specs.Vertices.{change}
use Rattle.tez_vertex_view.proofs.Taking.{change_view, same_vertex, stay_vertex}
use Rattle.tez_vertex_view.proofs.Moving.{same_state, none_fact}

-- ---- a vertex gets its tasks

none_any : (t : ℕ → Bool) (a n : ℕ) → ((i : ℕ) → t i ≡ false) → list_any t (numbers_from a n) ≡ false
none_any t a zero h = refl
none_any t a (suc n) h = ap (λ b. b || list_any t (numbers_from (suc a) n)) (h a) ∙ none_any t (suc a) n h

pub configured_by : (g : Dag) (c : ConfValues) (past later : Past) (v : ℕ) (s : Config) → config v past ≡ None → config v later ≡ Some s → ((w : ℕ) → (v == w) ≡ false → config w later ≡ config w past)
    → epoch later ≡ epoch past → ((u : TaskId) → task_view c u later ≡ task_view c u past) → ((i : ℕ) → task_view c (task v i) past ≡ new_task (task v i) (epoch past) c.max_failed)
    → vertices_view g c later ≡ change (vertices_view g c past) v (λ x. after_configure x s.tasks)
configured_by g c past later v s none some others ep same new =
    change_view g c past later v (λ x. after_configure x s.tasks) here (λ w h. stay_vertex c past later w (others w h) ep (λ i. same (task w i)))
  where
    unqueued : (i : ℕ) → nat_lt 0 (attempts (task v i) later) ≡ false
    unqueued i = ap (nat_lt 0) (ap (λ x. x.queued) (same (task v i) ∙ new i))

    here : after_configure (vertex_view c v past) s.tasks ≡ vertex_view c v later
    here =
        ap (λ b. if b then vertex_view c v past else record (vertex_view c v past) { configured = true; tasks = new_tasks (vertex_view c v past) s.tasks }) (ap is_some none)
        ∙ same_vertex v (epoch past) (epoch later) c.max_failed true (is_configured v later) (new_tasks (vertex_view c v past) s.tasks) (map (λ i. task_view c (task v i) later) (numbers_below (tasks_in (config v later)))) (has_moved v past) (has_moved v later)
        (sym ep) (sym (ap is_some some))
        (map_below (λ i. new_task (task v i) (epoch past) c.max_failed) (λ i. task_view c (task v i) later) 0 s.tasks (λ i _ _. sym (same (task v i) ∙ new i)) ∙ ap (λ o. map (λ i. task_view c (task v i) later) (numbers_below (tasks_in o))) (sym some))
        (ap (λ o. list_any (λ i. nat_lt 0 (attempts (task v i) past)) (numbers_below (tasks_in o))) none ∙ sym (none_any (λ i. nat_lt 0 (attempts (task v i) later)) 0 (tasks_in (config v later)) unqueued))

pub new_view : (c : ConfValues) (past : Past) (t : TaskId) → 0 < c.max_failed → live t past ≡ None → winner t past ≡ None → attempts t past ≡ 0 → failures t past ≡ 0 → task_view c t past ≡ new_task t (epoch past) c.max_failed
new_view c past t some l w q f =
    same_state t (epoch past) (epoch past) c.max_failed (live_view t past) None (winner t past) None (attempts t past) 0 (failures t past) 0 (nat_le c.max_failed (failures t past)) false
    refl (none_fact past t l) w q f (ap (nat_le c.max_failed) f ∙ more c.max_failed some)
  where
    more : (n : ℕ) → 0 < n → nat_le n 0 ≡ false
    more n h = grind (arith, nat_tests)

-- ---- before a vertex is configured none of its tasks had an attempt

unset : (b : Bool) (s : Config) (o : Option Config) → (if b then Some s else o) ≡ None → o ≡ None
unset true s o h = cc
unset false s o h = h

not_some : (o : Option Config) → o ≡ None → is_some o ≡ true → ⊥
not_some o h k = cc

none_queued : (b : Bool) (n : ℕ) → b ≡ false → n ≡ 0 → (if b then 1 else 0) + n ≡ 0
none_queued false n h k = omega (arith, k)
none_queued true n h k = cc

unqueued : (g : Dag) (c : ConfValues) (past : Past) (v i : ℕ) → IsMade g c past → is_up past ≡ true → config v past ≡ None → attempts (task v i) past ≡ 0
unqueued g c [] v i m u n = cc
unqueued g c (Opened _ ∷ past) v i m u n = refl
unqueued g c (Over ∷ past) v i m u n = refl
unqueued g c (Stopped _ ∷ past) v i m u n = cc
unqueued g c (Purged ∷ past) v i m u n = cc
unqueued g c (Stands w k b ∷ past) v i m u n = unqueued g c past v i m.1 u (unset (w.0 == v) (shape k b) (config v past) n)
unqueued g c (Configured w k b ∷ past) v i m u n = unqueued g c past v i m.1 u (unset (w.0 == v) (shape k b) (config v past) n)
unqueued g c (Queued a ∷ past) v i m u n = none_queued (same_task a.task (task v i)) (attempts (task v i) past) (other (same_task a.task (task v i)) refl) (unqueued g c past v i m.1 u n) where
  other : (b : Bool) → same_task a.task (task v i) ≡ b → same_task a.task (task v i) ≡ false
  other false e = e
  other true e =
      let there : is_task g past (task v i) ≡ true = subst (λ t. is_task g past t ≡ true) (same_task-true a.task (task v i) e) m.0.3 in
      absurd (not_some (config v past) n (both {x = is_configured v past} there).0)
unqueued g c (_ ∷ past) v i m u n = unqueued g c past v i m.1 u n

is_none_of : (o : Option Config) → is_none o ≡ true → o ≡ None
is_none_of None h = refl
is_none_of (Some s) h = cc

unwrapped : (o : Option Config) (d : Config) → is_some o ≡ true → o ≡ Some (unwrap_or o d)
unwrapped (Some s) d h = refl
unwrapped None d h = cc

pub configure_step : (g : Dag) (c : ConfValues) (past : Past) (v : VertexId) (s : Config) → 0 < c.max_failed → IsMade g c past → FailedAreTasks g past → enabled g c past (Configure v) ≡ true → configures g c v.0 past ≡ Some s
    → vertices_view g c (extend past (entries_of g c past (Configure v))) ≡ change (vertices_view g c past) v.0 (λ x. after_configure x s.tasks)
configure_step g c past v s some m failed h is =
    let k = both (both h).1 in
    let none = is_none_of (config v.0 past) (both k.1).0 in
    let up = (both (both h).0).0 in
    let entry : entries_of g c past (Configure v) ≡ Configured v s.tasks s.base ∷ [] = ap (λ o. Configured v (unwrap_or o (shape 0 0)).tasks (unwrap_or o (shape 0 0)).base ∷ []) is in
    ap (λ es. vertices_view g c (extend past es)) entry
    ∙ configured_by g c past (Configured v s.tasks s.base ∷ past) v.0 s none (ap (λ b. if b then Some (shape s.tasks s.base) else config v.0 past) (eq-eqb v.0 v.0 refl))
    (λ w e. ap (λ b. if b then Some (shape s.tasks s.base) else config w past) e) refl (λ u. refl) (λ i. fresh i none up)
  where
    fresh : (i : ℕ) → config v.0 past ≡ None → is_up past ≡ true → task_view c (task v.0 i) past ≡ new_task (task v.0 i) (epoch past) c.max_failed
    fresh i none up =
        let away : is_task g past (task v.0 i) ≡ false = ap (λ o. is_some o && nat_lt i (unwrap_or o (shape (planned g v.0) 1)).tasks) none in
        let idle = unscheduled g c past m (task v.0 i) (by (is_scheduled (task v.0 i) past) refl away) in
        new_view c past (task v.0 i) some idle.0 idle.1 (unqueued g c past v.0 i m up none) (failed up (task v.0 i) away) where
          by : (b : Bool) → is_scheduled (task v.0 i) past ≡ b → is_task g past (task v.0 i) ≡ false → is_scheduled (task v.0 i) past ≡ false
          by false e a = e
          by true e a = let never_so : false ≡ true = sym a ∙ scheduled_is_task g c past m (task v.0 i) e in cc

-- ---- failures

abbrev pub Counts : Entry → Type 0
Counts (Carried _ _) = ⊥
Counts _ = ⊤

abbrev pub AllCount : List Entry → Type 0
AllCount [] = ⊤
AllCount (e ∷ es) = Counts e × AllCount es

-- whether a task is there, by its vertex's configuration
is_in : Option Config → ℕ → Config → Bool
is_in o i plan = is_some o && nat_lt i (unwrap_or o plan).tasks

-- a configuration where there was none takes no task away
stays : (same : Bool) (o : Option Config) (i : ℕ) (plan new : Config) → (same ≡ true → o ≡ None) → is_in (if same then Some new else o) i plan ≡ false → is_in o i plan ≡ false
unfolding is_in
stays false o i plan new none h = h
stays true o i plan new none h = ap (λ x. is_some x && nat_lt i (unwrap_or x plan).tasks) (none refl)

same_config : (past : Past) (v w : ℕ) → config v past ≡ None → (v == w) ≡ true → config w past ≡ None
same_config past v w none e = subst (λ x. config x past ≡ None) (eqb-true v w e) none

fails : (b : Bool) (n : ℕ) → b ≡ false → n ≡ 0 → (if b then 1 else 0) + n ≡ 0
fails false n h k = omega (arith, k)
fails true n h k = cc

failed_one : (g : Dag) (c : ConfValues) (past : Past) (e : Entry) → IsMade g c past → MayFollow g c past e → Counts e → FailedAreTasks g past → FailedAreTasks g (e ∷ past)
unfolding is_in
failed_one g c past (Opened _) m f n h = λ u t a. refl
failed_one g c past Over m f n h = λ u t a. refl
failed_one g c past (Stopped _) m f n h = λ u t a. cc
failed_one g c past Purged m f n h = λ u t a. cc
failed_one g c past (Carried _ _) m f n h = absurd n
failed_one g c past (Stands v k b) m f n h = λ u t a. h u t (stays (v.0 == t.vertex.0) (config t.vertex.0 past) t.index (shape (planned g t.vertex.0) 1) (shape k b) (same_config past v.0 t.vertex.0 f.0) a)
failed_one g c past (Configured v k b) m f n h = λ u t a. h u t (stays (v.0 == t.vertex.0) (config t.vertex.0 past) t.index (shape (planned g t.vertex.0) 1) (shape k b) (same_config past v.0 t.vertex.0 f.0) a)
failed_one g c past (Failed x) m f n h = λ u t a. fails (same_task x.task t) (failures t past) (other t a (same_task x.task t) refl) (h u t a) where
  other : (t : TaskId) → is_task g past t ≡ false → (b : Bool) → same_task x.task t ≡ b → same_task x.task t ≡ false
  other t a false e = e
  other t a true e =
      let there = scheduled_is_task g c past m x.task (live_scheduled g c past m x.task x (one_live g c past m x (running_alive (stage x past) f))) in
      let never_so : false ≡ true = sym a ∙ subst (λ y. is_task g past y ≡ true) (same_task-true x.task t e) there in cc
failed_one g c past _ m f n h = λ u t a. h u t a

pub failed_all : (g : Dag) (c : ConfValues) (past : Past) (es : List Entry) → IsMade g c past → AllMayFollow g c past es → AllCount es → FailedAreTasks g past → FailedAreTasks g (extend past es)
failed_all g c past [] m f n h = h
failed_all g c past (e ∷ es) m f n h = failed_all g c (e ∷ past) es (f.0, m) f.1 n.1 (failed_one g c past e m f.0 n.0 h)

pub count-append : (xs ys : List Entry) → AllCount xs → AllCount ys → AllCount (xs ++ ys)
count-append [] ys h k = k
count-append (x ∷ xs) ys h k = (h.0, count-append xs ys h.1 k)

count-each : {X : Type 0} (part : Past → X → List Entry) → ((past : Past) (x : X) → AllCount (part past x)) → (past : Past) (xs : List X) → AllCount (each_after part past xs)
count-each part h past [] = tt
count-each part h past (x ∷ xs) = count-append (part past x) (each_after part (extend past (part past x)) xs) (h past x) (count-each part h (extend past (part past x)) xs)

count_notices : (es : List Entry) → AllNotices es → AllCount es
count_notices [] h = tt
count_notices (InputFailed _ _ _ _ ∷ es) h = (tt, count_notices es h)
count_notices (_ ∷ es) h = absurd h

count_withdrawal : (g : Dag) (past : Past) (w : AttemptId) → AllCount (withdrawal g past w)
count_withdrawal g past w = (tt, count-append (notices g past w) (requeue past w.task) (count_notices (notices g past w) (notices_are g past w)) (tt, tt))

count_kill : (past : Past) (o : Option AttemptId) → AllCount (killed_by_node past o)
count_kill past None = tt
count_kill past (Some a) = (tt, (tt, tt))

count_withdrawn : (g : Dag) (c : ConfValues) (slot : ℕ) (before past : Past) (o : Option AttemptId) → AllCount (withdrawn_if g c slot before past o)
count_withdrawn g c slot before past None = tt
count_withdrawn g c slot before past (Some w) = by (is_on_node g c before slot w) where
  by : (b : Bool) → AllCount (if b then withdrawal g past w else [])
  by true = count_withdrawal g past w
  by false = tt

count_loss : (g : Dag) (c : ConfValues) (past : Past) (slot : ℕ) (b : Bool) → AllCount (if b then NodeLost slot (suc (life slot past)) ∷ [] else node_loss_entries g c past slot)
count_loss g c past slot true = (tt, tt)
count_loss g c past slot false =
    let lost : Past = NodeLost slot (suc (life slot past)) ∷ past in
    let kills = node_kills c lost slot in (
      tt,
      count-append kills (node_withdrawals g c slot past (extend lost kills)) (count-each kill_at (λ p x. count_kill p (holder x p)) lost (places_on c slot))
          (count-each (withdraw_lost g c slot past) (λ p t. count_withdrawn g c slot past p (winner t p)) (extend lost kills) (tasks g past)),
    )

count_fetch : (g : Dag) (c : ConfValues) (past : Past) (a : AttemptId) (e i : ℕ) (o : Option AttemptId) → AllCount (fetch_entries g c past a e i o)
count_fetch g c past a e i None = tt
count_fetch g c past a e i (Some w) = by (is_on_shelf g c past w) where
  by : (b : Bool) → AllCount (if b then Fetched a (edge e) i w ∷ [] else ReadError a (edge e) i w ∷ withdrawal g (ReadError a (edge e) i w ∷ past) w)
  by true = (tt, tt)
  by false = (tt, count_withdrawal g (ReadError a (edge e) i w ∷ past) w)

count_output : (o : Option AttemptId) → AllCount (output_lost_entries o)
count_output None = tt
count_output (Some w) = (tt, tt)

count_fail : (past : Past) (a : AttemptId) (b : Bool) → AllCount (Failed a ∷ (if b then [] else requeue past a.task))
count_fail past a true = (tt, tt)
count_fail past a false = (tt, (tt, tt))

count_made : (a : AttemptId) (made : List (ℕ × ℕ)) → AllCount (map (λ m. Made a (edge m.0) m.1) made)
count_made a [] = tt
count_made a (x ∷ xs) = (tt, count_made a xs)

count_event : (g : Dag) (c : ConfValues) (past : Past) (e : CoreEvent) → AllCount (entries_of g c past e)
count_event g c past Open = tt
count_event g c past (Configure v) = (tt, tt)
count_event g c past (Queue t) = (tt, tt)
count_event g c past (Place a p) = (tt, tt)
count_event g c past (Fetch a e i) = count_fetch g c past a e.0 i (winner_behind g past a e.0 i)
count_event g c past (Send a) = (tt, tt)
count_event g c past (Preempt a) = (tt, (tt, tt))
count_event g c past (Fail a) = count_fail past a (nat_le c.max_failed (suc (failures a.task past)))
count_event g c past (LoseNode slot) = count_loss g c past slot (is_committing past)
count_event g c past (LoseOutput t) = count_output (winner t past)
count_event g c past Restart = (tt, tt)
count_event g c past (Ready v) = (tt, tt)
count_event g c past CommitStart = (tt, tt)
count_event g c past (Ask v) = tt
count_event g c past (Publish v) = (tt, tt)
count_event g c past Finish = (tt, tt)
count_event g c past Purge = (tt, tt)

pub failed_event : (g : Dag) (c : ConfValues) (past : Past) (e : CoreEvent) → IsMade g c past → FailedAreTasks g past → enabled g c past e ≡ true → FailedAreTasks g (extend past (entries_of g c past e))
failed_event g c past e m f h = failed_all g c past (entries_of g c past e) m (event_may g c past e m h) (count_event g c past e) f

pub failed_report : (g : Dag) (c : ConfValues) (past : Past) (a : AttemptId) (made : List (ℕ × ℕ)) → IsMade g c past → FailedAreTasks g past → IsTrue (is_processing (stage a past)) → FailedAreTasks g (extend past (done_entries a made))
failed_report g c past a made m f h = failed_all g c past (done_entries a made) m (done_may g c past a made h) (tt, count_made a made) f

pub failed_answer : (g : Dag) (past : Past) (v : VertexId) (there : Bool) → FailedAreTasks g past → FailedAreTasks g (answered past v there)
failed_answer g past v true f = λ u t a. f u t a
failed_answer g past v false f = λ u t a. f u t a
