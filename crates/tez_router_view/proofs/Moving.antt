-- What each entry of a winner or of an attempt makes of the router's view.
use Rattle.std.specs.Prelude.{◌≡◌, ℕ, ◌<◌, false, not, if◌then◌else◌, List, [], ◌∷◌, map, length, Option, Some, None, IsTrue, refl}
use Rattle.std.specs.List.{filter}
use Rattle.std.proofs.Common.{ap, sym, ◌∙◌}
use Rattle.tez_ids.specs.declared.TaskId.{TaskId}
use Rattle.tez_ids.specs.declared.AttemptId.{AttemptId}
use Rattle.tez_ids.specs.Same.{same_task, same_attempt}
use Rattle.tez_events.specs.declared.KillCause.{KillCause}
use Rattle.tez_events.specs.declared.Entry.TheVariants.{Queued, Ordered, Succeeded, Made, Failed, Killed, Rerun, Kept}
use Rattle.tez_plan.specs.Dag.{Dag, edge}
use Rattle.tez_conf.specs.declared.values.ConfValues.{ConfValues}
use Rattle.tez_history.specs.History.{Past, extend, Stage, Unknown, InQueue, Waits, Runs, Ended, stage, live, winner}
use Rattle.tez_history.specs.Derived.{waiting_attempts, is_waiting, is_processing, notices, next_attempt}
use Rattle.tez_history.specs.Steps.{requeue, withdrawal, done_entries}
use Rattle.tez_history.specs.Follows.{IsMade, IsAlive}
use Rattle.tez_laws.proofs.Same.{same_task-refl}
use Rattle.tez_laws.proofs.OneLive.{one_live, running_alive}
use Rattle.tez_laws.proofs.Tasks.{no_both}
use Rattle.tez_laws.proofs.StepLaw.{through, notices_are}
use Rattle.tez_laws.proofs.Going.{extend-append}
use Rattle.tez_router.specs.State.{RouterState, AdmittedState}
use Rattle.tez_router.specs.Table.{after_announce, after_withdraw, after_dismiss}
use Rattle.tez_router_view.specs.View.{router_view, admitted_view, winners_view}
use Rattle.tez_router_view.proofs.Lists.{filter-map}
use Rattle.tez_router_view.proofs.Waiting.{queued_moves, succeeded_moves, failed_moves, killed_moves, ordered_moves, stays_waiting, none_live, idle_live, taken}
use Rattle.tez_router_view.proofs.Winners.{live_vertex, won_vertex, withdrawn_row, announced_row, kept_row}

abbrev admit_all : Dag → Past → List AttemptId → RouterState
admit_all g past xs = record (router_view g past) { admitted = map (admitted_view g past) xs }

abbrev router_with : RouterState → List (List (Option AttemptId)) → List AdmittedState → RouterState
router_with s rows xs = record s { winners = rows; admitted = xs }

-- ---- the stages

pub runs_idle : (s : Stage) → IsTrue (is_processing s) → is_waiting s ≡ false
runs_idle Unknown h = refl
runs_idle InQueue h = refl
runs_idle (Waits p) h = cc
runs_idle (Runs p) h = refl
runs_idle Ended h = refl

pub waits_alive : (s : Stage) → IsTrue (is_waiting s) → IsAlive s
waits_alive Unknown h = cc
waits_alive InQueue h = tt
waits_alive (Waits p) h = tt
waits_alive (Runs p) h = tt
waits_alive Ended h = cc

-- ---- who waits stays the same

pub queued_view : (g : Dag) (past : Past) (a : AttemptId) → live a.task past ≡ None → router_view g (Queued a ∷ past) ≡ router_view g past
queued_view g past a none = ap (admit_all g past) (stays_waiting g past (Queued a ∷ past) a refl (queued_moves past a) (none_live past a.task none))

pub failed_view : (g : Dag) (past : Past) (a : AttemptId) → live a.task past ≡ Some a → is_waiting (stage a past) ≡ false → router_view g (Failed a ∷ past) ≡ router_view g past
failed_view g past a lives idle = ap (admit_all g past) (stays_waiting g past (Failed a ∷ past) a refl (failed_moves past a) (idle_live past a lives idle))

no_live : (a : AttemptId) (l : Option AttemptId) → (if same_task a.task a.task then None else l) ≡ None
no_live a l = ap (λ b. if b then None else l) (same_task-refl a.task)

-- a failed attempt's task may be queued again
pub failed_again_view : (g : Dag) (past : Past) (a : AttemptId) → live a.task past ≡ Some a → is_waiting (stage a past) ≡ false → router_view g (extend past (Failed a ∷ requeue past a.task)) ≡ router_view g past
failed_again_view g past a lives idle = queued_view g (Failed a ∷ past) (next_attempt past a.task) (no_live a (live a.task past)) ∙ failed_view g past a lives idle

-- ---- announced

made_view : (g : Dag) (past : Past) (a : AttemptId) (made : List (ℕ × ℕ)) → router_view g (extend past (map (λ m. Made a (edge m.0) m.1) made)) ≡ router_view g past
made_view g past a [] = refl
made_view g past a (x ∷ xs) = made_view g (Made a (edge x.0) x.1 ∷ past) a xs

succeeded_view : (g : Dag) (past : Past) (a : AttemptId) → a.task.vertex.0 < length g.vertices → live a.task past ≡ Some a → is_waiting (stage a past) ≡ false
    → after_announce (router_view g past) a ≡ router_view g (Succeeded a ∷ past)
succeeded_view g past a inside lives idle =
    ap (λ rows. router_with (router_view g past) rows (map (admitted_view g past) (waiting_attempts g past))) (announced_row g past a inside)
    ∙ ap (λ xs. router_with (router_view g past) (winners_view g (Succeeded a ∷ past)) (map (admitted_view g past) xs))
    (sym (stays_waiting g past (Succeeded a ∷ past) a refl (succeeded_moves past a) (idle_live past a lives idle)))

pub done_view : (g : Dag) (c : ConfValues) (past : Past) (a : AttemptId) (made : List (ℕ × ℕ)) → IsMade g c past → IsTrue (is_processing (stage a past))
    → after_announce (router_view g past) a ≡ router_view g (extend past (done_entries a made))
done_view g c past a made m runs =
    let lives : live a.task past ≡ Some a = one_live g c past m a (running_alive (stage a past) runs) in
    succeeded_view g past a (live_vertex g c past m a.task a lives) lives (runs_idle (stage a past) runs) ∙ sym (made_view g (Succeeded a ∷ past) a made)

pub kept_view : (g : Dag) (past : Past) (a : AttemptId) → a.task.vertex.0 < length g.vertices → after_announce (router_view g past) a ≡ router_view g (Kept a ∷ past)
kept_view g past a inside = ap (λ rows. router_with (router_view g past) rows (map (admitted_view g past) (waiting_attempts g past))) (kept_row g past a inside)

-- ---- withdrawn

pub rerun_view : (g : Dag) (past : Past) (w : AttemptId) → w.task.vertex.0 < length g.vertices → winner w.task past ≡ Some w → after_withdraw (router_view g past) w.task ≡ router_view g (Rerun w ∷ past)
rerun_view g past w inside won = ap (λ rows. router_with (router_view g past) rows (map (admitted_view g past) (waiting_attempts g past))) (withdrawn_row g past w inside won)

none_by_winner : (l w : Option AttemptId) (a : AttemptId) → ((b : AttemptId) → l ≡ Some b → w ≡ None) → w ≡ Some a → l ≡ None
none_by_winner None w a h e = refl
none_by_winner (Some b) w a h e = let none : w ≡ None = h b refl in cc

pub won_not_live : (g : Dag) (c : ConfValues) (past : Past) → IsMade g c past → (t : TaskId) (w : AttemptId) → winner t past ≡ Some w → live t past ≡ None
won_not_live g c past m t w won = none_by_winner (live t past) (winner t past) w (no_both g c past m t) won

-- a withdrawal ends with the new attempt
pub withdrawal_ends : (g : Dag) (past : Past) (w : AttemptId) → extend past (withdrawal g past w) ≡ Queued (next_attempt past w.task) ∷ extend (Rerun w ∷ past) (notices g past w)
withdrawal_ends g past w = extend-append (Rerun w ∷ past) (notices g past w) (requeue past w.task)

pub withdrawal_view : (g : Dag) (c : ConfValues) (past : Past) (w : AttemptId) → IsMade g c past → winner w.task past ≡ Some w
    → after_withdraw (router_view g past) w.task ≡ router_view g (extend past (withdrawal g past w))
withdrawal_view g c past w m won =
    let told = notices_are g past w in
    let lives : live w.task (extend (Rerun w ∷ past) (notices g past w)) ≡ live w.task past = through (λ p. live w.task p) (λ p a e i x. refl) (Rerun w ∷ past) (notices g past w) told in
    rerun_view g past w (won_vertex g c past m w.task w won) won
    ∙ sym (through (λ p. router_view g p) (λ p a e i x. refl) (Rerun w ∷ past) (notices g past w) told)
    ∙ sym (queued_view g (extend (Rerun w ∷ past) (notices g past w)) (next_attempt past w.task) (lives ∙ won_not_live g c past m w.task w won))
    ∙ ap (router_view g) (sym (withdrawal_ends g past w))

-- ---- dismissed

dismiss_view : (g : Dag) (past later : Past) (a : AttemptId) → filter (λ b. not (same_attempt b a)) (waiting_attempts g past) ≡ waiting_attempts g later
    → after_dismiss (router_view g past) a ≡ admit_all g past (waiting_attempts g later)
dismiss_view g past later a h =
    ap (λ xs. record (router_view g past) { admitted = xs })
    (filter-map (λ x. not (same_attempt x.attempt a)) (admitted_view g past) (waiting_attempts g past) ∙ ap (map (admitted_view g past)) h)

pub ordered_view : (g : Dag) (past : Past) (a : AttemptId) → live a.task past ≡ Some a → after_dismiss (router_view g past) a ≡ router_view g (Ordered a ∷ past)
ordered_view g past a lives = dismiss_view g past (Ordered a ∷ past) a (taken g past (Ordered a ∷ past) a refl (ordered_moves past a lives) lives)

pub killed_view : (g : Dag) (past : Past) (a : AttemptId) (cause : KillCause) → live a.task past ≡ Some a → after_dismiss (router_view g past) a ≡ router_view g (Killed a cause ∷ past)
killed_view g past a cause lives = dismiss_view g past (Killed a cause ∷ past) a (taken g past (Killed a cause ∷ past) a refl (killed_moves past a cause) lives)

pub killed_again_view : (g : Dag) (past : Past) (a : AttemptId) (cause : KillCause) → live a.task past ≡ Some a
    → after_dismiss (router_view g past) a ≡ router_view g (extend past (Killed a cause ∷ requeue past a.task))
killed_again_view g past a cause lives = killed_view g past a cause lives ∙ sym (queued_view g (Killed a cause ∷ past) (next_attempt past a.task) (no_live a (live a.task past)))
