-- Kills leave the view, and the withdrawals of a lost node come one after another.
use Rattle.std.specs.Prelude.{◌≡◌, ℕ, suc, ◌<◌, ◌≤◌, Bool, true, false, if◌then◌else◌, List, [], ◌∷◌, ◌++◌, Option, Some, None, unwrap_or, refl}
use Rattle.std.specs.List.{filter, filter_map, cons_option}
use Rattle.std.proofs.Common.{ap, sym, ◌∙◌, arith, subst}
use Rattle.std.proofs.lemmas.Bool.Decides.{nat_tests}
use Rattle.tez_ids.specs.declared.TaskId.{TaskId}
use Rattle.tez_ids.specs.declared.AttemptId.{AttemptId}
use Rattle.tez_ids.specs.Same.{same_task}
use Rattle.tez_events.specs.declared.KillCause.{KillCause}
use Rattle.tez_events.specs.declared.KillCause.TheVariants.{Node}
use Rattle.tez_events.specs.declared.Entry.{Entry}
use Rattle.tez_events.specs.declared.Entry.TheVariants.{Rerun, Killed, Failed, NodeLost}
use Rattle.tez_events.specs.declared.CoreEvent.TheVariants.{LoseNode}
use Rattle.tez_plan.specs.Dag.{Dag, tasks_of as planned}
use Rattle.tez_conf.specs.declared.values.ConfValues.{ConfValues}
use Rattle.tez_vman.specs.Rules.{config as shape}
use Rattle.tez_history.specs.History.{Past, extend, stage, config, winner, holder, life, is_committing}
use Rattle.tez_history.specs.Derived.{tasks, places_on, is_on_node, next_attempt, notices}
use Rattle.tez_history.specs.Steps.{enabled, entries_of, each_after, requeue, withdrawal, killed_by_node, kill_at, withdrawn_if, withdraw_lost, node_kills, node_withdrawals, node_loss_entries}
use Rattle.tez_history.specs.Follows.{IsMade, IsOpen, IsAlive, IsPlaced}
use Rattle.tez_laws.specs.Laws.{AreInOrder, comes_before}
use Rattle.tez_laws.proofs.OneLive.{placed_alive}
use Rattle.tez_laws.proofs.Tasks.{winner_task}
use Rattle.tez_laws.proofs.Places.{held, in_place}
use Rattle.tez_laws.proofs.Listed.{tasks_order}
use Rattle.tez_laws.proofs.StepLaw.{both, below, up_open, through, notices_are, made-extend, withdrawal_may, kill_may, alive_task}
use Rattle.tez_laws.proofs.Going.{extend-append}
use Rattle.tez_schedule.specs.Table.{after_withdraw}
use Rattle.tez_schedule_view.specs.View.{schedule_view, FitsPlan}
use Rattle.tez_schedule_view.specs.Events.{after_withdraws, winners_on}
use Rattle.tez_schedule_view.proofs.Lists.{filter_map-same}
use Rattle.tez_schedule_view.proofs.Staying.{silent_view, again_view}
use Rattle.tez_schedule_view.proofs.Winning.{withdrawn_winner, withdrawal_ends, withdrawal_view}

-- ---- kills

-- an attempt is killed, and its task queued again
pub killed_view : (g : Dag) (c : ConfValues) (past : Past) (a : AttemptId) (cause : KillCause) → IsMade g c past → IsAlive (stage a past) → schedule_view g c (extend past (Killed a cause ∷ requeue past a.task)) ≡ schedule_view g c past
killed_view g c past a cause m lives = again_view g c (Killed a cause ∷ past) (next_attempt past a.task) (alive_task g c past a m lives).1 ∙ silent_view g c past (Killed a cause) tt

-- an attempt failed, and its task was queued again
pub failed_view : (g : Dag) (c : ConfValues) (past : Past) (a : AttemptId) → IsMade g c past → IsAlive (stage a past) → schedule_view g c (extend past (Failed a ∷ requeue past a.task)) ≡ schedule_view g c past
failed_view g c past a m lives = again_view g c (Failed a ∷ past) (next_attempt past a.task) (alive_task g c past a m lives).1 ∙ silent_view g c past (Failed a) tt

pub record IsLeft (g : Dag) (c : ConfValues) (past later : Past) : Type 0 where
  pub made : IsMade g c later
  pub configs : (v : ℕ) → config v later ≡ config v past
  pub winners : (t : TaskId) → winner t later ≡ winner t past
  pub view : schedule_view g c later ≡ schedule_view g c past

abbrev after_kill : Past → AttemptId → Past
after_kill past a = extend past (Killed a Node ∷ requeue past a.task)

pub kills_leave : (g : Dag) (c : ConfValues) (past : Past) (ps : List ℕ) → IsMade g c past → IsLeft g c past (extend past (each_after kill_at past ps))
kills_leave g c past [] m = record { made = m; configs = λ v. refl; winners = λ t. refl; view = refl }
kills_leave g c past (p ∷ ps) m = by (holder p past) refl (kills_leave g c past ps m) (λ a k. kills_leave g c (after_kill past a) ps k) where
  by : (o : Option AttemptId) → holder p past ≡ o → IsLeft g c past (extend past (each_after kill_at past ps))
      → ((a : AttemptId) → IsMade g c (after_kill past a) → IsLeft g c (after_kill past a) (extend (after_kill past a) (each_after kill_at (after_kill past a) ps)))
      → IsLeft g c past (extend past (killed_by_node past o ++ each_after kill_at (extend past (killed_by_node past o)) ps))
  by None h same later = same
  by (Some a) h same later =
      let placed : IsPlaced (stage a past) = in_place (stage a past) p (held g c past m p a h) in
      let r = later a (made-extend g c past (Killed a Node ∷ requeue past a.task) m (kill_may g c past a Node m placed)) in
      record { made = r.made; configs = λ v. r.configs v; winners = λ t. r.winners t; view = r.view ∙ killed_view g c past a Node m (placed_alive (stage a past) placed) }

-- ---- one withdrawal

fits_by : (g : Dag) (past later : Past) → ((v : ℕ) → config v later ≡ config v past) → FitsPlan g past → FitsPlan g later
fits_by g past later same fits v = subst (λ o. (unwrap_or o (shape (planned g v) 1)).tasks ≤ planned g v) (sym (same v)) (fits v)

configs_after : (g : Dag) (past : Past) (w : AttemptId) (v : ℕ) → config v (extend past (withdrawal g past w)) ≡ config v past
configs_after g past w v = ap (config v) (withdrawal_ends g past w) ∙ through (λ p. config v p) (λ p a e i x. refl) (Rerun w ∷ past) (notices g past w) (notices_are g past w)

winner_after : (g : Dag) (past : Past) (w : AttemptId) (t : TaskId) → winner w.task past ≡ Some w → winner t (extend past (withdrawal g past w)) ≡ (if same_task w.task t then None else winner t past)
winner_after g past w t won =
    ap (winner t) (withdrawal_ends g past w) ∙ through (λ p. winner t p) (λ p a e i x. refl) (Rerun w ∷ past) (notices g past w) (notices_are g past w) ∙ withdrawn_winner past w t won

-- ---- several

other_task : (s t : TaskId) → comes_before s t ≡ true → same_task s t ≡ false
other_task s t h = by (same_task s t) refl where
  not_both : same_task s t ≡ true → same_task s t ≡ false
  not_both e = absurd (grind (arith, nat_tests))

  by : (b : Bool) → same_task s t ≡ b → same_task s t ≡ false
  by true e = not_both e
  by false e = e

abbrev lost_of : Dag → ConfValues → ℕ → Past → Past → List TaskId → List AttemptId
lost_of g c slot before past ts = filter (is_on_node g c before slot) (filter_map (λ t. winner t past) ts)

-- a later task's winner stays
later_winners : (g : Dag) (past : Past) (w : AttemptId) (t : TaskId) (ts : List TaskId) → w.task ≡ t → winner w.task past ≡ Some w → AreInOrder (t ∷ ts)
    → filter_map (λ u. winner u (extend past (withdrawal g past w))) ts ≡ filter_map (λ u. winner u past) ts
later_winners g past w t ts at won order =
    filter_map-same (λ u. winner u (extend past (withdrawal g past w))) (λ u. winner u past) ts
    (λ u i. winner_after g past w u won ∙ ap (λ b. if b then None else winner u past) (subst (λ s. same_task s u ≡ false) (sym at) (other_task t u (order.0 u i))))

withdraws : (g : Dag) (c : ConfValues) (slot : ℕ) (before past : Past) (ts : List TaskId) → IsMade g c past → FitsPlan g past → AreInOrder ts
    → schedule_view g c (extend past (each_after (withdraw_lost g c slot before) past ts)) ≡ after_withdraws (schedule_view g c past) (lost_of g c slot before past ts)
withdraws g c slot before past [] m fits order = refl
withdraws g c slot before past (t ∷ ts) m fits order = by (winner t past) refl (withdraws g c slot before past ts m fits order.1) (λ w k f. withdraws g c slot before (extend past (withdrawal g past w)) ts k f order.1) where
  one : (w : AttemptId) → winner t past ≡ Some w
      → (IsMade g c (extend past (withdrawal g past w)) → FitsPlan g (extend past (withdrawal g past w))
      → schedule_view g c (extend (extend past (withdrawal g past w)) (each_after (withdraw_lost g c slot before) (extend past (withdrawal g past w)) ts))
      ≡ after_withdraws (schedule_view g c (extend past (withdrawal g past w))) (lost_of g c slot before (extend past (withdrawal g past w)) ts))
      → schedule_view g c (extend past (withdrawal g past w ++ each_after (withdraw_lost g c slot before) (extend past (withdrawal g past w)) ts)) ≡ after_withdraws (schedule_view g c past) (w ∷ lost_of g c slot before past ts)
  one w h more =
      let at : w.task ≡ t = winner_task past t w h in
      let won : winner w.task past ≡ Some w = subst (λ u. winner u past ≡ Some w) (sym at) h in
      let rest : List Entry = each_after (withdraw_lost g c slot before) (extend past (withdrawal g past w)) ts in
      ap (schedule_view g c) (extend-append past (withdrawal g past w) rest)
      ∙ more (made-extend g c past (withdrawal g past w) m (withdrawal_may g c past w m won)) (fits_by g past (extend past (withdrawal g past w)) (configs_after g past w) fits)
      ∙ ap (λ s. after_withdraws s (lost_of g c slot before (extend past (withdrawal g past w)) ts)) (sym (withdrawal_view g c past w m fits won))
      ∙ ap (λ ws. after_withdraws (after_withdraw (schedule_view g c past) w.task) (filter (is_on_node g c before slot) ws)) (later_winners g past w t ts at won order)

  by : (o : Option AttemptId) → winner t past ≡ o
      → schedule_view g c (extend past (each_after (withdraw_lost g c slot before) past ts)) ≡ after_withdraws (schedule_view g c past) (lost_of g c slot before past ts)
      → ((w : AttemptId) → IsMade g c (extend past (withdrawal g past w)) → FitsPlan g (extend past (withdrawal g past w))
      → schedule_view g c (extend (extend past (withdrawal g past w)) (each_after (withdraw_lost g c slot before) (extend past (withdrawal g past w)) ts))
      ≡ after_withdraws (schedule_view g c (extend past (withdrawal g past w))) (lost_of g c slot before (extend past (withdrawal g past w)) ts))
      → schedule_view g c (extend past (withdrawn_if g c slot before past o ++ each_after (withdraw_lost g c slot before) (extend past (withdrawn_if g c slot before past o)) ts))
      ≡ after_withdraws (schedule_view g c past) (filter (is_on_node g c before slot) (cons_option o (filter_map (λ u. winner u past) ts)))
  by None h same more = same
  by (Some w) h same more = locations (is_on_node g c before slot w) where
    locations : (b : Bool)
        → schedule_view g c (extend past ((if b then withdrawal g past w else []) ++ each_after (withdraw_lost g c slot before) (extend past (if b then withdrawal g past w else [])) ts))
        ≡ after_withdraws (schedule_view g c past) (if b then w ∷ lost_of g c slot before past ts else lost_of g c slot before past ts)
    locations true = one w h (more w)
    locations false = same

-- ---- the loss of a node

pub loss_view : (g : Dag) (c : ConfValues) (past : Past) (slot : ℕ) → IsMade g c past → FitsPlan g past → slot < c.nodes → IsOpen past
    → schedule_view g c (extend past (node_loss_entries g c past slot)) ≡ after_withdraws (schedule_view g c past) (winners_on g c past slot)
loss_view g c past slot m fits there o =
    let lost : Past = NodeLost slot (suc (life slot past)) ∷ past in
    let kills : List Entry = node_kills c lost slot in
    let mid : Past = extend lost kills in
    let left = kills_leave g c lost (places_on c slot) ((there, refl, o), m) in
    ap (schedule_view g c) (extend-append lost kills (node_withdrawals g c slot past mid))
    ∙ withdraws g c slot past mid (tasks g past) left.made (fits_by g past mid left.configs fits) (tasks_order g past)
    ∙ ap (λ s. after_withdraws s (lost_of g c slot past mid (tasks g past))) (left.view ∙ silent_view g c past (NodeLost slot (suc (life slot past))) tt)
    ∙ ap (λ ws. after_withdraws (schedule_view g c past) (filter (is_on_node g c past slot) ws)) (filter_map-same (λ t. winner t mid) (λ t. winner t past) (tasks g past) (λ t _. left.winners t))

pub lost_view : (g : Dag) (c : ConfValues) (past : Past) (slot : ℕ) → IsMade g c past → FitsPlan g past → enabled g c past (LoseNode slot) ≡ true → is_committing past ≡ false
    → schedule_view g c (extend past (entries_of g c past (LoseNode slot))) ≡ after_withdraws (schedule_view g c past) (winners_on g c past slot)
lost_view g c past slot m fits h before =
    ap (λ b. schedule_view g c (extend past (if b then NodeLost slot (suc (life slot past)) ∷ [] else node_loss_entries g c past slot))) before
    ∙ loss_view g c past slot m fits (below slot c.nodes (both h).1) (up_open past (both h).0)

pub late_view : (g : Dag) (c : ConfValues) (past : Past) (slot : ℕ) → is_committing past ≡ true → schedule_view g c (extend past (entries_of g c past (LoseNode slot))) ≡ schedule_view g c past
late_view g c past slot is =
    ap (λ b. schedule_view g c (extend past (if b then NodeLost slot (suc (life slot past)) ∷ [] else node_loss_entries g c past slot))) is ∙ silent_view g c past (NodeLost slot (suc (life slot past))) tt
