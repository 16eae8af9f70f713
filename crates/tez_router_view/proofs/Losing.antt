-- Withdrawals one after another, each computed at its own moment, and the loss of a node as a whole.
use Rattle.std.specs.Prelude.{◌≡◌, ℕ, ◌+◌, ◌*◌, ◌<◌, Bool, true, false, if◌then◌else◌, List, [], ◌∷◌, ◌++◌, map, Option, Some, None, refl}
use Rattle.std.specs.List.{filter, filter_map, cons_option, flat_map}
use Rattle.std.specs.Option.{option_map_or}
use Rattle.std.proofs.Common.{ap, sym, ◌∙◌, subst, inl, inr, zero-add}
use Rattle.tez_ids.specs.declared.TaskId.{TaskId}
use Rattle.tez_ids.specs.declared.AttemptId.{AttemptId}
use Rattle.tez_ids.specs.Same.{attempt, same_task}
use Rattle.tez_events.specs.declared.Entry.{Entry}
use Rattle.tez_events.specs.declared.Entry.TheVariants.{Queued, Rerun}
use Rattle.tez_events.specs.declared.CoreEvent.TheVariants.{LoseNode}
use Rattle.tez_lists.specs.Numbers.{In}
use Rattle.tez_lists.proofs.Flat.{flat_same, in-filter-out}
use Rattle.tez_plan.specs.Dag.{Dag}
use Rattle.tez_conf.specs.declared.values.ConfValues.{ConfValues}
use Rattle.tez_history.specs.History.{Past, extend, winner, epoch, attempts, is_committing}
use Rattle.tez_history.specs.Derived.{tasks, notices, next_attempt, places_on, is_on_node}
use Rattle.tez_history.specs.Steps.{each_after, withdrawal, withdrawn_if, withdraw_lost, node_kills, node_withdrawals, node_loss_entries, entries_of}
use Rattle.tez_history.specs.Rules.{is_at_start}
use Rattle.tez_history.specs.Follows.{IsMade, IsOpen}
use Rattle.tez_laws.proofs.Tasks.{winner_task}
use Rattle.tez_laws.proofs.StepLaw.{through, notices_are, made-extend, withdrawal_may}
use Rattle.tez_laws.proofs.Going.{extend-append}
use Rattle.tez_router.specs.State.{RouterState}
use Rattle.tez_router.specs.Table.{after_withdraw, without, notices_in, winner_in, notices_of as router_notices}
use Rattle.tez_router_view.specs.View.{router_view, FitsPlan}
use Rattle.tez_router_view.specs.Events.{after_withdraws, holders_on, winners_on, withdrawal_lines, kill_lines}
use Rattle.tez_master_model.specs.Entries.{notice_entry}
use Rattle.tez_router_view.proofs.Lists.{filter_map-same}
use Rattle.tez_router_view.proofs.Ordering.{AreTasksInOrder, before_not, tasks-order}
use Rattle.tez_router_view.proofs.Winners.{winner_read, withdrawn_winner}
use Rattle.tez_router_view.proofs.Moving.{withdrawal_view, withdrawal_ends}
use Rattle.tez_router_view.proofs.Reading.{notices_same}
use Rattle.tez_router_view.proofs.Closed.{lost_node, closed_view, closed_lines}
use Rattle.tez_router_view.proofs.Killing.{kills_view, kills_keep, kills_lines, numbers-apart}

-- ---- one withdrawal

winner_after : (g : Dag) (past : Past) (w : AttemptId) (t : TaskId) → winner w.task past ≡ Some w → winner t (extend past (withdrawal g past w)) ≡ (if same_task w.task t then None else winner t past)
winner_after g past w t won =
    ap (winner t) (withdrawal_ends g past w) ∙ through (λ p. winner t p) (λ p a e i x. refl) (Rerun w ∷ past) (notices g past w) (notices_are g past w) ∙ withdrawn_winner past w t won

next_through : (g : Dag) (past : Past) (w : AttemptId) (t : TaskId) → next_attempt (extend (Rerun w ∷ past) (notices g past w)) t ≡ next_attempt past t
next_through g past w t = through (λ p. next_attempt p t) (λ p a e i x. refl) (Rerun w ∷ past) (notices g past w) (notices_are g past w)

next_after : (g : Dag) (past : Past) (w : AttemptId) (t : TaskId) → same_task w.task t ≡ false → next_attempt (extend past (withdrawal g past w)) t ≡ next_attempt past t
next_after g past w t other =
    let told : Past = extend (Rerun w ∷ past) (notices g past w) in
    ap (λ p. next_attempt p t) (withdrawal_ends g past w)
    ∙ ap (λ b. attempt (epoch told) t ((if b then 1 else 0) + attempts t told)) other
    ∙ ap (attempt (epoch told) t) (zero-add (attempts t told)) ∙ next_through g past w t

-- what waits is told the same
notices_after : (g : Dag) (c : ConfValues) (past : Past) (w x : AttemptId) → IsMade g c past → winner w.task past ≡ Some w → notices g (extend past (withdrawal g past w)) x ≡ notices g past x
notices_after g c past w x m won =
    sym (notices_same g (extend past (withdrawal g past w)) x)
    ∙ ap (λ s. map notice_entry (router_notices s x.task x)) (sym (withdrawal_view g c past w m won))
    ∙ notices_same g past x

withdrawal_after : (g : Dag) (c : ConfValues) (past : Past) (w x : AttemptId) → IsMade g c past → winner w.task past ≡ Some w → same_task w.task x.task ≡ false → withdrawal g (extend past (withdrawal g past w)) x ≡ withdrawal g past x
withdrawal_after g c past w x m won other =
    ap (λ ls. Rerun x ∷ (ls ++ Queued (next_attempt (extend past (withdrawal g past w)) x.task) ∷ [])) (notices_after g c past w x m won)
    ∙ ap (λ n. Rerun x ∷ (notices g past x ++ Queued n ∷ [])) (next_after g past w x.task other)

-- ---- several

abbrev lost_of : Dag → ConfValues → ℕ → Past → Past → List TaskId → List AttemptId
lost_of g c slot before past ts = filter (is_on_node g c before slot) (filter_map (λ t. winner t past) ts)

-- a later task's winner stays
later_winners : (g : Dag) (past : Past) (w : AttemptId) (t : TaskId) (ts : List TaskId) → w.task ≡ t → winner w.task past ≡ Some w → AreTasksInOrder (t ∷ ts) → filter_map (λ u. winner u (extend past (withdrawal g past w))) ts ≡ filter_map (λ u. winner u past) ts
later_winners g past w t ts at won order =
    filter_map-same (λ u. winner u (extend past (withdrawal g past w))) (λ u. winner u past) ts
    (λ u i. winner_after g past w u won ∙ ap (λ b. if b then None else winner u past) (subst (λ s. same_task s u ≡ false) (sym at) (before_not t u (order.0 u i)).2))

in-won : (past : Past) (w : AttemptId) (ts : List TaskId) → In w (filter_map (λ t. winner t past) ts) → (t : TaskId) × In t ts × (winner t past ≡ Some w)
in-won past w [] h = absurd h
in-won past w (t ∷ ts) h = by (winner t past) refl h (in-won past w ts) where
  by : (o : Option AttemptId) → winner t past ≡ o → In w (cons_option o (filter_map (λ u. winner u past) ts)) → (In w (filter_map (λ u. winner u past) ts) → (u : TaskId) × In u ts × (winner u past ≡ Some w)) → (u : TaskId) × In u (t ∷ ts) × (winner u past ≡ Some w)
  by None e k ih = let r = ih k in (r.0, inr r.1, r.2)
  by (Some b) e (inl s) ih = (t, inl refl, e ∙ ap Some (sym s))
  by (Some b) e (inr k) ih = let r = ih k in (r.0, inr r.1, r.2)

later_task : (past : Past) (w x : AttemptId) (t : TaskId) (ts : List TaskId) → w.task ≡ t → AreTasksInOrder (t ∷ ts) → In x (filter_map (λ u. winner u past) ts) → same_task w.task x.task ≡ false
later_task past w x t ts at order i =
    let r = in-won past x ts i in
    let of : x.task ≡ r.0 = winner_task past r.0 x r.2 in
    subst (λ s. same_task s x.task ≡ false) (sym at) (subst (λ s. same_task t s ≡ false) (sym of) (before_not t r.0 (order.0 r.0 r.1)).2)

abbrev Withdraws : Dag → ConfValues → ℕ → Past → Past → List TaskId → List Entry → List AttemptId → Type 0
Withdraws g c slot before past ts es ws = (router_view g (extend past es) ≡ after_withdraws (router_view g past) ws) × (es ≡ flat_map (withdrawal g past) ws)

pub withdraws : (g : Dag) (c : ConfValues) (slot : ℕ) (before past : Past) (ts : List TaskId) → IsMade g c past → AreTasksInOrder ts
    → Withdraws g c slot before past ts (each_after (withdraw_lost g c slot before) past ts) (lost_of g c slot before past ts)
withdraws g c slot before past [] m order = (refl, refl)
withdraws g c slot before past (t ∷ ts) m order = by (winner t past) refl (withdraws g c slot before past ts m order.1) (λ w k. withdraws g c slot before (extend past (withdrawal g past w)) ts k order.1) where
  one : (w : AttemptId) → winner t past ≡ Some w
      → (IsMade g c (extend past (withdrawal g past w)) → Withdraws g c slot before (extend past (withdrawal g past w)) ts (each_after (withdraw_lost g c slot before) (extend past (withdrawal g past w)) ts) (lost_of g c slot before (extend past (withdrawal g past w)) ts))
      → Withdraws g c slot before past (t ∷ ts) (withdrawal g past w ++ each_after (withdraw_lost g c slot before) (extend past (withdrawal g past w)) ts) (w ∷ lost_of g c slot before past ts)
  one w h more =
      let at : w.task ≡ t = winner_task past t w h in
      let won : winner w.task past ≡ Some w = subst (λ u. winner u past ≡ Some w) (sym at) h in
      let r = more (made-extend g c past (withdrawal g past w) m (withdrawal_may g c past w m won)) in
      let same : lost_of g c slot before (extend past (withdrawal g past w)) ts ≡ lost_of g c slot before past ts = ap (filter (is_on_node g c before slot)) (later_winners g past w t ts at won order) in
      let rest : List Entry = each_after (withdraw_lost g c slot before) (extend past (withdrawal g past w)) ts in (
        ap (router_view g) (extend-append past (withdrawal g past w) rest) ∙ r.0
            ∙ ap (λ s. after_withdraws s (lost_of g c slot before (extend past (withdrawal g past w)) ts)) (sym (withdrawal_view g c past w m won))
            ∙ ap (after_withdraws (after_withdraw (router_view g past) w.task)) same,
        ap (λ ls. withdrawal g past w ++ ls)
            (r.1 ∙ ap (flat_map (withdrawal g (extend past (withdrawal g past w)))) same
            ∙ flat_same (withdrawal g (extend past (withdrawal g past w))) (withdrawal g past) (lost_of g c slot before past ts)
            (λ x i. withdrawal_after g c past w x m won (later_task past w x t ts at order (in-filter-out (is_on_node g c before slot) x (filter_map (λ u. winner u past) ts) i)))),
      )

  by : (o : Option AttemptId) → winner t past ≡ o → Withdraws g c slot before past ts (each_after (withdraw_lost g c slot before) past ts) (lost_of g c slot before past ts)
      → ((w : AttemptId) → IsMade g c (extend past (withdrawal g past w)) → Withdraws g c slot before (extend past (withdrawal g past w)) ts (each_after (withdraw_lost g c slot before) (extend past (withdrawal g past w)) ts) (lost_of g c slot before (extend past (withdrawal g past w)) ts))
      → Withdraws g c slot before past (t ∷ ts) (withdrawn_if g c slot before past o ++ each_after (withdraw_lost g c slot before) (extend past (withdrawn_if g c slot before past o)) ts)
      (filter (is_on_node g c before slot) (cons_option o (filter_map (λ u. winner u past) ts)))
  by None h same more = same
  by (Some w) h same more = locations (is_on_node g c before slot w) where
    locations : (b : Bool)
        → Withdraws g c slot before past (t ∷ ts) ((if b then withdrawal g past w else []) ++ each_after (withdraw_lost g c slot before) (extend past (if b then withdrawal g past w else [])) ts)
        (if b then w ∷ lost_of g c slot before past ts else lost_of g c slot before past ts)
    locations true = one w h (more w)
    locations false = same

-- ---- the loss of a node

lines_by : (g : Dag) (c : ConfValues) (past later : Past) (s : RouterState) (w : AttemptId) → IsMade g c past → FitsPlan g past → router_view g later ≡ s → winner_in s w.task ≡ winner_in (router_view g past) w.task
    → winner w.task past ≡ Some w → next_attempt later w.task ≡ next_attempt past w.task → withdrawal g later w ≡ withdrawal_lines s past w
lines_by g c past later s w m fits is same won next =
    let told : map notice_entry (notices_in s w.task) ≡ notices g later w =
    ap (λ o. map notice_entry (option_map_or (router_notices s w.task) o [])) (same ∙ winner_read g c past m fits w.task ∙ won)
    ∙ ap (λ r. map notice_entry (router_notices r w.task w)) (sym is) ∙ notices_same g later w in
    ap (λ ls. Rerun w ∷ (ls ++ Queued (next_attempt later w.task) ∷ [])) (sym told) ∙ ap (λ n. Rerun w ∷ (map notice_entry (notices_in s w.task) ++ Queued n ∷ [])) next

-- a withdrawal alone
pub withdrawal_read : (g : Dag) (c : ConfValues) (past : Past) (w : AttemptId) → IsMade g c past → FitsPlan g past → winner w.task past ≡ Some w → withdrawal g past w ≡ withdrawal_lines (router_view g past) past w
withdrawal_read g c past w m fits won = lines_by g c past past (router_view g past) w m fits refl refl won refl

abbrev killed_off : ConfValues → Past → ℕ → Past
killed_off c past slot = extend (lost_node past slot ∷ past) (node_kills c (lost_node past slot ∷ past) slot)

not_committing : {X : Type 0} (b : Bool) (x y : X) → b ≡ false → (if b then x else y) ≡ y
not_committing true x y h = cc
not_committing false x y h = refl

lost_same : (g : Dag) (c : ConfValues) (past : Past) (slot : ℕ) → IsMade g c past → slot < c.nodes → IsOpen past → lost_of g c slot past (killed_off c past slot) (tasks g past) ≡ winners_on g c past slot
lost_same g c past slot m there o =
    ap (filter (is_on_node g c past slot))
    (filter_map-same (λ t. winner t (killed_off c past slot)) (λ t. winner t past) (tasks g past) (λ t _. (kills_keep g c (lost_node past slot ∷ past) (places_on c slot) ((there, refl, o), m)).winners t))

open_loss_view : (g : Dag) (c : ConfValues) (past : Past) (slot : ℕ) → IsMade g c past → slot < c.nodes → IsOpen past → is_committing past ≡ false
    → router_view g (extend past (entries_of g c past (LoseNode slot))) ≡ after_withdraws (without (router_view g past) (holders_on c past slot)) (winners_on g c past slot)
open_loss_view g c past slot m there o idle =
    let lost = lost_node past slot in
    let made : IsMade g c (lost ∷ past) = ((there, refl, o), m) in
    let kills : List Entry = node_kills c (lost ∷ past) slot in
    let keep = kills_keep g c (lost ∷ past) (places_on c slot) made in
    ap (λ es. router_view g (extend past es)) (not_committing (is_committing past) (lost ∷ []) (node_loss_entries g c past slot) idle)
    ∙ ap (router_view g) (extend-append (lost ∷ past) kills (node_withdrawals g c slot past (extend (lost ∷ past) kills)))
    ∙ (withdraws g c slot past (extend (lost ∷ past) kills) (tasks g past) keep.made (tasks-order g past)).0
    ∙ ap (λ s. after_withdraws s (lost_of g c slot past (killed_off c past slot) (tasks g past))) (kills_view g c (lost ∷ past) (places_on c slot) made)
    ∙ ap (after_withdraws (without (router_view g past) (holders_on c past slot))) (lost_same g c past slot m there o)

pub node_loss_view : (g : Dag) (c : ConfValues) (past : Past) (slot : ℕ) → IsMade g c past → slot < c.nodes → is_committing past ≡ false
    → router_view g (extend past (entries_of g c past (LoseNode slot))) ≡ after_withdraws (without (router_view g past) (holders_on c past slot)) (winners_on g c past slot)
node_loss_view g c past slot m there idle = by (is_at_start past) refl where
  by : (b : Bool) → is_at_start past ≡ b → router_view g (extend past (entries_of g c past (LoseNode slot))) ≡ after_withdraws (without (router_view g past) (holders_on c past slot)) (winners_on g c past slot)
  by true start = ap (λ es. router_view g (extend past es)) (not_committing (is_committing past) (lost_node past slot ∷ []) (node_loss_entries g c past slot) idle) ∙ closed_view g c past slot start
  by false o = open_loss_view g c past slot m there o idle

won_on : (g : Dag) (c : ConfValues) (past : Past) (slot : ℕ) (w : AttemptId) → In w (winners_on g c past slot) → winner w.task past ≡ Some w
won_on g c past slot w i =
    let r = in-won past w (tasks g past) (in-filter-out (is_on_node g c past slot) w (filter_map (λ t. winner t past) (tasks g past)) i) in
    subst (λ t. winner t past ≡ Some w) (sym (winner_task past r.0 w r.2)) r.2

open_loss_lines : (g : Dag) (c : ConfValues) (past : Past) (slot : ℕ) → IsMade g c past → FitsPlan g past → slot < c.nodes → IsOpen past → is_committing past ≡ false
    → entries_of g c past (LoseNode slot)
    ≡ lost_node past slot ∷ (flat_map (kill_lines past) (holders_on c past slot) ++ flat_map (withdrawal_lines (without (router_view g past) (holders_on c past slot)) past) (winners_on g c past slot))
open_loss_lines g c past slot m fits there o idle =
    let lost = lost_node past slot in
    let made : IsMade g c (lost ∷ past) = ((there, refl, o), m) in
    let kills : List Entry = node_kills c (lost ∷ past) slot in
    let later : Past = extend (lost ∷ past) kills in
    let keep = kills_keep g c (lost ∷ past) (places_on c slot) made in
    not_committing (is_committing past) (lost ∷ []) (node_loss_entries g c past slot) idle
    ∙ ap (λ ks. lost ∷ (ks ++ node_withdrawals g c slot past later)) (kills_lines g c (lost ∷ past) (places_on c slot) made (numbers-apart (slot * c.per_node) c.per_node))
    ∙ ap (λ ws. lost ∷ (flat_map (kill_lines past) (holders_on c past slot) ++ ws))
    ((withdraws g c slot past later (tasks g past) keep.made (tasks-order g past)).1
    ∙ ap (flat_map (withdrawal g later)) (lost_same g c past slot m there o)
    ∙ flat_same (withdrawal g later) (withdrawal_lines (without (router_view g past) (holders_on c past slot)) past) (winners_on g c past slot)
    (λ w i.
    let won = won_on g c past slot w i in
    lines_by g c past later (without (router_view g past) (holders_on c past slot)) w m fits (kills_view g c (lost ∷ past) (places_on c slot) made) refl won (keep.next w.task w won)))

pub node_loss_lines : (g : Dag) (c : ConfValues) (past : Past) (slot : ℕ) → IsMade g c past → FitsPlan g past → slot < c.nodes → is_committing past ≡ false
    → entries_of g c past (LoseNode slot)
    ≡ lost_node past slot ∷ (flat_map (kill_lines past) (holders_on c past slot) ++ flat_map (withdrawal_lines (without (router_view g past) (holders_on c past slot)) past) (winners_on g c past slot))
node_loss_lines g c past slot m fits there idle = by (is_at_start past) refl where
  by : (b : Bool) → is_at_start past ≡ b
      → entries_of g c past (LoseNode slot)
      ≡ lost_node past slot ∷ (flat_map (kill_lines past) (holders_on c past slot) ++ flat_map (withdrawal_lines (without (router_view g past) (holders_on c past slot)) past) (winners_on g c past slot))
  by true start = not_committing (is_committing past) (lost_node past slot ∷ []) (node_loss_entries g c past slot) idle ∙ closed_lines g c past slot (without (router_view g past) (holders_on c past slot)) start
  by false o = open_loss_lines g c past slot m fits there o idle
