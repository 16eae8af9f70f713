-- A node that is lost while no master is open: nobody holds a place, and nothing is won.
use Rattle.std.specs.Prelude.{◌≡◌, ℕ, suc, true, List, [], ◌∷◌, ◌++◌, Option, Some, None, refl}
use Rattle.std.specs.List.{filter, flat_map}
use Rattle.std.proofs.Common.{ap, sym, ◌∙◌}
use Rattle.tez_ids.specs.declared.TaskId.{TaskId}
use Rattle.tez_ids.specs.declared.AttemptId.{AttemptId}
use Rattle.tez_events.specs.declared.Entry.{Entry}
use Rattle.tez_events.specs.declared.Entry.TheVariants.{NodeLost, Stopped}
use Rattle.tez_plan.specs.Dag.{Dag}
use Rattle.tez_conf.specs.declared.values.ConfValues.{ConfValues}
use Rattle.tez_history.specs.History.{Past, extend, winner, holder, life}
use Rattle.tez_history.specs.Derived.{tasks, places_on, is_on_node}
use Rattle.tez_history.specs.Steps.{each_after, killed_by_node, kill_at, withdrawn_if, withdraw_lost, node_withdrawals, node_loss_entries}
use Rattle.tez_history.specs.Rules.{is_at_start}
use Rattle.tez_laws.proofs.Places.{none_held_at_start}
use Rattle.tez_router.specs.State.{RouterState}
use Rattle.tez_router.specs.Table.{without}
use Rattle.tez_router_view.specs.View.{router_view}
use Rattle.tez_router_view.specs.Events.{after_withdraws, holders_on, winners_on, withdrawal_lines, kill_lines}
use Rattle.tez_router_view.proofs.Lists.{filter_map-none}
use Rattle.tez_router_view.proofs.Killing.{without_none}

abbrev pub lost_node : Past → ℕ → Entry
lost_node past slot = NodeLost slot (suc (life slot past))

none_won : (past : Past) (t : TaskId) → is_at_start past ≡ true → winner t past ≡ None
none_won [] t h = refl
none_won (Stopped _ ∷ past) t h = refl
none_won (_ ∷ past) t h = cc

none_killed : (past : Past) (ps : List ℕ) → ((p : ℕ) → holder p past ≡ None) → each_after kill_at past ps ≡ []
none_killed past [] h = refl
none_killed past (p ∷ ps) h = by (holder p past) (h p) (none_killed past ps h) where
  by : (o : Option AttemptId) → o ≡ None → each_after kill_at past ps ≡ [] → killed_by_node past o ++ each_after kill_at (extend past (killed_by_node past o)) ps ≡ []
  by None e k = k
  by (Some a) e k = cc

none_withdrawn : (g : Dag) (c : ConfValues) (slot : ℕ) (before past : Past) (ts : List TaskId) → ((t : TaskId) → winner t past ≡ None) → each_after (withdraw_lost g c slot before) past ts ≡ []
none_withdrawn g c slot before past [] h = refl
none_withdrawn g c slot before past (t ∷ ts) h = by (winner t past) (h t) (none_withdrawn g c slot before past ts h) where
  by : (o : Option AttemptId) → o ≡ None → each_after (withdraw_lost g c slot before) past ts ≡ []
      → withdrawn_if g c slot before past o ++ each_after (withdraw_lost g c slot before) (extend past (withdrawn_if g c slot before past o)) ts ≡ []
  by None e k = k
  by (Some w) e k = cc

-- the loss is one entry
closed_entries : (g : Dag) (c : ConfValues) (past : Past) (slot : ℕ) → is_at_start past ≡ true → node_loss_entries g c past slot ≡ lost_node past slot ∷ []
closed_entries g c past slot start =
    let lost : Past = lost_node past slot ∷ past in
    ap (λ ks. lost_node past slot ∷ (ks ++ node_withdrawals g c slot past (extend lost ks))) (none_killed lost (places_on c slot) (λ p. none_held_at_start past p start))
    ∙ ap (λ ws. lost_node past slot ∷ ws) (none_withdrawn g c slot past lost (tasks g past) (λ t. none_won past t start))

none_hold : (c : ConfValues) (past : Past) (slot : ℕ) → is_at_start past ≡ true → holders_on c past slot ≡ []
none_hold c past slot start = filter_map-none (λ p. holder p past) (places_on c slot) (λ p. none_held_at_start past p start)

none_lost : (g : Dag) (c : ConfValues) (past : Past) (slot : ℕ) → is_at_start past ≡ true → winners_on g c past slot ≡ []
none_lost g c past slot start = ap (filter (is_on_node g c past slot)) (filter_map-none (λ t. winner t past) (tasks g past) (λ t. none_won past t start))

pub closed_view : (g : Dag) (c : ConfValues) (past : Past) (slot : ℕ) → is_at_start past ≡ true
    → router_view g (extend past (node_loss_entries g c past slot)) ≡ after_withdraws (without (router_view g past) (holders_on c past slot)) (winners_on g c past slot)
closed_view g c past slot start =
    ap (λ es. router_view g (extend past es)) (closed_entries g c past slot start)
    ∙ sym (without_none (router_view g past))
    ∙ ap (without (router_view g past)) (sym (none_hold c past slot start))
    ∙ ap (after_withdraws (without (router_view g past) (holders_on c past slot))) (sym (none_lost g c past slot start))

pub closed_lines : (g : Dag) (c : ConfValues) (past : Past) (slot : ℕ) (s : RouterState) → is_at_start past ≡ true
    → node_loss_entries g c past slot ≡ lost_node past slot ∷ (flat_map (kill_lines past) (holders_on c past slot) ++ flat_map (withdrawal_lines s past) (winners_on g c past slot))
closed_lines g c past slot s start =
    closed_entries g c past slot start
    ∙ ap (λ ws. lost_node past slot ∷ flat_map (withdrawal_lines s past) ws) (sym (none_lost g c past slot start))
    ∙ ap (λ hs. lost_node past slot ∷ (flat_map (kill_lines past) hs ++ flat_map (withdrawal_lines s past) (winners_on g c past slot))) (sym (none_hold c past slot start))
