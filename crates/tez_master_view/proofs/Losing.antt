-- A node is lost: who held its places is killed, and the winners whose pieces lay there are withdrawn.
use Rattle.std.specs.Prelude.{◌≡◌, ℕ, zero, suc, ◌<◌, Bool, true, false, if◌then◌else◌, List, [], ◌∷◌, ◌++◌, map, slice_get, slice_set, Option, Some, None, unwrap_or, refl}
use Rattle.std.specs.List.{filter, filter_map, cons_option, flat_map, fold}
use Rattle.std.specs.Option.{option_map}
use Rattle.std.proofs.Common.{ap, sym, ◌∙◌, subst, inl, inr}
use Rattle.std.proofs.lemmas.Option.{slice_get-map}
use Rattle.tez_ids.specs.declared.TaskId.{TaskId}
use Rattle.tez_ids.specs.declared.AttemptId.{AttemptId}
use Rattle.tez_ids.specs.Same.{task, same_task}
use Rattle.tez_lists.specs.Numbers.{In}
use Rattle.tez_lists.proofs.Flat.{flat_map-map, flat_same}
use Rattle.tez_plan.specs.Dag.{Dag}
use Rattle.tez_conf.specs.declared.values.ConfValues.{ConfValues}
use Rattle.tez_vman.specs.declared.seen.Config.{Config}
use Rattle.tez_events.specs.declared.KillCause.TheVariants.{Node}
use Rattle.tez_events.specs.declared.Entry.TheVariants.{Queued, Killed, NodeLost}
use Rattle.tez_events.specs.declared.CoreEvent.TheVariants.{LoseNode}
use Rattle.tez_history.specs.Shape.{numbers_below, vertices}
use Rattle.tez_history.specs.History.{Past, extend, winner, holder, config, life, is_up, is_committing}
use Rattle.tez_history.specs.Derived.{tasks, tasks_if, places_on, is_on_node}
use Rattle.tez_history.specs.Steps.{enabled, entries_of, each_after, withdrawal, killed_by_node, kill_at, withdrawn_if, withdraw_lost, node_kills, node_withdrawals, node_loss_entries}
use Rattle.tez_history.specs.Follows.{IsMade, IsOpen}
use Rattle.tez_laws.proofs.Tasks.{winner_task}
use Rattle.tez_laws.proofs.StepLaw.{both, below, up_open, made-extend, withdrawal_may}
use Rattle.tez_laws.proofs.Going.{extend-append}
use Rattle.tez_vertex_view.specs.View.{vertex_view, task_view, vertices_view, held_there, lost_there}
use Rattle.tez_vertex_view.proofs.Moving.{winner_stays}
use Rattle.tez_vertex_view.proofs.Losing.{withdrawn_fact, lost_step, commit_step}
use Rattle.tez_pool.specs.Table.{held_on}
use Rattle.tez_pool_view.specs.View.{pool_view}
use Rattle.tez_pool_view.proofs.Reading.{read_node}
use Rattle.tez_pool_view.proofs.Stepping.{lost_step as lost_pool}
use Rattle.tez_router_view.specs.View.{router_view, FitsPlan}
use Rattle.tez_router_view.specs.Events.{after_withdraws}
use Rattle.tez_router_view.proofs.Lists.{filter-same, filter_map-same}
use Rattle.tez_router_view.proofs.Ordering.{AreTasksInOrder, before_not, tasks-order}
use Rattle.tez_router_view.proofs.Killing.{dismissed_all, kills_keep}
use Rattle.tez_router_view.proofs.Losing.{node_loss_view}
use Rattle.tez_router_view.proofs.ByEvent.{late_loss_leaves}
use Rattle.tez_router_view.proofs.Winners.{won_vertex}
use Rattle.tez_schedule_view.proofs.Losing.{lost_view, late_view}
use Rattle.tez_master_model.specs.State.{MasterState}
use Rattle.tez_master_model.specs.Read.{lost_in, winners_in, is_on_slot}
use Rattle.tez_master_model.specs.Settled.{killed, withdrawn, without_node, on_no_slot}
use Rattle.tez_master_view.specs.View.{master_view, locations_view}
use Rattle.tez_master_view.specs.Laws.{Goes}
use Rattle.tez_master_view.proofs.Parts.{Rest, killed_all, withdrawn_all, lose_location, unready}
use Rattle.tez_master_view.proofs.Own.{node_locations, withdrawn_locations, withdrawn_readied, readied_view}
use Rattle.tez_master_view.proofs.Simple.{Settles, settles, rest}
use Rattle.tez_master_view.proofs.Fetching.{slot_read, withdrawn_rest}

-- ---- the winners that are lost

winners_at : (c : ConfValues) (past : Past) (v : ℕ) (ns : List ℕ) → filter_map (λ t. t.winner) (map (λ i. task_view c (task v i) past) ns) ≡ filter_map (λ t. winner t past) (map (task v) ns)
winners_at c past v [] = refl
winners_at c past v (n ∷ ns) = ap (cons_option (winner (task v n) past)) (winners_at c past v ns)

winners_in_vertex : (c : ConfValues) (past : Past) (v : ℕ) → filter_map (λ t. t.winner) (vertex_view c v past).tasks ≡ filter_map (λ t. winner t past) (tasks_if (config v past) v)
winners_in_vertex c past v = by (config v past) where
  by : (o : Option Config) → filter_map (λ t. t.winner) (map (λ i. task_view c (task v i) past) (numbers_below (Rattle.tez_vertex_view.specs.View.tasks_in o))) ≡ filter_map (λ t. winner t past) (tasks_if o v)
  by None = refl
  by (Some s) = winners_at c past v (numbers_below s.tasks)

filter_map-append : {X Y : Type 0} (f : X → Option Y) (xs ys : List X) → filter_map f (xs ++ ys) ≡ filter_map f xs ++ filter_map f ys
filter_map-append f [] ys = refl
filter_map-append f (x ∷ xs) ys = ap (cons_option (f x)) (filter_map-append f xs ys) ∙ by (f x) where
  by : (o : Option _) → cons_option o (filter_map f xs ++ filter_map f ys) ≡ cons_option o (filter_map f xs) ++ filter_map f ys
  by None = refl
  by (Some y) = refl

filter_map-flat : {X Y Z : Type 0} (f : Y → Option Z) (h : X → List Y) (xs : List X) → filter_map f (flat_map h xs) ≡ flat_map (λ x. filter_map f (h x)) xs
filter_map-flat f h [] = refl
filter_map-flat f h (x ∷ xs) = filter_map-append f (h x) (flat_map h xs) ∙ ap (λ zs. filter_map f (h x) ++ zs) (filter_map-flat f h xs)

pub winners_read : (g : Dag) (c : ConfValues) (past : Past) → winners_in (master_view g c past) ≡ filter_map (λ t. winner t past) (tasks g past)
winners_read g c past =
    flat_map-map (λ x. filter_map (λ t. t.winner) x.tasks) (λ v. vertex_view c v past) (vertices g)
    ∙ flat_same (λ v. filter_map (λ t. t.winner) (vertex_view c v past).tasks) (λ v. filter_map (λ t. winner t past) (tasks_if (config v past) v)) (vertices g) (λ v _. winners_in_vertex c past v)
    ∙ sym (filter_map-flat (λ t. winner t past) (λ v. tasks_if (config v past) v) (vertices g))

in-won : (past : Past) (w : AttemptId) (ts : List TaskId) → In w (filter_map (λ t. winner t past) ts) → winner w.task past ≡ Some w
in-won past w [] h = absurd h
in-won past w (t ∷ ts) h = by (winner t past) refl h (in-won past w ts) where
  by : (o : Option AttemptId) → winner t past ≡ o → In w (cons_option o (filter_map (λ u. winner u past) ts)) → (In w (filter_map (λ u. winner u past) ts) → winner w.task past ≡ Some w) → winner w.task past ≡ Some w
  by None e k ih = ih k
  by (Some b) e (inl s) ih = let is : winner t past ≡ Some w = e ∙ ap Some (sym s) in subst (λ u. winner u past ≡ Some w) (sym (winner_task past t w is)) is
  by (Some b) e (inr k) ih = ih k

pub lost_read : (g : Dag) (c : ConfValues) (past : Past) (slot : ℕ) → IsMade g c past → FitsPlan g past → lost_in (master_view g c past) slot ≡ lost_there g c past slot
lost_read g c past slot m fits =
    ap (filter (is_on_slot (master_view g c past) slot)) (winners_read g c past)
    ∙ filter-same (is_on_slot (master_view g c past) slot) (is_on_node g c past slot) (filter_map (λ t. winner t past) (tasks g past)) (λ w i. slot_read g c past slot w m fits (in-won past w (tasks g past) i))

-- ---- a fact after kills and withdrawals

kills_fact : {A : Type 0} (fact : Past → A) → ((p : Past) (a : AttemptId) → fact (Killed a Node ∷ p) ≡ fact p) → ((p : Past) (a : AttemptId) → fact (Queued a ∷ p) ≡ fact p)
    → (past : Past) (ps : List ℕ) → fact (extend past (each_after kill_at past ps)) ≡ fact past
kills_fact fact gone again past [] = refl
kills_fact {A} fact gone again past (p ∷ ps) =
    ap fact (extend-append past (kill_at past p) (each_after kill_at (extend past (kill_at past p)) ps))
    ∙ kills_fact fact gone again (extend past (kill_at past p)) ps ∙ by (holder p past)
  where
    by : (o : Option AttemptId) → fact (extend past (killed_by_node past o)) ≡ fact past
    by None = refl
    by (Some a) = again (Killed a Node ∷ past) _ ∙ gone past a

abbrev lost_of : Dag → ConfValues → ℕ → Past → Past → List TaskId → List AttemptId
lost_of g c slot before past ts = filter (is_on_node g c before slot) (filter_map (λ t. winner t past) ts)

later_winners : (g : Dag) (past : Past) (w : AttemptId) (t : TaskId) (ts : List TaskId) → w.task ≡ t → AreTasksInOrder (t ∷ ts) → filter_map (λ u. winner u (extend past (withdrawal g past w))) ts ≡ filter_map (λ u. winner u past) ts
later_winners g past w t ts at order =
    filter_map-same (λ u. winner u (extend past (withdrawal g past w))) (λ u. winner u past) ts
    (λ u i. withdrawn_fact g past w (λ p. winner u p) (λ p a e j x. refl) (λ p. refl) ∙ winner_stays past w u (subst (λ s. same_task s u ≡ false) (sym at) (before_not t u (order.0 u i)).2))

-- what one withdrawal makes of a fact, one after another
abbrev Loses : {S : Type 0} → Dag → ConfValues → (Past → S) → (S → AttemptId → S) → Type 0
Loses g c fact lose = (p : Past) (w : AttemptId) → IsMade g c p → winner w.task p ≡ Some w → lose (fact p) w ≡ fact (extend p (withdrawal g p w))

losses_fact : {S : Type 0} (g : Dag) (c : ConfValues) (slot : ℕ) (before : Past) (fact : Past → S) (lose : S → AttemptId → S) → Loses g c fact lose → (ts : List TaskId) (past : Past) → AreTasksInOrder ts → IsMade g c past
    → fact (extend past (each_after (withdraw_lost g c slot before) past ts)) ≡ fold lose (fact past) (lost_of g c slot before past ts)
losses_fact g c slot before fact lose one [] past order m = refl
losses_fact {S} g c slot before fact lose one (t ∷ ts) past order m = by (winner t past) refl (λ p k. losses_fact g c slot before fact lose one ts p order.1 k) where
  lost : (w : AttemptId) → winner t past ≡ Some w → (b : Bool) → ((p : Past) → IsMade g c p → fact (extend p (each_after (withdraw_lost g c slot before) p ts)) ≡ fold lose (fact p) (lost_of g c slot before p ts))
      → fact (extend past ((if b then withdrawal g past w else []) ++ each_after (withdraw_lost g c slot before) (extend past (if b then withdrawal g past w else [])) ts))
      ≡ fold lose (fact past) (if b then w ∷ lost_of g c slot before past ts else lost_of g c slot before past ts)
  lost w e false more = more past m
  lost w e true more =
      let of = winner_task past t w e in
      let won : winner w.task past ≡ Some w = subst (λ u. winner u past ≡ Some w) (sym of) e in
      let mid = extend past (withdrawal g past w) in
      ap fact (extend-append past (withdrawal g past w) (each_after (withdraw_lost g c slot before) mid ts))
      ∙ more mid (made-extend g c past (withdrawal g past w) m (withdrawal_may g c past w m won))
      ∙ ap (λ s. fold lose s (lost_of g c slot before mid ts)) (sym (one past w m won))
      ∙ ap (λ ws. fold lose (lose (fact past) w) (filter (is_on_node g c before slot) ws)) (later_winners g past w t ts of order)

  by : (o : Option AttemptId) → winner t past ≡ o → ((p : Past) → IsMade g c p → fact (extend p (each_after (withdraw_lost g c slot before) p ts)) ≡ fold lose (fact p) (lost_of g c slot before p ts))
      → fact (extend past (withdrawn_if g c slot before past o ++ each_after (withdraw_lost g c slot before) (extend past (withdrawn_if g c slot before past o)) ts))
      ≡ fold lose (fact past) (filter (is_on_node g c before slot) (cons_option o (filter_map (λ u. winner u past) ts)))
  by None e more = more past m
  by (Some w) e more = lost w e (is_on_node g c before slot w) more

abbrev node_lost : Past → ℕ → Past
node_lost past slot = NodeLost slot (suc (life slot past)) ∷ past

loss_fact : {S : Type 0} (g : Dag) (c : ConfValues) (past : Past) (slot : ℕ) (fact : Past → S) (lose : S → AttemptId → S) → Loses g c fact lose
    → ((p : Past) (a : AttemptId) → fact (Killed a Node ∷ p) ≡ fact p) → ((p : Past) (a : AttemptId) → fact (Queued a ∷ p) ≡ fact p) → IsMade g c past → slot < c.nodes → IsOpen past
    → fold lose (fact (node_lost past slot)) (lost_there g c past slot) ≡ fact (extend past (node_loss_entries g c past slot))
loss_fact g c past slot fact lose one gone again m there o =
    let lost : Past = node_lost past slot in
    let made : IsMade g c lost = ((there, refl, o), m) in
    let kills = node_kills c lost slot in
    let mid = extend lost kills in
    let keep = kills_keep g c lost (places_on c slot) made in
    sym
    (ap fact (extend-append lost kills (node_withdrawals g c slot past mid))
    ∙ losses_fact g c slot past fact lose one (tasks g past) mid (tasks-order g past) keep.made
    ∙ ap (λ s. fold lose s (lost_of g c slot past mid (tasks g past))) (kills_fact fact gone again lost (places_on c slot))
    ∙ ap (λ ws. fold lose (fact lost) (filter (is_on_node g c past slot) ws)) (filter_map-same (λ t. winner t mid) (λ t. winner t past) (tasks g past) (λ t _. keep.winners t)))

-- ---- the places where pieces lay are emptied before or after the withdrawals

map_set : {X Y : Type 0} (f : X → Y) (xs : List X) (i : ℕ) (x : X) → map f (slice_set xs i x) ≡ slice_set (map f xs) i (f x)
map_set f [] i x = refl
map_set f (y ∷ ys) zero x = refl
map_set f (y ∷ ys) (suc i) x = ap (λ zs. f y ∷ zs) (map_set f ys i x)

row_map : {X Y : Type 0} (f : X → Y) (o : Option (List X)) → map f (unwrap_or o []) ≡ unwrap_or (option_map (map f) o) []
row_map f None = refl
row_map f (Some xs) = refl

emptied_one : (slot : ℕ) (ls : List (List (Option ℕ))) (w : AttemptId) → map (map (on_no_slot slot)) (lose_location ls w) ≡ lose_location (map (map (on_no_slot slot)) ls) w
emptied_one slot ls w =
    let v = w.task.vertex.0 in
    let i = w.task.index in
    let f = map (on_no_slot slot) in
    map_set f ls v (slice_set (unwrap_or (slice_get ls v) []) i None)
    ∙ ap (slice_set (map f ls) v)
    (map_set (on_no_slot slot) (unwrap_or (slice_get ls v) []) i None
    ∙ ap (λ r. slice_set r i None) (row_map (on_no_slot slot) (slice_get ls v) ∙ ap (λ o. unwrap_or o []) (sym (slice_get-map f ls v))))

emptied : (slot : ℕ) (ls : List (List (Option ℕ))) (ws : List AttemptId) → map (map (on_no_slot slot)) (fold lose_location ls ws) ≡ fold lose_location (map (map (on_no_slot slot)) ls) ws
emptied slot ls [] = refl
emptied slot ls (w ∷ ws) = emptied slot (lose_location ls w) ws ∙ ap (λ xs. fold lose_location xs ws) (emptied_one slot ls w)

-- ---- the event

same_fold : (r : Rest) (ws : List AttemptId) → fold (λ x w. x) r ws ≡ r
same_fold r [] = refl
same_fold r (w ∷ ws) = same_fold r ws

late : (g : Dag) (c : ConfValues) (past : Past) (slot : ℕ) → Goes g c past → enabled g c past (LoseNode slot) ≡ true → is_committing past ≡ true
    → without_node (master_view g c past) slot ≡ master_view g c (extend past (entries_of g c past (LoseNode slot)))
late g c past slot go on is =
    let es : NodeLost slot (suc (life slot past)) ∷ [] ≡ entries_of g c past (LoseNode slot) = sym (ap (λ b. if b then NodeLost slot (suc (life slot past)) ∷ [] else node_loss_entries g c past slot) is) in
    settles g c past (extend past (entries_of g c past (LoseNode slot))) (sym (commit_step g c past slot is)) (lost_pool g c past slot go.sound.made go.whole on) (sym (late_loss_leaves g c past slot is)) (sym (late_view g c past slot is))
    (node_locations g c past slot (suc (life slot past)) ∙ ap (λ xs. locations_view g c (extend past xs)) es) (ap (λ xs. readied_view g (extend past xs)) es) (ap (λ xs. rest g (extend past xs)) es)

abbrev all_lost : MasterState → ℕ → List AttemptId → List AttemptId → MasterState
all_lost m slot hs ws = without_node (fold withdrawn (fold killed m hs) ws) slot

early : (g : Dag) (c : ConfValues) (past : Past) (slot : ℕ) → Goes g c past → enabled g c past (LoseNode slot) ≡ true → is_committing past ≡ false
    → all_lost (master_view g c past) slot (held_on (pool_view c past) slot) (lost_in (master_view g c past) slot) ≡ master_view g c (extend past (entries_of g c past (LoseNode slot)))
early g c past slot go on idle =
    let m = go.sound.made in
    let there : slot < c.nodes = below slot c.nodes (both {x = is_up past} on).1 in
    let o = up_open past (both {x = is_up past} on).0 in
    let hs = held_there c past slot in
    let ws = lost_there g c past slot in
    let view = master_view g c past in
    let later = extend past (entries_of g c past (LoseNode slot)) in
    let es : node_loss_entries g c past slot ≡ entries_of g c past (LoseNode slot) = sym (ap (λ b. if b then NodeLost slot (suc (life slot past)) ∷ [] else node_loss_entries g c past slot) idle) in
    let locations = loss_fact g c past slot (λ p. locations_view g c p) lose_location (λ p w k won. withdrawn_locations g c p w (won_vertex g c p k w.task w won) won) (λ p a. refl) (λ p a. refl) m there o in
    let readied = loss_fact g c past slot (λ p. readied_view g p) unready (λ p w k won. withdrawn_readied g p w) (λ p a. refl) (λ p a. refl) m there o in
    let others = loss_fact g c past slot (λ p. rest g p) (λ x w. x) (λ p w k won. withdrawn_rest g p w) (λ p a. refl) (λ p a. refl) m there o in
    ap (λ xs. all_lost view slot xs (lost_in view slot)) (read_node c past slot there)
    ∙ ap (all_lost view slot hs) (lost_read g c past slot m go.plan)
    ∙ ap (λ x. without_node (fold withdrawn x ws) slot) (killed_all view hs)
    ∙ ap (λ x. without_node x slot) (withdrawn_all _ ws)
    ∙ settles g c past later (sym (lost_step g c past slot m go.sound.few on idle)) (lost_pool g c past slot m go.whole on)
    (ap (λ r. after_withdraws r ws) (dismissed_all (router_view g past) hs) ∙ sym (node_loss_view g c past slot m there idle)) (sym (lost_view g c past slot m go.plan on idle))
    (emptied slot (locations_view g c past) ws ∙ ap (λ xs. fold lose_location xs ws) (node_locations g c past slot (suc (life slot past))) ∙ locations ∙ ap (λ xs. locations_view g c (extend past xs)) es)
    (readied ∙ ap (λ xs. readied_view g (extend past xs)) es)
    (sym (same_fold (rest g past) ws) ∙ others ∙ ap (λ xs. rest g (extend past xs)) es)

pub loss_settles : (g : Dag) (c : ConfValues) (past : Past) (slot : ℕ) → Goes g c past → enabled g c past (LoseNode slot) ≡ true → Settles g c past (LoseNode slot)
loss_settles g c past slot go on = by (is_committing past) refl where
  by : (b : Bool) → is_committing past ≡ b
      → (if b then without_node (master_view g c past) slot else all_lost (master_view g c past) slot (held_on (pool_view c past) slot) (lost_in (master_view g c past) slot))
      ≡ master_view g c (extend past (entries_of g c past (LoseNode slot)))
  by true is = late g c past slot go on is
  by false idle = early g c past slot go on idle
