-- What losses make of the vertices: winners are withdrawn, and who held a place of a lost node is killed.
use Rattle.std.specs.Prelude.{◌≡◌, ℕ, zero, suc, ◌*◌, ◌<◌, Bool, true, false, if◌then◌else◌, List, [], ◌∷◌, ◌++◌, Option, Some, None, refl, length, nat_lt}
use Rattle.std.specs.List.{filter, filter_map, cons_option}
use Rattle.std.proofs.Common.{ap, sym, ◌∙◌, subst, arith}
use Rattle.std.proofs.lemmas.Bool.Decides.{nat_tests}
use Rattle.tez_ids.specs.declared.TaskId.{TaskId}
use Rattle.tez_ids.specs.declared.AttemptId.{AttemptId}
use Rattle.tez_ids.specs.declared.EdgeId.{EdgeId}
use Rattle.tez_ids.specs.declared.VertexId.{VertexId}
use Rattle.tez_ids.specs.Same.{task, same_task, same_attempt}
use Rattle.tez_lists.specs.Numbers.{numbers_from, In}
use Rattle.tez_plan.specs.Dag.{Dag, edge}
use Rattle.tez_conf.specs.declared.values.ConfValues.{ConfValues}
use Rattle.tez_vman.specs.declared.seen.Config.{Config}
use Rattle.tez_events.specs.declared.KillCause.TheVariants.{Node}
use Rattle.tez_events.specs.declared.Entry.{Entry}
use Rattle.tez_events.specs.declared.Entry.TheVariants.{Queued, Fetched, ReadError, InputFailed, Killed, NodeLost, Rerun}
use Rattle.tez_events.specs.declared.CoreEvent.{CoreEvent}
use Rattle.tez_events.specs.declared.CoreEvent.TheVariants.{Open, Configure, Queue, Place, Fetch, Send, Preempt, Fail, LoseNode, LoseOutput, Restart, Ready, CommitStart, Ask, Publish, Finish, Purge}
use Rattle.tez_task.specs.declared.TaskEvent.TheVariants as task_event
use Rattle.tez_history.specs.Shape.{numbers_below}
use Rattle.tez_history.specs.History.{Past, extend, stage, holder, freed, winner, failures, config, life, is_committing}
use Rattle.tez_history.specs.Derived.{tasks, tasks_if, notices, next_attempt, places_on, is_on_node, is_on_shelf}
use Rattle.tez_history.specs.Steps.{enabled, entries_of, each_after, requeue, withdrawal, killed_by_node, kill_at, withdrawn_if, withdraw_lost, node_kills, node_withdrawals, node_loss_entries, fetch_entries, winner_behind, output_lost_entries}
use Rattle.tez_history.specs.Follows.{IsMade, IsOpen, AllMayFollow}
use Rattle.tez_laws.specs.Laws.{FewFailures, place_in, answered}
use Rattle.tez_laws.proofs.Same.{same_attempt-true}
use Rattle.tez_laws.proofs.Tasks.{winner_task}
use Rattle.tez_laws.proofs.Places.{held, in_place}
use Rattle.tez_laws.proofs.StepLaw.{both, event_may, made-extend, kill_may, withdrawal_may, through, notices_are, up_open}
use Rattle.tez_laws.proofs.Going.{extend-append}
use Rattle.tez_vertex_view.specs.View.{vertices_view, kill_all, lose_all, held_there, lost_there}
use Rattle.tez_master_model.specs.Vertices.{take_in}
use Rattle.tez_vertex_view.specs.Elsewhere.{IsElsewhere}
use Rattle.tez_vertex_view.proofs.Taking.{takes_one}
use Rattle.tez_vertex_view.proofs.Moving.{killed_takes, lost_takes, winner_stays}
use Rattle.tez_vertex_view.proofs.Pairs.{in-map-out, in-numbers-out, Pairwise, pairwise-flat, pairwise-numbers, filter_map-same}

-- ---- one withdrawal

-- a fact after a withdrawal, from what it is once the winner is gone
pub withdrawn_fact : {A : Type 0} (g : Dag) (past : Past) (w : AttemptId) (fact : Past → A) → ((p : Past) (a : AttemptId) (e : EdgeId) (i : ℕ) (x : AttemptId) → fact (InputFailed a e i x ∷ p) ≡ fact p)
    → ((p : Past) → fact (Queued (next_attempt past w.task) ∷ p) ≡ fact p) → fact (extend past (withdrawal g past w)) ≡ fact (Rerun w ∷ past)
withdrawn_fact g past w fact told queued =
    ap fact (extend-append (Rerun w ∷ past) (notices g past w) (requeue past w.task)) ∙ queued (extend (Rerun w ∷ past) (notices g past w)) ∙ through fact told (Rerun w ∷ past) (notices g past w) (notices_are g past w)

pub withdraw_step : (g : Dag) (c : ConfValues) (past : Past) (w : AttemptId) → IsMade g c past → FewFailures c past → winner w.task past ≡ Some w
    → vertices_view g c (extend past (withdrawal g past w)) ≡ take_in (vertices_view g c past) w.task (task_event.Lose w)
withdraw_step g c past w m few won =
    ap (vertices_view g c) (extend-append (Rerun w ∷ past) (notices g past w) (requeue past w.task))
    ∙ takes_one c past (Queued (next_attempt past w.task) ∷ extend (Rerun w ∷ past) (notices g past w)) w.task (task_event.Lose w) (lost_takes g c past w m few won) g

-- ---- a fetch

pub found_step : (g : Dag) (c : ConfValues) (past : Past) (a : AttemptId) (e : EdgeId) (i : ℕ) (w : AttemptId) → winner_behind g past a e.0 i ≡ Some w → is_on_shelf g c past w ≡ true
    → vertices_view g c (extend past (entries_of g c past (Fetch a e i))) ≡ vertices_view g c past
found_step g c past a e i w behind there =
    ap (λ o. vertices_view g c (extend past (fetch_entries g c past a e.0 i o))) behind
    ∙ ap (λ b. vertices_view g c (extend past (if b then Fetched a (edge e.0) i w ∷ [] else ReadError a (edge e.0) i w ∷ withdrawal g (ReadError a (edge e.0) i w ∷ past) w))) there

abbrev error_entries : Dag → Past → AttemptId → ℕ → ℕ → AttemptId → List Entry
error_entries g past a e i w = ReadError a (edge e) i w ∷ withdrawal g (ReadError a (edge e) i w ∷ past) w

pub missed_step : (g : Dag) (c : ConfValues) (past : Past) (a : AttemptId) (e : EdgeId) (i : ℕ) (w : AttemptId) → IsMade g c past → FewFailures c past → enabled g c past (Fetch a e i) ≡ true → winner_behind g past a e.0 i ≡ Some w → is_on_shelf g c past w ≡ false
    → vertices_view g c (extend past (entries_of g c past (Fetch a e i))) ≡ take_in (vertices_view g c past) w.task (task_event.Lose w)
missed_step g c past a e i w m few h behind gone =
    let same : entries_of g c past (Fetch a e i) ≡ error_entries g past a e.0 i w =
    ap (fetch_entries g c past a e.0 i) behind ∙ ap (λ b. if b then Fetched a (edge e.0) i w ∷ [] else error_entries g past a e.0 i w) gone in
    let f : AllMayFollow g c past (error_entries g past a e.0 i w) = subst (AllMayFollow g c past) same (event_may g c past (Fetch a e i) m h) in
    ap (λ es. vertices_view g c (extend past es)) same ∙ withdraw_step g c (ReadError a (edge e.0) i w ∷ past) w (f.0, m) few f.1.0

-- ---- who held a place of the lost node

unequal : (p q : ℕ) → p ≡ q → p < q → ⊥
unequal p q h l = omega arith

-- another place keeps its holder
holder_kept : (g : Dag) (c : ConfValues) (past : Past) (p q : ℕ) (a : AttemptId) → IsMade g c past → holder p past ≡ Some a → p < q → freed a (holder q past) ≡ holder q past
holder_kept g c past p q a m h l = by (holder q past) refl where
  by : (o : Option AttemptId) → holder q past ≡ o → freed a o ≡ o
  by None e = refl
  by (Some b) e = test (same_attempt a b) refl where
    test : (x : Bool) → same_attempt a b ≡ x → (if x then None else Some b) ≡ Some b
    test false s = refl
    test true s =
        let one : place_in (stage a past) ≡ Some p = held g c past m p a h in
        let two : place_in (stage a past) ≡ Some q = subst (λ y. place_in (stage y past) ≡ Some q) (sym (same_attempt-true a b s)) (held g c past m q b e) in
        let same : p ≡ q = cc in
        absurd (unequal p q same l)

kills_by : (g : Dag) (c : ConfValues) (past : Past) (p : ℕ) (ps : List ℕ) (o : Option AttemptId)
    → ((q : Past) → IsMade g c q → FewFailures c q → vertices_view g c (extend q (each_after kill_at q ps)) ≡ kill_all (vertices_view g c q) (filter_map (λ x. holder x q) ps))
    → ((q : ℕ) → In q ps → p < q) → holder p past ≡ o → IsMade g c past → FewFailures c past
    → vertices_view g c (extend past (killed_by_node past o ++ each_after kill_at (extend past (killed_by_node past o)) ps)) ≡ kill_all (vertices_view g c past) (cons_option o (filter_map (λ x. holder x past) ps))
kills_by g c past p ps None rest above e m few = rest past m few
kills_by g c past p ps (Some a) rest above e m few =
    let placed = in_place (stage a past) p (held g c past m p a e) in
    let mid = extend past (Killed a Node ∷ requeue past a.task) in
    let made = made-extend g c past (Killed a Node ∷ requeue past a.task) m (kill_may g c past a Node m placed) in
    rest mid made few
    ∙ ap (λ vs. kill_all vs (filter_map (λ x. holder x mid) ps)) (takes_one c past mid a.task (task_event.Kill a) (killed_takes g c past a Node m few placed) g)
    ∙ ap (kill_all (take_in (vertices_view g c past) a.task (task_event.Kill a))) (filter_map-same (λ x. holder x mid) (λ x. holder x past) ps (λ q i. holder_kept g c past p q a m e (above q i)))

kills_step : (g : Dag) (c : ConfValues) (n k : ℕ) (past : Past) → IsMade g c past → FewFailures c past
    → vertices_view g c (extend past (each_after kill_at past (numbers_from n k))) ≡ kill_all (vertices_view g c past) (filter_map (λ p. holder p past) (numbers_from n k))
kills_step g c n zero past m few = refl
kills_step g c n (suc k) past m few =
    kills_by g c past n (numbers_from (suc n) k) (holder n past) (λ q made f. kills_step g c (suc n) k q made f) (λ q i. (let b = (in-numbers-out (suc n) k q i).0 in omega (arith, b))) refl m few

-- ---- the winners whose pieces lay there

abbrev Apart : TaskId → TaskId → Type 0
Apart s t = same_task s t ≡ false

abbrev on_node : Dag → ConfValues → ℕ → Past → List AttemptId → List AttemptId
on_node g c slot before ws = filter (is_on_node g c before slot) ws

losses_by : (g : Dag) (c : ConfValues) (slot : ℕ) (before past : Past) (t : TaskId) (ts : List TaskId) (o : Option AttemptId)
    → ((q : Past) → IsMade g c q → FewFailures c q → vertices_view g c (extend q (each_after (withdraw_lost g c slot before) q ts)) ≡ lose_all (vertices_view g c q) (on_node g c slot before (filter_map (λ u. winner u q) ts)))
    → ((u : TaskId) → In u ts → Apart t u) → winner t past ≡ o → IsMade g c past → FewFailures c past
    → vertices_view g c (extend past (withdrawn_if g c slot before past o ++ each_after (withdraw_lost g c slot before) (extend past (withdrawn_if g c slot before past o)) ts))
    ≡ lose_all (vertices_view g c past) (on_node g c slot before (cons_option o (filter_map (λ u. winner u past) ts)))
losses_by g c slot before past t ts None rest other e m few = rest past m few
losses_by g c slot before past t ts (Some w) rest other e m few = by (is_on_node g c before slot w) where
  of : w.task ≡ t
  of = winner_task past t w e

  won : winner w.task past ≡ Some w
  won = subst (λ u. winner u past ≡ Some w) (sym of) e

  mid : Past
  mid = extend past (withdrawal g past w)

  kept : (u : TaskId) → In u ts → winner u (extend past (withdrawal g past w)) ≡ winner u past
  kept u i =
      withdrawn_fact g past w (λ p. winner u p) (λ p a e j x. refl) (λ p. refl)
      ∙ winner_stays past w u (subst (λ s. same_task s u ≡ false) (sym of) (other u i))

  few_later : FewFailures c (extend past (withdrawal g past w))
  few_later u = subst (λ n. n < c.max_failed) (sym (withdrawn_fact g past w (λ p. failures u p) (λ p a e j x. refl) (λ p. refl))) (few u)

  by : (b : Bool) → vertices_view g c (extend past ((if b then withdrawal g past w else []) ++ each_after (withdraw_lost g c slot before) (extend past (if b then withdrawal g past w else [])) ts))
      ≡ lose_all (vertices_view g c past) (if b then w ∷ on_node g c slot before (filter_map (λ u. winner u past) ts) else on_node g c slot before (filter_map (λ u. winner u past) ts))
  by false = rest past m few
  by true =
      ap (vertices_view g c) (extend-append past (withdrawal g past w) (each_after (withdraw_lost g c slot before) (extend past (withdrawal g past w)) ts))
      ∙ rest (extend past (withdrawal g past w)) (made-extend g c past (withdrawal g past w) m (withdrawal_may g c past w m won)) few_later
      ∙ ap (λ vs. lose_all vs (on_node g c slot before (filter_map (λ u. winner u (extend past (withdrawal g past w))) ts))) (withdraw_step g c past w m few won)
      ∙ ap (λ ws. lose_all (take_in (vertices_view g c past) w.task (task_event.Lose w)) (on_node g c slot before ws))
      (filter_map-same (λ u. winner u (extend past (withdrawal g past w))) (λ u. winner u past) ts kept)

losses_step : (g : Dag) (c : ConfValues) (slot : ℕ) (before : Past) (ts : List TaskId) (past : Past) → Pairwise Apart ts → IsMade g c past → FewFailures c past
    → vertices_view g c (extend past (each_after (withdraw_lost g c slot before) past ts)) ≡ lose_all (vertices_view g c past) (on_node g c slot before (filter_map (λ u. winner u past) ts))
losses_step g c slot before [] past p m few = refl
losses_step g c slot before (t ∷ ts) past p m few =
    losses_by g c slot before past t ts (winner t past) (λ q made f. losses_step g c slot before ts q p.1 made f) p.0 refl m few

tasks_apart : (g : Dag) (past : Past) → Pairwise Apart (tasks g past)
tasks_apart g past = pairwise-flat Apart (λ v. tasks_if (config v past) v) (λ v. each v (config v past)) (λ u v s t l m k. cross u v s t l (config u past) (config v past) m k) 0 (length g.vertices) where
  apart_index : (v i j : ℕ) → i < j → same_task (task v i) (task v j) ≡ false
  apart_index v i j l = grind (arith, nat_tests)

  apart_vertex : (s t : TaskId) → s.vertex.0 < t.vertex.0 → same_task s t ≡ false
  apart_vertex s t l = grind (arith, nat_tests)

  each : (v : ℕ) (o : Option Config) → Pairwise Apart (tasks_if o v)
  each v None = tt
  each v (Some s) = pairwise-numbers Apart (task v) (λ i j l. apart_index v i j l) 0 s.tasks

  of_vertex : (v : ℕ) (t : TaskId) (o : Option Config) → In t (tasks_if o v) → t.vertex.0 ≡ v
  of_vertex v t None m = absurd m
  of_vertex v t (Some s) m = let r = in-map-out (task v) t (numbers_below s.tasks) m in ap (λ x. x.vertex.0) r.2

  cross : (u v : ℕ) (s t : TaskId) → u < v → (o p : Option Config) → In s (tasks_if o u) → In t (tasks_if p v) → Apart s t
  cross u v s t l o p m k = let e = of_vertex u s o m in let f = of_vertex v t p k in apart_vertex s t (omega (arith, l, e, f))

-- ---- a lost node

kill_winner : (past : Past) (t : TaskId) (o : Option AttemptId) → winner t (extend past (killed_by_node past o)) ≡ winner t past
kill_winner past t None = refl
kill_winner past t (Some a) = refl

kills_winner : (past : Past) (t : TaskId) (ps : List ℕ) → winner t (extend past (each_after kill_at past ps)) ≡ winner t past
kills_winner past t [] = refl
kills_winner past t (p ∷ ps) =
    ap (winner t) (extend-append past (kill_at past p) (each_after kill_at (extend past (kill_at past p)) ps))
    ∙ kills_winner (extend past (kill_at past p)) t ps ∙ kill_winner past t (holder p past)

kill_failures : (past : Past) (t : TaskId) (o : Option AttemptId) → failures t (extend past (killed_by_node past o)) ≡ failures t past
kill_failures past t None = refl
kill_failures past t (Some a) = refl

kills_failures : (past : Past) (t : TaskId) (ps : List ℕ) → failures t (extend past (each_after kill_at past ps)) ≡ failures t past
kills_failures past t [] = refl
kills_failures past t (p ∷ ps) =
    ap (failures t) (extend-append past (kill_at past p) (each_after kill_at (extend past (kill_at past p)) ps))
    ∙ kills_failures (extend past (kill_at past p)) t ps ∙ kill_failures past t (holder p past)

kills_may : (g : Dag) (c : ConfValues) (past : Past) (ps : List ℕ) → IsMade g c past → IsMade g c (extend past (each_after kill_at past ps))
kills_may g c past [] m = m
kills_may g c past (p ∷ ps) m =
    subst (IsMade g c) (sym (extend-append past (kill_at past p) (each_after kill_at (extend past (kill_at past p)) ps))) (kills_may g c (extend past (kill_at past p)) ps (one (holder p past) refl))
  where
    one : (o : Option AttemptId) → holder p past ≡ o → IsMade g c (extend past (killed_by_node past o))
    one None e = m
    one (Some a) e = made-extend g c past (Killed a Node ∷ requeue past a.task) m (kill_may g c past a Node m (in_place (stage a past) p (held g c past m p a e)))

pub loss_step : (g : Dag) (c : ConfValues) (past : Past) (slot : ℕ) → IsMade g c past → FewFailures c past → slot < c.nodes → IsOpen past
    → vertices_view g c (extend past (node_loss_entries g c past slot)) ≡ lose_all (kill_all (vertices_view g c past) (held_there c past slot)) (lost_there g c past slot)
loss_step g c past slot m few there o =
    let lost : Past = NodeLost slot (suc (life slot past)) ∷ past in
    let kills = node_kills c lost slot in
    let mid = extend lost kills in
    let made : IsMade g c lost = ((there, refl, o), m) in
    ap (vertices_view g c) (extend-append lost kills (node_withdrawals g c slot past mid))
    ∙ losses_step g c slot past (tasks g past) mid (tasks_apart g past) (kills_may g c lost (places_on c slot) made) (λ t. subst (λ n. n < c.max_failed) (sym (kills_failures lost t (places_on c slot))) (few t))
    ∙ ap (λ vs. lose_all vs (on_node g c slot past (filter_map (λ t. winner t mid) (tasks g past)))) (kills_step g c (slot * c.per_node) c.per_node lost made few)
    ∙ ap (λ ws. lose_all (kill_all (vertices_view g c past) (held_there c past slot)) (on_node g c slot past ws)) (filter_map-same (λ t. winner t mid) (λ t. winner t past) (tasks g past) (λ t _. kills_winner lost t (places_on c slot)))

below : (a b : ℕ) → nat_lt a b ≡ true → a < b
below a b h = grind (arith, nat_tests)

pub lost_step : (g : Dag) (c : ConfValues) (past : Past) (slot : ℕ) → IsMade g c past → FewFailures c past → enabled g c past (LoseNode slot) ≡ true → is_committing past ≡ false
    → vertices_view g c (extend past (entries_of g c past (LoseNode slot))) ≡ lose_all (kill_all (vertices_view g c past) (held_there c past slot)) (lost_there g c past slot)
lost_step g c past slot m few h before =
    ap (λ b. vertices_view g c (extend past (if b then NodeLost slot (suc (life slot past)) ∷ [] else node_loss_entries g c past slot))) before ∙ loss_step g c past slot m few (below slot c.nodes (both h).1) (up_open past (both h).0)

pub commit_step : (g : Dag) (c : ConfValues) (past : Past) (slot : ℕ) → is_committing past ≡ true → vertices_view g c (extend past (entries_of g c past (LoseNode slot))) ≡ vertices_view g c past
commit_step g c past slot is = ap (λ b. vertices_view g c (extend past (if b then NodeLost slot (suc (life slot past)) ∷ [] else node_loss_entries g c past slot))) is

-- ---- the other events

output_step : (g : Dag) (c : ConfValues) (past : Past) (o : Option AttemptId) → vertices_view g c (extend past (output_lost_entries o)) ≡ vertices_view g c past
output_step g c past None = refl
output_step g c past (Some w) = refl

pub other_step : (g : Dag) (c : ConfValues) (past : Past) (e : CoreEvent) → IsElsewhere e → vertices_view g c (extend past (entries_of g c past e)) ≡ vertices_view g c past
other_step g c past Open h = refl
other_step g c past (Configure v) h = absurd h
other_step g c past (Queue t) h = absurd h
other_step g c past (Place a p) h = absurd h
other_step g c past (Fetch a e i) h = absurd h
other_step g c past (Send a) h = absurd h
other_step g c past (Preempt a) h = absurd h
other_step g c past (Fail a) h = absurd h
other_step g c past (LoseNode slot) h = absurd h
other_step g c past (LoseOutput t) h = output_step g c past (winner t past)
other_step g c past Restart h = absurd h
other_step g c past (Ready v) h = refl
other_step g c past CommitStart h = refl
other_step g c past (Ask v) h = refl
other_step g c past (Publish v) h = refl
other_step g c past Finish h = refl
other_step g c past Purge h = refl

-- ---- what the store answers of a sink

pub answer_step : (g : Dag) (c : ConfValues) (past : Past) (v : VertexId) (there : Bool) → vertices_view g c (answered past v there) ≡ vertices_view g c past
answer_step g c past v true = refl
answer_step g c past v false = refl
