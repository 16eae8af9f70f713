-- What each event makes of the view, and what a new master leaves of it.
use Rattle.std.specs.Prelude.{◌≡◌, ℕ, suc, max, ◌<◌, nat_lt, nat_le, ⊤, Bool, true, false, IsTrue, ◌&&◌, if◌then◌else◌, List, [], ◌∷◌, ◌++◌, map, Option, Some, None, is_none, refl}
use Rattle.std.proofs.Common.{ap, sym, ◌∙◌, arith}
use Rattle.std.proofs.lemmas.Bool.Decides.{nat_tests}
use Rattle.tez_ids.specs.declared.TaskId.{TaskId}
use Rattle.tez_ids.specs.declared.AttemptId.{AttemptId}
use Rattle.tez_ids.specs.declared.VertexId.{VertexId}
use Rattle.tez_plan.specs.Dag.{Dag, edge, vertex}
use Rattle.tez_conf.specs.declared.values.ConfValues.{ConfValues}
use Rattle.tez_vman.specs.declared.seen.Config.{Config}
use Rattle.tez_events.specs.declared.KillCause.TheVariants.{Preempt as Preempted}
use Rattle.tez_events.specs.declared.Entry.{Entry}
use Rattle.tez_events.specs.declared.Entry.TheVariants.{Stands, Carried, Kept, Committing, Succeeded, Made, Failed, Killed, NodeLost}
use Rattle.tez_events.specs.declared.CoreEvent.{CoreEvent}
use Rattle.tez_events.specs.declared.CoreEvent.TheVariants.{Open, Configure, Queue, Place, Fetch, Send, Preempt, Fail, LoseNode, LoseOutput, Restart, Ready, CommitStart, Ask, Publish, Finish, Purge}
use Rattle.tez_history.specs.Shape.{is_vertex}
use Rattle.tez_history.specs.History.{Past, epoch, extend, stage, holder, container_of, winner, failures, config, is_committing, recorded, life, live, Stage, Unknown, InQueue, Waits, Runs, Ended}
use Rattle.tez_history.specs.Derived.{is_processing, is_task, all_done}
use Rattle.tez_history.specs.Steps.{enabled, entries_of, requeue, each_after, node_kills, node_withdrawals, node_loss_entries, winner_behind, done_entries}
use Rattle.tez_history.specs.Rules.{is_at_start}
use Rattle.tez_history.specs.Follows.{IsMade, IsOpen, IsPlaced, AllMayFollow}
use Rattle.tez_history.specs.Runs.{Standing, Run, Found, Unfinished, AllDone, Committed, Begun, stands_if, kept_if, carried_entries, standing_entries, committing_if, committed_entries, opened_at, opened_unless, committed_unless, opened_by, spent_in}
use Rattle.tez_laws.specs.Laws.{answered}
use Rattle.tez_laws.proofs.OneLive.{waits_placed}
use Rattle.tez_laws.proofs.StepLaw.{both, event_may, done_may, made-extend, loss_may, up_open}
use Rattle.tez_laws.proofs.Going.{extend-append}
use Rattle.tez_pool.specs.Table.{after_place, after_sent, after_release, after_loss}
use Rattle.tez_pool_view.specs.Elsewhere.{IsElsewhere}
use Rattle.tez_pool_view.specs.View.{pool_view, IsWholeAtCommit}
use Rattle.tez_pool_view.proofs.Committing.{none_holds}
use Rattle.tez_pool_view.proofs.Holding.{view_placed, view_sent, view_done, view_failed, view_preempted}
use Rattle.tez_pool_view.proofs.Losing.{view_killed, view_idle, lost_at}
use Rattle.tez_pool_view.proofs.Leaving.{AllLeave, leave_all, leave_opened, leave_over, leave_fetch, leave_output, leave_made, leave_withdrawals}

lt-from-ltb : (a b : ℕ) → nat_lt a b ≡ true → a < b
lt-from-ltb a b h = grind (arith, nat_tests)

pub runs_placed : (s : Stage) → is_processing s ≡ true → IsPlaced s
runs_placed (Runs p) h = tt
runs_placed InQueue h = cc
runs_placed (Waits p) h = cc
runs_placed Unknown h = cc
runs_placed Ended h = cc

pub placed_step : (g : Dag) (c : ConfValues) (past : Past) (a : AttemptId) (p : ℕ) → IsMade g c past → enabled g c past (Place a p) ≡ true
    → after_place (pool_view c past) a p ≡ pool_view c (extend past (entries_of g c past (Place a p)))
placed_step g c past a p m h = let f = event_may g c past (Place a p) m h in view_placed g c past a (record { 0 = container_of c p past }) p m f.0

pub sent_step : (g : Dag) (c : ConfValues) (past : Past) (a : AttemptId) → enabled g c past (Send a) ≡ true → after_sent (pool_view c past) a ≡ pool_view c (extend past (entries_of g c past (Send a)))
sent_step g c past a h = let k = both (both h).1 in view_sent c past a k.0

-- an attempt ends and leaves its place, and then may come what concerns no place
ended_step : (g : Dag) (c : ConfValues) (past : Past) (e : Entry) (es : List Entry) (s : _) → IsMade g c past → AllMayFollow g c past (e ∷ es) → AllLeave es
    → s ≡ pool_view c (e ∷ past) → s ≡ pool_view c (extend past (e ∷ es))
ended_step g c past e es s m f l h = h ∙ sym (leave_all g c (e ∷ past) es (f.0, m) f.1 l)

pub preempted_step : (g : Dag) (c : ConfValues) (past : Past) (a : AttemptId) → IsMade g c past → enabled g c past (Preempt a) ≡ true
    → after_release (pool_view c past) a ≡ pool_view c (extend past (entries_of g c past (Preempt a)))
preempted_step g c past a m h =
    let k = both (both h).1 in
    ended_step g c past (Killed a Preempted) (requeue past a.task) (after_release (pool_view c past) a) m (event_may g c past (Preempt a) m h) (tt, tt)
    (view_preempted g c past a m (waits_placed (stage a past) k.0))

pub failed_step : (g : Dag) (c : ConfValues) (past : Past) (a : AttemptId) → IsMade g c past → enabled g c past (Fail a) ≡ true
    → after_release (pool_view c past) a ≡ pool_view c (extend past (entries_of g c past (Fail a)))
failed_step g c past a m h =
    ended_step g c past (Failed a) (if nat_le c.max_failed (suc (failures a.task past)) then [] else requeue past a.task) (after_release (pool_view c past) a) m (event_may g c past (Fail a) m h)
    (by (nat_le c.max_failed (suc (failures a.task past)))) (view_failed g c past a m (runs_placed (stage a past) (both h).1))
  where
    by : (b : Bool) → AllLeave (if b then [] else requeue past a.task)
    by true = tt
    by false = (tt, tt)

pub done_step : (g : Dag) (c : ConfValues) (past : Past) (a : AttemptId) (made : List (ℕ × ℕ)) → IsMade g c past → IsTrue (is_processing (stage a past))
    → after_release (pool_view c past) a ≡ pool_view c (extend past (done_entries a made))
done_step g c past a made m h =
    ended_step g c past (Succeeded a) (map (λ x. Made a (edge x.0) x.1) made) (after_release (pool_view c past) a) m (done_may g c past a made h) (leave_made a made)
    (view_done g c past a m (runs_placed (stage a past) h))

-- ---- a lost node

may-split : (g : Dag) (c : ConfValues) (past : Past) (xs ys : List Entry) → AllMayFollow g c past (xs ++ ys) → AllMayFollow g c past xs × AllMayFollow g c (extend past xs) ys
may-split g c past [] ys h = (tt, h)
may-split g c past (x ∷ xs) ys h = let r = may-split g c (x ∷ past) xs ys h.1 in ((h.0, r.0), r.1)

whole_loss : (g : Dag) (c : ConfValues) (past : Past) (slot : ℕ) → IsMade g c past → slot < c.nodes → IsOpen past → after_loss (pool_view c past) slot ≡ pool_view c (extend past (node_loss_entries g c past slot))
whole_loss g c past slot m there o =
    let lost = lost_at past slot in
    let kills = node_kills c lost slot in
    let rest = node_withdrawals g c slot past (extend lost kills) in
    let f = loss_may g c past slot false m there o in
    let r = may-split g c lost kills rest f.1 in
    view_killed g c past slot there o m
    ∙ sym (leave_all g c (extend lost kills) rest (made-extend g c lost kills (f.0, m) r.0) r.1 (leave_withdrawals g c slot past (extend lost kills)))
    ∙ ap (pool_view c) (sym (extend-append lost kills rest))

pub lost_step : (g : Dag) (c : ConfValues) (past : Past) (slot : ℕ) → IsMade g c past → IsWholeAtCommit g past → enabled g c past (LoseNode slot) ≡ true
    → after_loss (pool_view c past) slot ≡ pool_view c (extend past (entries_of g c past (LoseNode slot)))
lost_step g c past slot m w h = by (is_committing past) refl where
  by : (b : Bool) → is_committing past ≡ b → after_loss (pool_view c past) slot ≡ pool_view c (extend past (if b then NodeLost slot (suc (life slot past)) ∷ [] else node_loss_entries g c past slot))
  by true e = view_idle c past slot (none_holds g c past m (w.committing (both h).0 e))
  by false e = whole_loss g c past slot m (lt-from-ltb slot c.nodes (both h).1) (up_open past (both h).0)

-- ---- the other events

leave_event : (g : Dag) (c : ConfValues) (past : Past) (e : CoreEvent) → IsElsewhere e → AllLeave (entries_of g c past e)
leave_event g c past Open h = tt
leave_event g c past (Configure v) h = (tt, tt)
leave_event g c past (Queue t) h = (tt, tt)
leave_event g c past (Place a p) h = absurd h
leave_event g c past (Fetch a e i) h = leave_fetch g c past a e.0 i (winner_behind g past a e.0 i)
leave_event g c past (Send a) h = absurd h
leave_event g c past (Preempt a) h = absurd h
leave_event g c past (Fail a) h = absurd h
leave_event g c past (LoseNode slot) h = absurd h
leave_event g c past (LoseOutput t) h = leave_output (winner t past)
leave_event g c past Restart h = absurd h
leave_event g c past (Ready v) h = (tt, tt)
leave_event g c past CommitStart h = (tt, tt)
leave_event g c past (Ask v) h = tt
leave_event g c past (Publish v) h = (tt, tt)
leave_event g c past Finish h = (tt, tt)
leave_event g c past Purge h = (tt, tt)

pub other_step : (g : Dag) (c : ConfValues) (past : Past) (e : CoreEvent) → IsElsewhere e → IsMade g c past → enabled g c past e ≡ true → pool_view c (extend past (entries_of g c past e)) ≡ pool_view c past
other_step g c past e l m h = leave_all g c past (entries_of g c past e) m (event_may g c past e m h) (leave_event g c past e l)

pub answer_step : (c : ConfValues) (past : Past) (v : VertexId) (there : Bool) → pool_view c (answered past v there) ≡ pool_view c past
answer_step c past v true = refl
answer_step c past v false = refl

-- ---- a new master

-- what a new master finds in the journal
abbrev AllFound : List Entry → Type 0
AllFound [] = ⊤
AllFound (Stands _ _ _ ∷ es) = AllFound es
AllFound (Carried _ _ ∷ es) = AllFound es
AllFound (Kept _ ∷ es) = AllFound es
AllFound (Committing _ ∷ es) = AllFound es
AllFound (_ ∷ es) = ⊥

found-append : (xs ys : List Entry) → AllFound xs → AllFound ys → AllFound (xs ++ ys)
found-append [] ys h k = k
found-append (Stands _ _ _ ∷ xs) ys h k = found-append xs ys h k
found-append (Carried _ _ ∷ xs) ys h k = found-append xs ys h k
found-append (Kept _ ∷ xs) ys h k = found-append xs ys h k
found-append (Committing _ ∷ xs) ys h k = found-append xs ys h k
found-append (_ ∷ xs) ys h k = absurd h

found-each : {X : Type 0} (part : Past → X → List Entry) → ((past : Past) (x : X) → AllFound (part past x)) → (past : Past) (xs : List X) → AllFound (each_after part past xs)
found-each part h past [] = tt
found-each part h past (x ∷ xs) = found-append (part past x) (each_after part (extend past (part past x)) xs) (h past x) (found-each part h (extend past (part past x)) xs)

found_stands : (g : Dag) (past : Past) (x : ℕ × Config) → AllFound (stands_if g past x)
found_stands g past x = by (is_none (config x.0 past) && is_vertex g x.0) where
  by : (b : Bool) → AllFound (if b then Stands (vertex x.0) x.1.tasks x.1.base ∷ [] else [])
  by true = tt
  by false = tt

found_kept : (g : Dag) (past : Past) (a : AttemptId) → AllFound (kept_if g past a)
found_kept g past a = by (is_task g past a.task) where
  by : (b : Bool) → AllFound (if b then Kept a ∷ [] else [])
  by true = tt
  by false = tt

found_carried : (xs : List (TaskId × ℕ)) → AllFound (carried_entries xs)
found_carried [] = tt
found_carried (x ∷ xs) = found_carried xs

found_all : (g : Dag) (past : Past) (s : Standing) → AllFound (standing_entries g past s)
found_all g past s =
    let stands = each_after (stands_if g) past s.configured in
    let carried = carried_entries s.failed in
    found-append stands (carried ++ each_after (kept_if g) (extend (extend past stands) carried) s.kept) (found-each (stands_if g) (found_stands g) past s.configured)
    (found-append carried (each_after (kept_if g) (extend (extend past stands) carried) s.kept) (found_carried s.failed) (found-each (kept_if g) (found_kept g) (extend (extend past stands) carried) s.kept))

found_committing : (g : Dag) (past : Past) (n : ℕ) → AllFound (committing_if g past n)
found_committing g past n = by (all_done g past && nat_le (recorded past) n) where
  by : (b : Bool) → AllFound (if b then Committing n ∷ [] else [])
  by true = tt
  by false = tt

found_committed : (g : Dag) (past : Past) (s : Standing) (n : ℕ) → AllFound (committed_entries g past s n)
found_committed g past s n =
    let stands = standing_entries g past s in
    found-append stands (committing_if g (extend past stands) n) (found_all g past s) (found_committing g (extend past stands) n)

leave_found : (c : ConfValues) (past : Past) (es : List Entry) → AllFound es → pool_view c (extend past es) ≡ pool_view c past
leave_found c past [] h = refl
leave_found c past (Stands v t b ∷ es) h = leave_found c (Stands v t b ∷ past) es h
leave_found c past (Carried t n ∷ es) h = leave_found c (Carried t n ∷ past) es h
leave_found c past (Kept a ∷ es) h = leave_found c (Kept a ∷ past) es h
leave_found c past (Committing n ∷ es) h = leave_found c (Committing n ∷ past) es h
leave_found c past (_ ∷ es) h = absurd h

pub opened_step : (g : Dag) (c : ConfValues) (r : Run) (found : Found) → IsTrue (is_at_start r.past) → pool_view c (opened_by g c r found).past ≡ pool_view c r.past
opened_step g c r Begun at = refl
opened_step g c r AllDone at = leave_over c r.past at
opened_step g c r (Unfinished s) at = by (spent_in c s) where
  by : (o : Option (TaskId × ℕ)) → pool_view c (opened_unless g r s o).past ≡ pool_view c r.past
  by (Some x) = refl
  by None = leave_found c (opened_at s r.past) (standing_entries g (opened_at s r.past) s) (found_all g (opened_at s r.past) s) ∙ leave_opened c r.past (record { 0 = suc (max s.epoch (epoch r.past)) }) at
opened_step g c r (Committed s n) at = by (spent_in c s) where
  by : (o : Option (TaskId × ℕ)) → pool_view c (committed_unless g r s n o).past ≡ pool_view c r.past
  by (Some x) = refl
  by None =
      leave_found c (opened_at s r.past) (committed_entries g (opened_at s r.past) s n) (found_committed g (opened_at s r.past) s n)
      ∙ leave_opened c r.past (record { 0 = suc (max s.epoch (epoch r.past)) }) at
