-- From the commit on every task has a winner, and so nobody holds a place.
use Rattle.std.specs.Prelude.{◌≡◌, ◌≢◌, ◌⊎◌, ℕ, zero, suc, ◌+◌, ◌<◌, ◌≤◌, nat_lt, nat_le, ⊤, Bool, true, false, IsTrue, not, ◌&&◌, ◌==◌, if◌then◌else◌, List, [], ◌∷◌, ◌++◌, map, length, Option, Some, None, is_some, is_none, refl}
use Rattle.std.specs.List.{list_all, filter_map, cons_option}
use Rattle.std.proofs.Common.{ap, sym, ◌∙◌, subst, arith, inl, inr}
use Rattle.std.proofs.lemmas.List.{append-nil}
use Rattle.std.proofs.lemmas.Bool.{eqb-true}
use Rattle.std.proofs.lemmas.Bool.Decides.{nat_tests}
use Rattle.tez_ids.specs.declared.TaskId.{TaskId}
use Rattle.tez_ids.specs.declared.AttemptId.{AttemptId}
use Rattle.tez_ids.specs.declared.VertexId.{VertexId}
use Rattle.tez_ids.specs.Same.{task}
use Rattle.tez_lists.specs.Numbers.{numbers_from}
use Rattle.tez_plan.specs.Dag.{Dag, edge, vertex}
use Rattle.tez_plan.specs.Faults.{IsValid}
use Rattle.tez_conf.specs.declared.values.ConfValues.{ConfValues}
use Rattle.tez_vman.specs.declared.seen.Config.{Config}
use Rattle.tez_events.specs.declared.StopCause.{StopCause}
use Rattle.tez_events.specs.declared.Entry.{Entry}
use Rattle.tez_events.specs.declared.Entry.TheVariants.{Opened, Over, Stands, Carried, Kept, Configured, Fetched, ReadError, InputFailed, Succeeded, Made, Failed, NodeLost, Rerun, Stopped, Committing, Ready as Readied, CommitStarted, Finished, Purged, OutputLost}
use Rattle.tez_events.specs.declared.CoreEvent.{CoreEvent}
use Rattle.tez_events.specs.declared.CoreEvent.TheVariants.{Open, Configure, Queue, Place, Fetch, Send, Preempt, Fail, LoseNode, LoseOutput, Restart, Ready, CommitStart, Ask, Publish, Finish, Purge}
use Rattle.tez_history.specs.Shape.{numbers_below, sinks, is_vertex}
use Rattle.tez_history.specs.History.{Past, extend, stage, live, winner, holder, life, failures, config, is_up, is_committing, is_finished, is_readied, recorded}
use Rattle.tez_history.specs.Derived.{tasks, notices, is_task, is_processing, is_configured, is_vertex_done, all_done, task_count, winners_of, places_on, is_on_node, is_on_shelf}
use Rattle.tez_history.specs.Steps.{enabled, is_running, entries_of, each_after, requeue, withdrawal, killed_by_node, kill_at, withdrawn_if, withdraw_lost, node_kills, node_withdrawals, node_loss_entries, fetch_entries, winner_behind, output_lost_entries, done_entries, asked_entries}
use Rattle.tez_history.specs.Rules.{is_at_start}
use Rattle.tez_history.specs.Follows.{IsMade, IsAlive}
use Rattle.tez_history.specs.Runs.{Standing, Run, Found, Unfinished, AllDone, Committed, Begun, Happening, Event, Report, Answer, Stop, Start, Verdict, stands_if, kept_if, carried_entries, standing_entries, committing_if, opened_at, opened_unless, committed_unless, opened_by, going_on, spent_in, stopped, took, happens_to, happens, run, not_begun}
use Rattle.tez_laws.specs.Laws.{answered, taken_up}
use Rattle.tez_laws.proofs.OneLive.{one_live, placed_alive, waiting_alive, running_alive}
use Rattle.tez_laws.proofs.Tasks.{no_both}
use Rattle.tez_laws.proofs.Ranges.{live_scheduled, scheduled_is_task, configured_is_vertex}
use Rattle.tez_laws.proofs.Places.{held, in_place}
use Rattle.tez_laws.proofs.StepLaw.{both, AllNotices, notices_are}
use Rattle.tez_laws.proofs.Going.{extend-append}
use Rattle.tez_laws.proofs.RunLaw.{run_sound}
use Rattle.tez_pool_view.specs.View.{IsWholeAtCommit}
use Rattle.tez_pool_view.proofs.Sinks.{some_or_none}
use Rattle.tez_events.specs.declared.StopCause.TheVariants.{Script}

-- ---- where every task has a winner, none has a live attempt

at_number : (p : ℕ → Bool) (a n v : ℕ) → list_all p (numbers_from a n) ≡ true → a ≤ v → v < a + n → p v ≡ true
at_number p a zero v h l b = absurd (omega arith)
at_number p a (suc n) v h l b = by (λ u w. at_number p (suc a) n v (both {x = p a} h).1 u w) (a == v) refl where
  by : (suc a ≤ v → v < suc a + n → p v ≡ true) → (x : Bool) → (a == v) ≡ x → p v ≡ true
  by rest true e = subst (λ u. p u ≡ true) (eqb-true a v e) (both {x = p a} h).0
  by rest false e = rest (grind (arith, nat_tests)) (omega arith)

one_more : {Y : Type 0} (o : Option Y) (ys : List Y) (n : ℕ) → length ys ≤ n → length (cons_option o ys) ≤ suc n
one_more None ys n h = omega arith
one_more (Some y) ys n h = omega arith

short : {Y : Type 0} (f : ℕ → Option Y) (a n : ℕ) → length (filter_map f (numbers_from a n)) ≤ n
short f a zero = omega arith
short f a (suc n) = one_more (f a) (filter_map f (numbers_from (suc a) n)) n (short f (suc a) n)

all_some : {Y : Type 0} (f : ℕ → Option Y) (a n i : ℕ) → length (filter_map f (numbers_from a n)) ≡ n → a ≤ i → i < a + n → is_some (f i) ≡ true
all_some f a zero i h l b = absurd (omega arith)
all_some {Y} f a (suc n) i h l b = by (λ e u w. all_some f (suc a) n i e u w) (short f (suc a) n) (f a) refl h where
  by : (length (filter_map f (numbers_from (suc a) n)) ≡ n → suc a ≤ i → i < suc a + n → is_some (f i) ≡ true) → length (filter_map f (numbers_from (suc a) n)) ≤ n
      → (o : Option Y) → f a ≡ o → length (cons_option o (filter_map f (numbers_from (suc a) n))) ≡ suc n → is_some (f i) ≡ true
  by rest few None e k = absurd (omega arith)
  by rest few (Some y) e k = at (a == i) refl where
    at : (x : Bool) → (a == i) ≡ x → is_some (f i) ≡ true
    at true s = ap is_some (ap f (sym (eqb-true a i s)) ∙ e)
    at false s = rest (omega arith) (grind (arith, nat_tests)) (omega arith)

below : (a b : ℕ) → nat_lt a b ≡ true → a < b
below a b h = grind (arith, nat_tests)

is_some_none : (o : Option AttemptId) → is_some o ≡ true → o ≡ None → ⊥
is_some_none o h e = cc

none_lives : (g : Dag) (c : ConfValues) (past : Past) (t : TaskId) (a : AttemptId) → IsMade g c past → all_done g past ≡ true → live t past ≡ Some a → ⊥
none_lives g c past t a m done lives =
    let there = both {x = is_configured t.vertex.0 past} (scheduled_is_task g c past m t (live_scheduled g c past m t a lives)) in
    let known = below t.vertex.0 (length g.vertices) (configured_is_vertex g c past m t.vertex.0 there.0) in
    let whole = both {x = is_configured t.vertex.0 past} (at_number (λ v. is_vertex_done g v past) 0 (length g.vertices) t.vertex.0 done (omega arith) (omega (arith, known))) in
    let all = eqb-true (length (winners_of t.vertex.0 (task_count g t.vertex.0 past) past)) (task_count g t.vertex.0 past) whole.1 in
    let inside = below t.index (task_count g t.vertex.0 past) there.1 in
    is_some_none (winner t past) (all_some (λ i. winner (task t.vertex.0 i) past) 0 (task_count g t.vertex.0 past) t.index all (omega arith) (omega (arith, inside))) (no_both g c past m t a lives)

none_alive : (g : Dag) (c : ConfValues) (past : Past) (a : AttemptId) → IsMade g c past → IsAlive (stage a past) → all_done g past ≡ true → ⊥
none_alive g c past a m alive done = none_lives g c past a.task a m done (one_live g c past m a alive)

pub none_holds : (g : Dag) (c : ConfValues) (past : Past) → IsMade g c past → all_done g past ≡ true → (p : ℕ) → holder p past ≡ None
none_holds g c past m done p = by (holder p past) refl where
  by : (o : Option AttemptId) → holder p past ≡ o → holder p past ≡ None
  by None e = e
  by (Some a) e = absurd (none_alive g c past a m (placed_alive (stage a past) (in_place (stage a past) p (held g c past m p a e))) done)

-- ---- entries that neither start nor stop a master, and belong to no commit

abbrev Calm : Entry → Type 0
Calm (Opened _) = ⊥
Calm Over = ⊥
Calm (Stopped _) = ⊥
Calm (Committing _) = ⊥
Calm (Readied _) = ⊥
Calm CommitStarted = ⊥
Calm Finished = ⊥
Calm Purged = ⊥
Calm _ = ⊤

abbrev AllCalm : List Entry → Type 0
AllCalm [] = ⊤
AllCalm (e ∷ es) = Calm e × AllCalm es

record IsCalm (past later : Past) : Type 0 where
  up : is_up later ≡ is_up past
  committing : is_committing later ≡ is_committing past
  running : is_running later ≡ is_running past
  readied : (v : ℕ) → is_readied v later ≡ true → is_readied v past ≡ true

calm_one : (past : Past) (e : Entry) → Calm e → IsCalm past (e ∷ past)
calm_one past (Opened _) h = absurd h
calm_one past Over h = absurd h
calm_one past (Stopped _) h = absurd h
calm_one past (Committing _) h = absurd h
calm_one past (Readied _) h = absurd h
calm_one past CommitStarted h = absurd h
calm_one past Finished h = absurd h
calm_one past Purged h = absurd h
calm_one past (Rerun w) h = record { up = refl; committing = refl; running = refl; readied = λ v k. cc }
calm_one past _ h = record { up = refl; committing = refl; running = refl; readied = λ v k. k }

calm_all : (past : Past) (es : List Entry) → AllCalm es → IsCalm past (extend past es)
calm_all past [] h = record { up = refl; committing = refl; running = refl; readied = λ v k. k }
calm_all past (e ∷ es) h =
    let one = calm_one past e h.0 in
    let rest = calm_all (e ∷ past) es h.1 in
    record { up = rest.up ∙ one.up; committing = rest.committing ∙ one.committing; running = rest.running ∙ one.running; readied = λ v k. one.readied v (rest.readied v k) }

calm-append : (xs ys : List Entry) → AllCalm xs → AllCalm ys → AllCalm (xs ++ ys)
calm-append [] ys h k = k
calm-append (x ∷ xs) ys h k = (h.0, calm-append xs ys h.1 k)

calm_notices : (es : List Entry) → AllNotices es → AllCalm es
calm_notices [] h = tt
calm_notices (InputFailed _ _ _ _ ∷ es) h = (tt, calm_notices es h)
calm_notices (_ ∷ es) h = absurd h

calm_made : (a : AttemptId) (made : List (ℕ × ℕ)) → AllCalm (map (λ m. Made a (edge m.0) m.1) made)
calm_made a [] = tt
calm_made a (x ∷ xs) = (tt, calm_made a xs)

-- what cannot come once every task has a winner
never : (g : Dag) (past : Past) (es : List Entry) → AllCalm es → IsWholeAtCommit g past → (all_done g past ≡ true → ⊥) → IsWholeAtCommit g (extend past es)
never g past es calm w cannot =
    let k = calm_all past es calm in
    record {
      committing = λ u d. absurd (cannot (w.committing (sym k.up ∙ u) (sym k.committing ∙ d)));
      readied = λ v r d. absurd (cannot (w.readied v (sym k.running ∙ r) (k.readied v d)));
    }

-- ---- entries that leave the winners and the configurations too

abbrev Keeps : Entry → Type 0
Keeps (Opened _) = ⊥
Keeps Over = ⊥
Keeps (Stopped _) = ⊥
Keeps (Committing _) = ⊥
Keeps (Readied _) = ⊥
Keeps CommitStarted = ⊥
Keeps Finished = ⊥
Keeps Purged = ⊥
Keeps (Stands _ _ _) = ⊥
Keeps (Configured _ _ _) = ⊥
Keeps (Kept _) = ⊥
Keeps (Succeeded _) = ⊥
Keeps (Rerun _) = ⊥
Keeps _ = ⊤

abbrev AllKeep : List Entry → Type 0
AllKeep [] = ⊤
AllKeep (e ∷ es) = Keeps e × AllKeep es

keep_one : (g : Dag) (past : Past) (e : Entry) → Keeps e → IsWholeAtCommit g past → IsWholeAtCommit g (e ∷ past)
keep_one g past (Opened _) h w = absurd h
keep_one g past Over h w = absurd h
keep_one g past (Stopped _) h w = absurd h
keep_one g past (Committing _) h w = absurd h
keep_one g past (Readied _) h w = absurd h
keep_one g past CommitStarted h w = absurd h
keep_one g past Finished h w = absurd h
keep_one g past Purged h w = absurd h
keep_one g past (Stands _ _ _) h w = absurd h
keep_one g past (Configured _ _ _) h w = absurd h
keep_one g past (Kept _) h w = absurd h
keep_one g past (Succeeded _) h w = absurd h
keep_one g past (Rerun _) h w = absurd h
keep_one g past _ h w = record { committing = w.committing; readied = w.readied }

keep_all : (g : Dag) (past : Past) (es : List Entry) → AllKeep es → IsWholeAtCommit g past → IsWholeAtCommit g (extend past es)
keep_all g past [] h w = w
keep_all g past (e ∷ es) h w = keep_all g (e ∷ past) es h.1 (keep_one g past e h.0 w)

-- ---- a lost node

-- before the commit, over the parts of one step
abbrev Before : Dag → Past → Type 0
Before g past = IsWholeAtCommit g past × (is_committing past ≡ false)

before-each : {X : Type 0} (g : Dag) (part : Past → X → List Entry) → ((past : Past) (x : X) → Before g past → Before g (extend past (part past x))) → (past : Past) (xs : List X) → Before g past → Before g (extend past (each_after part past xs))
before-each g part h past [] b = b
before-each g part h past (x ∷ xs) b =
    subst (Before g) (sym (extend-append past (part past x) (each_after part (extend past (part past x)) xs))) (before-each g part h (extend past (part past x)) xs (h past x b))

before_kill : (g : Dag) (past : Past) (o : Option AttemptId) → Before g past → Before g (extend past (killed_by_node past o))
before_kill g past None b = b
before_kill g past (Some a) b = (keep_all g past (killed_by_node past (Some a)) (tt, (tt, tt)) b.0, b.1)

calm_withdrawal : (g : Dag) (past : Past) (w : AttemptId) → AllCalm (withdrawal g past w)
calm_withdrawal g past w = (tt, calm-append (notices g past w) (requeue past w.task) (calm_notices (notices g past w) (notices_are g past w)) (tt, tt))

false_true : (b : Bool) → b ≡ false → b ≡ true → ⊥
false_true b h k = cc

before_withdrawal : (g : Dag) (past : Past) (w : AttemptId) → Before g past → Before g (extend past (withdrawal g past w))
before_withdrawal g past w b =
    let k = calm_all past (withdrawal g past w) (calm_withdrawal g past w) in
    let after = calm_all (Rerun w ∷ past) (notices g past w ++ requeue past w.task) (calm_withdrawal g past w).1 in
    let still = k.committing ∙ b.1 in
    (record { committing = λ u d. absurd (false_true (is_committing (extend past (withdrawal g past w))) still d); readied = λ v r d. (let never_so : false ≡ true = after.readied v d in cc) }, still)

before_withdrawn : (g : Dag) (c : ConfValues) (slot : ℕ) (start past : Past) (o : Option AttemptId) → Before g past → Before g (extend past (withdrawn_if g c slot start past o))
before_withdrawn g c slot start past None b = b
before_withdrawn g c slot start past (Some w) b = by (is_on_node g c start slot w) where
  by : (x : Bool) → Before g (extend past (if x then withdrawal g past w else []))
  by true = before_withdrawal g past w b
  by false = b

whole_loss : (g : Dag) (c : ConfValues) (past : Past) (slot : ℕ) → IsWholeAtCommit g past → (b : Bool) → is_committing past ≡ b
    → IsWholeAtCommit g (extend past (if b then NodeLost slot (suc (life slot past)) ∷ [] else node_loss_entries g c past slot))
whole_loss g c past slot w true e = keep_all g past (NodeLost slot (suc (life slot past)) ∷ []) (tt, tt) w
whole_loss g c past slot w false e =
    let lost : Past = NodeLost slot (suc (life slot past)) ∷ past in
    let kills = node_kills c lost slot in
    let rest = node_withdrawals g c slot past (extend lost kills) in
    subst (IsWholeAtCommit g) (sym (extend-append lost kills rest))
    (before-each g (withdraw_lost g c slot past) (λ p t b. before_withdrawn g c slot past p (winner t p) b) (extend lost kills) (tasks g past)
    (before-each g kill_at (λ p x b. before_kill g p (holder x p) b) lost (places_on c slot) (keep_one g past (NodeLost slot (suc (life slot past))) tt w, e))).0

-- ---- the other events

whole_fetch : (g : Dag) (c : ConfValues) (past : Past) (a : AttemptId) (e i : ℕ) (o : Option AttemptId) → IsWholeAtCommit g past → (all_done g past ≡ true → ⊥) → IsWholeAtCommit g (extend past (fetch_entries g c past a e i o))
whole_fetch g c past a e i None w cannot = w
whole_fetch g c past a e i (Some x) w cannot = by (is_on_shelf g c past x) where
  by : (b : Bool) → IsWholeAtCommit g (extend past (if b then Fetched a (edge e) i x ∷ [] else ReadError a (edge e) i x ∷ withdrawal g (ReadError a (edge e) i x ∷ past) x))
  by true = keep_all g past (Fetched a (edge e) i x ∷ []) (tt, tt) w
  by false = never g past (ReadError a (edge e) i x ∷ withdrawal g (ReadError a (edge e) i x ∷ past) x) (tt, calm_withdrawal g (ReadError a (edge e) i x ∷ past) x) w cannot

whole_output : (g : Dag) (past : Past) (o : Option AttemptId) → IsWholeAtCommit g past → IsWholeAtCommit g (extend past (output_lost_entries o))
whole_output g past None w = w
whole_output g past (Some x) w = keep_one g past (OutputLost x) tt w

whole_fail : (g : Dag) (past : Past) (a : AttemptId) (b : Bool) → IsWholeAtCommit g past → IsWholeAtCommit g (extend past (Failed a ∷ (if b then [] else requeue past a.task)))
whole_fail g past a true w = keep_one g past (Failed a) tt w
whole_fail g past a false w = keep_all g past (Failed a ∷ requeue past a.task) (tt, (tt, tt)) w

unconfigured : (o : Option Config) → is_none o ≡ true → is_some o ≡ true → ⊥
unconfigured None h k = cc
unconfigured (Some x) h k = cc

some_sink : (g : Dag) (past : Past) (vs : List ℕ) → vs ≢ [] → list_all (λ v. is_readied v past) vs ≡ true → (v : ℕ) × (is_readied v past ≡ true)
some_sink g past [] some h = absurd (some refl)
some_sink g past (v ∷ vs) some h = (v, (both {x = is_readied v past} h).0)

-- where every task has a winner, every vertex is configured
whole_configure : (g : Dag) (c : ConfValues) (past : Past) (v : VertexId) → IsWholeAtCommit g past → is_vertex g v.0 ≡ true → is_none (config v.0 past) ≡ true → IsWholeAtCommit g (extend past (entries_of g c past (Configure v)))
whole_configure g c past v w there none =
    never g past (entries_of g c past (Configure v)) (tt, tt) w
    (λ done. unconfigured (config v.0 past) none (both {x = is_configured v.0 past} (at_number (λ u. is_vertex_done g u past) 0 (length g.vertices) v.0 done low high)).0)
  where
    low : 0 ≤ v.0
    low = omega arith

    high : v.0 < 0 + length g.vertices
    high = let b : v.0 < length g.vertices = below v.0 (length g.vertices) there in omega arith

-- where every sink is readied, every task has a winner
started : (g : Dag) (past : Past) → IsWholeAtCommit g past → is_running past ≡ true → list_all (λ v. is_readied v past) (sinks g) ≡ true → (length g.vertices ≡ 0) ⊎ (sinks g ≢ []) → all_done g past ≡ true
started g past w runs readied (inl none) = ap (λ n. list_all (λ v. is_vertex_done g v past) (numbers_below n)) none
started g past w runs readied (inr some) = let s = some_sink g past (sinks g) some readied in w.readied s.0 runs s.1

down : (b : Bool) → (false && b) ≡ true → ⊥
down b h = cc

finished : (b : Bool) → (b && false) ≡ true → ⊥
finished true h = cc
finished false h = cc

pub whole_event : (g : Dag) (c : ConfValues) (past : Past) (e : CoreEvent) → IsValid g → IsMade g c past → IsWholeAtCommit g past → enabled g c past e ≡ true → IsWholeAtCommit g (extend past (entries_of g c past e))
whole_event g c past Open valid m w h = w
whole_event g c past (Configure v) valid m w h =
    whole_configure g c past v w (both {x = is_vertex g v.0} (both {x = is_running past} h).1).0 (both {x = is_none (config v.0 past)} (both {x = is_vertex g v.0} (both {x = is_running past} h).1).1).0
whole_event g c past (Queue t) valid m w h = keep_all g past (requeue past t) (tt, tt) w
whole_event g c past (Place a p) valid m w h = keep_one g past _ tt w
whole_event g c past (Fetch a e i) valid m w h =
    let k = both (both h).1 in
    whole_fetch g c past a e.0 i (winner_behind g past a e.0 i) w (none_alive g c past a m (waiting_alive (stage a past) k.0))
whole_event g c past (Send a) valid m w h = keep_one g past _ tt w
whole_event g c past (Preempt a) valid m w h = keep_all g past (entries_of g c past (Preempt a)) (tt, (tt, tt)) w
whole_event g c past (Fail a) valid m w h = whole_fail g past a (nat_le c.max_failed (suc (failures a.task past))) w
whole_event g c past (LoseNode slot) valid m w h = whole_loss g c past slot w (is_committing past) refl
whole_event g c past (LoseOutput t) valid m w h = whole_output g past (winner t past) w
whole_event g c past Restart valid m w h = record { committing = λ u k. cc; readied = λ v r k. absurd (down (not (is_finished past)) r) }
whole_event g c past (Ready v) valid m w h = let k = both (both h).1 in record { committing = w.committing; readied = λ u r d. k.0 }
whole_event g c past CommitStart valid m w h =
    let k = both (both h).1 in record { committing = λ u d. started g past w (both h).0 k.1 (some_or_none g valid); readied = w.readied }
whole_event g c past (Ask v) valid m w h = w
whole_event g c past (Publish v) valid m w h = keep_one g past _ tt w
whole_event g c past Finish valid m w h = record { committing = w.committing; readied = λ v r k. absurd (finished (is_up past) r) }
whole_event g c past Purge valid m w h = record { committing = λ u k. cc; readied = λ v r k. absurd (down (not (is_finished past)) r) }

pub whole_report : (g : Dag) (c : ConfValues) (past : Past) (a : AttemptId) (made : List (ℕ × ℕ)) → IsMade g c past → IsWholeAtCommit g past → IsTrue (is_processing (stage a past)) → IsWholeAtCommit g (extend past (done_entries a made))
whole_report g c past a made m w h = never g past (done_entries a made) (tt, calm_made a made) w (none_alive g c past a m (running_alive (stage a past) h))

pub whole_answer : (g : Dag) (past : Past) (v : VertexId) (there : Bool) → IsWholeAtCommit g past → IsWholeAtCommit g (answered past v there)
whole_answer g past v true w = record { committing = w.committing; readied = w.readied }
whole_answer g past v false w = record { committing = w.committing; readied = w.readied }

-- ---- masters

pub whole_stop : (g : Dag) (c : ConfValues) (r : Run) (cause : StopCause) → IsWholeAtCommit g (stopped c r cause).past
whole_stop g c r cause = record { committing = λ u k. cc; readied = λ v x k. absurd (down (not (is_finished r.past)) x) }

-- what a new master finds begins no commit and readies no sink
abbrev Finds : Entry → Type 0
Finds (Stands _ _ _) = ⊤
Finds (Carried _ _) = ⊤
Finds (Kept _) = ⊤
Finds _ = ⊥

abbrev AllFinds : List Entry → Type 0
AllFinds [] = ⊤
AllFinds (e ∷ es) = Finds e × AllFinds es

finds-append : (xs ys : List Entry) → AllFinds xs → AllFinds ys → AllFinds (xs ++ ys)
finds-append [] ys h k = k
finds-append (x ∷ xs) ys h k = (h.0, finds-append xs ys h.1 k)

finds-each : {X : Type 0} (part : Past → X → List Entry) → ((past : Past) (x : X) → AllFinds (part past x)) → (past : Past) (xs : List X) → AllFinds (each_after part past xs)
finds-each part h past [] = tt
finds-each part h past (x ∷ xs) = finds-append (part past x) (each_after part (extend past (part past x)) xs) (h past x) (finds-each part h (extend past (part past x)) xs)

finds_stands : (g : Dag) (past : Past) (x : ℕ × Config) → AllFinds (stands_if g past x)
finds_stands g past x = by (is_none (config x.0 past) && is_vertex g x.0) where
  by : (b : Bool) → AllFinds (if b then Stands (vertex x.0) x.1.tasks x.1.base ∷ [] else [])
  by true = (tt, tt)
  by false = tt

finds_kept : (g : Dag) (past : Past) (a : AttemptId) → AllFinds (kept_if g past a)
finds_kept g past a = by (is_task g past a.task) where
  by : (b : Bool) → AllFinds (if b then Kept a ∷ [] else [])
  by true = (tt, tt)
  by false = tt

finds_carried : (xs : List (TaskId × ℕ)) → AllFinds (carried_entries xs)
finds_carried [] = tt
finds_carried (x ∷ xs) = (tt, finds_carried xs)

finds_all : (g : Dag) (past : Past) (s : Standing) → AllFinds (standing_entries g past s)
finds_all g past s =
    let stands = each_after (stands_if g) past s.configured in
    let carried = carried_entries s.failed in
    finds-append stands (carried ++ each_after (kept_if g) (extend (extend past stands) carried) s.kept) (finds-each (stands_if g) (finds_stands g) past s.configured)
    (finds-append carried (each_after (kept_if g) (extend (extend past stands) carried) s.kept) (finds_carried s.failed) (finds-each (kept_if g) (finds_kept g) (extend (extend past stands) carried) s.kept))

calm_finds : (es : List Entry) → AllFinds es → AllCalm es
calm_finds [] h = tt
calm_finds (Stands _ _ _ ∷ es) h = (tt, calm_finds es h.1)
calm_finds (Carried _ _ ∷ es) h = (tt, calm_finds es h.1)
calm_finds (Kept _ ∷ es) h = (tt, calm_finds es h.1)
calm_finds (_ ∷ es) h = absurd h.0

none_at_start : (past : Past) → IsTrue (is_at_start past) → is_committing past ≡ false
none_at_start [] h = refl
none_at_start (Stopped _ ∷ past) h = refl
none_at_start (_ ∷ past) h = cc

whole_standing : (g : Dag) (past : Past) (s : Standing) → IsCalm (opened_at s past) (extend (opened_at s past) (standing_entries g (opened_at s past) s))
whole_standing g past s = calm_all (opened_at s past) (standing_entries g (opened_at s past) s) (calm_finds (standing_entries g (opened_at s past) s) (finds_all g (opened_at s past) s))

whole_opened : (g : Dag) (past : Past) (s : Standing) → IsWholeAtCommit g (extend (opened_at s past) (standing_entries g (opened_at s past) s))
whole_opened g past s =
    let k = whole_standing g past s in
    record { committing = λ u d. (let never_so : false ≡ true = sym k.committing ∙ d in cc); readied = λ v x d. (let never_so : false ≡ true = k.readied v d in cc) }

-- a commit is taken up only where every task has a winner
whole_committing : (g : Dag) (past : Past) (n : ℕ) → IsWholeAtCommit g past → IsWholeAtCommit g (extend past (committing_if g past n))
whole_committing g past n w = by (all_done g past && nat_le (recorded past) n) refl where
  by : (b : Bool) → (all_done g past && nat_le (recorded past) n) ≡ b → IsWholeAtCommit g (extend past (if b then Committing n ∷ [] else []))
  by true e = let done = (both {x = all_done g past} e).0 in record { committing = λ u d. done; readied = λ v x d. done }
  by false e = w

whole_taken_up : (g : Dag) (past : Past) (s : Standing) (n : ℕ) → IsWholeAtCommit g (taken_up g past s n)
whole_taken_up g past s n =
    let start : Past = opened_at s past in
    let stands : List Entry = standing_entries g start s in
    subst (IsWholeAtCommit g) (sym (extend-append start stands (committing_if g (extend start stands) n))) (whole_committing g (extend start stands) n (whole_opened g past s))

pub whole_start : (g : Dag) (c : ConfValues) (r : Run) (found : Found) → IsTrue (is_at_start r.past) → IsWholeAtCommit g r.past → IsWholeAtCommit g (opened_by g c r found).past
whole_start g c r Begun at w = w
whole_start g c r AllDone at w = record { committing = λ u k. absurd (false_true (is_committing r.past) (none_at_start r.past at) k); readied = λ v x k. absurd (finished true x) }
whole_start g c r (Unfinished s) at w = by (spent_in c s) where
  by : (o : Option (TaskId × ℕ)) → IsWholeAtCommit g (opened_unless g r s o).past
  by (Some x) = w
  by None = whole_opened g r.past s
whole_start g c r (Committed s n) at w = by (spent_in c s) where
  by : (o : Option (TaskId × ℕ)) → IsWholeAtCommit g (committed_unless g r s n o).past
  by (Some x) = w
  by None = whole_taken_up g r.past s n

-- ---- runs

whole_took : (g : Dag) (c : ConfValues) (r : Run) (e : CoreEvent) → IsValid g → IsMade g c r.past → IsWholeAtCommit g r.past → enabled g c r.past e ≡ true → IsWholeAtCommit g (took g c r e).past
whole_took g c r Restart valid m w h = whole_stop g c r Script
whole_took g c r Open valid m w h = w
whole_took g c r (Ask v) valid m w h = w
whole_took g c r e valid m w h = whole_event g c r.past e valid m w h

whole_happens : (g : Dag) (c : ConfValues) (r : Run) (x : Happening) → IsValid g → IsMade g c r.past → (r.verdict ≡ None → is_up r.past ≡ false → IsTrue (is_at_start r.past)) → IsWholeAtCommit g r.past → IsWholeAtCommit g (happens g c r x).past
whole_happens g c r x valid m start w = ended (is_some r.verdict) refl where
  ended : (b : Bool) → is_some r.verdict ≡ b → IsWholeAtCommit g (if b then r else happens_to g c r x).past
  ended true e = w
  ended false e = to x where
    none : (o : Option Verdict) → is_some o ≡ false → o ≡ None
    none None h = refl
    none (Some v) h = cc

    to : (x : Happening) → IsWholeAtCommit g (happens_to g c r x).past
    to (Event e) = by (enabled g c r.past e) refl where
      by : (b : Bool) → enabled g c r.past e ≡ b → IsWholeAtCommit g (if b then took g c r e else r).past
      by true h = whole_took g c r e valid m w h
      by false h = w
    to (Report a made) = by (is_up r.past && is_processing (stage a r.past)) refl where
      by : (b : Bool) → (is_up r.past && is_processing (stage a r.past)) ≡ b → IsWholeAtCommit g (if b then going_on r.past (done_entries a made) else r).past
      by true h = whole_report g c r.past a made m w (both {x = is_up r.past} h).1
      by false h = w
    to (Answer v there) = by (enabled g c r.past (Ask v)) where
      by : (b : Bool) → IsWholeAtCommit g (if b then going_on r.past (asked_entries v there) else r).past
      by true = whole_answer g r.past v there w
      by false = w
    to (Stop cause) = whole_stop g c r cause
    to (Start found) = by (is_up r.past) refl where
      by : (b : Bool) → is_up r.past ≡ b → IsWholeAtCommit g (if not b then opened_by g c r found else r).past
      by true h = w
      by false h = whole_start g c r found (start (none r.verdict e) h) w

run-append : (g : Dag) (c : ConfValues) (r : Run) (xs ys : List Happening) → run g c r (xs ++ ys) ≡ run g c (run g c r xs) ys
run-append g c r [] ys = refl
run-append g c r (x ∷ xs) ys = run-append g c (happens g c r x) xs ys

append-one : {X : Type 0} (xs ys : List X) (x : X) → (xs ++ x ∷ []) ++ ys ≡ xs ++ x ∷ ys
append-one [] ys x = refl
append-one (z ∷ zs) ys x = ap (λ s. z ∷ s) (append-one zs ys x)

between : (b : Bool) (P : Type 0) → (b ≡ true) ⊎ P → b ≡ false → P
between b P (inl u) h = absurd (false_true b h u)
between b P (inr p) h = p

-- after valid happenings, and then valid more
whole_from : (g : Dag) (c : ConfValues) (xs ys : List Happening) → IsValid g → 1 ≤ c.max_failed → IsWholeAtCommit g (run g c not_begun xs).past → IsWholeAtCommit g (run g c not_begun (xs ++ ys)).past
whole_from g c xs [] valid may w = subst (λ zs. IsWholeAtCommit g (run g c not_begun zs).past) (sym (append-nil xs)) w
whole_from g c xs (y ∷ ys) valid may w =
    let r = run g c not_begun xs in
    let s = run_sound g c xs may in
    let one = whole_happens g c r y valid s.made (λ v h. between (is_up r.past) (IsTrue (is_at_start r.past)) (s.between v) h) w in
    let more : IsWholeAtCommit g (run g c not_begun (xs ++ y ∷ [])).past = subst (λ q. IsWholeAtCommit g q.past) (sym (run-append g c not_begun xs (y ∷ []))) one in
    subst (λ zs. IsWholeAtCommit g (run g c not_begun zs).past) (append-one xs ys y) (whole_from g c (xs ++ y ∷ []) ys valid may more)

pub whole_new : (g : Dag) → IsWholeAtCommit g []
whole_new g = record { committing = λ u k. cc; readied = λ v r k. cc }

pub whole_run : (g : Dag) (c : ConfValues) (xs : List Happening) → IsValid g → 1 ≤ c.max_failed → IsWholeAtCommit g (run g c not_begun xs).past
whole_run g c xs valid may = whole_from g c [] xs valid may (whole_new g)
