-- The configurations of every run fit the plan.
use Rattle.std.specs.Prelude.{◌≡◌, ℕ, suc, ◌≤◌, ◌&&◌, not, nat_le, Bool, true, false, if◌then◌else◌, List, [], ◌∷◌, ◌++◌, map, Option, Some, None, is_some, refl}
use Rattle.std.specs.List.{list_all, AllByRecursion}
use Rattle.std.proofs.Common.{sym, subst}
use Rattle.tez_ids.specs.declared.TaskId.{TaskId}
use Rattle.tez_ids.specs.declared.AttemptId.{AttemptId}
use Rattle.tez_ids.specs.declared.VertexId.{VertexId}
use Rattle.tez_plan.specs.Dag.{Dag, edge}
use Rattle.tez_plan.specs.Faults.{IsValid}
use Rattle.tez_plan.specs.Ranges.{IsInRanges}
use Rattle.tez_conf.specs.declared.values.ConfValues.{ConfValues}
use Rattle.tez_events.specs.declared.Entry.{Entry}
use Rattle.tez_events.specs.declared.Entry.TheVariants.{Over, Fetched, ReadError, InputFailed, Made, Failed, NodeLost}
use Rattle.tez_events.specs.declared.CoreEvent.{CoreEvent}
use Rattle.tez_events.specs.declared.CoreEvent.TheVariants.{Open, Configure, Queue, Place, Fetch, Send, Preempt, Fail, LoseNode, LoseOutput, Restart, Ready, CommitStart, Ask, Publish, Finish, Purge}
use Rattle.tez_history.specs.History.{Past, config, extend, stage, holder, winner, life, failures, is_up, is_committing}
use Rattle.tez_history.specs.Derived.{tasks, is_processing, notices, places_on, is_on_node, is_on_shelf}
use Rattle.tez_history.specs.Steps.{enabled, entries_of, each_after, requeue, withdrawal, killed_by_node, kill_at, withdrawn_if, withdraw_lost, node_kills, node_withdrawals, fetch_entries, winner_behind, output_lost_entries, done_entries, asked_entries}
use Rattle.tez_history.specs.Follows.{IsMade}
use Rattle.tez_history.specs.Runs.{Run, Found, Unfinished, AllDone, Committed, Begun, Happening, Event, Report, Answer, Stop, Start, spent_in, opened_unless, committed_unless, opened_by, going_on, took, happens_to, happens, run, not_begun}
use Rattle.tez_laws.specs.Laws.{IsSound}
use Rattle.tez_laws.proofs.StepLaw.{event_may, done_may, asked_may, AllNotices, notices_are, both}
use Rattle.tez_laws.proofs.RunLaw.{run_sound}
use Rattle.tez_progress.specs.Laws.{IsFitted, is_stands, FindsFitting}
use Rattle.tez_progress.proofs.Configured.{fits_extend}
use Rattle.tez_progress.proofs.Fitting.{fits_none}
use Rattle.tez_progress.proofs.Opening.{opening_fits, committed_fits}
use Rattle.tez_progress.proofs.Members.{true_and}

-- ---- no event adds a configuration that was found

none_found : List Entry → Bool
none_found es = list_all (λ e. not (is_stands e)) es

found-append : (xs ys : List Entry) → none_found xs ≡ true → none_found ys ≡ true → none_found (xs ++ ys) ≡ true
unfolding none_found
found-append [] ys h k = k
found-append (x ∷ xs) ys h k = let s = both {x = not (is_stands x)} h in true_and s.0 (found-append xs ys s.1 k)

found_notices : (es : List Entry) → AllNotices es → none_found es ≡ true
unfolding none_found
found_notices [] h = refl
found_notices (InputFailed _ _ _ _ ∷ es) h = found_notices es h
found_notices (_ ∷ es) h = absurd h

found_each : {X : Type 0} (part : Past → X → List Entry) → ((past : Past) (x : X) → none_found (part past x) ≡ true) → (past : Past) (xs : List X) → none_found (each_after part past xs) ≡ true
unfolding none_found
found_each part h past [] = refl
found_each part h past (x ∷ xs) = found-append (part past x) (each_after part (extend past (part past x)) xs) (h past x) (found_each part h (extend past (part past x)) xs)

found_withdrawal : (g : Dag) (past : Past) (w : AttemptId) → none_found (withdrawal g past w) ≡ true
unfolding none_found
found_withdrawal g past w = found-append (notices g past w) (requeue past w.task) (found_notices (notices g past w) (notices_are g past w)) refl

found_kill : (past : Past) (o : Option AttemptId) → none_found (killed_by_node past o) ≡ true
unfolding none_found
found_kill past None = refl
found_kill past (Some a) = refl

found_withdrawn : (g : Dag) (c : ConfValues) (slot : ℕ) (before past : Past) (o : Option AttemptId) → none_found (withdrawn_if g c slot before past o) ≡ true
unfolding none_found
found_withdrawn g c slot before past None = refl
found_withdrawn g c slot before past (Some w) = by (is_on_node g c before slot w) where
  by : (b : Bool) → none_found (if b then withdrawal g past w else []) ≡ true
  by true = found_withdrawal g past w
  by false = refl

found_loss : (g : Dag) (c : ConfValues) (past : Past) (slot : ℕ) (b : Bool)
    → none_found (if b then NodeLost slot (suc (life slot past)) ∷ [] else
    (let lost = NodeLost slot (suc (life slot past)) in let kills = node_kills c (lost ∷ past) slot in
    lost ∷ (kills ++ node_withdrawals g c slot past (extend (lost ∷ past) kills)))) ≡ true
unfolding none_found
found_loss g c past slot true = refl
found_loss g c past slot false =
    let lost = NodeLost slot (suc (life slot past)) in
    let kills = node_kills c (lost ∷ past) slot in
    found-append kills (node_withdrawals g c slot past (extend (lost ∷ past) kills))
    (found_each kill_at (λ p x. found_kill p (holder x p)) (lost ∷ past) (places_on c slot))
    (found_each (withdraw_lost g c slot past) (λ p t. found_withdrawn g c slot past p (winner t p)) (extend (lost ∷ past) kills) (tasks g past))

found_fetch : (g : Dag) (c : ConfValues) (past : Past) (a : AttemptId) (e i : ℕ) (o : Option AttemptId) → none_found (fetch_entries g c past a e i o) ≡ true
unfolding none_found
found_fetch g c past a e i None = refl
found_fetch g c past a e i (Some w) = by (is_on_shelf g c past w) where
  by : (b : Bool) → none_found (if b then Fetched a (edge e) i w ∷ [] else ReadError a (edge e) i w ∷ withdrawal g (ReadError a (edge e) i w ∷ past) w) ≡ true
  by true = refl
  by false = found_withdrawal g (ReadError a (edge e) i w ∷ past) w

found_output : (o : Option AttemptId) → none_found (output_lost_entries o) ≡ true
unfolding none_found
found_output None = refl
found_output (Some w) = refl

found_failed : (past : Past) (a : AttemptId) (b : Bool) → none_found (Failed a ∷ (if b then [] else requeue past a.task)) ≡ true
unfolding none_found
found_failed past a true = refl
found_failed past a false = refl

found_event : (g : Dag) (c : ConfValues) (past : Past) (e : CoreEvent) → none_found (entries_of g c past e) ≡ true
unfolding none_found
found_event g c past (Configure v) = refl
found_event g c past (Queue t) = refl
found_event g c past (Place a p) = refl
found_event g c past (Fetch a e i) = found_fetch g c past a e.0 i (winner_behind g past a e.0 i)
found_event g c past (Send a) = refl
found_event g c past (Preempt a) = refl
found_event g c past (Fail a) = found_failed past a (nat_le c.max_failed (suc (failures a.task past)))
found_event g c past (LoseNode slot) = found_loss g c past slot (is_committing past)
found_event g c past (LoseOutput t) = found_output (winner t past)
found_event g c past (Ready v) = refl
found_event g c past CommitStart = refl
found_event g c past (Ask v) = refl
found_event g c past (Publish v) = refl
found_event g c past Finish = refl
found_event g c past Restart = refl
found_event g c past Purge = refl
found_event g c past Open = refl

found_made : (a : AttemptId) (made : List (ℕ × ℕ)) → none_found (map (λ m. Made a (edge m.0) m.1) made) ≡ true
unfolding none_found
found_made a [] = refl
found_made a (x ∷ xs) = found_made a xs

found_asked : (v : VertexId) (there : Bool) → none_found (asked_entries v there) ≡ true
unfolding none_found
found_asked v true = refl
found_asked v false = refl

-- ---- runs

module _ (g : Dag) (c : ConfValues) (ranges : IsInRanges g) (valid : IsValid g) where
  event_fits : (past : Past) (e : CoreEvent) → IsMade g c past → enabled g c past e ≡ true → IsFitted g past → IsFitted g (extend past (entries_of g c past e))
  unfolding none_found
  event_fits past e made h fits = fits_extend g c past (entries_of g c past e) ranges valid (event_may g c past e made h) (found_event g c past e) fits

  took_fits : (r : Run) (e : CoreEvent) → IsMade g c r.past → enabled g c r.past e ≡ true → IsFitted g r.past → IsFitted g (took g c r e).past
  took_fits r Restart made h fits = fits
  took_fits r Open made h fits = fits
  took_fits r (Ask v) made h fits = fits
  took_fits r e made h fits = event_fits r.past e made h fits

  opened_fits : (r : Run) (found : Found) → FindsFitting g (Start found) → IsFitted g r.past → IsFitted g (opened_by g c r found).past
  opened_fits r (Unfinished s) finds fits = by (spent_in c s) where
    by : (o : Option (TaskId × ℕ)) → IsFitted g (opened_unless g r s o).past
    by None = opening_fits g r.past s valid finds
    by (Some x) = fits
  opened_fits r (Committed s n) finds fits = by (spent_in c s) where
    by : (o : Option (TaskId × ℕ)) → IsFitted g (committed_unless g r s n o).past
    by None = committed_fits g r.past s n valid finds
    by (Some x) = fits
  opened_fits r AllDone finds fits = fits_none g (λ v. config v (Over ∷ r.past)) (λ v. refl)
  opened_fits r Begun finds fits = fits

  happens_to_fits : (r : Run) (h : Happening) → IsMade g c r.past → FindsFitting g h → IsFitted g r.past → IsFitted g (happens_to g c r h).past
  unfolding none_found
  happens_to_fits r (Event e) made finds fits = by (enabled g c r.past e) refl where
    by : (b : Bool) → enabled g c r.past e ≡ b → IsFitted g (if b then took g c r e else r).past
    by true h = took_fits r e made h fits
    by false h = fits
  happens_to_fits r (Report a made_bytes) made finds fits = by (is_up r.past && is_processing (stage a r.past)) refl where
    by : (b : Bool) → (is_up r.past && is_processing (stage a r.past)) ≡ b → IsFitted g (if b then going_on r.past (done_entries a made_bytes) else r).past
    by true h = fits_extend g c r.past (done_entries a made_bytes) ranges valid (done_may g c r.past a made_bytes (both {x = is_up r.past} h).1) (found_made a made_bytes) fits
    by false h = fits
  happens_to_fits r (Answer v there) made finds fits = by (enabled g c r.past (Ask v)) refl where
    by : (b : Bool) → enabled g c r.past (Ask v) ≡ b → IsFitted g (if b then going_on r.past (asked_entries v there) else r).past
    by true h = fits_extend g c r.past (asked_entries v there) ranges valid (asked_may g c r.past v there h) (found_asked v there) fits
    by false h = fits
  happens_to_fits r (Stop cause) made finds fits = fits
  happens_to_fits r (Start found) made finds fits = by (not (is_up r.past)) where
    by : (b : Bool) → IsFitted g (if b then opened_by g c r found else r).past
    by true = opened_fits r found finds fits
    by false = fits

  happens_fits : (r : Run) (h : Happening) → IsMade g c r.past → FindsFitting g h → IsFitted g r.past → IsFitted g (happens g c r h).past
  happens_fits r h made finds fits = by (is_some r.verdict) where
    by : (b : Bool) → IsFitted g (if b then r else happens_to g c r h).past
    by true = fits
    by false = happens_to_fits r h made finds fits

run-append : (g : Dag) (c : ConfValues) (r : Run) (xs ys : List Happening) → run g c r (xs ++ ys) ≡ run g c (run g c r xs) ys
run-append g c r [] ys = refl
run-append g c r (x ∷ xs) ys = run-append g c (happens g c r x) xs ys

-- from what happened before
fits_from : (g : Dag) (c : ConfValues) (before hs : List Happening) → IsInRanges g → IsValid g → 1 ≤ c.max_failed → AllByRecursion (FindsFitting g) hs
    → IsFitted g (run g c not_begun before).past → IsFitted g (run g c (run g c not_begun before) hs).past
fits_from g c before [] ranges valid some finds fits = fits
fits_from g c before (h ∷ hs) ranges valid some finds fits =
    let s : IsSound g c (run g c not_begun before) = run_sound g c before some in
    let next = happens_fits g c ranges valid (run g c not_begun before) h s.made finds.0 fits in
    let same : run g c not_begun (before ++ h ∷ []) ≡ happens g c (run g c not_begun before) h = run-append g c not_begun before (h ∷ []) in
    subst (λ r. IsFitted g (run g c r hs).past) same
    (fits_from g c (before ++ h ∷ []) hs ranges valid some finds.1 (subst (λ r. IsFitted g r.past) (sym same) next))

pub run_fits : (g : Dag) (c : ConfValues) (hs : List Happening) → IsInRanges g → IsValid g → 1 ≤ c.max_failed → AllByRecursion (FindsFitting g) hs → IsFitted g (run g c not_begun hs).past
run_fits g c hs ranges valid some finds = fits_from g c [] hs ranges valid some finds (fits_none g (λ v. config v []) (λ v. refl))
