-- A master goes on by the longer history.
use Rattle.std.specs.Prelude.{◌≡◌, ℕ, suc, ⊤, nat_le, Bool, true, false, if◌then◌else◌, List, [], ◌∷◌, ◌++◌, map, Option, Some, None, refl}
use Rattle.tez_ids.specs.declared.AttemptId.{AttemptId}
use Rattle.tez_ids.specs.declared.VertexId.{VertexId}
use Rattle.tez_plan.specs.Dag.{Dag, edge}
use Rattle.tez_plan.specs.Faults.{IsValid}
use Rattle.tez_plan.specs.Ranges.{IsInRanges}
use Rattle.tez_conf.specs.declared.values.ConfValues.{ConfValues}
use Rattle.tez_events.specs.declared.Entry.{Entry}
use Rattle.tez_events.specs.declared.Entry.TheVariants.{Fetched, ReadError, InputFailed, Made, Failed, NodeLost, Succeeded}
use Rattle.tez_events.specs.declared.CoreEvent.{CoreEvent}
use Rattle.tez_events.specs.declared.CoreEvent.TheVariants.{Open, Configure, Queue, Place, Fetch, Send, Preempt, Fail, LoseNode, LoseOutput, Restart, Ready, CommitStart, Ask, Publish, Finish, Purge}
use Rattle.tez_history.specs.History.{Past, extend, stage, holder, winner, life, failures, is_committing}
use Rattle.tez_history.specs.Derived.{tasks, is_processing, notices, places_on, is_on_node, is_on_shelf}
use Rattle.tez_history.specs.Steps.{enabled, entries_of, each_after, requeue, withdrawal, killed_by_node, kill_at, withdrawn_if, withdraw_lost, node_kills, node_withdrawals, fetch_entries, winner_behind, output_lost_entries, done_entries, asked_entries}
use Rattle.tez_history.specs.Follows.{AllMayFollow}
use Rattle.tez_laws.specs.Laws.{SpendsNot, answered}
use Rattle.tez_laws.proofs.StepLaw.{event_may, asked_may, AllNotices, notices_are}
use Rattle.tez_laws.proofs.SoundLaw.{event_sound, report_sound, answer_sound}
use Rattle.tez_progress.specs.Laws.{IsFitted, is_stands}
use Rattle.tez_progress.proofs.Configured.{fits_next}
use Rattle.tez_pool_view.proofs.Committing.{whole_event, whole_report, whole_answer}
use Rattle.tez_vertex_view.proofs.Configuring.{failed_event, failed_report, failed_answer}
use Rattle.tez_router_view.proofs.Keeping.{event_fits, report_fits, answer_fits}
use Rattle.tez_master_view.specs.Laws.{Goes}
use Rattle.tez_schedule_view.proofs.Bytes.{event_tells, report_keeps, answer_keeps}

-- ---- no event adds a configuration that was found

abbrev ArePlain : List Entry → Type 0
ArePlain [] = ⊤
ArePlain (e ∷ es) = (is_stands e ≡ false) × ArePlain es

plain-append : (xs ys : List Entry) → ArePlain xs → ArePlain ys → ArePlain (xs ++ ys)
plain-append [] ys h k = k
plain-append (x ∷ xs) ys h k = (h.0, plain-append xs ys h.1 k)

plain_notices : (es : List Entry) → AllNotices es → ArePlain es
plain_notices [] h = tt
plain_notices (InputFailed a e i w ∷ es) h = (refl, plain_notices es h)
plain_notices (_ ∷ es) h = absurd h

plain_each : {X : Type 0} (part : Past → X → List Entry) → ((past : Past) (x : X) → ArePlain (part past x)) → (past : Past) (xs : List X) → ArePlain (each_after part past xs)
plain_each part h past [] = tt
plain_each part h past (x ∷ xs) = plain-append (part past x) (each_after part (extend past (part past x)) xs) (h past x) (plain_each part h (extend past (part past x)) xs)

plain_withdrawal : (g : Dag) (past : Past) (w : AttemptId) → ArePlain (withdrawal g past w)
plain_withdrawal g past w = (refl, plain-append (notices g past w) (requeue past w.task) (plain_notices (notices g past w) (notices_are g past w)) (refl, tt))

plain_kill : (past : Past) (o : Option AttemptId) → ArePlain (killed_by_node past o)
plain_kill past None = tt
plain_kill past (Some a) = (refl, (refl, tt))

plain_withdrawn : (g : Dag) (c : ConfValues) (slot : ℕ) (before past : Past) (o : Option AttemptId) → ArePlain (withdrawn_if g c slot before past o)
plain_withdrawn g c slot before past None = tt
plain_withdrawn g c slot before past (Some w) = by (is_on_node g c before slot w) where
  by : (b : Bool) → ArePlain (if b then withdrawal g past w else [])
  by true = plain_withdrawal g past w
  by false = tt

plain_loss : (g : Dag) (c : ConfValues) (past : Past) (slot : ℕ) (b : Bool)
    → ArePlain (if b then NodeLost slot (suc (life slot past)) ∷ [] else
    (let lost = NodeLost slot (suc (life slot past)) in let kills = node_kills c (lost ∷ past) slot in
    lost ∷ (kills ++ node_withdrawals g c slot past (extend (lost ∷ past) kills))))
plain_loss g c past slot true = (refl, tt)
plain_loss g c past slot false =
    let lost = NodeLost slot (suc (life slot past)) in
    let kills = node_kills c (lost ∷ past) slot in (
      refl,
      plain-append kills (node_withdrawals g c slot past (extend (lost ∷ past) kills))
          (plain_each kill_at (λ p x. plain_kill p (holder x p)) (lost ∷ past) (places_on c slot))
          (plain_each (withdraw_lost g c slot past) (λ p t. plain_withdrawn g c slot past p (winner t p)) (extend (lost ∷ past) kills) (tasks g past)),
    )

plain_fetch : (g : Dag) (c : ConfValues) (past : Past) (a : AttemptId) (e i : ℕ) (o : Option AttemptId) → ArePlain (fetch_entries g c past a e i o)
plain_fetch g c past a e i None = tt
plain_fetch g c past a e i (Some w) = by (is_on_shelf g c past w) where
  by : (b : Bool) → ArePlain (if b then Fetched a (edge e) i w ∷ [] else ReadError a (edge e) i w ∷ withdrawal g (ReadError a (edge e) i w ∷ past) w)
  by true = (refl, tt)
  by false = (refl, plain_withdrawal g (ReadError a (edge e) i w ∷ past) w)

plain_output : (o : Option AttemptId) → ArePlain (output_lost_entries o)
plain_output None = tt
plain_output (Some w) = (refl, tt)

plain_failed : (past : Past) (a : AttemptId) (b : Bool) → ArePlain (Failed a ∷ (if b then [] else requeue past a.task))
plain_failed past a true = (refl, tt)
plain_failed past a false = (refl, (refl, tt))

plain_event : (g : Dag) (c : ConfValues) (past : Past) (e : CoreEvent) → ArePlain (entries_of g c past e)
plain_event g c past Open = tt
plain_event g c past (Configure v) = (refl, tt)
plain_event g c past (Queue t) = (refl, tt)
plain_event g c past (Place a p) = (refl, tt)
plain_event g c past (Fetch a e i) = plain_fetch g c past a e.0 i (winner_behind g past a e.0 i)
plain_event g c past (Send a) = (refl, tt)
plain_event g c past (Preempt a) = (refl, (refl, tt))
plain_event g c past (Fail a) = plain_failed past a (nat_le c.max_failed (suc (failures a.task past)))
plain_event g c past (LoseNode slot) = plain_loss g c past slot (is_committing past)
plain_event g c past (LoseOutput t) = plain_output (winner t past)
plain_event g c past Restart = (refl, tt)
plain_event g c past (Ready v) = (refl, tt)
plain_event g c past CommitStart = (refl, tt)
plain_event g c past (Ask v) = tt
plain_event g c past (Publish v) = (refl, tt)
plain_event g c past Finish = (refl, tt)
plain_event g c past Purge = (refl, tt)

plain_answer : (v : VertexId) (there : Bool) → ArePlain (asked_entries v there)
plain_answer v true = (refl, tt)
plain_answer v false = (refl, tt)

-- ---- configurations fit

fitted_entries : (g : Dag) (c : ConfValues) (past : Past) (es : List Entry) → IsInRanges g → IsValid g → AllMayFollow g c past es → ArePlain es → IsFitted g past → IsFitted g (extend past es)
fitted_entries g c past [] ranges valid may plain fits = fits
fitted_entries g c past (e ∷ es) ranges valid may plain fits = fitted_entries g c (e ∷ past) es ranges valid may.1 plain.1 (fits_next g c past e ranges valid may.0 plain.0 fits)

fitted_made : (g : Dag) (past : Past) (a : AttemptId) (made : List (ℕ × ℕ)) → IsFitted g past → IsFitted g (extend past (map (λ m. Made a (edge m.0) m.1) made))
fitted_made g past a [] fits = fits
fitted_made g past a (x ∷ xs) fits = fitted_made g (Made a (edge x.0) x.1 ∷ past) a xs fits

-- ---- the laws

pub goes_event : (g : Dag) (c : ConfValues) (past : Past) (e : CoreEvent) → Goes g c past → enabled g c past e ≡ true → SpendsNot c past e → Goes g c (extend past (entries_of g c past e))
goes_event g c past e go on spends =
    let may = event_may g c past e go.sound.made on in
    record {
      valid = go.valid;
      ranges = go.ranges;
      conf = go.conf;
      sound = event_sound g c past e go.sound on spends;
      fitted = fitted_entries g c past (entries_of g c past e) go.ranges go.valid may (plain_event g c past e) go.fitted;
      plan = event_fits g c past e go.valid go.sound.made on go.plan;
      whole = whole_event g c past e go.valid go.sound.made go.whole on;
      failed = failed_event g c past e go.sound.made go.failed on;
      tells = event_tells g c past e go.sound.made on go.tells;
    }

pub goes_report : (g : Dag) (c : ConfValues) (past : Past) (a : AttemptId) (made : List (ℕ × ℕ)) → Goes g c past → is_processing (stage a past) ≡ true → Goes g c (extend past (done_entries a made))
goes_report g c past a made go runs =
    record {
      valid = go.valid;
      ranges = go.ranges;
      conf = go.conf;
      sound = report_sound g c past a made go.sound runs;
      fitted = fitted_made g (Succeeded a ∷ past) a made go.fitted;
      plan = report_fits g past a made go.plan;
      whole = whole_report g c past a made go.sound.made go.whole runs;
      failed = failed_report g c past a made go.sound.made go.failed runs;
      tells = report_keeps g c past a made go.sound.made runs go.tells;
    }

pub goes_answer : (g : Dag) (c : ConfValues) (past : Past) (v : VertexId) (there : Bool) → Goes g c past
    → enabled g c past (Ask v) ≡ true → Goes g c (answered past v there)
goes_answer g c past v there go on =
    record {
      valid = go.valid;
      ranges = go.ranges;
      conf = go.conf;
      sound = answer_sound g c past v there go.sound on;
      fitted = fitted_entries g c past (asked_entries v there) go.ranges go.valid (asked_may g c past v there on)
          (plain_answer v there) go.fitted;
      plan = answer_fits g past v there go.plan;
      whole = whole_answer g past v there go.whole;
      failed = failed_answer g past v there go.failed;
      tells = answer_keeps past v there go.tells;
    }
