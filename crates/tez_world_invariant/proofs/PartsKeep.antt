-- What each event that readies no sink, starts no commit and purges nothing keeps.
--     on_of             an event that the master takes may come after the history
--     plain_keeps       such an event keeps what holds of the parts
--     quiet_keeps       so does one that concerns no seat and no shelf
use Rattle.std.specs.Prelude.{◌≡◌, ℕ, ◌<◌, true, List, [], ◌∷◌, length, refl}
use Rattle.std.proofs.Common.{ap, sym, ◌∙◌}
use Rattle.tez_ids.specs.declared.AttemptId.{AttemptId}
use Rattle.tez_ids.specs.declared.NodeId.{NodeId}
use Rattle.tez_plan.specs.Dag.{Dag}
use Rattle.tez_conf.specs.declared.values.ConfValues.{ConfValues}
use Rattle.tez_events.specs.declared.Entry.{Entry}
use Rattle.tez_events.specs.declared.Entry.TheVariants.{Opened, Over, Kept, Succeeded, Rerun, Stopped, Committing, Ready as Readied, Published, CommitStarted, Purged}
use Rattle.tez_events.specs.declared.CoreEvent.{CoreEvent}
use Rattle.tez_events.specs.declared.CoreEvent.TheVariants.{Open, Configure, Queue, Place, Fetch, Send, Preempt, Fail, LoseNode, LoseOutput, Restart, Ready, CommitStart, Ask, Publish, Finish, Purge}
use Rattle.tez_meaning.specs.Jobs.{Job}
use Rattle.tez_history.specs.History.{Past, extend, is_up, is_committing, is_readied}
use Rattle.tez_history.specs.Steps.{enabled, entries_of}
use Rattle.tez_laws.specs.Laws.{SpendsNot}
use Rattle.tez_laws.proofs.StepLaw.{both}
use Rattle.tez_contents.specs.Laws.{HasNone}
use Rattle.tez_master_model.specs.Enabled.{enabled_in}
use Rattle.tez_master_model.specs.Settled.{settled}
use Rattle.tez_master_view.specs.Laws.{IsMasters}
use Rattle.tez_master_view.proofs.Takes.{takes}
use Rattle.tez_master_view.proofs.EachEvent.{event_settles}
use Rattle.tez_master_view.proofs.Lasting.{goes_event}
use Rattle.tez_inflight.specs.Seats.{Seat}
use Rattle.tez_work_view.specs.Holdings.{Pieces, seats_view, IsShelved}
use Rattle.tez_work_view.specs.Events.{KeepsSeats, KeepsShelves}
use Rattle.tez_work_view.proofs.Seating.{seats_left}
use Rattle.tez_work_view.proofs.Shelving.{shelf_left}
use Rattle.tez_sinks.proofs.Quiet.{is_quiet, all_quiet, quiet_event, IsPlain as IsUnseen}
use Rattle.tez_sinks.proofs.Stores.{event_good}
use Rattle.tez_sinks.proofs.Wells.{well_event, event_kept, event_over}
use Rattle.tez_world_invariant.specs.Keeping.{Parts, Holds, is_stop, most_entries}
use Rattle.tez_world_invariant.specs.Step.{IsPlain, later, stepped}

-- ---- what quiet entries leave

pub record Leaves (past next : Past) : Type 0 where
  pub up : is_up past ≡ true → is_up next ≡ true
  pub committing : is_committing next ≡ true → is_committing past ≡ true
  pub readied : (v : ℕ) → is_readied v next ≡ true → is_readied v past ≡ true
  pub stopped : HasNone is_stop past → HasNone is_stop next

leaves_one : (past : Past) (e : Entry) → is_quiet e ≡ true → Leaves past (e ∷ past)
leaves_one past (Opened _) h = cc
leaves_one past Over h = cc
leaves_one past (Kept _) h = cc
leaves_one past (Succeeded _) h = cc
leaves_one past (Stopped _) h = cc
leaves_one past (Committing _) h = cc
leaves_one past (Readied _) h = cc
leaves_one past (Published _) h = cc
leaves_one past CommitStarted h = cc
leaves_one past Purged h = cc
leaves_one past (Rerun w) h = record { up = λ k. k; committing = λ k. k; readied = λ v k. cc; stopped = λ k. (refl, k) }
leaves_one past _ h = record { up = λ k. k; committing = λ k. k; readied = λ v k. k; stopped = λ k. (refl, k) }

leaves_all : (past : Past) (es : List Entry) → all_quiet es ≡ true → Leaves past (extend past es)
leaves_all past [] h = record { up = λ k. k; committing = λ k. k; readied = λ v k. k; stopped = λ k. k }
leaves_all past (e ∷ es) h =
    let k = both {x = is_quiet e} h in
    let one = leaves_one past e k.0 in
    let rest = leaves_all (e ∷ past) es k.1 in
    record {
      up = λ x. rest.up (one.up x);
      committing = λ x. one.committing (rest.committing x);
      readied = λ v x. one.readied v (rest.readied v x);
      stopped = λ x. rest.stopped (one.stopped x);
    }

pub leaves_event : (g : Dag) (c : ConfValues) (past : Past) (e : CoreEvent) → IsPlain e → Leaves past (extend past (entries_of g c past e))
leaves_event g c past e k = by e k where
  quiet : (e : CoreEvent) → IsUnseen e → Leaves past (extend past (entries_of g c past e))
  quiet e k = leaves_all past (entries_of g c past e) (quiet_event g c past e k)

  by : (e : CoreEvent) → IsPlain e → Leaves past (extend past (entries_of g c past e))
  by Open h = absurd h
  by (Configure v) h = quiet (Configure v) tt
  by (Queue t) h = quiet (Queue t) tt
  by (Place a p) h = quiet (Place a p) tt
  by (Fetch a d i) h = quiet (Fetch a d i) tt
  by (Send a) h = quiet (Send a) tt
  by (Preempt a) h = quiet (Preempt a) tt
  by (Fail a) h = quiet (Fail a) tt
  by (LoseNode slot) h = quiet (LoseNode slot) tt
  by (LoseOutput t) h = quiet (LoseOutput t) tt
  by Restart h = absurd h
  by (Ready v) h = absurd h
  by CommitStart h = absurd h
  by (Ask v) h = absurd h
  by (Publish v) h = record { up = λ k. k; committing = λ k. k; readied = λ v k. k; stopped = λ k. (refl, k) }
  by Finish h = quiet Finish tt
  by Purge h = absurd h

-- ---- the event

pub plain_masters : (e : CoreEvent) → IsPlain e → IsMasters e
plain_masters Open h = absurd h
plain_masters (Configure v) h = tt
plain_masters (Queue t) h = tt
plain_masters (Place a p) h = tt
plain_masters (Fetch a d i) h = tt
plain_masters (Send a) h = tt
plain_masters (Preempt a) h = tt
plain_masters (Fail a) h = tt
plain_masters (LoseNode slot) h = tt
plain_masters (LoseOutput t) h = tt
plain_masters Restart h = absurd h
plain_masters (Ready v) h = absurd h
plain_masters CommitStart h = absurd h
plain_masters (Ask v) h = absurd h
plain_masters (Publish v) h = tt
plain_masters Finish h = tt
plain_masters Purge h = absurd h

pub same_taken : (job : Job) (c : ConfValues) (ps : Parts) (past : Past) (e : CoreEvent) → Holds job c ps past → IsMasters e → enabled_in ps.master e ≡ enabled job.plan c past e
same_taken job c ps past e h is = ap (λ m. enabled_in m e) h.master ∙ takes job.plan c past e h.goes h.up is

pub on_of : (job : Job) (c : ConfValues) (ps : Parts) (past : Past) (e : CoreEvent) → Holds job c ps past → IsMasters e → enabled_in ps.master e ≡ true → enabled job.plan c past e ≡ true
on_of job c ps past e h is on = sym (same_taken job c ps past e h is) ∙ on

pub plain_keeps : (job : Job) (c : ConfValues) (ps : Parts) (past : Past) (e : CoreEvent) (seats : List Seat) (shelves : List (AttemptId × (NodeId × Pieces))) → IsPlain e → Holds job c ps past
    → enabled_in ps.master e ≡ true → SpendsNot c past e → length (later job c past e) < most_entries → seats ≡ seats_view job c (later job c past e) → IsShelved job c (later job c past e) shelves
    → Holds job c (stepped ps e seats shelves) (later job c past e)
plain_keeps job c ps past e seats shelves plain h taken spends short are location =
    let is = plain_masters e plain in
    let on = on_of job c ps past e h is taken in
    let left = leaves_event job.plan c past e plain in
    record {
      goes = goes_event job.plan c past e h.goes on spends;
      well = well_event job c past e h.well on;
      up = left.up h.up;
      none_kept = event_kept job.plan c past e h.none_kept;
      none_over = event_over job.plan c past e h.none_over;
      none_stopped = left.stopped h.none_stopped;
      short = short;
      master = ap (λ m. settled m e) h.master ∙ event_settles job.plan c past e h.goes on is;
      seats = are;
      shelves = location;
      good = event_good job c past e h.well.made on h.good;
      texts = λ v s k. h.texts v s (left.readied v k);
      rows = h.rows;
      sums = λ k. h.sums (left.committing k);
    }

-- ---- events that concern no seat and no shelf

spends_none : (c : ConfValues) (past : Past) (e : CoreEvent) → KeepsSeats e → SpendsNot c past e
spends_none c past (Fail a) h = absurd h
spends_none c past _ h = tt

pub shelves_stay : (job : Job) (c : ConfValues) (ps : Parts) (past : Past) (e : CoreEvent) → IsPlain e → KeepsShelves e → Holds job c ps past → enabled_in ps.master e ≡ true → IsShelved job c (later job c past e) ps.shelves
shelves_stay job c ps past e plain keeps h taken = λ b.
    h.shelves b ∙ sym (shelf_left job c past e b keeps h.well.made (on_of job c ps past e h (plain_masters e plain) taken))

pub quiet_keeps : (job : Job) (c : ConfValues) (ps : Parts) (past : Past) (e : CoreEvent) → IsPlain e → KeepsSeats e → KeepsShelves e → Holds job c ps past
    → enabled_in ps.master e ≡ true → length (later job c past e) < most_entries → Holds job c (stepped ps e ps.seats ps.shelves) (later job c past e)
quiet_keeps job c ps past e plain seats shelves h taken short =
    plain_keeps job c ps past e ps.seats ps.shelves plain h taken (spends_none c past e seats) short
    (h.seats ∙ sym (seats_left job c past e seats h.well.made (on_of job c ps past e h (plain_masters e plain) taken)))
    (shelves_stay job c ps past e plain shelves h taken)

-- ---- seats after an event that leaves the shelves

pub seats_keep : (job : Job) (c : ConfValues) (ps : Parts) (past : Past) (e : CoreEvent) (seats : List Seat) → IsPlain e → KeepsShelves e → Holds job c ps past → enabled_in ps.master e ≡ true
    → SpendsNot c past e → length (later job c past e) < most_entries → seats ≡ seats_view job c (later job c past e) → Holds job c (stepped ps e seats ps.shelves) (later job c past e)
seats_keep job c ps past e seats plain keeps h taken spends short are =
    plain_keeps job c ps past e seats ps.shelves plain h taken spends short are (shelves_stay job c ps past e plain keeps h taken)
