-- What the laws of the store ask of a history is kept by each event, report and answer.
--     committed_event, committed_report      from the commit on every sink is readied
--     well_begins, well_event, well_report, well_answer
--     none_extend       what is in none of these entries
use Rattle.std.specs.Prelude.{◌≡◌, ℕ, suc, ◌==◌, ◌||◌, not, nat_le, Bool, true, false, IsTrue, if◌then◌else◌, List, [], ◌∷◌, map, Option, Some, None, refl}
use Rattle.std.specs.List.{list_all}
use Rattle.std.proofs.Common.{ap}
use Rattle.std.proofs.lemmas.Bool.{or_parts}
use Rattle.tez_ids.specs.declared.AttemptId.{AttemptId}
use Rattle.tez_ids.specs.declared.VertexId.{VertexId}
use Rattle.tez_plan.specs.Dag.{Dag, edge}
use Rattle.tez_plan.specs.Faults.{IsValid}
use Rattle.tez_plan.specs.Ranges.{IsInRanges}
use Rattle.tez_conf.specs.declared.values.ConfValues.{ConfValues}
use Rattle.tez_meaning.specs.Jobs.{Job}
use Rattle.tez_events.specs.declared.Entry.{Entry}
use Rattle.tez_events.specs.declared.Entry.TheVariants.{Opened, Over, Succeeded, Made, Failed, NodeLost, OutputLost, Rerun, Stopped, Committing, Ready as Readied, CommitStarted}
use Rattle.tez_events.specs.declared.CoreEvent.{CoreEvent}
use Rattle.tez_events.specs.declared.CoreEvent.TheVariants.{Open, Configure, Queue, Place, Fetch, Send, Preempt, Fail, LoseNode, LoseOutput, Restart, Ready, CommitStart, Ask, Publish, Finish, Purge}
use Rattle.tez_history.specs.Shape.{sinks}
use Rattle.tez_history.specs.History.{Past, Stage, Unknown, InQueue, Waits, Runs, Ended, extend, stage, winner, holder, life, failures, is_up, is_committing, is_found, is_readied}
use Rattle.tez_history.specs.Derived.{is_waiting, is_processing, all_done}
use Rattle.tez_history.specs.Steps.{enabled, is_running, entries_of, requeue, node_loss_entries, output_lost_entries, done_entries, asked_entries, winner_behind}
use Rattle.tez_history.specs.Follows.{IsMade, AllMayFollow}
use Rattle.tez_laws.specs.Laws.{place_in, answered, AnswersKeep}
use Rattle.tez_laws.proofs.Places.{stands}
use Rattle.tez_laws.proofs.StepLaw.{both, event_may, done_may, asked_may, made-extend}
use Rattle.tez_progress.specs.Laws.{is_stands}
use Rattle.tez_progress.proofs.Members.{true_and, clash}
use Rattle.tez_pool_view.specs.View.{IsWholeAtCommit}
use Rattle.tez_pool_view.proofs.Committing.{none_holds, whole_event, whole_report, whole_answer}
use Rattle.tez_contents.specs.Laws.{IsAllowedNow, WereAllowed, KeptRight, HasNone, is_kept}
use Rattle.tez_contents.proofs.Allowed.{allowed_next, was_allowed, kept_none, allowed_always, allowed_now, kept_right}
use Rattle.tez_contents.proofs.Entries.{finds, none_finds, finds_event, finds_report, finds_answer}
use Rattle.tez_sinks.specs.Sinks.{is_over}
use Rattle.tez_sinks.specs.Well.{IsReadiedAtCommit, IsWell}
use Rattle.tez_sinks.proofs.Quiet.{is_quiet, all_quiet, IsPlain, quiet_event, quiet_report, quiet_loss, quiet_fetch, quiet_begins_none}

-- ---- entries that leave the commit as it is, and readied sinks readied

abbrev is_steady : Entry → Bool
is_steady (Opened _) = false
is_steady (Stopped _) = false
is_steady (Committing _) = false
is_steady CommitStarted = false
is_steady (Rerun _) = false
is_steady _ = true

record IsSteady (past later : Past) : Type 0 where
  committing : is_committing later ≡ true → is_committing past ≡ true
  found : is_found later ≡ false → is_found past ≡ false
  readied : (v : ℕ) → is_readied v past ≡ true → is_readied v later ≡ true

or_true : (x y : Bool) → y ≡ true → (x || y) ≡ true
or_true true y h = refl
or_true false y h = h

steady_one : (past : Past) (e : Entry) → is_steady e ≡ true → IsSteady past (e ∷ past)
steady_one past (Opened _) h = cc
steady_one past (Stopped _) h = cc
steady_one past (Committing _) h = cc
steady_one past CommitStarted h = cc
steady_one past (Rerun _) h = cc
steady_one past (Readied w) h = record { committing = λ k. k; found = λ k. k; readied = λ v k. or_true (w.0 == v) (is_readied v past) k }
steady_one past _ h = record { committing = λ k. k; found = λ k. k; readied = λ v k. k }

steady_all : (past : Past) (es : List Entry) → list_all is_steady es ≡ true → IsSteady past (extend past es)
steady_all past [] h = record { committing = λ k. k; found = λ k. k; readied = λ v k. k }
steady_all past (e ∷ es) h =
    let k = both {x = is_steady e} h in
    let one = steady_one past e k.0 in
    let rest = steady_all (e ∷ past) es k.1 in
    record { committing = λ x. one.committing (rest.committing x); found = λ x. one.found (rest.found x); readied = λ v x. rest.readied v (one.readied v x) }

still_all : (past later : Past) → ((v : ℕ) → is_readied v past ≡ true → is_readied v later ≡ true) → (vs : List ℕ) → list_all (λ v. is_readied v past) vs ≡ true → list_all (λ v. is_readied v later) vs ≡ true
still_all past later each [] h = refl
still_all past later each (v ∷ vs) h = let k = both {x = is_readied v past} h in true_and (each v k.0) (still_all past later each vs k.1)

committed_steady : (g : Dag) (past : Past) (es : List Entry) → list_all is_steady es ≡ true → IsReadiedAtCommit g past → IsReadiedAtCommit g (extend past es)
committed_steady g past es h r k f = let s = steady_all past es h in still_all past (extend past es) s.readied (sinks g) (r (s.committing k) (s.found f))

-- ---- each event

-- who waits holds a place, which nobody does once every task has a winner
none_waits : (g : Dag) (c : ConfValues) (past : Past) (a : AttemptId) → IsMade g c past → is_waiting (stage a past) ≡ true → all_done g past ≡ true → ⊥
none_waits g c past a m waits done = by (stage a past) refl waits where
  by : (s : Stage) → stage a past ≡ s → is_waiting s ≡ true → ⊥
  by Unknown e k = cc
  by InQueue e k = cc
  by (Runs p) e k = cc
  by Ended e k = cc
  by (Waits p) e k =
      let none = none_holds g c past m done p in
      let some : holder p past ≡ Some a = (stands g c past m p a (ap place_in e)).0 in
      cc

committed_loss : (g : Dag) (c : ConfValues) (past : Past) (slot : ℕ) → IsReadiedAtCommit g past → (b : Bool) → is_committing past ≡ b
    → (all_quiet (if b then NodeLost slot (suc (life slot past)) ∷ [] else node_loss_entries g c past slot) ≡ true)
    → IsReadiedAtCommit g (extend past (if b then NodeLost slot (suc (life slot past)) ∷ [] else node_loss_entries g c past slot))
committed_loss g c past slot r true e q = committed_steady g past (NodeLost slot (suc (life slot past)) ∷ []) refl r
committed_loss g c past slot r false e q = λ k f. clash (quiet_begins_none past (node_loss_entries g c past slot) q k) e

committed_output : (g : Dag) (past : Past) (o : Option AttemptId) → IsReadiedAtCommit g past → IsReadiedAtCommit g (extend past (output_lost_entries o))
committed_output g past None r = r
committed_output g past (Some w) r = committed_steady g past (OutputLost w ∷ []) refl r

committed_fail : (g : Dag) (past : Past) (a : AttemptId) (b : Bool) → IsReadiedAtCommit g past → IsReadiedAtCommit g (extend past (Failed a ∷ (if b then [] else requeue past a.task)))
committed_fail g past a true r = committed_steady g past (Failed a ∷ []) refl r
committed_fail g past a false r = committed_steady g past (Failed a ∷ requeue past a.task) refl r

committed_event : (g : Dag) (c : ConfValues) (past : Past) (e : CoreEvent) → IsMade g c past → IsWholeAtCommit g past → IsReadiedAtCommit g past → enabled g c past e ≡ true → IsReadiedAtCommit g (extend past (entries_of g c past e))
committed_event g c past Open m w r on = r
committed_event g c past (Configure v) m w r on = committed_steady g past (entries_of g c past (Configure v)) refl r
committed_event g c past (Queue t) m w r on = committed_steady g past (requeue past t) refl r
committed_event g c past (Place a p) m w r on = committed_steady g past (entries_of g c past (Place a p)) refl r
committed_event g c past (Fetch a e i) m w r on = λ k f.
    let running = both {x = is_running past} on in
    let up = both {x = is_up past} running.0 in
    let before = quiet_begins_none past (entries_of g c past (Fetch a e i)) (quiet_fetch g c past a e.0 i (winner_behind g past a e.0 i)) k in
    absurd (none_waits g c past a m (both {x = is_waiting (stage a past)} running.1).0 (w.committing up.0 before))
committed_event g c past (Send a) m w r on = committed_steady g past (entries_of g c past (Send a)) refl r
committed_event g c past (Preempt a) m w r on = committed_steady g past (entries_of g c past (Preempt a)) refl r
committed_event g c past (Fail a) m w r on = committed_fail g past a (nat_le c.max_failed (suc (failures a.task past))) r
committed_event g c past (LoseNode slot) m w r on = committed_loss g c past slot r (is_committing past) refl (quiet_loss g c past slot (is_committing past))
committed_event g c past (LoseOutput t) m w r on = committed_output g past (winner t past) r
committed_event g c past Restart m w r on = λ k f. cc
committed_event g c past (Ready v) m w r on = committed_steady g past (entries_of g c past (Ready v)) refl r
committed_event g c past CommitStart m w r on = λ k f. (both {x = not (is_committing past)} (both {x = is_running past} on).1).1
committed_event g c past (Ask v) m w r on = r
committed_event g c past (Publish v) m w r on = committed_steady g past (entries_of g c past (Publish v)) refl r
committed_event g c past Finish m w r on = committed_steady g past (entries_of g c past Finish) refl r
committed_event g c past Purge m w r on = committed_steady g past (entries_of g c past Purge) refl r

made_steady : (a : AttemptId) (bytes : List (ℕ × ℕ)) → list_all is_steady (map (λ m. Made a (edge m.0) m.1) bytes) ≡ true
made_steady a [] = refl
made_steady a (x ∷ xs) = made_steady a xs

-- ---- what stands

record Stands (job : Job) (past : Past) : Type 0 where
  allowed : WereAllowed job.plan past
  now : IsAllowedNow job.plan past
  kept : KeptRight job past

not_true : (b : Bool) → not b ≡ true → b ≡ false
not_true true h = cc
not_true false h = refl

stands_extend : (job : Job) (c : ConfValues) (past : Past) (es : List Entry) → IsInRanges job.plan → IsValid job.plan → AllMayFollow job.plan c past es → none_finds es ≡ true → Stands job past → Stands job (extend past es)
stands_extend job c past [] ranges valid f h s = s
stands_extend job c past (e ∷ es) ranges valid f h s =
    let k = both {x = not (finds e)} h in
    let none = or_parts (is_stands e) (is_kept e) (not_true (finds e) k.0) in
    stands_extend job c (e ∷ past) es ranges valid f.1 k.1 (record {
      allowed = (was_allowed job.plan past e none.0 s.now, s.allowed);
      now = allowed_next job.plan c past e ranges valid f.0 none.0 s.now;
      kept = (kept_none job past e none.1, s.kept);
    })

-- ---- the whole

pub well_begins : (job : Job) (c : ConfValues) (past : Past) → IsValid job.plan → IsInRanges job.plan → IsMade job.plan c past → IsWholeAtCommit job.plan past → HasNone is_stands past → HasNone is_kept past → is_committing past ≡ false → IsWell job c past
well_begins job c past valid ranges m w none_stands none_kept not_yet = record {
  valid = valid;
  ranges = ranges;
  made = m;
  whole = w;
  allowed = allowed_always job.plan c past ranges valid m none_stands;
  now = allowed_now job.plan c past ranges valid m none_stands;
  kept = kept_right job past none_kept;
  committed = λ k f. clash k not_yet;
}

pub well_event : (job : Job) (c : ConfValues) (past : Past) (e : CoreEvent) → IsWell job c past → enabled job.plan c past e ≡ true → IsWell job c (extend past (entries_of job.plan c past e))
well_event job c past e w on =
    let may = event_may job.plan c past e w.made on in
    let s = stands_extend job c past (entries_of job.plan c past e) w.ranges w.valid may (finds_event job.plan c past e) (record { allowed = w.allowed; now = w.now; kept = w.kept }) in
    record {
      valid = w.valid;
      ranges = w.ranges;
      made = made-extend job.plan c past (entries_of job.plan c past e) w.made may;
      whole = whole_event job.plan c past e w.valid w.made w.whole on;
      allowed = s.allowed;
      now = s.now;
      kept = s.kept;
      committed = committed_event job.plan c past e w.made w.whole w.committed on;
    }

pub well_report : (job : Job) (c : ConfValues) (past : Past) (a : AttemptId) (bytes : List (ℕ × ℕ)) → IsWell job c past → IsTrue (is_processing (stage a past)) → IsWell job c (extend past (done_entries a bytes))
well_report job c past a bytes w runs =
    let may = done_may job.plan c past a bytes runs in
    let s = stands_extend job c past (done_entries a bytes) w.ranges w.valid may (finds_report a bytes) (record { allowed = w.allowed; now = w.now; kept = w.kept }) in
    record {
      valid = w.valid;
      ranges = w.ranges;
      made = made-extend job.plan c past (done_entries a bytes) w.made may;
      whole = whole_report job.plan c past a bytes w.made w.whole runs;
      allowed = s.allowed;
      now = s.now;
      kept = s.kept;
      committed = committed_steady job.plan past (done_entries a bytes) (made_steady a bytes) w.committed;
    }

answer_steady : (v : VertexId) (there : Bool) → list_all is_steady (asked_entries v there) ≡ true
answer_steady v true = refl
answer_steady v false = refl

pub well_answer : (job : Job) (c : ConfValues) → AnswersKeep job.plan c (IsWell job c)
well_answer job c past v there w on =
    let es = asked_entries v there in
    let may = asked_may job.plan c past v there on in
    let s = stands_extend job c past es w.ranges w.valid may (finds_answer v there) (record { allowed = w.allowed; now = w.now; kept = w.kept }) in
    record {
      valid = w.valid;
      ranges = w.ranges;
      made = made-extend job.plan c past es w.made may;
      whole = whole_answer job.plan past v there w.whole;
      allowed = s.allowed;
      now = s.now;
      kept = s.kept;
      committed = committed_steady job.plan past es (answer_steady v there) w.committed;
    }

-- ---- what only a new master finds

pub none_extend : (test : Entry → Bool) (past : Past) (es : List Entry) → list_all (λ e. not (test e)) es ≡ true → HasNone test past → HasNone test (extend past es)
none_extend test past [] h k = k
none_extend test past (e ∷ es) h k = let s = both {x = not (test e)} h in none_extend test (e ∷ past) es s.1 (not_true (test e) s.0, k)

weaker : (p q : Entry → Bool) (es : List Entry) → ((e : Entry) → p e ≡ true → q e ≡ true) → list_all p es ≡ true → list_all q es ≡ true
weaker p q [] f h = refl
weaker p q (e ∷ es) f h = let s = both {x = p e} h in true_and (f e s.0) (weaker p q es f s.1)

takes_none : (e : Entry) → not (finds e) ≡ true → not (is_kept e) ≡ true
takes_none e h = ap not (or_parts (is_stands e) (is_kept e) (not_true (finds e) h)).1

quiet_found : (e : Entry) → is_quiet e ≡ true → not (is_over e) ≡ true
quiet_found Over h = cc
quiet_found _ h = refl

pub event_kept : (g : Dag) (c : ConfValues) (past : Past) (e : CoreEvent) → HasNone is_kept past → HasNone is_kept (extend past (entries_of g c past e))
event_kept g c past e none = none_extend is_kept past (entries_of g c past e) (weaker (λ x. not (finds x)) (λ x. not (is_kept x)) (entries_of g c past e) takes_none (finds_event g c past e)) none

pub report_kept : (past : Past) (a : AttemptId) (bytes : List (ℕ × ℕ)) → HasNone is_kept past → HasNone is_kept (extend past (done_entries a bytes))
report_kept past a bytes none = none_extend is_kept past (done_entries a bytes) (weaker (λ x. not (finds x)) (λ x. not (is_kept x)) (done_entries a bytes) takes_none (finds_report a bytes)) none

pub event_over : (g : Dag) (c : ConfValues) (past : Past) (e : CoreEvent) → HasNone is_over past → HasNone is_over (extend past (entries_of g c past e))
event_over g c past e none = by e where
  plain : (e : CoreEvent) → IsPlain e → HasNone is_over (extend past (entries_of g c past e))
  plain e k = none_extend is_over past (entries_of g c past e) (weaker is_quiet (λ x. not (is_over x)) (entries_of g c past e) quiet_found (quiet_event g c past e k)) none

  by : (e : CoreEvent) → HasNone is_over (extend past (entries_of g c past e))
  by Open = none
  by (Configure v) = plain (Configure v) tt
  by (Queue t) = plain (Queue t) tt
  by (Place a p) = plain (Place a p) tt
  by (Fetch a d i) = plain (Fetch a d i) tt
  by (Send a) = plain (Send a) tt
  by (Preempt a) = plain (Preempt a) tt
  by (Fail a) = plain (Fail a) tt
  by (LoseNode slot) = plain (LoseNode slot) tt
  by (LoseOutput t) = plain (LoseOutput t) tt
  by Restart = (refl, none)
  by (Ready v) = (refl, none)
  by CommitStart = (refl, none)
  by (Ask v) = none
  by (Publish v) = (refl, none)
  by Finish = plain Finish tt
  by Purge = (refl, none)

pub report_over : (past : Past) (a : AttemptId) (bytes : List (ℕ × ℕ)) → HasNone is_over past → HasNone is_over (extend past (done_entries a bytes))
report_over past a bytes none =
    let later = map (λ m. Made a (edge m.0) m.1) bytes in
    none_extend is_over (Succeeded a ∷ past) later (weaker is_quiet (λ x. not (is_over x)) later quiet_found (quiet_report a bytes)) (refl, none)

pub answer_kept : (past : Past) (v : VertexId) (there : Bool) → HasNone is_kept past → HasNone is_kept (answered past v there)
answer_kept past v true none = (refl, none)
answer_kept past v false none = (refl, none)

pub answer_over : (past : Past) (v : VertexId) (there : Bool) → HasNone is_over past → HasNone is_over (answered past v there)
answer_over past v true none = (refl, none)
answer_over past v false none = (refl, none)
