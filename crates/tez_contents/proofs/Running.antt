-- Every run is right, if what each new master finds is.
--     run_right       from what is found
--     anew_right      where nothing is found
use Rattle.std.specs.Prelude.{◌≡◌, ℕ, ◌≤◌, ◌&&◌, ◌||◌, not, nat_le, Bool, true, false, if◌then◌else◌, List, [], ◌∷◌, ◌++◌, Option, Some, None, is_some, refl}
use Rattle.std.specs.List.{AllByRecursion}
use Rattle.std.proofs.Common.{sym, ap, subst}
use Rattle.tez_ids.specs.declared.TaskId.{TaskId}
use Rattle.tez_lists.specs.Numbers.{In}
use Rattle.tez_plan.specs.Faults.{IsValid}
use Rattle.tez_plan.specs.Ranges.{IsInRanges}
use Rattle.tez_conf.specs.declared.values.ConfValues.{ConfValues}
use Rattle.tez_meaning.specs.Jobs.{Job}
use Rattle.tez_events.specs.declared.StopCause.{StopCause}
use Rattle.tez_events.specs.declared.StopCause.TheVariants.{Script}
use Rattle.tez_events.specs.declared.Entry.{Entry}
use Rattle.tez_events.specs.declared.Entry.TheVariants.{Over, Committing}
use Rattle.tez_events.specs.declared.CoreEvent.{CoreEvent}
use Rattle.tez_events.specs.declared.CoreEvent.TheVariants.{Open, Restart, Ask}
use Rattle.tez_history.specs.History.{Past, config, extend, stage, is_up, recorded}
use Rattle.tez_history.specs.Derived.{is_processing, all_done}
use Rattle.tez_history.specs.Steps.{enabled, entries_of, done_entries, asked_entries}
use Rattle.tez_history.specs.Follows.{IsMade, AllMayFollow}
use Rattle.tez_history.specs.Runs.{Run, Standing, Found, Unfinished, AllDone, Committed, Begun, Happening, Event, Report, Answer, Stop, Start, opened_at, standing_entries, committing_if, committed_entries, spent_in, opened_unless, committed_unless, opened_by, going_on, stopped, took, happens_to, happens, run, not_begun}
use Rattle.tez_laws.specs.Laws.{IsSound}
use Rattle.tez_laws.proofs.StepLaw.{event_may, done_may, asked_may, both}
use Rattle.tez_laws.proofs.Going.{extend-append}
use Rattle.tez_laws.proofs.RunLaw.{run_sound}
use Rattle.tez_progress.specs.Laws.{is_stands, found_at}
use Rattle.tez_contents.specs.Laws.{FindsRight, AllFindRight, IsRight, StandsRight, BeginsAnew, is_kept}
use Rattle.tez_contents.proofs.Allowed.{allowed_none, allowed_next, was_allowed, kept_none}
use Rattle.tez_contents.proofs.Entries.{finds, none_finds, finds_event, finds_report, finds_answer}
use Rattle.tez_contents.proofs.Opening.{Good, opening_good}
use Rattle.tez_contents.proofs.Attempts.{all_right}
use Rattle.tez_contents.proofs.Whole.{winners_whole}

neither : (a b : Bool) → not (a || b) ≡ true → (a ≡ false) × (b ≡ false)
neither false false h = (refl, refl)
neither false true h = cc
neither true b h = cc

module _ (job : Job) (c : ConfValues) (ranges : IsInRanges job.plan) (valid : IsValid job.plan) where
  good_extend : (past : Past) (es : List Entry) → AllMayFollow job.plan c past es → none_finds es ≡ true → Good job past → Good job (extend past es)
  good_extend past [] m none good = good
  good_extend past (e ∷ es) m none good =
      let k = both {x = not (finds e)} none in
      let nothing = neither (is_stands e) (is_kept e) k.0 in
      good_extend (e ∷ past) es m.1 k.1
      ((was_allowed job.plan past e nothing.0 good.1, good.0), allowed_next job.plan c past e ranges valid m.0 nothing.0 good.1, (kept_none job past e nothing.1, good.2))

  stopped_good : (r : Run) (cause : StopCause) → Good job r.past → Good job (stopped c r cause).past
  stopped_good r cause good = ((good.1, good.0), good.1, (tt, good.2))

  event_good : (past : Past) (e : CoreEvent) → IsMade job.plan c past → enabled job.plan c past e ≡ true → Good job past → Good job (extend past (entries_of job.plan c past e))
  event_good past e made h good = good_extend past (entries_of job.plan c past e) (event_may job.plan c past e made h) (finds_event job.plan c past e) good

  took_good : (r : Run) (e : CoreEvent) → IsMade job.plan c r.past → enabled job.plan c r.past e ≡ true → Good job r.past → Good job (took job.plan c r e).past
  took_good r Restart made h good = stopped_good r Script good
  took_good r Open made h good = good
  took_good r (Ask v) made h good = good
  took_good r e made h good = event_good r.past e made h good

  committing_good : (past : Past) (n : ℕ) → Good job past → Good job (extend past (committing_if job.plan past n))
  committing_good past n good = by (all_done job.plan past && nat_le (recorded past) n) where
    by : (b : Bool) → Good job (extend past (if b then Committing n ∷ [] else []))
    by true = ((good.1, good.0), good.1, (tt, good.2))
    by false = good

  committed_good : (past : Past) (s : Standing) (n : ℕ) → StandsRight job past s → Good job past → Good job (extend (opened_at s past) (committed_entries job.plan (opened_at s past) s n))
  committed_good past s n right good =
      let p = opened_at s past in
      let es = standing_entries job.plan p s in
      subst (Good job) (sym (extend-append p es (committing_if job.plan (extend p es) n))) (committing_good (extend p es) n (opening_good job ranges valid past s right good))

  opened_good : (r : Run) (found : Found) → FindsRight job r.past (Start found) → Good job r.past → Good job (opened_by job.plan c r found).past
  opened_good r (Unfinished s) right good = by (spent_in c s) where
    by : (o : Option (TaskId × ℕ)) → Good job (opened_unless job.plan r s o).past
    by None = opening_good job ranges valid r.past s right good
    by (Some x) = good
  opened_good r (Committed s n) right good = by (spent_in c s) where
    by : (o : Option (TaskId × ℕ)) → Good job (committed_unless job.plan r s n o).past
    by None = committed_good r.past s n right good
    by (Some x) = good
  opened_good r AllDone right good = ((good.1, good.0), allowed_none job.plan (λ v. config v (Over ∷ r.past)) (λ v. refl), (tt, good.2))
  opened_good r Begun right good = good

  happens_to_good : (r : Run) (h : Happening) → IsMade job.plan c r.past → FindsRight job r.past h → Good job r.past → Good job (happens_to job.plan c r h).past
  happens_to_good r (Event e) made right good = by (enabled job.plan c r.past e) refl where
    by : (b : Bool) → enabled job.plan c r.past e ≡ b → Good job (if b then took job.plan c r e else r).past
    by true h = took_good r e made h good
    by false h = good
  happens_to_good r (Report a bytes) made right good = by (is_up r.past && is_processing (stage a r.past)) refl where
    by : (b : Bool) → (is_up r.past && is_processing (stage a r.past)) ≡ b → Good job (if b then going_on r.past (done_entries a bytes) else r).past
    by true h = good_extend r.past (done_entries a bytes) (done_may job.plan c r.past a bytes (both {x = is_up r.past} h).1) (finds_report a bytes) good
    by false h = good
  happens_to_good r (Answer v there) made right good = by (enabled job.plan c r.past (Ask v)) refl where
    by : (b : Bool) → enabled job.plan c r.past (Ask v) ≡ b → Good job (if b then going_on r.past (asked_entries v there) else r).past
    by true h = good_extend r.past (asked_entries v there) (asked_may job.plan c r.past v there h) (finds_answer v there) good
    by false h = good
  happens_to_good r (Stop cause) made right good = stopped_good r cause good
  happens_to_good r (Start found) made right good = by (not (is_up r.past)) where
    by : (b : Bool) → Good job (if b then opened_by job.plan c r found else r).past
    by true = opened_good r found right good
    by false = good

  happens_good : (r : Run) (h : Happening) → IsMade job.plan c r.past → FindsRight job r.past h → Good job r.past → Good job (happens job.plan c r h).past
  happens_good r h made right good = by (is_some r.verdict) where
    by : (b : Bool) → Good job (if b then r else happens_to job.plan c r h).past
    by true = good
    by false = happens_to_good r h made right good

  run-append : (r : Run) (xs ys : List Happening) → run job.plan c r (xs ++ ys) ≡ run job.plan c (run job.plan c r xs) ys
  run-append r [] ys = refl
  run-append r (x ∷ xs) ys = run-append (happens job.plan c r x) xs ys

  -- from what happened before
  good_from : (before hs : List Happening) → 1 ≤ c.max_failed → AllFindRight job c (run job.plan c not_begun before) hs → Good job (run job.plan c not_begun before).past
      → Good job (run job.plan c (run job.plan c not_begun before) hs).past
  good_from before [] some right good = good
  good_from before (h ∷ hs) some right good =
      let s : IsSound job.plan c (run job.plan c not_begun before) = run_sound job.plan c before some in
      let next = happens_good (run job.plan c not_begun before) h s.made right.0 good in
      let same : run job.plan c not_begun (before ++ h ∷ []) ≡ happens job.plan c (run job.plan c not_begun before) h = run-append not_begun before (h ∷ []) in
      subst (λ r. Good job (run job.plan c r hs).past) same
      (good_from (before ++ h ∷ []) hs some (subst (λ r. AllFindRight job c r hs) (sym same) right.1) (subst (λ r. Good job r.past) (sym same) next))

pub run_right : (job : Job) (c : ConfValues) (hs : List Happening) → IsInRanges job.plan → IsValid job.plan → 1 ≤ c.max_failed → AllFindRight job c not_begun hs → IsRight job (run job.plan c not_begun hs).past
run_right job c hs ranges valid some right =
    let past = (run job.plan c not_begun hs).past in
    let made = (run_sound job.plan c hs some).made in
    let good = good_from job c ranges valid [] hs some right (tt, allowed_none job.plan (λ v. None) (λ v. refl), tt) in
    let all = all_right job c ranges valid past made good.0 good.2 in
    record {
      winners = λ t w h. (all.0 t w h).1;
      orders = λ a h. (all.1 a h).0.1;
      fetches = λ a n i e at h. (all.2 a n i e at h).3;
      bads = λ a h. (all.1 a h).1;
      whole = winners_whole job c past ranges valid made good.0 good.1 good.2;
    }

-- ---- runs whose masters begin anew

stands_anew : (job : Job) (past : Past) (s : Standing) → s.configured ≡ [] → s.kept ≡ [] → StandsRight job past s
stands_anew job past s none nobody =
    (allowed_none job.plan (found_at s.configured) (λ v. ap (λ xs. found_at xs v) none), λ a h. absurd (let m : In a [] = subst (In a) nobody h in m))

finds_anew : (job : Job) (past : Past) (h : Happening) → BeginsAnew h → FindsRight job past h
finds_anew job past (Start (Unfinished s)) new = stands_anew job past s new.0 new.1
finds_anew job past (Start (Committed s n)) new = stands_anew job past s new.0 new.1
finds_anew job past (Start AllDone) new = tt
finds_anew job past (Start Begun) new = tt
finds_anew job past (Event e) new = tt
finds_anew job past (Report a bytes) new = tt
finds_anew job past (Answer v there) new = tt
finds_anew job past (Stop cause) new = tt

all_anew : (job : Job) (c : ConfValues) (r : Run) (hs : List Happening) → AllByRecursion BeginsAnew hs → AllFindRight job c r hs
all_anew job c r [] new = tt
all_anew job c r (h ∷ hs) new = (finds_anew job r.past h new.0, all_anew job c (happens job.plan c r h) hs new.1)

pub anew_right : (job : Job) (c : ConfValues) (hs : List Happening) → IsInRanges job.plan → IsValid job.plan → 1 ≤ c.max_failed → AllByRecursion BeginsAnew hs → IsRight job (run job.plan c not_begun hs).past
anew_right job c hs ranges valid some new = run_right job c hs ranges valid some (all_anew job c not_begun hs new)
